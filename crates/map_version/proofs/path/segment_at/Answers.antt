use Rattle.std.proofs.Common.{sym, ◌∙◌, arith}
use Rattle.map_version.proofs.Positions.{no_further, segment_step, segment_found, segment_none}
use Rattle.map_version.proofs.path.segment_at.Goals as goal

pub loop-i-init : goal.loop-i-init
loop-i-init c = sym (no_further _)

pub loop-i-preserved : goal.loop-i-preserved
loop-i-preserved c =
    segment_step c.args.a.now c.args.b.now c.args.points.now c.loop-i.i _ (omega arith) c.loop-i-test.true (sym c.are_ends.ensures ∙ c.if-are_ends.false) c.loop-i.invariant

pub returns-then-are_ends : goal.returns-then-are_ends
returns-then-are_ends c =
    segment_found c.args.a.now c.args.b.now c.args.points.now c.loop-i.i _ (omega arith) c.loop-i-test.true (sym c.are_ends.ensures ∙ c.if-are_ends.true) c.loop-i.invariant

pub returns : goal.returns
returns c = segment_none c.args.a.now c.args.b.now c.args.points.now c.loop-i.i (omega arith) c.loop-i.invariant
