use Rattle.std.proofs.Common.{sym, ◌∙◌, arith}
use Rattle.map_version.proofs.Positions.{no_further, inner_step, inner_found, inner_none}
use Rattle.map_version.proofs.path.inner_at.Goals as goal

pub loop-i-init : goal.loop-i-init
loop-i-init c = sym (no_further _)

pub loop-i-preserved : goal.loop-i-preserved
loop-i-preserved c = inner_step c.args.old.now c.args.points.now c.loop-i.i _ (omega arith) c.loop-i-test.true (sym c.eq.ensures ∙ c.if-eq.false) c.loop-i.invariant

pub returns-then-eq : goal.returns-then-eq
returns-then-eq c = inner_found c.args.old.now c.args.points.now c.loop-i.i _ (omega arith) c.loop-i-test.true (sym c.eq.ensures ∙ c.if-eq.true) c.loop-i.invariant

pub returns : goal.returns
returns c = inner_none c.args.old.now c.args.points.now c.loop-i.i (omega arith) c.loop-i.invariant
