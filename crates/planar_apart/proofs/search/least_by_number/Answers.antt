use Rattle.std.proofs.Common.{Option, subst}
use Rattle.planar_apart.specs.declared.meeting.Meeting.{Meeting}
use Rattle.planar_apart.specs.Rows.{numbered, IsLeastAbove}
use Rattle.planar_apart.proofs.Numbers.{found_by_number, none_by_number}
use Rattle.planar_apart.proofs.search.least_by_number.Goals as goal

pub least_of-requires-clause-suffice : goal.least_of-requires-clause-suffice
least_of-requires-clause-suffice c = c.requires.suffice c.loop-i.i c.loop-i-test.true

pub returns-in-Some : goal.returns-in-Some
returns-in-Some c =
    let row = c.args.row.now in
    let segments = c.args.segments.now in
    let i = c.loop-i.i in
    found_by_number segments row i c.in-Some.meeting c.loop-i-test.true c.loop-i.invariant
    (subst (λ (o : Option Meeting). IsLeastAbove row (numbered segments i) o) c.in-Some.is c.least_of.ensures)

pub loop-i-preserved : goal.loop-i-preserved
loop-i-preserved c =
    none_by_number c.args.segments.now c.args.row.now c.loop-i.i c.least_of.result c.loop-i.invariant c.least_of.ensures c.in_default.not-Some
