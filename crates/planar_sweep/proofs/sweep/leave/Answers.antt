-- What left had its place, and the places at which the faces differ are counted there.
use Rattle.std.proofs.Common.{◌≡◌, ◌+◌, get_or, ap, ◌∙◌, arith}
use Rattle.linked_row.specs.Linked.{lowers}
use Rattle.planar_sweep.specs.Line.{GoneOut}
use Rattle.planar_sweep.specs.Swept.{gaps_in}
use Rattle.planar_sweep.proofs.Nodes.{has_left, lower_of_member, upper_of_next}
use Rattle.planar_sweep.proofs.GapCounts.{counted_leave, counted_few, differ_few}
use Rattle.planar_sweep.proofs.sweep.leave.Goals as goal

-- what left
gone : (c : goal.After-differ-3) → GoneOut c.args.number c.args.line.now.row c.leave.new.self.row
gone c = c.leave.ensures.gone c.if-not-leave.false

sum : (c : goal.After-differ-3)
    → gaps_in c.args.faces.now c.leave.new.self.row.row + (c.differ.result + c.differ-2.result) ≡ c.args.gaps.now + c.differ-3.result
sum c =
    let faces = c.args.faces.now in
    let old = c.args.line.now.row in
    let out = gone c in
    let at : get_or (lowers old) out.place 0 ≡ c.args.number = lower_of_member old out.place out.within ∙ out.there in
    let upper = c.above-upper.ensures.next out.place (omega (arith, out.within)) at in
    let lower = c.below-lower.ensures.next (out.place + 1) (omega (arith, out.within)) (upper_of_next old out.place ∙ out.there) in
    let counted = counted_leave c.args.segs.now faces c.requires.faces old c.requires.line.count out.place c.args.number c.above-upper.result c.below-lower.result out.within out.there upper lower in
    omega (arith, counted, ap (gaps_in faces) out.without, c.differ.ensures, c.differ-2.ensures, c.differ-3.ensures, c.requires.gaps)

pub overflow_add-gaps : goal.overflow_add-gaps
overflow_add-gaps c =
    let faces = c.args.faces.now in
    let one = differ_few (get_or faces c.above-upper.result (0, 0)).1 (get_or faces c.below-lower.result (0, 0)).0 in
    omega (arith, counted_few faces c.args.line.now.row.row c.requires.few, c.requires.gaps, c.differ-3.ensures, one)

pub overflow_sub-gaps : goal.overflow_sub-gaps
overflow_sub-gaps c = omega (arith, sum c)

pub returns-clause-left : goal.returns-clause-left
returns-clause-left c = λ _. has_left c.args.segs.now c.args.line.now.row c.leave.new.self.row c.args.number c.requires.line.count c.requires.line.known (gone c) (c.leave.ensures.closed c.if-not-leave.false)

pub returns-clause-gaps : goal.returns-clause-gaps
returns-clause-gaps c = λ _. omega (arith, sum c)
