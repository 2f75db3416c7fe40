-- What came has its place, and the places at which the faces differ are counted there.
use Rattle.std.proofs.Common.{◌≡◌, ◌+◌, ℕ, length, get_or, IfSome, Option, inr, ap, ◌∙◌, subst, arith}
use Rattle.planar_sweep.specs.Line.{CameBelow}
use Rattle.planar_sweep.specs.Swept.{gaps_in}
use Rattle.planar_sweep.proofs.Nodes.{upper_bound, has_come, member_now, lower_now, upper_now, within_now}
use Rattle.planar_sweep.proofs.GapCounts.{counted_come, counted_few, differ_few}
use Rattle.planar_sweep.proofs.sweep.come.Goals as goal

-- what came
came : (c : goal.After-differ-3) → CameBelow c.args.segs.now c.args.number c.in-Some.upper c.args.line.now.row c.come.new.self.row
came c = subst (λ (o : Option ℕ). IfSome o (λ upper. CameBelow c.args.segs.now c.args.number upper c.args.line.now.row c.come.new.self.row)) c.in-Some.is c.in_ok-upper.ensures.came

sum : (c : goal.After-differ-3)
    → gaps_in c.args.faces.now c.come.new.self.row.row + c.differ-3.result ≡ c.args.gaps.now + (c.differ.result + c.differ-2.result)
sum c =
    let segs = c.args.segs.now in
    let faces = c.args.faces.now in
    let old = c.args.line.now.row in
    let new = c.come.new.self.row in
    let in_place = came c in
    let count = c.requires.line.count in
    let known = c.requires.line.known in
    let lower = c.below-lower.ensures.next (in_place.place + 1) (within_now segs old new c.args.number count known c.in-Some.upper in_place) (upper_now segs old new c.args.number count known c.in-Some.upper in_place)
    ∙ lower_now segs old new c.args.number count known c.in-Some.upper in_place c.in_ok-upper.ensures.line.count in
    let counted = counted_come segs faces c.requires.faces old count in_place.place c.args.number c.in-Some.upper c.below-lower.result in_place.within in_place.there lower in
    omega (arith, counted, ap (gaps_in faces) in_place.placed, c.differ.ensures, c.differ-2.ensures, c.differ-3.ensures, c.requires.gaps)

pub below-lower-requires : goal.below-lower-requires
below-lower-requires c =
    let in_place = subst (λ (o : Option ℕ). IfSome o (λ upper. CameBelow c.args.segs.now c.args.number upper c.args.line.now.row c.come.new.self.row)) c.in-Some.is c.in_ok-upper.ensures.came in
    inr (member_now c.args.segs.now c.args.line.now.row c.come.new.self.row c.args.number c.requires.line.count c.requires.line.known c.in-Some.upper in_place)

pub overflow_add-gaps : goal.overflow_add-gaps
overflow_add-gaps c =
    let faces = c.args.faces.now in
    let one = differ_few (get_or faces c.in-Some.upper (0, 0)).1 (get_or faces c.args.number (0, 0)).0 in
    let two = differ_few (get_or faces c.args.number (0, 0)).1 (get_or faces c.below-lower.result (0, 0)).0 in
    omega (arith, counted_few faces c.args.line.now.row.row c.requires.few, c.requires.gaps, c.differ.ensures, c.differ-2.ensures, one, two)

pub differ-requires-3-clause-upper : goal.differ-requires-3-clause-upper
differ-requires-3-clause-upper c =
    let in_place = subst (λ (o : Option ℕ). IfSome o (λ upper. CameBelow c.args.segs.now c.args.number upper c.args.line.now.row c.come.new.self.row)) c.in-Some.is c.in_ok-upper.ensures.came in
    omega (arith, upper_bound (length c.args.segs.now) c.args.line.now.row c.requires.line.count c.requires.line.known in_place.place in_place.within, in_place.there, c.requires.faces.long)

pub overflow_sub-gaps : goal.overflow_sub-gaps
overflow_sub-gaps c = omega (arith, sum c)

pub returns : goal.returns
returns c = λ _. (
  c.in_ok-upper.ensures.line,
  has_come c.args.segs.now c.args.line.now.row c.come.new.self.row c.args.number c.requires.line.count c.requires.line.known c.in-Some.upper (came c),
  omega (arith, sum c),
)
