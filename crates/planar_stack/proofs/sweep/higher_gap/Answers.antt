-- A segment that the line crosses stands just above its place, and at no other; one that ends before is not in the stack.
use Rattle.std.proofs.Common.{◌≡◌, ◌-◌, ◌<ℤ◌, ◌≤ℤ◌, ℕ, ℤ, true, map, to_z, of_z, sym, ◌∙◌, subst, arith}
use Rattle.std.specs.Int.{w64}
use Rattle.std.proofs.lemmas.Int.{ints}
use Rattle.grid_geo.specs.Evidence.{face_above, face_below}
use Rattle.planar_stack.specs.Sweep.{left_end, segment_at, sides_at, crossed_at, IsPlace}
use Rattle.planar_stack.proofs.Ends.{crossed_from_ends, ends_from_crossed}
use Rattle.planar_stack.proofs.Ordered.{member_above, only_place}
use Rattle.planar_stack.proofs.FirstPlace.{differ_from_gap, agree_from_none, first_kept, first_moved}
use Rattle.planar_stack.proofs.sweep.higher_gap.Goals as goal
use Rattle.planar_stack.proofs.sweep.higher_gap.Goals.{else-here-place-via-then-here-place+else-is_some, else-here-place-via-else-here-place}

pub returns-then-right_end-line-clause-seen : goal.returns-then-right_end-line-clause-seen
returns-then-right_end-line-clause-seen c = λ seen first.
    let v = c.args.line in
    let starts = c.args.starts.now in
    let stack = c.args.stack.now in
    let n = c.args.number in
    let ended : c.right_end.result ≤ℤ v = omega (arith, ints) in
    first_kept seen (map (sides_at starts) stack) stack c.args.place n
    (λ k d l short at.
    let after = (ends_from_crossed v (segment_at starts n) (subst (λ m. crossed_at v starts m ≡ true) at (c.requires.ordered.crossed k d short))).1 in
    let before = subst (λ (z : ℤ). z ≤ℤ v) c.right_end.ensures ended in
    absurd (omega (arith, ints, after, before))) first

pub place_of-here-requires-clause-crossed : goal.place_of-here-requires-clause-crossed
place_of-here-requires-clause-crossed c =
    let v = to_z w64 (of_z w64 c.args.line) in
    let s = segment_at c.args.starts.now c.args.number in
    let line : c.args.line ≡ v = omega (arith, ints) in
    let after : v <ℤ c.right_end.result = omega (arith, ints) in
    crossed_from_ends v s (subst (λ (z : ℤ). left_end s ≤ℤ z) line c.requires.begun) (subst (λ (z : ℤ). v <ℤ z) c.right_end.ensures after)

pub overflow_sub-here : goal.overflow_sub-here
overflow_sub-here c =
    let v = c.args.line in
    let starts = c.args.starts.now in
    let stack = c.args.stack.now in
    let n = c.args.number in
    let place = c.place_of-here.result in
    let line : to_z w64 (of_z w64 v) ≡ v = omega (arith, ints) in
    let after : v <ℤ c.right_end.result = omega (arith, ints) in
    let member = c.requires.member (crossed_from_ends v (segment_at starts n) c.requires.begun (subst (λ (z : ℤ). v <ℤ z) c.right_end.ensures after)) in
    let p = subst (λ (z : ℤ). IsPlace z starts n stack place) line c.place_of-here.ensures in
    (member_above v starts n stack place p c.requires.ordered member).0

pub returns-then-is_some-clause-seen : goal.returns-then-is_some-clause-seen
returns-then-is_some-clause-seen c =
    let v = c.args.line in
    let starts = c.args.starts.now in
    let stack = c.args.stack.now in
    let n = c.args.number in
    let place = c.place_of-here.result in
    let line : to_z w64 (of_z w64 v) ≡ v = omega (arith, ints) in
    let after : v <ℤ c.right_end.result = omega (arith, ints) in
    let member = c.requires.member (crossed_from_ends v (segment_at starts n) c.requires.begun (subst (λ (z : ℤ). v <ℤ z) c.right_end.ensures after)) in
    let p = subst (λ (z : ℤ). IsPlace z starts n stack place) line c.place_of-here.ensures in
    let differ = differ_from_gap (to_z w64 (of_z w64 v)) (map (sides_at starts) stack) (place - 1) c.gap_at.result (sym c.is_some.ensures ∙ c.if-is_some.true) c.gap_at.ensures in
    λ seen first. first_moved seen (map (sides_at starts) stack) stack c.args.place (place - 1) n c.if-here-place.true differ (only_place v starts n stack place p c.requires.ordered member) first

pub returns-clause-seen : goal.returns-clause-seen
returns-clause-seen c =
    let v = c.args.line in
    let starts = c.args.starts.now in
    let stack = c.args.stack.now in
    let n = c.args.number in
    let place = c.place_of-here.result in
    let line : to_z w64 (of_z w64 v) ≡ v = omega (arith, ints) in
    let after : v <ℤ c.right_end.result = omega (arith, ints) in
    let member = c.requires.member (crossed_from_ends v (segment_at starts n) c.requires.begun (subst (λ (z : ℤ). v <ℤ z) c.right_end.ensures after)) in
    let p = subst (λ (z : ℤ). IsPlace z starts n stack place) line c.place_of-here.ensures in
    let ss = map (sides_at starts) stack in
    let only = only_place v starts n stack place p c.requires.ordered member in
    λ seen first. first_kept seen ss stack c.args.place n
    (λ k d l short at. elim c.else-here-place.branch [
      | else-here-place-via-then-here-place+else-is_some w ↦
          subst (λ (i : ℕ). face_above ss i ≡ face_below ss i) (sym (only k d short at))
          (agree_from_none (to_z w64 (of_z w64 v)) ss (place - 1) w.gap_at.result (sym w.is_some.ensures ∙ w.if-is_some.false) w.gap_at.ensures)
      | else-here-place-via-else-here-place w ↦ let here = only k d short at in absurd (omega (arith, here, l, w.if-here-place.false))
    ]) first
