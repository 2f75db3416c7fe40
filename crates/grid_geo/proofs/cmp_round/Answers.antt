-- The half turns decide where they differ, and else the cross product.
use Rattle.std.proofs.Common.{ℤ, pos, sym, ap, ap₂, ◌∙◌, arith}
use Rattle.std.specs.Ordering.{nat_cmp, int_cmp}
use Rattle.tgap_model.specs.Point.{cross}
use Rattle.tgap_model.specs.Segment.{half_turn, turns_before}
use Rattle.tgap_model.proofs.Points.{near_point}
use Rattle.grid_geo.proofs.Sizes.{wide_is}
use Rattle.grid_geo.proofs.Directions.{turned_round, halves_same, halves_differ}
use Rattle.grid_geo.proofs.cmp_round.Goals as goal

pub orientation-requires-clause-a : goal.orientation-requires-clause-a
orientation-requires-clause-a c = near_point c.args.o c.requires.o

pub orientation-requires-clause-b : goal.orientation-requires-clause-b
orientation-requires-clause-b c = near_point c.args.p c.requires.p.0

pub orientation-requires-clause-c : goal.orientation-requires-clause-c
orientation-requires-clause-c c = near_point c.args.q c.requires.q.0

pub returns-in-Equal : goal.returns-in-Equal
unfolding turns_before
returns-in-Equal c =
    let m = half_turn c.args.o c.args.p in
    let n = half_turn c.args.o c.args.q in
    let z = cross c.args.o c.args.p c.args.q in
    let tie = sym (ap₂ nat_cmp c.half_turn.ensures c.half_turn-2.ensures) ∙ sym c.cmp.ensures ∙ c.in-Equal.is in
    c.cmp-in-Equal.ensures
    ∙ ap (λ (w : ℤ). int_cmp (pos 0) w) (wide_is c.orientation.result (omega (arith, c.orientation.ensures.size)) ∙ c.orientation.ensures.value)
    ∙ halves_same m n z (cross c.args.o c.args.q c.args.p) tie (turned_round c.args.o c.args.p c.args.q)

pub returns-in_default : goal.returns-in_default
unfolding turns_before
returns-in_default c =
    let m = half_turn c.args.o c.args.p in
    let n = half_turn c.args.o c.args.q in
    let same = c.cmp.ensures ∙ ap₂ nat_cmp c.half_turn.ensures c.half_turn-2.ensures in
    same ∙ halves_differ m n (cross c.args.o c.args.p c.args.q) (cross c.args.o c.args.q c.args.p) (λ e. c.in_default.not-Equal (same ∙ e))
