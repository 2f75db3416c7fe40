use Rattle.std.proofs.Common.{◌≡◌, ◌≤◌, ◌-◌, ◌∙◌, [], ◌∷◌, ℤ, neg_ℤ, unsigned_abs, int_le, true, List, length, get_or, refl, ap, subst, arith}
use Rattle.std.proofs.lemmas.Bool.{and_from}
use Rattle.std.proofs.lemmas.Int.{ints}
use Rattle.lemmas.proofs.Signs.{Decides-int_le}
use Rattle.tgap_model.specs.declared.geometry.Point.{Point}
use Rattle.tgap_model.specs.declared.limits.TheConstants.{MAX_COORDINATE}
use Rattle.tgap_model.specs.Base.{in_limits, within}
use Rattle.tgap_model.specs.Bounds.{IsNear, max_coordinate}
use Rattle.tgap_model.specs.Chains.{first_point, last_point}
use Rattle.ring_sides.proofs.RawArcs.{last_at}
use Rattle.ring_walk.specs.Sides.{origin}
use Rattle.topo_write_tests.proofs.made.ends_of.Goals as goal

first_at : (points : List Point) → get_or points 0 origin ≡ first_point points
first_at [] = refl
first_at (p ∷ points) = refl

within_limits : (z : ℤ) → unsigned_abs z ≤ max_coordinate → within (neg_ℤ MAX_COORDINATE) MAX_COORDINATE z ≡ true
within_limits z l =
    and_from (int_le (neg_ℤ MAX_COORDINATE) z) (int_le z MAX_COORDINATE) ((Decides-int_le (neg_ℤ MAX_COORDINATE) z).1 (omega (arith, ints, l))) ((Decides-int_le z MAX_COORDINATE).1 (omega (arith, ints, l)))

limits_of : (p : Point) → IsNear p → in_limits p ≡ true
limits_of p h = and_from (within (neg_ℤ MAX_COORDINATE) MAX_COORDINATE p.x) (within (neg_ℤ MAX_COORDINATE) MAX_COORDINATE p.y) (within_limits p.x h.x) (within_limits p.y h.y)

pub returns-then-leave : goal.returns-then-leave
returns-then-leave c =
    let points = c.args.edge.now.points in
    let first : get_or points 0 origin ≡ first_point points = first_at points in
    let last : get_or points (length points - 1) origin ≡ last_point points = last_at points origin c.requires.some in
    record {
      first = (subst (λ (p : Point). in_limits p ≡ true) first (limits_of (get_or points 0 origin) (c.requires.near 0 origin (omega (arith, c.requires.some)))), c.point_of-after_first.ensures.limits);
      last = (subst (λ (p : Point). in_limits p ≡ true) last (limits_of (get_or points (length points - 1) origin) (c.requires.near (length points - 1) origin (omega (arith, c.requires.some)))), c.point_of-before_last.ensures.limits);
      leaves_first = λ e. c.leave.ensures.first origin c.if-leave.true (ap (λ (ps : List Point). get_or ps 0 origin) c.as_slice.ensures ∙ first ∙ e);
      leaves_last = λ e. c.leave.ensures.last origin c.if-leave.true (ap (λ (ps : List Point). get_or ps (length ps - 1) origin) c.as_slice.ensures ∙ last ∙ e);
    }
