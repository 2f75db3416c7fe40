-- A chain has no more points than its arcs.
use Rattle.std.proofs.Common.{◌≡◌, ◌≤◌, Bool, true, false, cond, List, [], ◌∷◌, drop, filter, length, reverse, sum_by, refl, arith}
use Rattle.std.proofs.lemmas.List.{length-append, length-drop, length-reverse}
use Rattle.std.proofs.lemmas.List.Sums.{count_by-le-length, length-filter, sum_by-cons}
use Rattle.tgap_model.specs.declared.geometry.Point.{Point}
use Rattle.tgap_model.specs.declared.base.BaseArc.{BaseArc}
use Rattle.tgap_model.specs.Chains.{Link, Chain, arc_number, link_points, chain_points}

-- a link has as many as its arc
link_length : (arcs : List BaseArc) (d : Link) → length (link_points arcs d) ≡ length (arc_number arcs d.arc).points
link_length arcs d = by d.turned
  where
    points : List Point
    points = (arc_number arcs d.arc).points

    by : (t : Bool) → length (cond t (reverse points) points) ≡ length points
    by true = length-reverse points
    by false = refl

pub chain_length : (arcs : List BaseArc) (c : Chain) → length (chain_points arcs c) ≤ sum_by (λ d. length (arc_number arcs d.arc).points) c
chain_length arcs [] = omega arith
chain_length arcs (d ∷ []) = omega (arith, link_length arcs d, sum_by-cons (λ (d : Link). length (arc_number arcs d.arc).points) d [])
chain_length arcs (d ∷ e ∷ c) = omega (
  arith,
  length-append (link_points arcs d) (drop 1 (chain_points arcs (e ∷ c))),
  length-drop 1 (chain_points arcs (e ∷ c)),
  link_length arcs d,
  chain_length arcs (e ∷ c),
  sum_by-cons (λ (d : Link). length (arc_number arcs d.arc).points) d (e ∷ c),
)

-- a filter keeps so many at most
pub kept_length : (p : Point → Bool) (points : List Point) → length (filter p points) ≤ length points
kept_length p points = omega (arith, length-filter p points, count_by-le-length p points)
