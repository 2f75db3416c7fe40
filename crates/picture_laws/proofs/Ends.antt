-- The points of a path and the ends of its segments; and where those of the edges of a slice lie.
use Rattle.std.proofs.Common.{◌≡◌, inl, inr, ℕ, ◌+◌, Bool, true, false, cond, List, [], ◌∷◌, All, refl, sym, ap, subst}
use Rattle.tgap_model.specs.declared.geometry.Point.{Point}
use Rattle.tgap_model.specs.declared.geometry.Seg.{Seg}
use Rattle.tgap_model.specs.declared.segment.LabelledSegment.{LabelledSegment}
use Rattle.tgap_model.specs.declared.slice.Edge.{Edge}
use Rattle.tgap_model.specs.Base.{BaseMap, is_base, in_limits}
use Rattle.tgap_model.specs.Merged.{MergedMap, merged}
use Rattle.tgap_model.specs.Chains.{arc_number, chain_points, chains_at}
use Rattle.tgap_model.specs.Removals.{edge_of, removals_to}
use Rattle.tgap_model.specs.Partition.{path_segments}
use Rattle.tgap_model.specs.Segment.{goes_right, rightward}
use Rattle.tgap_model.specs.Slice.{slice}
use Rattle.map_laws.proofs.ChainMembers.{Among, all_among}
use Rattle.map_laws.proofs.Lists.{kept_among, map_among}
use Rattle.slice_laws.proofs.BaseParts.{base_arc}
use Rattle.slice_laws.proofs.Coverage.{number_among}
use Rattle.step_laws.proofs.StepRemovals.{chain_point}

-- both ends of a segment of a path are points of it
pub ends_of_path : (key left right place : ℕ) (points : List Point) (s : LabelledSegment) → Among s (path_segments key left right place points)
    → Among s.segment.a points × Among s.segment.b points
ends_of_path key left right place [] s n = absurd n
ends_of_path key left right place (a ∷ []) s n = absurd n
ends_of_path key left right place (a ∷ b ∷ points) s (inl e) =
    (inl (ap (λ (t : LabelledSegment). t.segment.a) e), inr (inl (ap (λ (t : LabelledSegment). t.segment.b) e)))
ends_of_path key left right place (a ∷ b ∷ points) s (inr n) =
    let rest = ends_of_path key left right (place + 1) (b ∷ points) s n in (inr rest.0, inr rest.1)

-- what holds of both ends holds of those of the segment from left to right
pub rightward_ends : (P : Point → Type 0) (s : Seg) → P s.a → P s.b → P (rightward s).a × P (rightward s).b
rightward_ends P s a b = by (goes_right s)
  where
    by : (v : Bool) → P (cond v s (record { a = s.b; b = s.a })).a × P (cond v s (record { a = s.b; b = s.a })).b
    by true = (a, b)
    by false = (b, a)

-- the points of the edges of a slice are within the limits
pub slice_point : (m : BaseMap) → is_base m ≡ true → (k : ℕ) (e : Edge) → Among e (slice m k).edges → (v : Point) → Among v e.points → in_limits v ≡ true
unfolding slice
slice_point m base k e n v o =
    let c = map_among (edge_of (merged m) k (removals_to (merged m) k)) (chains_at (merged m) k) e n in
    let there = subst (λ (f : Edge). Among v f.points) (sym c.2) o in
    let place = chain_point (merged m) k c.0 c.1 v (kept_among _ (chain_points m.arcs c.0) v there) in
    all_among in_limits (arc_number m.arcs place.0).points v (base_arc m base (arc_number m.arcs place.0) (number_among m.arcs place.0 place.1)).in_limits place.2
