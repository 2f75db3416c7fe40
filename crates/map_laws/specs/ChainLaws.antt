-- Laws of chains, slices and records.
use Rattle.std.specs.Prelude.{◌≡◌, ◌<◌, ◌≤◌, ℕ, ◌+◌, ◌-◌, Bool, true, ◌&&◌, not, nat_le, nat_lt, ◌==◌, List, [], ◌∷◌, map, filter, flat_map, fold, length, All}
use Rattle.lemmas.specs.Sorting.{sort_by}
use Rattle.tgap_model.specs.declared.geometry.Point.{Point}
use Rattle.tgap_model.specs.declared.base.BaseArc.{BaseArc}
use Rattle.tgap_model.specs.declared.slice.Edge.{Edge}
use Rattle.tgap_model.specs.declared.slice.Slice.{Slice}
use Rattle.tgap_model.specs.declared.slice.Removal.{Removal}
use Rattle.lemmas.specs.Ascending.{distinct_by}
use Rattle.tgap_model.specs.Segment.{point_before}
use Rattle.tgap_model.specs.History.{AreNumbered}
use Rattle.tgap_model.specs.Merged.{MergedMap, step_number, is_border}
use Rattle.tgap_model.specs.Chains.{Chain, first_point, last_point, arc_number, degree, key, are_chains, join_at, directed, chains_at}
use Rattle.tgap_model.specs.Removals.{edge_of}
use Rattle.tgap_model.specs.Slice.{IsSlice, IsEdgeOf, left_of, right_of}
use Rattle.tgap_model.specs.Records.{is_edge_between}

-- ---- chains and slices

-- at most one list is the chains of a map after k steps
abbrev pub ChainsAreUnique : Type 0
ChainsAreUnique =
    (h : MergedMap) (k : ℕ) (cs ds : List Chain) → are_chains h k cs ≡ true → are_chains h k ds ≡ true → cs ≡ ds

-- there is one: the border arcs, joined at the nodes of degree two
abbrev pub ChainsExist : Type 0
ChainsExist = (h : MergedMap) (k : ℕ) → are_chains h k (chains_at h k) ≡ true

-- at most one slice has the faces and edges of a map after k steps, less the listed vertices
abbrev pub SlicesAreUnique : Type 0
SlicesAreUnique =
    (h : MergedMap) (k : ℕ) (removals : List Removal) (s t : Slice) → IsSlice h k removals s → IsSlice h k removals t → s ≡ t

-- ---- records

-- the arc borders a face after the step before, and none after step j
abbrev pub vanishes : MergedMap → ℕ → BaseArc → Bool
vanishes h j a = is_border h (j - 1) a && not (is_border h j a)

-- both faces of an arc are base faces or the outside
abbrev pub has_base_faces : MergedMap → BaseArc → Bool
has_base_faces h a = nat_le a.left (length h.base.classes) && nat_le a.right (length h.base.classes)

-- The edges that a record brings back, those between loser and winner, are made of exactly the arcs that vanish at its step.
abbrev pub EndedEdgesVanish : Type 0
EndedEdgesVanish =
    (h : MergedMap) (j : ℕ) (removals : List Removal) (c : Chain) (e : Edge)
    → AreNumbered (length h.base.classes) h.steps → 1 ≤ j → j ≤ length h.steps
    → All (λ d. has_base_faces h (arc_number h.base.arcs d.arc) ≡ true) c
    → IsEdgeOf h (j - 1) removals c e
    → All (λ d. vanishes h j (arc_number h.base.arcs d.arc) ≡ is_edge_between (step_number h j).loser (step_number h j).winner e) c

-- ---- from the chains after one step to those after the next

-- The faces at the sides of each arc of a chain, seen in its direction, are those of the chain's edge.
pub record IsEven (h : MergedMap) (k : ℕ) (c : Chain) : Type 0 where
  pub left : All (λ d. left_of h k d ≡ (edge_of h k [] c).left) c
  pub right : All (λ d. right_of h k d ≡ (edge_of h k [] c).right) c

-- along each chain after k steps the faces at the sides stay the same
abbrev pub HasEvenSides : MergedMap → ℕ → Type 0
HasEvenSides h k = All (IsEven h k) (chains_at h k)

-- the chains that are left by step k + 1: those that are not between its loser and its winner
abbrev pub chains_left : MergedMap → ℕ → List Chain
chains_left h k =
    filter (λ c. not (is_edge_between (step_number h (k + 1)).loser (step_number h (k + 1)).winner (edge_of h k [] c))) (chains_at h k)

-- the nodes whose degree becomes two at step k + 1, in the order of points
abbrev pub new_joints : MergedMap → ℕ → List Point
new_joints h k =
    filter (λ p. (degree h (k + 1) p == 2) && not (degree h k p == 2))
    (distinct_by point_before (flat_map (λ a. first_point a.points ∷ last_point a.points ∷ []) h.base.arcs))

-- the chains that are left, joined at these nodes one after the other
abbrev pub joined_chains : MergedMap → ℕ → List Chain
joined_chains h k =
    sort_by (λ c d. nat_lt (key c) (key d)) (map directed (fold (join_at h.base.arcs) (chains_left h k) (new_joints h k)))

-- Where the faces stay the same along each chain, a step takes out the chains between its loser and its winner and joins the
-- others at the nodes whose degree becomes two.
abbrev pub ChainsStep : Type 0
ChainsStep =
    (h : MergedMap) (k : ℕ) → AreNumbered (length h.base.classes) h.steps → k < length h.steps
    → All (λ a. has_base_faces h a ≡ true) h.base.arcs → HasEvenSides h k → chains_at h (k + 1) ≡ joined_chains h k
