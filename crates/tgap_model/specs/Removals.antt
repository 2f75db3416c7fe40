-- The vertex removal: which vertices a step of the history takes out of the edges that border its new face.
use Rattle.std.specs.Prelude.{ℕ, zero, suc, ◌-◌, ◌*◌, Bool, true, false, ◌&&◌, ◌||◌, not, ℤ, pos, int_le, nat_lt, ◌==◌, List, [], ◌∷◌, ◌++◌, map, flat_map, filter, length, if◌then◌else◌}
use Rattle.std.specs.List.{list_all, list_any}
use Rattle.tgap_model.specs.declared.geometry.Point.{Point}
use Rattle.tgap_model.specs.declared.geometry.Seg.{Seg}
use Rattle.tgap_model.specs.declared.slice.Edge.{Edge}
use Rattle.tgap_model.specs.declared.slice.Removal.{Removal}
use Rattle.tgap_model.specs.Base.{same_point}
use Rattle.tgap_model.specs.Point.{area2}
use Rattle.tgap_model.specs.Merged.{MergedMap, label_at, step_number, face_area}
use Rattle.tgap_model.specs.Chains.{Chain, arc_number, chain_points, key, chains_at}
use Rattle.tgap_model.specs.Clear.{is_clear}

-- ---- edges

-- the vertex is listed
abbrev pub is_removed : List Removal → Point → Bool
is_removed removals p = list_any (λ r. same_point r.point p) removals

-- the points that are not listed
abbrev pub without : List Removal → List Point → List Point
without removals points = filter (λ p. not (is_removed removals p)) points

-- the edge of a chain after k steps, less the listed vertices
abbrev pub edge_of : MergedMap → ℕ → List Removal → Chain → Edge
edge_of h k removals c = record {
  key = key c;
  left = label_at h k (arc_number h.base.arcs (key c)).left;
  right = label_at h k (arc_number h.base.arcs (key c)).right;
  points = without removals (chain_points h.base.arcs c);
}

abbrev pub edges_of : MergedMap → ℕ → List Removal → List Chain → List Edge
edges_of h k removals chains = map (edge_of h k removals) chains

-- ---- the sweep of one step

-- the segments of a row of points
abbrev pub path : List Point → List Seg
path [] = []
path (a ∷ []) = []
path (a ∷ b ∷ points) = record { a = a; b = b } ∷ path (b ∷ points)

-- The vertex b between a and c is removed: the three are on one line, or their triangle is small enough and clear of every
-- live segment but a-b and b-c. The area is twice that of the step's loser.
unfoldable pub is_removable : ℕ → ℤ → List Seg → Point → Point → Point → Bool
is_removable ratio area others a b c =
    (area2 a b c == 0) || (int_le (pos (ratio * area2 a b c)) area && list_all (is_clear a b c) others)

-- the points of an edge that are left, and those that are removed, in order
pub record Swept : Type 0 where
  pub kept : List Point
  pub gone : List Point

-- An edge is swept from front to back. `done` has its segments up to the point a, which is kept; `others` are the segments of the
-- other edges.
abbrev pub sweep_from : ℕ → ℤ → List Seg → List Seg → Point → List Point → Swept
sweep_from ratio area others done a [] = record { kept = a ∷ []; gone = [] }
sweep_from ratio area others done a (b ∷ []) = record { kept = a ∷ b ∷ []; gone = [] }
sweep_from ratio area others done a (b ∷ c ∷ points) =
    elim (is_removable ratio area (others ++ done ++ path (c ∷ points)) a b c) [
      | true ↦ let s = sweep_from ratio area others done a (c ∷ points) in record { kept = s.kept; gone = b ∷ s.gone }
      | false ↦
          let s = sweep_from ratio area others (done ++ record { a = a; b = b } ∷ []) b (c ∷ points) in
          record { kept = a ∷ s.kept; gone = s.gone }
    ]

abbrev pub sweep_points : ℕ → ℤ → List Seg → List Point → Swept
sweep_points ratio area others [] = record { kept = []; gone = [] }
sweep_points ratio area others (a ∷ points) = sweep_from ratio area others [] a points

abbrev pub live_segments : List Edge → List Seg
live_segments edges = flat_map (λ e. path e.points) edges

-- the edge borders the face
abbrev pub has_side : ℕ → Edge → Bool
has_side f e = (e.left == f) || (e.right == f)

-- What a sweep removes that goes once through the edges, by key, and skips those without the new face at a side; the edges
-- before were swept already.
abbrev pub sweep_edges : ℕ → ℤ → ℕ → List Edge → List Edge → List Point
sweep_edges ratio area made before [] = []
sweep_edges ratio area made before (e ∷ edges) =
    elim (has_side made e) [
      | true ↦
          let s = sweep_points ratio area (live_segments before ++ live_segments edges) e.points in
          s.gone ++ sweep_edges ratio area made (before ++ record e { points = s.kept } ∷ []) edges
      | false ↦ sweep_edges ratio area made (before ++ e ∷ []) edges
    ]

-- the vertices that a step removes from these edges; with ratio 0 there are none
unfoldable pub sweep : ℕ → ℤ → ℕ → List Edge → List Point
sweep ratio area made edges = if ratio == 0 then [] else sweep_edges ratio area made [] edges

-- ---- all steps

-- the vertices that step j removes, from 1 to the last one, where those of the steps before are listed
abbrev pub removed_at : MergedMap → ℕ → List Removal → List Removal
removed_at h j before =
    map (λ p. record { point = p; step = j })
    (sweep h.base.rules.ratio (face_area h (j - 1) (step_number h j).loser) (step_number h j).made
    (edges_of h j before (chains_at h j)))

-- The removals of the first k steps: each vertex that one of them removes, with its step. Beyond the last step there are no more.
unfoldable pub removals_to : MergedMap → ℕ → List Removal
removals_to h zero = []
removals_to h (suc k) =
    let before = removals_to h k in
    if nat_lt k (length h.steps) then before ++ removed_at h (suc k) before else before
