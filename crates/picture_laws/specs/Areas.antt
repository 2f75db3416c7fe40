-- Laws of areas: what the vertex removal moves from one face to another. Areas are twice the area, with a sign, as the shoelace
-- formula gives them.
use Rattle.std.specs.Prelude.{◌≡◌, ◌≢◌, ◌≤◌, ℕ, ◌-◌, ◌==◌, ℤ, pos, ◌+ℤ◌, ◌-ℤ◌, unsigned_abs, List, ◌∷◌, ◌++◌, map, filter, take, drop, fold, sum_by, length, if◌then◌else◌, IsTrue}
use Rattle.std.specs.List.{range_with_len}
use Rattle.tgap_model.specs.declared.geometry.Point.{Point}
use Rattle.tgap_model.specs.declared.merge.LabelledArc.{LabelledArc}
use Rattle.tgap_model.specs.declared.slice.Edge.{Edge}
use Rattle.tgap_model.specs.Point.{cross, area2, shoelace, path_length}
use Rattle.tgap_model.specs.Base.{BaseMap, is_base}
use Rattle.tgap_model.specs.Partition.{IsPartition, base_segments}
use Rattle.tgap_model.specs.History.{label_after, labelled, area_of, history_of}
use Rattle.tgap_model.specs.Merged.{MergedMap, merged, label_at, face_area}
use Rattle.tgap_model.specs.Slice.{slice}
use Rattle.map_laws.specs.Inside.{borders}
use Rattle.removal_laws.specs.Trace.{Taken, edges_before_sweep, edges_after_sweep, trace_at, trace_to}

-- ---- areas

-- an edge as an arc, with the faces at its sides
abbrev pub edge_arc : Edge → LabelledArc
edge_arc e = record { left = e.left; right = e.right; area = shoelace e.points; extent = path_length e.points }

-- twice the area of a face that has these edges: the sum over its sides of the shoelace terms of their points
abbrev pub area_in : List Edge → ℕ → ℤ
area_in edges f = area_of (map edge_arc edges) f

-- the base faces of a face after k steps
abbrev pub base_faces : MergedMap → ℕ → ℕ → List ℕ
base_faces h k f = filter (λ g. label_at h k g == f) (range_with_len 1 (length h.base.classes))

-- twice the area of some base faces
abbrev pub base_area : MergedMap → List ℕ → ℤ
base_area h faces = fold (λ sum g. sum +ℤ area_of (map labelled h.base.arcs) g) (pos 0) faces

-- ---- triangles

-- Twice the area that a face loses where b is taken out between a and c, of an edge between these faces: the triangle goes from
-- the face at the left to the one at the right, and the other way where it turns to the right.
abbrev pub triangle_part : ℕ → ℕ → ℕ → Point → Point → Point → ℤ
triangle_part f left right a b c = (if left == f then cross a b c else pos 0) -ℤ (if right == f then cross a b c else pos 0)

-- the label after k steps of a face that is live after j steps
abbrev pub label_from : MergedMap → ℕ → ℕ → ℕ → ℕ
label_from h j k f = label_after (take (k - j) (drop j h.steps)) f

-- the labels after k steps of the faces beside a removed vertex
abbrev pub left_later : MergedMap → ℕ → Taken → ℕ
left_later h k t = label_from h t.step k t.edge.left

abbrev pub right_later : MergedMap → ℕ → Taken → ℕ
right_later h k t = label_from h t.step k t.edge.right

-- what a face after k steps lost by some removals
abbrev pub lost_by : MergedMap → ℕ → ℕ → List Taken → ℤ
lost_by h k f ts = fold (λ sum (t : Taken). sum +ℤ triangle_part f (left_later h k t) (right_later h k t) t.a t.b t.c) (pos 0) ts

-- the vertices that the first k steps removed along a face: it is at one side of their edge, and another face at the other
abbrev pub removed_along : MergedMap → ℕ → ℕ → List Taken
removed_along h k f = filter (λ t. borders f (left_later h k t) (right_later h k t)) (trace_to h k)

-- ---- the laws

-- Where b is taken out of an edge between a and c, each face loses the triangle or gets it, or neither.
abbrev pub RemovalMovesTriangle : Type 0
RemovalMovesTriangle =
    (before after : List Edge) (e : Edge) (front rest : List Point) (a b c : Point) (f : ℕ)
    → area_in (before ++ record e { points = front ++ a ∷ c ∷ rest } ∷ after) f
    ≡ area_in (before ++ record e { points = front ++ a ∷ b ∷ c ∷ rest } ∷ after) f -ℤ triangle_part f e.left e.right a b c

-- So the sweep of a step moves the triangles of all vertices that it takes out.
abbrev pub SweepMovesTriangles : Type 0
SweepMovesTriangles =
    (h : MergedMap) (j f : ℕ)
    → area_in (edges_after_sweep h j) f
    ≡ area_in (edges_before_sweep h j) f -ℤ fold (λ sum (t : Taken). sum +ℤ triangle_part f t.edge.left t.edge.right t.a t.b t.c) (pos 0) (trace_at h j)

-- the area of a face, from the labels of all arcs, is that of its base faces
abbrev pub BaseAreasAdd : Type 0
BaseAreasAdd =
    (m : BaseMap) → IsTrue (is_base m) → (k f : ℕ) → f ≢ 0
    → face_area (merged m) k f ≡ base_area (merged m) (base_faces (merged m) k f)

-- A face of a slice of a planar partition has the area of its base faces, less the triangles that it lost.
abbrev pub AreasLessTriangles : Type 0
AreasLessTriangles =
    (m : BaseMap) → IsTrue (is_base m) → IsPartition (base_segments m) → (k : ℕ) → k ≤ length (history_of m) → (f : ℕ) → f ≢ 0
    → area_in (slice m k).edges f ≡ base_area (merged m) (base_faces (merged m) k f) -ℤ lost_by (merged m) k f (trace_to (merged m) k)

-- So it differs from that area by no more than the areas of the triangles removed along it.
abbrev pub FacesStayNear : Type 0
FacesStayNear =
    (m : BaseMap) → IsTrue (is_base m) → IsPartition (base_segments m) → (k : ℕ) → k ≤ length (history_of m) → (f : ℕ) → f ≢ 0
    → unsigned_abs (area_in (slice m k).edges f -ℤ base_area (merged m) (base_faces (merged m) k f))
    ≤ sum_by (λ (t : Taken). area2 t.a t.b t.c) (removed_along (merged m) k f)
