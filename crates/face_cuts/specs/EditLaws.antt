-- Laws of nodes, cuts and fusions.
use Rattle.std.specs.Prelude.{◌≡◌, ◌≢◌, ◌≤◌, ℕ, ◌+◌, nat_lt, List, [], ◌∷◌, ◌++◌, length, IsTrue, Ok}
use Rattle.std.specs.List.{list_all}
use Rattle.lemmas.specs.Parity.{either_alone}
use Rattle.tgap_model.specs.declared.geometry.Fraction.{Fraction}
use Rattle.tgap_model.specs.declared.geometry.Point.{Point}
use Rattle.tgap_model.specs.Base.{BaseMap, in_limits, is_base}
use Rattle.tgap_model.specs.Partition.{base_segments}
use Rattle.map_laws.specs.Inside.{is_inside}
use Rattle.face_cuts.specs.Nodes.{add_node}
use Rattle.face_cuts.specs.Outcomes.{◌>>=◌, has_room}
use Rattle.face_cuts.specs.Fusions.{fuse_faces, is_face, renumbered}
use Rattle.face_cuts.specs.Cuts.{are_free, cut_face}
use Rattle.face_cuts.specs.Moves.{cut_off_sides, divided_arcs}

-- ---- where an edit is not refused, it makes a base map of a base map

abbrev pub NodesKeepMaps : Type 0
NodesKeepMaps = (m e : BaseMap) (v : Point) → IsTrue (is_base m) → add_node m v ≡ Ok e → IsTrue (is_base e)

abbrev pub FusionsKeepMaps : Type 0
FusionsKeepMaps = (m e : BaseMap) (f g : ℕ) → IsTrue (is_base m) → fuse_faces m f g ≡ Ok e → IsTrue (is_base e)

-- the arc has two points at least, all within the limits
abbrev pub CutsKeepMaps : Type 0
CutsKeepMaps =
    (m e : BaseMap) (f k : ℕ) (points : List Point) → IsTrue (is_base m) → 2 ≤ length points → IsTrue (list_all in_limits points)
    → cut_face m f k points ≡ Ok e → IsTrue (is_base e)

-- ---- what a point is inside, before and after

-- After a cut of face f, a point was inside f where it is inside one of f and the new face, and not of both. Every other face has it inside where it had it.
pub record IsCutInside (m e : BaseMap) (f new : ℕ) (p : Fraction) : Type 0 where
  pub parts : is_inside (base_segments m) f p ≡ either_alone (is_inside (base_segments e) f p) (is_inside (base_segments e) new p)
  pub others : (h : ℕ) → h ≢ f → h ≢ new → is_inside (base_segments e) h p ≡ is_inside (base_segments m) h p

abbrev pub CutsKeepInside : Type 0
CutsKeepInside =
    (m e : BaseMap) (f k : ℕ) (points : List Point) (p : Fraction) → IsTrue (is_base m) → cut_face m f k points ≡ Ok e → IsCutInside m e f (length m.classes + 1) p

-- After a fusion of faces f and g, a point is inside the fused face where it was inside one of the two, and not of both. Every other face has it inside, by
-- its number afterwards, where it had it.
pub record IsFusedInside (m e : BaseMap) (f g : ℕ) (p : Fraction) : Type 0 where
  pub whole : is_inside (base_segments e) (renumbered (length m.classes) f g f) p ≡ either_alone (is_inside (base_segments m) f p) (is_inside (base_segments m) g p)
  pub others : (h : ℕ) → h ≤ length m.classes → h ≢ f → h ≢ g → is_inside (base_segments e) (renumbered (length m.classes) f g h) p ≡ is_inside (base_segments m) h p

abbrev pub FusionsKeepInside : Type 0
FusionsKeepInside = (m e : BaseMap) (f g : ℕ) (p : Fraction) → IsTrue (is_base m) → fuse_faces m f g ≡ Ok e → IsFusedInside m e f g p

-- ---- a cut is taken back

-- Where a cut of face f is not refused, the fusion of f and the new face gives the map as it was.
abbrev pub CutsFuseAgain : Type 0
CutsFuseAgain =
    (m e : BaseMap) (f k : ℕ) (points : List Point) → IsTrue (is_base m) → cut_face m f k points ≡ Ok e → fuse_faces e f (length m.classes + 1) ≡ Ok m

-- ---- a cut by the sides that go over

-- A cut that is not refused for its numbers, for want of room or for its points is refused where the sides that go over are, and else it takes these over.
abbrev pub CutsMoveSides : Type 0
CutsMoveSides =
    (m : BaseMap) (f k : ℕ) (points : List Point) → IsTrue (is_face m f) → IsTrue (nat_lt k (length m.rules.weights)) → IsTrue (has_room m 1 1 (length points)) → IsTrue (are_free m.arcs points)
    → cut_face m f k points ≡ (cut_off_sides m.arcs f points >>= λ moved. Ok (record m { classes = m.classes ++ k ∷ []; arcs = divided_arcs m.arcs f (length m.classes + 1) points moved }))
