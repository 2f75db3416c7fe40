-- The areas of the rings of a face together are its area.
use Rattle.std.proofs.Common.{◌≡◌, ℕ, ◌==◌, Bool, true, false, cond, pos, ℤ, ◌+ℤ◌, ◌-ℤ◌, List, [], ◌∷◌, refl, sym, ap, ap₂, ◌∙◌, arith}
use Rattle.std.proofs.lemmas.Int.{ints}
use Rattle.tgap_model.specs.declared.geometry.Point.{Point}
use Rattle.tgap_model.specs.declared.geometry.Seg.{Seg}
use Rattle.tgap_model.specs.Point.{shoelace, shoelace_term}
use Rattle.tgap_model.specs.Partition.{edge_segments}
use Rattle.tgap_model.specs.Slice.{slice}
use Rattle.slice_read.specs.Ends.{slice_ends}
use Rattle.ring_walk.specs.declared.side.Side.{Side}
use Rattle.ring_walk.specs.Areas.{points_of, segments_of, ring_area, ring_segments}
use Rattle.topo_write.specs.Polygons.{lines_of}
use Rattle.topo_laws.proofs.SliceSpans.{rings_have_one_face}
use Rattle.picture_laws.specs.FaceRings.{face_rings, RingAreasAdd}
use Rattle.picture_laws.proofs.Sums.{int_sum, fold_is_sum, int_sum-append, int_sum-same, int_sum-flat_map}
use Rattle.picture_laws.proofs.Triangles.{area_is_sum}
use Rattle.picture_laws.proofs.SliceAreas.{segment_part, edges_part}
use Rattle.picture_laws.proofs.RingSums.{beside, rings_sum}
use Rattle.picture_laws.proofs.RingWinds.{paired}

abbrev term : Seg → ℤ
term s = shoelace_term s.a s.b

-- the sum of a row, and that of a ring, by segments
row_terms : (points : List Point) → shoelace points ≡ int_sum term (segments_of points)
row_terms [] = refl
row_terms (a ∷ []) = refl
row_terms (a ∷ b ∷ points) = ap (λ z. shoelace_term a b +ℤ z) (row_terms (b ∷ points))

pub ring_terms : (lines : List (List Point)) (ring : List Side) → ring_area lines ring ≡ int_sum term (ring_segments lines ring)
ring_terms lines [] = refl
ring_terms lines (s ∷ ring) =
    ap₂ (λ y z. y +ℤ z) (row_terms (points_of lines s)) (ring_terms lines ring)
    ∙ sym (int_sum-append term (segments_of (points_of lines s)) (ring_segments lines ring))

-- a segment that is turned round counts for the face at its right
turned_term : (f : ℕ) (s : Seg) (l r : ℕ) → beside term f s l r ≡ segment_part (λ g. g == f) s l r
turned_term f s l r = by (l == f) (r == f)
  where
    by : (b c : Bool) → cond b (shoelace_term s.a s.b) (pos 0) +ℤ cond c (shoelace_term s.b s.a) (pos 0) ≡ cond b (shoelace_term s.a s.b) (pos 0) -ℤ cond c (shoelace_term s.a s.b) (pos 0)
    by true true = omega (arith, ints)
    by true false = omega (arith, ints)
    by false true = omega (arith, ints)
    by false false = omega (arith, ints)

pub ring_areas_add : RingAreasAdd
ring_areas_add m base planar k l f =
    let edges = (slice m k).edges in
    fold_is_sum (ring_area (lines_of edges)) (face_rings m k f)
    ∙ int_sum-same (ring_area (lines_of edges)) (λ r. int_sum term (ring_segments (lines_of edges) r)) (ring_terms (lines_of edges)) (face_rings m k f)
    ∙ sym (int_sum-flat_map term (ring_segments (lines_of edges)) (face_rings m k f))
    ∙ rings_sum term f edges (slice_ends m k) (paired m k) (rings_have_one_face m base planar k l)
    ∙ int_sum-same (λ s. beside term f s.segment s.left s.right) (λ s. segment_part (λ g. g == f) s.segment s.left s.right) (λ s. turned_term f s.segment s.left s.right) (edge_segments edges)
    ∙ sym (edges_part (λ g. g == f) edges)
    ∙ sym (area_is_sum edges f)
