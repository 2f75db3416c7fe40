-- The whole export, from the rings of a slice and the parts of its faces.
use Rattle.std.proofs.Common.{◌≡◌, ℕ, List, [], ◌∷◌, ◌++◌, flat_map, All, refl, sym, ap, ap₂, ◌∙◌}
use Rattle.std.specs.Prelude.{Option, Some, None, Result, Ok, Err}
use Rattle.tgap_model.specs.declared.geometry.Point.{Point}
use Rattle.tgap_model.specs.declared.base.Transform.{Transform}
use Rattle.tgap_model.specs.declared.slice.Edge.{Edge}
use Rattle.tgap_model.specs.declared.slice.FaceRow.{FaceRow}
use Rattle.tgap_model.specs.declared.slice.Slice.{Slice}
use Rattle.ring_walk.specs.declared.span.EdgeEnds.{EdgeEnds}
use Rattle.ring_walk.specs.Rings.{rings_of}
use Rattle.topo_write.specs.declared.flat.FlatRing.{FlatRing}
use Rattle.topo_write.specs.declared.measured.Measured.{Measured}
use Rattle.topo_write.specs.Building.{IsMeasured, rings_in}
use Rattle.topo_write.specs.Flats.{IsFirstFlat, IsFlat, rings_at}
use Rattle.topo_write.specs.Polygons.{Polygon, face_polygons, flat_of, lines_of, of_face, polygons_of, spans_of}
use Rattle.topo_write.specs.Topology.{export, topology_text}
use Rattle.topo_write.proofs.FlatFaces.{first_flat_is, flat_of-same, no_flat_is}

flat_map-same : {A B : Type 0} (f g : A → List B) → ((x : A) → f x ≡ g x) → (xs : List A) → flat_map f xs ≡ flat_map g xs
flat_map-same f g same [] = refl
flat_map-same {A} {B} f g same (x ∷ xs) = ap₂ (λ (ys zs : List B). ys ++ zs) (same x) (flat_map-same f g same xs)

-- the rings of a face
pub rings_are : (edges : List Edge) (ends : List EdgeEnds) (m : Measured) → IsMeasured edges ends m → (f : ℕ) → rings_at edges ends f ≡ rings_in m.rings m.groups f
rings_are edges ends m known f = ap (of_face (spans_of edges ends) f) (sym known.rings) ∙ sym (known.faces f)

flat_is : (edges : List Edge) (ends : List EdgeEnds) (m : Measured) (rows : List FaceRow) → IsMeasured edges ends m
    → flat_of edges (rings_at edges ends) rows ≡ flat_of edges (rings_in m.rings m.groups) rows
flat_is edges ends m rows known = flat_of-same edges (rings_at edges ends) (rings_in m.rings m.groups) (rings_are edges ends m known) rows

-- what the definition makes of a face that is no polygon, or of there being none
abbrev picked : List Polygon → Option FlatRing → Result (List Polygon) FlatRing
picked polygons o = elim o [ Some flat ↦ Err flat | None ↦ Ok polygons ]

abbrev written : Transform → List (List Point) → Result (List Polygon) FlatRing → Result (List ℕ) FlatRing
written t lines r = elim r [ Ok polygons ↦ Ok (topology_text t lines polygons) | Err flat ↦ Err flat ]

-- the polygons of all faces
abbrev all_polygons : List Edge → List EdgeEnds → List FaceRow → List Polygon
all_polygons edges ends rows = flat_map (λ row. face_polygons (lines_of edges) row (of_face (spans_of edges ends) row.face (rings_of (spans_of edges ends)))) rows

polygons_flat : (edges : List Edge) (ends : List EdgeEnds) (rows : List FaceRow) (flat : FlatRing) → flat_of edges (rings_at edges ends) rows ≡ Some flat
    → polygons_of edges ends rows ≡ Err flat
unfolding polygons_of
polygons_flat edges ends rows flat e = ap (picked (all_polygons edges ends rows)) e

polygons_whole : (edges : List Edge) (ends : List EdgeEnds) (rows : List FaceRow) → flat_of edges (rings_at edges ends) rows ≡ None
    → polygons_of edges ends rows ≡ Ok (all_polygons edges ends rows)
unfolding polygons_of
polygons_whole edges ends rows e = ap (picked (all_polygons edges ends rows)) e

-- ---- the text, or the face that is no polygon

pub export_flat : (slice : Slice) (ends : List EdgeEnds) (t : Transform) (m : Measured) (flat : FlatRing) → IsMeasured slice.edges ends m → flat_of slice.edges (rings_in m.rings m.groups) slice.faces ≡ Some flat
    → export slice ends t ≡ Err flat
unfolding export
export_flat slice ends t m flat known e =
    ap (written t (lines_of slice.edges)) (polygons_flat slice.edges ends slice.faces flat (flat_is slice.edges ends m slice.faces known ∙ e))

pub export_text : (slice : Slice) (ends : List EdgeEnds) (t : Transform) (m : Measured) (polygons : List Polygon) → IsMeasured slice.edges ends m → flat_of slice.edges (rings_in m.rings m.groups) slice.faces ≡ None
    → polygons ≡ flat_map (λ row. face_polygons (lines_of slice.edges) row (rings_in m.rings m.groups row.face)) slice.faces
    → export slice ends t ≡ Ok (topology_text t (lines_of slice.edges) polygons)
unfolding export
export_text slice ends t m polygons known e are =
    ap (written t (lines_of slice.edges))
    (polygons_whole slice.edges ends slice.faces (flat_is slice.edges ends m slice.faces known ∙ e)
    ∙ ap (λ (ps : List Polygon). picked ps None)
    (flat_map-same (λ (row : FaceRow). face_polygons (lines_of slice.edges) row (of_face (spans_of slice.edges ends) row.face (rings_of (spans_of slice.edges ends))))
    (λ row. face_polygons (lines_of slice.edges) row (rings_in m.rings m.groups row.face))
    (λ row. ap (face_polygons (lines_of slice.edges) row) (rings_are slice.edges ends m known row.face)) slice.faces
    ∙ sym are))

-- ---- in words of the rings

pub shown_flat : (slice : Slice) (ends : List EdgeEnds) (m : Measured) (flat : FlatRing) → IsMeasured slice.edges ends m → flat_of slice.edges (rings_in m.rings m.groups) slice.faces ≡ Some flat
    → IsFirstFlat slice.edges (rings_at slice.edges ends) slice.faces flat
shown_flat slice ends m flat known e = first_flat_is slice.edges (rings_at slice.edges ends) slice.faces flat (flat_is slice.edges ends m slice.faces known ∙ e)

pub shown_whole : (slice : Slice) (ends : List EdgeEnds) (m : Measured) → IsMeasured slice.edges ends m → flat_of slice.edges (rings_in m.rings m.groups) slice.faces ≡ None
    → All (λ row. IsFlat (lines_of slice.edges) (rings_at slice.edges ends row.face) → ⊥) slice.faces
shown_whole slice ends m known e = no_flat_is slice.edges (rings_at slice.edges ends) slice.faces (flat_is slice.edges ends m slice.faces known ∙ e)
