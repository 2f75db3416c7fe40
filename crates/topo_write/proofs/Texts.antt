-- The texts of polygons, of the transform and of the whole, with the names of their members written out.
use Rattle.std.proofs.Common.{◌≡◌, ℕ, List, [], ◌∷◌, ◌++◌, map, codes, decimal, refl, sym, ap, ◌∙◌, append_assoc}
use Rattle.serde_json.specs.Data.{Data, string, object, no_members, member}
use Rattle.serde_json.specs.Written.{compact_text}
use Rattle.serde_json.proofs.OnLiterals.{serde_json_on_literals}
use Rattle.tgap_model.specs.declared.geometry.Point.{Point}
use Rattle.tgap_model.specs.declared.base.Transform.{Transform}
use Rattle.ring_walk.specs.declared.side.Side.{Side}
use Rattle.topo_write.specs.declared.part.Part.{Part}
use Rattle.topo_write.specs.Building.{ring_at, told}
use Rattle.topo_write.specs.Polygons.{Polygon}
use Rattle.topo_write.specs.Topology.{list, pair, arc_data, ring_data, polygon_data, collection_data, transform_data, topology_text}

pub polygon_text : (p : Polygon) → compact_text (polygon_data p)
    ≡ codes "{\"arcs\":" ++ (compact_text (list (map ring_data p.rings)) ++ (codes ",\"properties\":{\"class\":" ++ (decimal p.row.class ++ (codes ",\"face\":" ++ (decimal p.row.face ++ codes "},\"type\":\"Polygon\"}")))))
unfolding serde_json_on_literals
polygon_text p = simp append_assoc

pub transform_text : (t : Transform) → compact_text (transform_data t) ≡ codes "{\"scale\":" ++ (compact_text (pair t.sx t.sy) ++ (codes ",\"translate\":" ++ (compact_text (pair t.tx t.ty) ++ codes "}")))
unfolding serde_json_on_literals
transform_text t = simp append_assoc

collection_text : (ps : List Polygon) → compact_text (collection_data ps) ≡ codes "{\"geometries\":" ++ (compact_text (list (map polygon_data ps)) ++ codes ",\"type\":\"GeometryCollection\"}")
unfolding serde_json_on_literals
collection_text ps = simp append_assoc

whole_form : (a x t : Data) → compact_text (object (member (codes "arcs") a (member (codes "objects") (object (member (codes "map") x no_members)) (member (codes "transform") t (member (codes "type") (string (codes "Topology")) no_members)))))
    ≡ codes "{\"arcs\":" ++ (compact_text a ++ (codes ",\"objects\":{\"map\":" ++ (compact_text x ++ (codes "},\"transform\":" ++ (compact_text t ++ codes ",\"type\":\"Topology\"}")))))
unfolding serde_json_on_literals
whole_form a x t = simp append_assoc

pub whole_text : (t : Transform) (lines : List (List Point)) (ps : List Polygon) → topology_text t lines ps
    ≡ codes "{\"arcs\":" ++ (compact_text (list (map arc_data lines)) ++ (codes ",\"objects\":{\"map\":{\"geometries\":" ++ (compact_text (list (map polygon_data ps))
    ++ (codes ",\"type\":\"GeometryCollection\"}},\"transform\":" ++ (compact_text (transform_data t) ++ codes ",\"type\":\"Topology\"}")))))
unfolding topology_text
whole_text t lines ps =
    let a = compact_text (list (map arc_data lines)) in
    let p = compact_text (list (map polygon_data ps)) in
    let rest = codes "},\"transform\":" ++ (compact_text (transform_data t) ++ codes ",\"type\":\"Topology\"}") in
    whole_form (list (map arc_data lines)) (collection_data ps) (transform_data t)
    ∙ ap (λ z. codes "{\"arcs\":" ++ (a ++ (codes ",\"objects\":{\"map\":" ++ (z ++ rest)))) (collection_text ps)
    ∙ ap (λ z. codes "{\"arcs\":" ++ (a ++ (codes ",\"objects\":{\"map\":{\"geometries\":" ++ z))) (append_assoc p (codes ",\"type\":\"GeometryCollection\"}") rest)

-- ---- one part after the other

pub five : (o a b c d e x1 x2 x3 x4 x5 : List ℕ) → x1 ≡ o ++ a → x2 ≡ x1 ++ b → x3 ≡ x2 ++ c → x4 ≡ x3 ++ d → x5 ≡ x4 ++ e → x5 ≡ o ++ (a ++ (b ++ (c ++ (d ++ e))))
five o a b c d e x1 x2 x3 x4 x5 p q r s t = t ∙ ap (λ z. z ++ e) (s ∙ ap (λ z. z ++ d) (r ∙ ap (λ z. z ++ c) (q ∙ ap (λ z. z ++ b) p))) ∙ simp append_assoc

pub seven : (o a b c d e f g x1 x2 x3 x4 x5 x6 x7 : List ℕ) → x1 ≡ o ++ a → x2 ≡ x1 ++ b → x3 ≡ x2 ++ c → x4 ≡ x3 ++ d → x5 ≡ x4 ++ e → x6 ≡ x5 ++ f → x7 ≡ x6 ++ g
    → x7 ≡ o ++ (a ++ (b ++ (c ++ (d ++ (e ++ (f ++ g))))))
seven o a b c d e f g x1 x2 x3 x4 x5 x6 x7 p q r s t u v =
    v ∙ ap (λ z. z ++ g) (u ∙ ap (λ z. z ++ f) (five o a b c d e x1 x2 x3 x4 x5 p q r s t)) ∙ simp append_assoc

-- the rings of a part, by their places
pub rings_told : (rings : List (List Side)) (part : Part) (places : List ℕ) → places ≡ part.rings
    → compact_text (list (map (λ p. ring_data (ring_at rings p)) places)) ≡ compact_text (list (map ring_data (told rings part).rings))
rings_told rings part places e = ap (λ ds. compact_text (list ds)) (ap (map (λ p. ring_data (ring_at rings p))) e ∙ sym (map-map part.rings))
  where
    map-map : (ps : List ℕ) → map ring_data (map (ring_at rings) ps) ≡ map (λ p. ring_data (ring_at rings p)) ps
    map-map [] = refl
    map-map (p ∷ ps) = ap (λ ds. ring_data (ring_at rings p) ∷ ds) (map-map ps)
