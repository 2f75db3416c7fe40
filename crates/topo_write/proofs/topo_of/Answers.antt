use Rattle.std.proofs.Common.{◌∙◌, ℕ, List, map, flat_map, sym, ap, ap₂, subst}
use Rattle.std.specs.Prelude.{Ok}
use Rattle.tgap_model.specs.declared.slice.Edge.{Edge}
use Rattle.tgap_model.specs.declared.slice.FaceRow.{FaceRow}
use Rattle.ring_walk.specs.declared.span.EdgeEnds.{EdgeEnds}
use Rattle.topo_write.specs.Building.{IsMeasured, rings_in, told}
use Rattle.ring_walk.specs.declared.side.Side.{Side}
use Rattle.topo_write.specs.declared.part.Part.{Part}
use Rattle.topo_write.specs.Topology.{topology_text}
use Rattle.topo_write.specs.Polygons.{face_polygons, flat_of, lines_of}
use Rattle.topo_write.proofs.Whole.{export_flat, export_text, shown_flat, shown_whole}
use Rattle.topo_write.proofs.topo_of.Goals as goal

pub returns-in-Some : goal.returns-in-Some
returns-in-Some c =
    let slice = c.args.slice.now in
    let ends = c.args.ends.now in
    let m = c.in_ok-rings.rings in
    let known : IsMeasured slice.edges ends m = subst (λ (es : List Edge). IsMeasured es ends m) c.as_slice-edges.ensures (subst (λ (xs : List EdgeEnds). IsMeasured c.as_slice-edges.result.now xs m) c.as_slice.ensures c.in_ok-rings.ensures) in
    let found = ap₂ (λ (es : List Edge) (rs : List FaceRow). flat_of es (rings_in m.rings m.groups) rs) (sym c.as_slice-edges.ensures) (sym c.as_slice-rows.ensures) ∙ sym c.in-Some.ensures in
    record { exact = export_flat slice ends c.args.transform m c.in-Some.flat known found; flat = shown_flat slice ends m c.in-Some.flat known found }

pub returns : goal.returns
returns c =
    let slice = c.args.slice.now in
    let ends = c.args.ends.now in
    let t = c.args.transform in
    let m = c.in_ok-rings.rings in
    let parts = c.in_ok-parts.parts.items in
    let known : IsMeasured slice.edges ends m = subst (λ (es : List Edge). IsMeasured es ends m) c.as_slice-edges.ensures (subst (λ (xs : List EdgeEnds). IsMeasured c.as_slice-edges.result.now xs m) c.as_slice.ensures c.in_ok-rings.ensures) in
    let none = ap₂ (λ (es : List Edge) (rs : List FaceRow). flat_of es (rings_in m.rings m.groups) rs) (sym c.as_slice-edges.ensures) (sym c.as_slice-rows.ensures) ∙ sym c.in_default.ensures in
    let are = c.in_ok-parts.ensures.told
    ∙ ap₂ (λ (es : List Edge) (rs : List FaceRow). flat_map (λ row. face_polygons (lines_of es) row (rings_in m.rings m.groups row.face)) rs) c.as_slice-edges.ensures c.as_slice-rows.ensures in
    let text = c.in_ok-topology_text.ensures
    ∙ ap₂ (λ (es : List Edge) (rs : List (List Side)). topology_text t (lines_of es) (map (told rs) c.deref.result.now)) c.as_slice-edges.ensures c.as_slice-2.ensures
    ∙ ap (λ (ps : List Part). topology_text t (lines_of slice.edges) (map (told m.rings) ps)) c.deref.ensures.value in
    record {
      exact = export_text slice ends t m (map (told m.rings) parts) known none are ∙ ap (λ (x : List ℕ). Ok x) (sym text);
      flat = shown_whole slice ends m known none;
    }
