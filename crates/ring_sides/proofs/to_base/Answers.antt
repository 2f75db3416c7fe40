-- What was read has its form, and so has what is made of it.
use Rattle.std.proofs.Common.{◌≡◌, ◌∙◌, ap, sym, subst, Ok, List, length, rules}
use Rattle.tgap_model.specs.declared.geometry.Point.{Point}
use Rattle.tgap_model.specs.declared.topology.RawPolygon.{RawPolygon}
use Rattle.tgap_model.specs.Base.{BaseMap}
use Rattle.line_forms.specs.Json.{try_fold}
use Rattle.topology_forms.specs.Rings.{nothing_taken, polygon_taken, sided_from, based}
use Rattle.ring_sides.specs.Taking.{HasSides}
use Rattle.ring_sides.proofs.Read.{raw_map_facts, rings_formed, made_some}
use Rattle.ring_sides.proofs.RingSides.{sides_told, fault_shown}
use Rattle.ring_sides.proofs.OneBase.{only_told, refused_told}
use Rattle.ring_sides.proofs.to_base.Goals as goal

pub of-requires : goal.of-requires
of-requires c = rw c.as_slice.ensures (raw_map_facts c.args.raw.now c.requires.raw).arcs

pub take_polygons-requires-clause-rings : goal.take_polygons-requires-clause-rings
take_polygons-requires-clause-rings c =
    rings_formed c.args.raw.now c.in_ok-arcs.arcs c.as_slice-2.result.now c.requires.raw (c.in_ok-arcs.ensures ∙ c.as_slice.ensures) c.as_slice-2.ensures

pub take_polygons-requires-clause-few_faces : goal.take_polygons-requires-clause-few_faces
take_polygons-requires-clause-few_faces c = rw c.as_slice-2.ensures (raw_map_facts c.args.raw.now c.requires.raw).few_faces

pub sided_arcs-requires : goal.sided_arcs-requires
sided_arcs-requires c =
    let same : c.in_ok-arcs.arcs ≡ c.as_slice-3.result.now = c.in_ok-arcs.ensures ∙ c.as_slice.ensures ∙ sym c.as_slice-3.ensures in
    subst (λ (arcs : List (List Point)). HasSides (length arcs) c.in_ok-taken.taken) same c.in_ok-taken.ensures.sides

pub unwrap-requires : goal.unwrap-requires
unwrap-requires c =
    let raw = c.args.raw.now in
    let named = c.args.named.now in
    let taken = c.in_ok-taken.taken in
    let m : BaseMap = record { transform = c.read_transform-transform.result; rules = c.in_ok-rules.rules; classes = c.into_classes.result; arcs = c.in_ok-sided.sided } in
    let arcs : c.in_ok-arcs.arcs ≡ raw.arcs = c.in_ok-arcs.ensures ∙ c.as_slice.ensures in
    let took : try_fold (polygon_taken raw.arcs named) (nothing_taken raw.arcs) raw.polygons ≡ Ok taken =
    sym (ap (λ (a : List (List Point)). try_fold (polygon_taken a named) (nothing_taken a) c.as_slice-2.result.now) arcs
    ∙ ap (λ (ps : List RawPolygon). try_fold (polygon_taken raw.arcs named) (nothing_taken raw.arcs) ps) c.as_slice-2.ensures) ∙ c.in_ok-taken.ensures.value in
    let sided : sided_from 0 raw.arcs taken.left taken.right ≡ Ok m.arcs =
    sym (ap (λ (a : List (List Point)). sided_from 0 a taken.left taken.right) c.as_slice-3.ensures) ∙ c.in_ok-sided.ensures in
    made_some raw named taken m c.new.result c.requires.raw c.requires.named c.read_transform-transform.ensures.words took sided
    c.read_transform-transform.ensures.same c.in_ok-rules.ensures c.into_classes.ensures c.new.ensures

pub returns-in_err-taken-clause-shown : goal.returns-in_err-taken-clause-shown
unfolding based
returns-in_err-taken-clause-shown c = fault_shown c.args.raw.now c.args.named.now c.from_residual-in_err-taken.result c.requires.raw (search rules)

pub returns-in_err-sided-clause-shown : goal.returns-in_err-sided-clause-shown
unfolding based
returns-in_err-sided-clause-shown c = fault_shown c.args.raw.now c.args.named.now c.from_residual-in_err-sided.result c.requires.raw (search rules)

pub returns-clause-sides : goal.returns-clause-sides
unfolding based
returns-clause-sides c = sides_told c.args.raw.now c.args.named.now (Ok c.unwrap.result) c.requires.raw (search rules)

pub returns-clause-only : goal.returns-clause-only
unfolding based
returns-clause-only c = only_told c.args.raw.now c.args.named.now (Ok c.unwrap.result) c.requires.raw (search rules)

pub returns-in_err-taken-clause-refused : goal.returns-in_err-taken-clause-refused
unfolding based
returns-in_err-taken-clause-refused c = refused_told c.args.raw.now c.args.named.now c.from_residual-in_err-taken.result c.requires.raw (search rules)

pub returns-in_err-sided-clause-refused : goal.returns-in_err-sided-clause-refused
unfolding based
returns-in_err-sided-clause-refused c = refused_told c.args.raw.now c.args.named.now c.from_residual-in_err-sided.result c.requires.raw (search rules)
