use Rattle.std.proofs.Common.{List, map, get_or, sym, ap, ◌∙◌, subst}
use Rattle.std.proofs.lemmas.List.{get_or_default}
use Rattle.tgap_model.specs.declared.geometry.Point.{Point}
use Rattle.tgap_model.specs.declared.geometry.Window.{Window}
use Rattle.tgap_model.specs.declared.slice.Edge.{Edge}
use Rattle.grid_index.specs.declared.segments.TheConstants.{NOWHERE}
use Rattle.grid_index.specs.Boxes.{segment_box}
use Rattle.grid_index.specs.Slots.{no_edge, entry_of, AreNear}
use Rattle.grid_index.proofs.Sought.{no_point, near_found, near_none}
use Rattle.grid_index.proofs.entries.box_of_key.Goals as goal

pub returns-in-Some : goal.returns-in-Some
returns-in-Some c =
    let edges = c.args.edges.now in
    let i = c.in-Some.place in
    let found = c.in-Some.ensures.some in
    let edge = get_or_default edges i c.index-edges-place.result no_edge found.0 in
    let points = c.as_slice-points.ensures ∙ ap (λ (e : Edge). e.points) edge in
    let box = c.segment_box.ensures ∙ ap (λ (ps : List Point). segment_box (get_or ps 0 no_point) (get_or ps 1 no_point)) points in
    let live = c.requires.live i no_edge found.0 in
    subst (λ (area : Window). AreNear area c.args.key (map entry_of edges)) (sym box) (near_found edges i c.args.key no_point c.requires.ascending found.0 found.1 live.some)

pub returns-in-None : goal.returns-in-None
returns-in-None c = near_none c.args.edges.now c.args.key c.in-None.ensures.none NOWHERE
