use Rattle.std.proofs.Common.{◌≡◌, ◌<◌, List, length, get_or, Some, sym, ap, ◌∙◌, subst}
use Rattle.std.proofs.lemmas.List.{get_or_default}
use Rattle.tgap_model.specs.declared.slice.Edge.{Edge}
use Rattle.grid_index.specs.Slots.{no_edge, edge_at}
use Rattle.grid_index.proofs.Sought.{only}
use Rattle.vertex_drop.proofs.table.LiveLiveTable.row.Goals as goal

pub returns-in-Some-clause-some : goal.returns-in-Some-clause-some
returns-in-Some-clause-some c j d l same =
    let edges = c.args.self.now in
    let place = c.in-Some.place in
    let e = c.index-edges-place.result in
    let is = c.as_slice-edges.ensures ∙ c.edges.ensures.value in
    let found = subst (λ (es : List Edge). (place < length es) × ((edge_at es place).key ≡ c.args.key)) is c.in-Some.ensures.some in
    ap Some (c.of_edge.ensures ∙ c.index-edges-place.is ∙ ap (λ (es : List Edge). get_or es place e) is ∙ get_or_default edges place e no_edge found.0
    ∙ sym (only edges place j d c.edges.ensures.live.ascending found.0 l (found.1 ∙ sym same)))
