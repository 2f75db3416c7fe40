use Rattle.std.proofs.Common.{◌≡◌, ◌≢◌, ◌<◌, List, All, length, subst}
use Rattle.tgap_model.specs.declared.slice.Edge.{Edge}
use Rattle.grid_index.specs.Slots.{edge_at}
use Rattle.grid_index.proofs.Placing.{keys_put, put_moved, key_found}
use Rattle.grid_index.proofs.changes.put_edge.Goals as goal

pub returns-in-Some-clause-keys : goal.returns-in-Some-clause-keys
returns-in-Some-clause-keys c =
    let i = c.in-Some.place in
    let at = subst (λ (es : List Edge). (i < length es) × ((edge_at es i).key ≡ c.args.edge.key)) c.deref.ensures.value c.in-Some.ensures.some in
    keys_put c.args.edges.now.items i c.args.edge at.0 at.1

pub returns-in-Some-clause-moved : goal.returns-in-Some-clause-moved
returns-in-Some-clause-moved c =
    let i = c.in-Some.place in
    let at = subst (λ (es : List Edge). (i < length es) × ((edge_at es i).key ≡ c.args.edge.key)) c.deref.ensures.value c.in-Some.ensures.some in
    put_moved c.args.edges.now.items i c.args.edge c.requires.ascending at.0 at.1

pub returns-in_default-clause-moved : goal.returns-in_default-clause-moved
returns-in_default-clause-moved c =
    absurd (key_found c.args.edges.now.items c.args.edge.key c.requires.there (subst (All (λ e. e.key ≢ c.args.edge.key)) c.deref.ensures.value c.in_default.ensures.none))
