use Rattle.std.proofs.Common.{◌<◌, ◌++◌, List, AllPairs, All, Contains, IsPermutation, sym, ap, ◌∙◌, subst}
use Rattle.tgap_model.specs.declared.slice.Edge.{Edge}
use Rattle.grid_index.specs.Live.{keys, without_keys}
use Rattle.grid_index.proofs.Placing.{ascend_alike, changed_same, ascend_without}
use Rattle.grid_index.proofs.changes.changed_in_place.Goals as goal

pub put_edges-requires-clause-there : goal.put_edges-requires-clause-there
put_edges-requires-clause-there c = subst (λ (l : List Edge). All (λ e. Contains (keys l) e.key) c.args.come.items) (sym c.into_vec-edges.ensures) c.requires.there

pub take_out-requires-clause-edges : goal.take_out-requires-clause-edges
take_out-requires-clause-edges c = ascend_alike c.args.edges c.put_edges.new.edges.items (c.put_edges.ensures.keys ∙ ap keys c.into_vec-edges.ensures) c.requires.edges

pub returns-clause-same : goal.returns-clause-same
returns-clause-same c =
    let come = c.args.come.items in
    let mid = c.put_edges.new.edges.items in
    let ended = c.args.ended.now in
    subst (IsPermutation (without_keys ended (without_keys (keys come) c.args.edges) ++ come)) (sym (c.from.ensures ∙ c.take_out.ensures))
    (changed_same ended c.args.edges come mid c.requires.stay
    (subst (λ (l : List Edge). IsPermutation (without_keys (keys come) l ++ come) mid) c.into_vec-edges.ensures c.put_edges.ensures.moved))

pub returns-clause-ascending : goal.returns-clause-ascending
returns-clause-ascending c =
    let mid = c.put_edges.new.edges.items in
    subst (AllPairs (λ e f. e.key < f.key)) (sym (c.from.ensures ∙ c.take_out.ensures))
    (ascend_without c.args.ended.now mid (ascend_alike c.args.edges mid (c.put_edges.ensures.keys ∙ ap keys c.into_vec-edges.ensures) c.requires.edges))
