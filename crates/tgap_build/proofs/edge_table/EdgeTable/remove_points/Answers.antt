-- One more edge is less the points.
use Rattle.std.proofs.Common.{◌<◌, ◌∷◌, [], ℕ, List, map, take, get_or, refl, sym, ap, ◌∙◌, subst}
use Rattle.std.proofs.lemmas.List.{take_all, take_more}
use Rattle.tgap_build.specs.Table.{labelled_edges}
use Rattle.tgap_build.specs.Changes.{less_at}
use Rattle.tgap_build.proofs.LessEdges.{less_none, less_more}
use Rattle.tgap_build.proofs.edge_table.EdgeTable.remove_points.Goals as goal

pub loop-key-init : goal.loop-key-init
loop-key-init c = record {
  table = c.requires.table;
  edges = sym (less_none c.args.gone.now (labelled_edges c.args.self.now));
  labels = refl;
  room = record { places = refl; lists = refl };
}

pub take_points-requires-clause-key : goal.take_points-requires-clause-key
take_points-requires-clause-key c =
    subst (λ (n : ℕ). get_or c.args.losing.now c.loop-key.key-index 0 < n) (sym c.loop-key.invariant.room.places)
    (c.requires.room c.loop-key.key-index 0 c.loop-key-test.true)

pub loop-key-preserved : goal.loop-key-preserved
loop-key-preserved c =
    let gone = c.args.gone.now in
    let ks = c.args.losing.now in
    let i = c.loop-key.key-index in
    let first = labelled_edges c.args.self.now in
    let inv = c.loop-key.invariant in
    let room = c.take_points.ensures.room in
    record {
      table = c.take_points.ensures.table;
      edges = c.take_points.ensures.edges ∙ ap (map (less_at gone (get_or ks i 0 ∷ []))) inv.edges ∙ less_more gone (take i ks) (get_or ks i 0) first
          ∙ ap (λ (js : List ℕ). map (less_at gone js) first) (sym (take_more ks i 0 c.loop-key-test.true));
      labels = c.take_points.ensures.labels ∙ inv.labels;
      room = record { places = room.places ∙ inv.room.places; lists = room.lists ∙ inv.room.lists };
    }

pub returns-clause-edges : goal.returns-clause-edges
returns-clause-edges c =
    c.loop-key.invariant.edges
    ∙ ap (λ (js : List ℕ). map (less_at c.args.gone.now js) (labelled_edges c.args.self.now)) (take_all c.loop-key.key-index c.args.losing.now c.loop-key-test.false)
