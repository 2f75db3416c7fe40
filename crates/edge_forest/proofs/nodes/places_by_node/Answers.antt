-- One more place stands last at its node.
use Rattle.std.proofs.Common.{◌≡◌, ◌<◌, ◌++◌, ◌∷◌, [], ℕ, List, length, get_or, ap, ◌∙◌, arith}
use Rattle.std.proofs.lemmas.List.{length-set, get_or_read}
use Rattle.std.proofs.lemmas.List.Elements.{All-get_or}
use Rattle.edge_forest.proofs.InOrder.{listed_more}
use Rattle.edge_forest.proofs.nodes.places_by_node.Goals as goal

pub loop-place-preserved : goal.loop-place-preserved
loop-place-preserved c =
    let i = c.loop-place.place in
    let node_of = c.args.node_of.now in
    let places = c.loop-place.places.items in
    let node = get_or node_of i 0 in
    let short : node < length places =
    omega (arith, c.loop-place.invariant.count, All-get_or (λ (n : ℕ). n < c.args.count) node_of i 0 c.loop-place-test.true c.requires.below) in
    let read : c.index_mut.result.now ≡ get_or places node [] = get_or_read places node c.index_mut.result.now short c.index_mut.ensures.value [] in
    record {
      count = length-set places node c.push.new.self ∙ c.loop-place.invariant.count;
      places = listed_more node_of i places c.push.new.self short c.loop-place.invariant.places
          (c.in_ok-push.ensures ∙ ap (λ (xs : List ℕ). xs ++ i ∷ []) read);
    }
