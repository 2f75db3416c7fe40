-- A forest has fewer edges than 32 bits can count.
use Rattle.std.proofs.Common.{length, ap, ◌∙◌, arith}
use Rattle.std.proofs.lemmas.List.FromFn.{length-map-range_with_len}
use Rattle.edge_forest.specs.Forest.{EdgeForest}
use Rattle.tgap_build.specs.Boxes.{span_box}
use Rattle.tgap_build.proofs.boxed.BoxedForest.of.Goals as goal

pub of-requires : goal.of-requires
of-requires c =
    let f = c.args.forest in
    let edges = ap (λ (f : EdgeForest). length f.edges) c.forest.view_is in
    let count = ap length c.in_ok-list.ensures ∙ length-map-range_with_len (span_box f) 0 (length f.edges) in
    record { few = omega (arith, count, edges, c.forest.invariant.kept.few) }
