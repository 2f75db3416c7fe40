-- The parts are a forest before the first join.
use Rattle.std.proofs.Common.{◌≡◌, ◌+◌, ◌*◌, ℕ, List, map, length, sym, ap, subst, ◌∙◌, arith}
use Rattle.std.specs.List.{range_with_len}
use Rattle.tgap_model.specs.declared.geometry.Point.{Point}
use Rattle.tgap_model.specs.declared.base.BaseArc.{BaseArc}
use Rattle.tgap_model.specs.Base.{BaseMap}
use Rattle.tgap_model.specs.Partition.{IsPartition, base_segments}
use Rattle.edge_forest.specs.declared.growth.Growth.{Growth}
use Rattle.edge_forest.specs.Nodes.{AreNodes}
use Rattle.edge_forest.specs.Start.{single}
use Rattle.edge_forest.proofs.StartNet.{end_points_length}
use Rattle.edge_forest.proofs.Few.{few_at_start}
use Rattle.edge_forest.proofs.StartStored.{arcs_few, faces_few, arcs_long, arcs_below, AreOwnLabels, stored_by_copy, family_at_start}
use Rattle.edge_forest.proofs.start.start.Goals as goal

pub end_points-requires : goal.end_points-requires
end_points-requires c =
    let same = c.as_slice-arcs.ensures ∙ c.arcs.ensures.value in
    record { points = arcs_long c.base-base.result.now c.as_slice-arcs.result.now c.arcs.ensures.base same }

pub of-requires : goal.of-requires
of-requires c =
    let arcs = c.as_slice-arcs.result.now in
    let same = c.as_slice-arcs.ensures ∙ c.arcs.ensures.value in
    let few = arcs_few c.base-base.result.now arcs c.arcs.ensures.base same in
    record { small = omega (arith, few, ap length c.as_slice.ensures.value, ap length c.in_ok-points.ensures, end_points_length arcs) }

pub single_net-requires-clause-few : goal.single_net-requires-clause-few
single_net-requires-clause-few c =
    arcs_few c.base-base.result.now c.as_slice-arcs.result.now c.arcs.ensures.base (c.as_slice-arcs.ensures ∙ c.arcs.ensures.value)

pub single_net-requires-clause-nodes : goal.single_net-requires-clause-nodes
single_net-requires-clause-nodes c =
    subst (λ (points : List Point). AreNodes points c.in_ok-nodes.nodes) (c.as_slice.ensures.value ∙ c.in_ok-points.ensures) c.in_ok-nodes.ensures

pub single_edges-requires : goal.single_edges-requires
single_edges-requires c =
    record { few = arcs_few c.base-base.result.now c.as_slice-arcs.result.now c.arcs.ensures.base (c.as_slice-arcs.ensures ∙ c.arcs.ensures.value) }

pub face_keys-requires-clause-few : goal.face_keys-requires-clause-few
face_keys-requires-clause-few c =
    arcs_few c.base-base.result.now c.as_slice-arcs.result.now c.arcs.ensures.base (c.as_slice-arcs.ensures ∙ c.arcs.ensures.value)

pub face_keys-requires-clause-below : goal.face_keys-requires-clause-below
face_keys-requires-clause-below c =
    let many : c.len.result ≡ length c.base-base.result.now.classes = c.len.ensures ∙ ap length c.classes.ensures.value in
    arcs_below c.base-base.result.now c.as_slice-arcs.result.now c.len.result c.arcs.ensures.base (c.as_slice-arcs.ensures ∙ c.arcs.ensures.value) many

pub overflow_mul-faces : goal.overflow_mul-faces
overflow_mul-faces c = omega (arith, faces_few c.base-base.result.now c.len.result c.arcs.ensures.base (c.len.ensures ∙ ap length c.classes.ensures.value))

pub overflow_add-faces : goal.overflow_add-faces
overflow_add-faces c = omega (arith, faces_few c.base-base.result.now c.len.result c.arcs.ensures.base (c.len.ensures ∙ ap length c.classes.ensures.value))

pub overflow_cast-faces : goal.overflow_cast-faces
overflow_cast-faces c = omega (arith, faces_few c.base-base.result.now c.len.result c.arcs.ensures.base (c.len.ensures ∙ ap length c.classes.ensures.value))

pub returns-clause-stored : goal.returns-clause-stored
returns-clause-stored c =
    let m = c.base-base.result.now in
    let arcs = c.as_slice-arcs.result.now in
    let growth : Growth = record {
      base = c.args.checked;
      edges = c.in_ok-edges.edges;
      nodes = c.in_ok-nodes.nodes;
      net = c.in_ok-net.net;
      labels = c.in_ok-labels.labels;
      keys = c.in_ok-keys.keys;
    } in
    let partition = subst (λ (m : BaseMap). IsPartition (base_segments m)) (sym c.base-base.ensures.value) c.base-base.ensures.partition in
    let nodes = subst (λ (points : List Point). AreNodes points c.in_ok-nodes.nodes) (c.as_slice.ensures.value ∙ c.in_ok-points.ensures) c.in_ok-nodes.ensures in
    let many : c.len.result ≡ length m.classes = c.len.ensures ∙ ap length c.classes.ensures.value in
    stored_by_copy growth m arcs (sym c.base-base.ensures.value) (c.as_slice-arcs.ensures ∙ c.arcs.ensures.value) c.arcs.ensures.base partition nodes
    c.in_ok-net.ensures.net c.in_ok-net.ensures.rows c.in_ok-edges.ensures
    (c.in_ok-keys.ensures.count ∙ ap (λ (n : ℕ). 2 * n + 1) many) c.in_ok-keys.ensures.listed
    (subst (λ (n : ℕ). AreOwnLabels c.in_ok-labels.labels n) (ap (λ (n : ℕ). 2 * n + 1) many) (record {
      faces_count = c.in_ok-labels.ensures.faces_count;
      labels_count = c.in_ok-labels.ensures.labels_count;
      labels = c.in_ok-labels.ensures.labels;
      own = c.in_ok-labels.ensures.same;
    }))

pub returns-clause-singles : goal.returns-clause-singles
returns-clause-singles c =
    let arcs = c.as_slice-arcs.result.now in
    let same = c.as_slice-arcs.ensures ∙ c.arcs.ensures.value ∙ ap (λ (m : BaseMap). m.arcs) c.base-base.ensures.value in
    family_at_start arcs c.in_ok-edges.edges.items c.in_ok-net.net.rows.items c.in_ok-edges.ensures c.in_ok-net.ensures.rows
    ∙ ap (λ (arcs : List BaseArc). map single (range_with_len 0 (length arcs))) same

pub returns-clause-few : goal.returns-clause-few
returns-clause-few c =
    let same = c.as_slice-arcs.ensures ∙ c.arcs.ensures.value in
    few_at_start _ c.in_ok-edges.edges.items c.in_ok-net.net.rows.items (length c.as_slice-arcs.result.now) _ c.in_ok-edges.ensures _ c.in_ok-net.ensures.rows
    (ap length (same ∙ ap (λ (m : BaseMap). m.arcs) c.base-base.ensures.value))
