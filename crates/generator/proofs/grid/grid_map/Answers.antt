-- The parts are those of the generated map, which is a base map and a planar partition.
use Rattle.std.proofs.Common.{◌≡◌, true, length, sym, ap, ◌∙◌, subst}
use Rattle.tgap_model.specs.Base.{BaseMap, is_base, count_points}
use Rattle.tgap_model.specs.Partition.{IsPartition, base_segments}
use Rattle.generator.specs.GridMap.{grid_base}
use Rattle.generator.proofs.GridBase.{made_of_parts, grid_is_base, count_classes, count_arcs, count_all_points}
use Rattle.generator.proofs.GridPartition.{grid_is_partition}
use Rattle.generator.proofs.grid.grid_map.Goals as goal

pub unreachable-requires : goal.unreachable-requires
unreachable-requires c =
    let made = made_of_parts c.args.n c.in_ok-rules.rules c.in_ok-classes.classes c.in_ok-arcs.arcs c.requires.from c.requires.to c.in_ok-rules.ensures c.in_ok-classes.ensures c.in_ok-arcs.ensures in
    cc c.in-None.ensures

pub returns-clause-map : goal.returns-clause-map
returns-clause-map c =
    let made = made_of_parts c.args.n c.in_ok-rules.rules c.in_ok-classes.classes c.in_ok-arcs.arcs c.requires.from c.requires.to c.in_ok-rules.ensures c.in_ok-classes.ensures c.in_ok-arcs.ensures in
    cc c.in-Some.ensures

pub returns-clause-partition : goal.returns-clause-partition
returns-clause-partition c = subst (λ (m : BaseMap). IsPartition (base_segments m)) (sym (returns-clause-map c)) (grid_is_partition c.args.n c.requires.from c.requires.to)

pub returns-clause-base : goal.returns-clause-base
returns-clause-base c = subst (λ (m : BaseMap). is_base m ≡ true) (sym (returns-clause-map c)) (grid_is_base c.args.n c.requires.from c.requires.to)

pub returns-clause-faces : goal.returns-clause-faces
unfolding grid_base
returns-clause-faces c = ap (λ (m : BaseMap). length m.classes) (returns-clause-map c) ∙ count_classes c.args.n

pub returns-clause-arcs : goal.returns-clause-arcs
unfolding grid_base
returns-clause-arcs c = ap (λ (m : BaseMap). length m.arcs) (returns-clause-map c) ∙ count_arcs c.args.n

pub returns-clause-points : goal.returns-clause-points
unfolding grid_base
returns-clause-points c = ap (λ (m : BaseMap). count_points m.arcs) (returns-clause-map c) ∙ count_all_points c.args.n
