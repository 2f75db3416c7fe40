use Rattle.std.proofs.Common.{Ok, Err}
use Rattle.tgap_model.specs.declared.limits.TheConstants.{MAX_MAP_BYTES}
use Rattle.plain_io.specs.declared.files.Which.TheVariants.{Rules}
use Rattle.commands.specs.Command.{Topology}
use Rattle.commands.specs.Answers.{Failed}
use Rattle.commands.specs.MapFile.{map_file, rules_file}
use Rattle.commands.proofs.Loads.{passed_on, rules_passed_on, of_both, stay_after, fetched_later, second_failed}
use Rattle.commands.proofs.load.load_topology.Goals as goal

pub returns-in_err-map-clause-read : goal.returns-in_err-map-clause-read
returns-in_err-map-clause-read g c =
    passed_on (Topology c.args.map.now c.args.object.now c.args.rules.now) (g.F.Files.told c.args.files.now)
    (Failed (g.F.Files.faults c.args.files.now) (g.F.Files.faults c.load.new.files))
    c.in_err-map.field-0.0 c.from_residual.result c.from_residual.ensures.1 c.in_err-map.ensures.fetched

pub returns-in_err-rules-clause-read : goal.returns-in_err-rules-clause-read
returns-in_err-rules-clause-read g c =
    let told = g.F.Files.told c.args.files.now in
    let before = g.F.Files.faults c.args.files.now in
    let now = g.F.Files.faults c.load-2.new.files in
    rules_passed_on c.args.map.now c.args.object.now c.args.rules.now told (Failed before now) c.in_ok-map.map c.in_ok-map.ensures.fetched
    c.in_err-rules.field-0.0 c.from_residual-in_err-rules.result c.from_residual-in_err-rules.ensures.1
    (fetched_later (told Rules c.args.rules.now) _ MAX_MAP_BYTES Rules before (g.F.Files.faults c.load.new.files) now (Err c.in_err-rules.field-0.0)
    (c.in_ok-map.ensures.told Rules c.args.rules.now)
    (stay_after (map_file c.args.map.now) before (g.F.Files.faults c.load.new.files) c.in_ok-map.map c.in_ok-map.ensures.counts) c.in_err-rules.ensures.fetched)

pub returns-in_err-rules-clause-counts : goal.returns-in_err-rules-clause-counts
returns-in_err-rules-clause-counts g c =
    let before = g.F.Files.faults c.args.files.now in
    let middle = g.F.Files.faults c.load.new.files in
    second_failed (map_file c.args.map.now) (rules_file c.args.rules.now) before middle (g.F.Files.faults c.load-2.new.files)
    c.in_err-rules.field-0.0 c.from_residual-in_err-rules.result (stay_after (map_file c.args.map.now) before middle c.in_ok-map.map c.in_ok-map.ensures.counts)
    c.from_residual-in_err-rules.ensures.1 c.in_err-rules.ensures.counts

pub returns-clause-read : goal.returns-clause-read
returns-clause-read g c =
    let told = g.F.Files.told c.args.files.now in
    let before = g.F.Files.faults c.args.files.now in
    let now = g.F.Files.faults c.load-2.new.files in
    of_both c.args.map.now c.args.object.now c.args.rules.now told (Failed before now) c.in_ok-map.map c.in_ok-map.ensures.fetched
    c.in_ok-rules.rules c.read_topology_base.result
    (fetched_later (told Rules c.args.rules.now) _ MAX_MAP_BYTES Rules before (g.F.Files.faults c.load.new.files) now (Ok c.in_ok-rules.rules)
    (c.in_ok-map.ensures.told Rules c.args.rules.now)
    (stay_after (map_file c.args.map.now) before (g.F.Files.faults c.load.new.files) c.in_ok-map.map c.in_ok-map.ensures.counts) c.in_ok-rules.ensures.fetched)
    (rw (c.as_slice.ensures, c.as_slice-2.ensures) at c.read_topology_base.ensures)
