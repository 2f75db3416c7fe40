use Rattle.std.proofs.Common.{arith}
use Rattle.std.proofs.lemmas.Result.{err_from_is_err_and}
use Rattle.serde_json.specs.View.{view}
use Rattle.plain_io.proofs.Loops.{refused}
use Rattle.topo_read.specs.Parts.{parts_of, parts_seen}
use Rattle.topo_read.proofs.InParts.{parts_stop, parts_go_on, few_in_parts}
use Rattle.topo_read.proofs.read_map.Goals as goal

pub returns-in_err-parts-clause-exact : goal.returns-in_err-parts-clause-exact
returns-in_err-parts-clause-exact c =
    let p = err_from_is_err_and c.from_residual.result c.from_residual.ensures.1 in
    let d = view c.args.tree.now in
    rw (p.1, p.2) (refused c.in_err-parts.field-0.0 (parts_of d c.args.object.now) _ (λ f e. parts_stop d c.args.object.now c.args.property.now f e) c.in_err-parts.ensures)

pub read_parts-requires : goal.read_parts-requires
read_parts-requires c = omega (arith, few_in_parts (view c.args.tree.now) c.args.object.now (parts_seen c.in_ok-parts.parts) c.in_ok-parts.ensures, c.requires)

pub returns-clause-exact : goal.returns-clause-exact
returns-clause-exact c = rw (parts_go_on (view c.args.tree.now) c.args.object.now c.args.property.now (parts_seen c.in_ok-parts.parts) c.in_ok-parts.ensures) c.read_parts.ensures.exact
