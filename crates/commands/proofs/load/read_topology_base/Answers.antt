use Rattle.commands.proofs.Loads.{rules_refused, topology_refused, rings_refused}
use Rattle.commands.proofs.load.read_topology_base.Goals as goal

pub returns-in_err-named : goal.returns-in_err-named
returns-in_err-named c =
    rules_refused c.args.map.now c.args.object.now c.args.rules.now c.in_err-named.field-0.0 c.from_residual.result c.from_residual.ensures.1
    c.in_err-named.ensures.exact

pub returns-in_err-raw : goal.returns-in_err-raw
returns-in_err-raw c =
    topology_refused c.args.map.now c.args.object.now c.args.rules.now c.in_ok-named.named c.in_err-raw.field-0.0 c.from_residual-in_err-raw.result
    c.from_residual-in_err-raw.ensures.1 c.in_ok-named.ensures.exact (rw c.utf8_of-property.ensures at c.in_err-raw.ensures.exact)

pub returns-in_err-to_base : goal.returns-in_err-to_base
returns-in_err-to_base c =
    rings_refused c.args.map.now c.args.object.now c.args.rules.now c.in_ok-named.named c.in_ok-raw.raw c.in_err-to_base.field-0.0
    c.from_residual-in_err-to_base.result c.from_residual-in_err-to_base.ensures.1 c.in_ok-named.ensures.exact
    (rw c.utf8_of-property.ensures at c.in_ok-raw.ensures.exact) c.in_err-to_base.ensures.exact

pub returns : goal.returns
returns c = record {
  named = c.in_ok-named.named;
  raw = c.in_ok-raw.raw;
  rules_are = c.in_ok-named.ensures.exact;
  topology_is = rw c.utf8_of-property.ensures at c.in_ok-raw.ensures.exact;
  rings_make = c.in_ok-to_base.ensures.exact;
}
