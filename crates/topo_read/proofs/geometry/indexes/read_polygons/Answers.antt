use Rattle.std.proofs.Common.{map, ap}
use Rattle.std.specs.Option.{ok_or}
use Rattle.std.proofs.lemmas.Result.{err_from_is_err_and}
use Rattle.serde_json.specs.View.{view}
use Rattle.tgap_model.specs.declared.fault.MapFault.TheVariants.{Shape}
use Rattle.tgap_model.specs.declared.failure.Or.TheVariants.{Fault}
use Rattle.line_forms.specs.Json.{each_of}
use Rattle.topology_forms.specs.Topology.{rings_of}
use Rattle.plain_io.proofs.Loops.{refused}
use Rattle.topo_read.proofs.Indexes.{none_before, array_more, array_stop, array_done, some_of_ok, fault_of_none}
use Rattle.topo_read.proofs.geometry.indexes.read_polygons.Goals as goal

pub loop-item-init : goal.loop-item-init
loop-item-init c = rw c.in_ok-polygons.ensures (none_before (each_of rings_of (map view c.in_ok-items.items.now)))

pub returns-in_err-rings : goal.returns-in_err-rings
returns-in_err-rings c =
    let p = err_from_is_err_and c.from_residual-in_err-rings.result c.from_residual-in_err-rings.ensures.1 in
    let l = c.loop-item in
    let bad = Shape 9 c.args.geometry in
    rw (p.1, p.2) (refused c.in_err-rings.field-0.0 (ok_or (rings_of (view c.item-item.result)) bad) _ (λ f e. fault_of_none (rings_of (view c.item-item.result)) _ bad f (λ none.
    array_stop rings_of l.polygons l.item-index c.item-item.result c.items_of.result c.in_ok-items.items (view c.args.value.now) (Fault bad) c.items_of.ensures c.in_ok-items.ensures l.invariant c.loop-item-test.true c.item-item.is none) e) c.in_err-rings.ensures)

pub loop-item-preserved : goal.loop-item-preserved
loop-item-preserved c =
    let l = c.loop-item in
    let found = some_of_ok (rings_of (view c.item-item.result)) c.in_ok-rings.rings (Shape 9 c.args.geometry) c.in_ok-rings.ensures in
    rw c.in_ok-push.ensures (array_more rings_of l.polygons l.item-index c.item-item.result c.in_ok-rings.rings c.in_ok-items.items.now l.invariant c.loop-item-test.true c.item-item.is found)

pub returns : goal.returns
returns c =
    let l = c.loop-item in
    ap (λ read. ok_or read (Shape 9 c.args.geometry))
    (array_done rings_of l.polygons l.item-index c.items_of.result c.in_ok-items.items (view c.args.value.now) (Fault (Shape 9 c.args.geometry)) c.items_of.ensures c.in_ok-items.ensures l.invariant c.loop-item-test.false)
