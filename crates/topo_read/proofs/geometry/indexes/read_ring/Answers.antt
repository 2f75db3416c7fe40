use Rattle.std.proofs.Common.{◌∙◌, sym, rules, map, ap}
use Rattle.std.specs.Option.{ok_or}
use Rattle.std.specs.Int.{w64}
use Rattle.std.specs.Prelude.{FitsSigned}
use Rattle.std.proofs.lemmas.Int.{to_z-of_z}
use Rattle.std.proofs.lemmas.Result.{err_from_is_err_and}
use Rattle.serde_json.specs.View.{view}
use Rattle.tgap_model.specs.declared.fault.MapFault.TheVariants.{Shape}
use Rattle.tgap_model.specs.declared.failure.Or.TheVariants.{Fault}
use Rattle.line_forms.specs.Json.{each_of, whole_of}
use Rattle.plain_io.proofs.Loops.{refused_at}
use Rattle.topo_read.proofs.Indexes.{none_before, array_more, array_stop, array_done, some_of_ok, none_of_err}
use Rattle.topo_read.proofs.geometry.indexes.read_ring.Goals as goal

pub loop-item-init : goal.loop-item-init
loop-item-init c = rw c.in_ok-indexes.ensures (none_before (each_of whole_of (map view c.in_ok-items.items.now)))

pub returns-in_err-index : goal.returns-in_err-index
returns-in_err-index c =
    let p = err_from_is_err_and c.from_residual-in_err-index.result c.from_residual-in_err-index.ensures.1 in
    let l = c.loop-item in
    let bad = Fault (Shape 9 c.args.geometry) in
    let none = none_of_err c.whole_of.result c.in_err-index.field-0.0 bad (sym c.in_err-index.ensures) in
    rw (p.1, p.2) (refused_at c.in_err-index.field-0.0 (Shape 9 c.args.geometry) _ none.0
    (array_stop whole_of l.indexes l.item-index c.item-item.result c.items_of.result c.in_ok-items.items (view c.args.ring.now) bad c.items_of.ensures c.in_ok-items.ensures l.invariant c.loop-item-test.true c.item-item.is (sym c.whole_of.ensures ∙ none.1)))

pub loop-item-preserved : goal.loop-item-preserved
loop-item-preserved c =
    let fits : FitsSigned w64 c.in_ok-index.index = search rules in
    let found = some_of_ok c.whole_of.result c.in_ok-index.index (Fault (Shape 9 c.args.geometry)) (sym c.in_ok-index.ensures) in
    rw (c.in_ok-push.ensures, to_z-of_z w64 c.in_ok-index.index fits)
    (array_more whole_of c.loop-item.indexes c.loop-item.item-index c.item-item.result c.in_ok-index.index c.in_ok-items.items.now c.loop-item.invariant c.loop-item-test.true c.item-item.is (sym c.whole_of.ensures ∙ found))

pub returns : goal.returns
returns c =
    let l = c.loop-item in
    ap (λ read. ok_or read (Shape 9 c.args.geometry))
    (array_done whole_of l.indexes l.item-index c.items_of.result c.in_ok-items.items (view c.args.ring.now) (Fault (Shape 9 c.args.geometry)) c.items_of.ensures c.in_ok-items.ensures l.invariant c.loop-item-test.false)
