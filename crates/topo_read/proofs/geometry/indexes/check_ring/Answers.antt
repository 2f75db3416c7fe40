use Rattle.std.proofs.Common.{◌∙◌, sym, ap, rules, arith, pos, get_or, Ok}
use Rattle.std.specs.Int.{w64}
use Rattle.std.specs.Prelude.{FitsSigned}
use Rattle.std.proofs.lemmas.Int.{to_z-of_z}
use Rattle.topology_forms.specs.Topology.{names_arc, index_read}
use Rattle.topo_read.proofs.Indexes.{through_none, index_more, index_stop, index_done, index_raw}
use Rattle.topo_read.proofs.geometry.indexes.check_ring.Goals as goal

pub loop-place-init : goal.loop-place-init
loop-place-init c = through_none (index_read c.args.arcs c.args.ring) (names_arc c.args.arcs) 0 c.args.indexes.now

pub returns-then-not-names_arc-clause-checked : goal.returns-then-not-names_arc-clause-checked
returns-then-not-names_arc-clause-checked c =
    let place = c.loop-place.place in
    let i = get_or c.args.indexes.now place (pos 0) in
    let fits : FitsSigned w64 i = search rules in
    let fails = rw (to_z-of_z w64 i fits) at (sym c.names_arc.ensures ∙ c.if-not-names_arc.true) in
    rw (to_z-of_z w64 i fits) (index_stop c.args.arcs c.args.ring place c.args.indexes.now c.loop-place.invariant c.loop-place-test.true fails)

pub loop-place-preserved : goal.loop-place-preserved
loop-place-preserved c =
    let place = c.loop-place.place in
    let i = get_or c.args.indexes.now place (pos 0) in
    let fits : FitsSigned w64 i = search rules in
    let passes = rw (to_z-of_z w64 i fits) at (sym c.names_arc.ensures ∙ c.if-not-names_arc.false) in
    index_more c.args.arcs c.args.ring place c.args.indexes.now c.loop-place.invariant c.loop-place-test.true (omega arith) passes

pub returns-clause-checked : goal.returns-clause-checked
returns-clause-checked c =
    index_done c.args.arcs c.args.ring c.loop-place.place c.args.indexes.now c.loop-place.invariant c.loop-place-test.false ∙ ap Ok (omega (arith, c.saturating_add.ensures))

pub returns-clause-raw : goal.returns-clause-raw
returns-clause-raw c =
    index_raw c.args.arcs c.args.ring c.loop-place.place c.args.indexes.now c.loop-place.invariant c.loop-place-test.false c.if-indexes.false
