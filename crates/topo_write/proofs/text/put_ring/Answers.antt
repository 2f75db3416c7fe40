use Rattle.std.proofs.Common.{◌∙◌, ◌++◌, map, sym, ap, arith}
use Rattle.std.proofs.lemmas.List.{get_or-map, length-map}
use Rattle.serde_json.specs.Data.{Data}
use Rattle.serde_json.specs.Written.{compact_text}
use Rattle.ring_walk.specs.declared.side.Side.{Side}
use Rattle.ring_walk.specs.declared.side.Way.TheVariants.{Along}
use Rattle.topo_write.specs.Topology.{index_data}
use Rattle.topo_write.proofs.Commas.{written_more, written_all}
use Rattle.topo_write.proofs.text.put_ring.Goals as goal

abbrev none : Side
none = record { span = 0; way = Along }

pub loop-place-preserved : goal.loop-place-preserved
loop-place-preserved c =
    let ring = c.args.ring.now in
    let i = c.loop-place.place in
    let long = length-map {A = Side} {B = Data} in
    written_more c.args.out.now c.loop-place.out c.put_comma.new.out c.put_index.new.out (map index_data ring) i (index_data none) (omega (arith, c.loop-place-test.true, long))
    c.loop-place.invariant c.in_ok-put_comma.ensures
    (c.in_ok-put_index.ensures ∙ ap (λ d. c.put_comma.new.out ++ compact_text d) (sym (get_or-map index_data ring i none (index_data none) c.loop-place-test.true)))

pub returns : goal.returns
returns c = written_all c.args.out.now c.loop-place.out c.push_slice-2.new.self (map index_data c.args.ring.now) c.loop-place.place (omega (arith, c.loop-place-test.false, length-map {A = Side} {B = Data})) c.loop-place.invariant c.in_ok-push_slice-2.ensures
