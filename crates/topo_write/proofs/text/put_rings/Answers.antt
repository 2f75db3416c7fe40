use Rattle.std.proofs.Common.{◌≡◌, ◌∙◌, ◌++◌, [], ℕ, map, get_or, sym, ap, arith}
use Rattle.std.proofs.lemmas.List.{get_or-map, length-map, get_or_default}
use Rattle.serde_json.specs.Data.{Data}
use Rattle.serde_json.specs.Written.{compact_text}
use Rattle.topo_write.specs.Building.{ring_at}
use Rattle.topo_write.specs.Topology.{ring_data}
use Rattle.topo_write.proofs.Commas.{written_more, written_all}
use Rattle.topo_write.proofs.text.put_rings.Goals as goal

pub loop-place-preserved : goal.loop-place-preserved
loop-place-preserved c =
    let rings = c.args.rings.now in
    let places = c.args.places.now in
    let i = c.loop-place.place in
    let long = length-map {A = ℕ} {B = Data} in
    let p = get_or places i 0 in
    let read : c.as_slice.result.now ≡ ring_at rings p = c.as_slice.ensures ∙ c.index-rings-places.is ∙ get_or_default rings p c.index-rings-places.result [] (c.requires i 0 c.loop-place-test.true) in
    written_more c.args.out.now c.loop-place.out c.put_comma.new.out c.put_ring.new.out (map (λ q. ring_data (ring_at rings q)) places) i (ring_data (ring_at rings 0)) (omega (arith, c.loop-place-test.true, long))
    c.loop-place.invariant c.in_ok-put_comma.ensures
    (c.in_ok-put_ring.ensures ∙ ap (λ r. c.put_comma.new.out ++ compact_text (ring_data r)) read
    ∙ ap (λ d. c.put_comma.new.out ++ compact_text d) (sym (get_or-map (λ q. ring_data (ring_at rings q)) places i 0 (ring_data (ring_at rings 0)) c.loop-place-test.true)))

pub returns : goal.returns
returns c = written_all c.args.out.now c.loop-place.out c.push_slice-2.new.self (map (λ p. ring_data (ring_at c.args.rings.now p)) c.args.places.now) c.loop-place.place (omega (arith, c.loop-place-test.false, length-map {A = ℕ} {B = Data})) c.loop-place.invariant c.in_ok-push_slice-2.ensures
