use Rattle.std.proofs.Common.{◌≡◌, ◌∙◌, ◌++◌, ◌<◌, ◌-ℤ◌, length, get_or, sym, ap, arith}
use Rattle.serde_json.specs.Data.{null}
use Rattle.serde_json.specs.Written.{compact_text}
use Rattle.tgap_model.specs.declared.geometry.Point.{Point}
use Rattle.ring_walk.specs.Sides.{origin}
use Rattle.topo_write.specs.Topology.{deltas, pair}
use Rattle.topo_write.proofs.Commas.{written_more, written_all}
use Rattle.topo_write.proofs.Deltas.{length-deltas, delta_at, next_in_front}
use Rattle.topo_write.proofs.text.put_arc.Goals as goal

pub loop-place-preserved : goal.loop-place-preserved
loop-place-preserved c =
    let points = c.args.points.now in
    let i = c.loop-place.place in
    let at = c.loop-place.at in
    let p = get_or points i origin in
    let long = length-deltas origin points in
    let inside : i < length points = omega arith in
    let told : pair (p.x -ℤ at.x) (p.y -ℤ at.y) ≡ get_or (deltas origin points) i null =
    ap (λ (q : Point). pair (p.x -ℤ q.x) (p.y -ℤ q.y)) c.loop-place.invariant.at ∙ sym (delta_at origin points i null origin inside) in
    record {
      out = written_more c.args.out.now c.loop-place.out c.put_comma.new.out c.put_delta.new.out (deltas origin points) i null (omega (arith, inside, long)) c.loop-place.invariant.out c.in_ok-put_comma.ensures
          (c.in_ok-put_delta.ensures ∙ ap (λ d. c.put_comma.new.out ++ compact_text d) told);
      at = next_in_front origin points i origin inside;
      near = c.requires i origin inside;
    }

pub returns : goal.returns
returns c = written_all c.args.out.now c.loop-place.out c.push_slice-2.new.self (deltas origin c.args.points.now) c.loop-place.place (omega (arith, c.loop-place-test.false, length-deltas origin c.args.points.now)) c.loop-place.invariant.out c.in_ok-push_slice-2.ensures
