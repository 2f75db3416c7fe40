use Rattle.std.proofs.Common.{◌≡◌, ◌<◌, ◌≤◌, ◌∙◌, ℕ, ℤ, List, length, get_or, All, sym, ap, subst, to_z, of_z, unsigned_abs, arith}
use Rattle.std.specs.Int.{w128}
use Rattle.std.proofs.lemmas.Int.{ints}
use Rattle.std.proofs.lemmas.List.{take_all}
use Rattle.std.proofs.lemmas.List.Elements.{All-nil}
use Rattle.tgap_model.specs.declared.geometry.Point.{Point}
use Rattle.tgap_model.specs.declared.slice.Edge.{Edge}
use Rattle.tgap_model.specs.declared.limits.TheConstants.{MAX_POINTS}
use Rattle.tgap_model.specs.Bounds.{IsNear, max_arc_area}
use Rattle.tgap_model.specs.Point.{shoelace}
use Rattle.topo_write.specs.Building.{IsLine, AreSums}
use Rattle.topo_write.specs.Polygons.{lines_of}
use Rattle.topo_write.proofs.RingAreas.{sums_more}
use Rattle.topo_write.proofs.areas.sums_of.Goals as goal

line : (edges : List Edge) (i : ℕ) (e : Edge) → All (λ f. IsLine f.points) edges → i < length edges → e ≡ get_or edges i e → IsLine e.points
line edges i e h l is = subst (λ (f : Edge). IsLine f.points) (sym is) (h i e l)

pub shoelace-requires : goal.shoelace-requires
shoelace-requires c =
    let h = line c.args.edges.now c.loop-edge.edge-index c.edge-item.result c.requires c.loop-edge-test.true c.edge-item.is in
    record {
      near = subst (All IsNear) (sym c.as_slice.ensures) h.near;
      short = subst (λ (ps : List Point). length ps ≤ MAX_POINTS) (sym c.as_slice.ensures) h.short;
    }

pub loop-edge-init : goal.loop-edge-init
loop-edge-init c = record { value = c.in_ok-sums.ensures.items; size = subst (All (λ (z : ℤ). unsigned_abs z ≤ max_arc_area)) (sym c.in_ok-sums.ensures.items) (All-nil (λ (z : ℤ). unsigned_abs z ≤ max_arc_area)) }

pub loop-edge-preserved : goal.loop-edge-preserved
loop-edge-preserved c =
    let z = c.shoelace.result in
    let h = line c.args.edges.now c.loop-edge.edge-index c.edge-item.result c.requires c.loop-edge-test.true c.edge-item.is in
    let same : to_z w128 (of_z w128 z) ≡ z = omega (arith, ints) in
    let more = sums_more c.args.edges.now c.loop-edge.edge-index c.edge-item.result c.loop-edge.sums.items z _ c.loop-edge-test.true c.edge-item.is h c.loop-edge.invariant
    (c.shoelace.ensures ∙ ap shoelace c.as_slice.ensures) same in
    rw c.in_ok-push.ensures.items more

pub returns : goal.returns
returns c = subst (λ (es : List Edge). AreSums (lines_of es) c.loop-edge.sums.items) (take_all c.loop-edge.edge-index c.args.edges.now (omega arith)) c.loop-edge.invariant
