use Rattle.std.proofs.Common.{◌<◌, ◌-◌, ◌^◌, ◌∙◌, ℕ, List, length, map, All, sym, ap, ap₂, subst, arith}
use Rattle.ring_walk.specs.declared.span.Span.{Span}
use Rattle.ring_walk.specs.declared.side.Side.{Side}
use Rattle.ring_walk.specs.Rings.{rings_of}
use Rattle.ring_walk.specs.Spans.{AreSpans, IsRing}
use Rattle.ring_walk.specs.Areas.{ring_area}
use Rattle.topo_write.specs.Building.{rings_in}
use Rattle.topo_write.specs.Polygons.{lines_of, of_face}
use Rattle.topo_write.proofs.SliceSpans.{are_spans, spans_long}
use Rattle.topo_write.proofs.measured.measure.Goals as goal

pub rings_of-requires : goal.rings_of-requires
rings_of-requires c = subst AreSpans (sym (c.deref.ensures.value ∙ c.in_ok-spans.ensures)) (are_spans c.args.edges.now c.args.ends.now c.requires)

pub areas_of-requires-clause-rings : goal.areas_of-requires-clause-rings
areas_of-requires-clause-rings c =
    let long = ap length (c.deref.ensures.value ∙ c.in_ok-spans.ensures) ∙ spans_long c.args.edges.now c.args.ends.now c.requires in
    subst (All (IsRing (length c.args.edges.now))) (sym c.as_slice.ensures) (subst (λ n. All (IsRing n) c.in_ok-rings.rings) long c.in_ok-rings.ensures.each)

pub by_face-requires-clause-few : goal.by_face-requires-clause-few
by_face-requires-clause-few c =
    let long = ap length (c.deref.ensures.value ∙ c.in_ok-spans.ensures) ∙ spans_long c.args.edges.now c.args.ends.now c.requires in
    omega (arith, c.in_ok-rings.ensures.few, long, c.requires.few, ap length c.as_slice-2.ensures)

pub returns : goal.returns
returns c =
    let rings = c.in_ok-rings.rings in
    let spans = c.deref.ensures.value ∙ c.in_ok-spans.ensures in
    let long = ap length spans ∙ spans_long c.args.edges.now c.args.ends.now c.requires in
    record {
      known = record {
        lines = c.requires.lines;
        each = subst (λ n. All (IsRing n) rings) long c.in_ok-rings.ensures.each;
        few = omega (arith, c.in_ok-rings.ensures.few, long, c.requires.few);
        areas = c.from.ensures ∙ c.in_ok-areas.ensures ∙ ap (map (ring_area (lines_of c.args.edges.now))) c.as_slice.ensures;
        places = subst (λ (rs : List (List Side)). All (All (λ p. p < length rs)) c.from-2.result) c.as_slice-2.ensures
            (subst (All (All (λ p. p < length c.as_slice-2.result.now))) (sym c.from-2.ensures) c.in_ok-groups.ensures.within);
        small = subst (All (λ (g : List ℕ). length g < 2 ^ 32 - 1)) (sym c.from-2.ensures) c.in_ok-groups.ensures.small;
      };
      rings = c.in_ok-rings.ensures.value ∙ ap rings_of spans;
      faces = λ f. ap₂ (λ (rs : List (List Side)) (gs : List (List ℕ)). rings_in rs gs f) (sym c.as_slice-2.ensures) c.from-2.ensures
          ∙ c.in_ok-groups.ensures.value f
          ∙ ap₂ (λ (ss : List Span) (rs : List (List Side)). of_face ss f rs) (c.deref-2.ensures.value ∙ c.in_ok-spans.ensures) c.as_slice-2.ensures;
    }
