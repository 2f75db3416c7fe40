use Rattle.std.proofs.Common.{◌≡◌, ◌∙◌, ◌++◌, [], ◌∷◌, List, length, map, All, refl, sym, ap, ap₂, subst, arith}
use Rattle.std.specs.List.{zip}
use Rattle.std.proofs.lemmas.List.{length-append, map-append}
use Rattle.std.proofs.lemmas.List.Elements.{All-push}
use Rattle.tgap_model.specs.declared.slice.Edge.{Edge}
use Rattle.ring_walk.specs.declared.span.EdgeEnds.{EdgeEnds}
use Rattle.ring_walk.specs.Spans.{IsSpan}
use Rattle.topo_write.specs.Building.{IsLine}
use Rattle.topo_write.specs.Polygons.{span_of, spans_of}
use Rattle.topo_write_tests.proofs.made.edges_of.Goals as goal

zip_more : (edges : List Edge) (ends : List EdgeEnds) (e : Edge) (x : EdgeEnds) → length ends ≡ length edges → zip (edges ++ e ∷ []) (ends ++ x ∷ []) ≡ zip edges ends ++ (e, x) ∷ []
zip_more [] [] e x same = refl
zip_more [] (y ∷ ends) e x same = absurd (omega arith)
zip_more (f ∷ edges) [] e x same = absurd (omega arith)
zip_more (f ∷ edges) (y ∷ ends) e x same = ap (λ (ps : List (Edge × EdgeEnds)). (f, y) ∷ ps) (zip_more edges ends e x (omega arith))

-- one edge more
leave_more : (edges more_edges : List Edge) (ends more_ends : List EdgeEnds) (e : Edge) (x : EdgeEnds) → length ends ≡ length edges → more_edges ≡ edges ++ e ∷ [] → more_ends ≡ ends ++ x ∷ [] → All IsSpan (spans_of edges ends)
    → IsSpan (span_of (e, x)) → All IsSpan (spans_of more_edges more_ends)
leave_more edges more_edges ends more_ends e x same pe px leave span =
    let more : spans_of more_edges more_ends ≡ spans_of edges ends ++ span_of (e, x) ∷ [] =
    ap₂ spans_of pe px ∙ ap (map span_of) (zip_more edges ends e x same) ∙ map-append span_of (zip edges ends) ((e, x) ∷ []) in
    subst (All IsSpan) (sym more) (All-push IsSpan (spans_of edges ends) (span_of (e, x)) leave span)

pub loop-line-preserved : goal.loop-line-preserved
loop-line-preserved c =
    let e = c.in_ok-edge.edge in
    let x = c.in_ok-ends_of.field-0 in
    let l = c.loop-line in
    record {
      each = omega (arith, l.invariant.each, ap length c.in_ok-push.ensures, ap length c.in_ok-push-2.ensures, length-append l.ends (x ∷ []), length-append l.edges (e ∷ []));
      few = omega (arith, l.invariant.few, ap length c.in_ok-push-2.ensures, length-append l.edges (e ∷ []));
      lines = subst (All (λ (f : Edge). IsLine f.points)) (sym c.in_ok-push-2.ensures) (All-push (λ (f : Edge). IsLine f.points) l.edges e l.invariant.lines c.in_ok-edge.ensures);
      leave = leave_more l.edges c.push-in-loop-line.new.self l.ends c.push.new.self e x l.invariant.each c.in_ok-push-2.ensures c.in_ok-push.ensures l.invariant.leave c.in_ok-ends_of.ensures;
    }
