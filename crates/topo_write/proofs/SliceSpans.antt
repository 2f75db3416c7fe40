-- The spans of a slice.
use Rattle.std.proofs.Common.{◌≡◌, ◌∙◌, suc, List, [], ◌∷◌, length, refl, ap, arith}
use Rattle.std.specs.List.{zip}
use Rattle.std.proofs.lemmas.List.{length-map}
use Rattle.tgap_model.specs.declared.slice.Edge.{Edge}
use Rattle.ring_walk.specs.declared.span.EdgeEnds.{EdgeEnds}
use Rattle.ring_walk.specs.Spans.{AreSpans}
use Rattle.topo_write.specs.Building.{HaveEnds}
use Rattle.topo_write.specs.Polygons.{span_of, spans_of}

length-zip : (edges : List Edge) (ends : List EdgeEnds) → length ends ≡ length edges → length (zip edges ends) ≡ length edges
length-zip [] [] e = refl
length-zip [] (x ∷ ends) e = absurd (omega arith)
length-zip (y ∷ edges) [] e = absurd (omega arith)
length-zip (y ∷ edges) (x ∷ ends) e = ap suc (length-zip edges ends (omega arith))

pub spans_long : (edges : List Edge) (ends : List EdgeEnds) → HaveEnds edges ends → length (spans_of edges ends) ≡ length edges
spans_long edges ends h = length-map (zip edges ends) span_of ∙ length-zip edges ends h.each

pub are_spans : (edges : List Edge) (ends : List EdgeEnds) → HaveEnds edges ends → AreSpans (spans_of edges ends)
are_spans edges ends h = record { few = omega (arith, spans_long edges ends h, h.few); each = h.leave }
