-- A slice with the ends of its edges can be written as a topology, and what is written is the answer.
use Rattle.std.proofs.Common.{◌≡◌, ℕ, ◌≤◌, List, [], ◌∷◌, length, All, sym, ap, ◌∙◌, arith}
use Rattle.std.specs.List.{AllZip}
use Rattle.std.proofs.lemmas.List.Elements.{All-cons, All-from_recursion, All-weaker}
use Rattle.std.proofs.lemmas.Slice.Zip.{AllZip-long}
use Rattle.tgap_model.specs.declared.base.Transform.{Transform}
use Rattle.tgap_model.specs.declared.slice.Edge.{Edge}
use Rattle.tgap_model.specs.declared.slice.Slice.{Slice}
use Rattle.tgap_model.specs.Base.{BaseMap}
use Rattle.tgap_model.specs.History.{history_of}
use Rattle.tgap_model.specs.Slice.{slice}
use Rattle.ring_walk.specs.declared.span.EdgeEnds.{EdgeEnds}
use Rattle.ring_walk.specs.Spans.{IsSpan}
use Rattle.slice_read.specs.Ends.{span_with, slice_ends, IsEdgeWithin, LeaveNodes}
use Rattle.topo_write.specs.Polygons.{spans_of}
use Rattle.topo_write.specs.Topology.{export}
use Rattle.topo_write.specs.Building.{IsLine, HaveEnds}
use Rattle.session.specs.Answers.{exported, topology_answer}
use Rattle.session.proofs.Steps.{in_history_there}

-- each span is one of an edge and its ends
spans_leave : (edges : List Edge) (ends : List EdgeEnds) → AllZip (λ e x. IsSpan (span_with e x)) edges ends → All IsSpan (spans_of edges ends)
spans_leave [] [] h = All-from_recursion IsSpan [] tt
spans_leave [] (x ∷ ends) h = absurd h
spans_leave (e ∷ edges) [] h = absurd h
spans_leave (e ∷ edges) (x ∷ ends) h = All-cons IsSpan (span_with e x) (spans_of edges ends) h.0 (spans_leave edges ends h.1)

-- what the edges of a slice keep is what is asked of them
pub have_ends : (edges : List Edge) (ends : List EdgeEnds) → LeaveNodes edges ends → HaveEnds edges ends
have_ends edges ends h = record {
  each = AllZip-long (λ e x. IsSpan (span_with e x)) edges ends h.leave;
  few = h.few;
  lines = All-weaker IsEdgeWithin (λ e. IsLine e.points) (λ e w. record { near = w.near; some = omega (arith, w.some); short = w.short }) edges h.within;
  leave = spans_leave edges ends h.leave;
}

-- what is written of the slice at a step
pub topology_is : (m : BaseMap) (k : ℕ) (s : Slice) (ends : List EdgeEnds) (t : Transform) → k ≤ length (history_of m)
    → s ≡ slice m k → ends ≡ slice_ends m k → t ≡ m.transform → exported (export s ends t) ≡ topology_answer m k
topology_is m k s ends t within is_slice are_ends is_transform =
    ap (λ (x : Slice). exported (export x ends t)) is_slice
    ∙ ap (λ (x : List EdgeEnds). exported (export (slice m k) x t)) are_ends
    ∙ ap (λ (x : Transform). exported (export (slice m k) (slice_ends m k) x)) is_transform
    ∙ sym (in_history_there m k (exported (export (slice m k) (slice_ends m k) m.transform)) within)
