-- Arcs and their spans have the same sides.
use Rattle.std.proofs.Common.{◌≡◌, ℕ, ◌==◌, List, length, get_or, All, subst, arith}
use Rattle.std.proofs.lemmas.List.{length-map}
use Rattle.std.proofs.lemmas.List.Elements.{All-filter}
use Rattle.tgap_model.specs.declared.base.BaseArc.{BaseArc}
use Rattle.ring_walk.specs.declared.side.Side.{Side}
use Rattle.ring_walk.specs.Sides.{face_of, sides}
use Rattle.ring_walk.specs.Rings.{next_side}
use Rattle.ring_walk.specs.Spans.{IsRing, IsSide}
use Rattle.ring_walk.proofs.NextSides.{next_within}
use Rattle.ring_walk.proofs.SideNumbers.{all_sides_within}
use Rattle.face_cuts.specs.Moves.{IsRingOf}
use Rattle.face_cuts.specs.Sectors.{span_of, spans_of}
use Rattle.face_cuts.specs.Tables.{sides_beside}
use Rattle.face_cuts.proofs.OverRings.{ring_sides}

pub count_spans : (arcs : List BaseArc) → length (spans_of arcs) ≡ length arcs
count_spans arcs = length-map arcs span_of

pub of_arc : (arcs : List BaseArc) (s : Side) → IsSide (length (spans_of arcs)) s → IsSide (length arcs) s
of_arc arcs s l = omega (arith, l, count_spans arcs)

pub of_span : (arcs : List BaseArc) (s : Side) → IsSide (length arcs) s → IsSide (length (spans_of arcs)) s
of_span arcs s l = omega (arith, l, count_spans arcs)

pub next_of_arc : (arcs : List BaseArc) (s : Side) → IsSide (length arcs) s → IsSide (length arcs) (next_side (spans_of arcs) s)
next_of_arc arcs s l = of_arc arcs (next_side (spans_of arcs) s) (next_within (spans_of arcs) s (of_span arcs s l))

-- the sides beside a face are those of the arcs
pub beside_within : (arcs : List BaseArc) (f : ℕ) → All (IsSide (length arcs)) (sides_beside (spans_of arcs) f)
beside_within arcs f =
    let spans = spans_of arcs in
    let all = All-filter (λ s. face_of spans s == f) (IsSide (length spans)) (sides (length spans)) (all_sides_within (length spans)) in
    λ k d l. of_arc arcs (get_or (sides_beside spans f) k d) (all k d l)

-- so are those of rings
pub rings_within : (arcs : List BaseArc) (rings : List (List Side)) → All (IsRingOf (spans_of arcs)) rings → All (IsRing (length arcs)) rings
rings_within arcs rings formed =
    let all : All (IsRing (length (spans_of arcs))) rings = λ k d l. ring_sides (spans_of arcs) (get_or rings k d) (formed k d l) in
    subst (λ (n : ℕ). All (IsRing n) rings) (count_spans arcs) all
