use Rattle.std.proofs.Common.{◌≡◌, ◌∙◌, ◌+◌, ◌-◌, ◌*◌, ◌++◌, ℕ, suc, List, [], ◌∷◌, length, sym, ap, subst, append_assoc, arith}
use Rattle.std.proofs.lemmas.List.{append-nil}
use Rattle.ring_walk.specs.declared.span.Span.{Span}
use Rattle.ring_walk.specs.declared.side.Side.{Side}
use Rattle.ring_walk.specs.Rings.{next_side, row_until, ring_from}
use Rattle.ring_walk.specs.Spans.{IsSide}
use Rattle.ring_walk.proofs.Walks.{goes_on, comes_round}
use Rattle.face_cuts.specs.Sectors.{spans_of}
use Rattle.face_cuts.proofs.SpansOfArcs.{count_spans, next_of_arc}
use Rattle.face_cuts.proofs.walk.ring_from.Goals as goal

-- one side more of the row
more : (spans : List Span) (first t : Side) (ring new rest : List Side) (m n : ℕ) → new ≡ ring ++ t ∷ [] → m ≡ suc n → row_until (next_side spans) first (suc n) t ≡ t ∷ rest
    → ring ++ row_until (next_side spans) first m t ≡ ring_from spans first → new ++ rest ≡ ring_from spans first
more spans first t ring new rest m n e f g h =
    ap (λ (r : List Side). r ++ rest) e ∙ append_assoc ring (t ∷ []) rest ∙ ap (λ (r : List Side). ring ++ r) (sym g) ∙ ap (λ k. ring ++ row_until (next_side spans) first k t) (sym f) ∙ h

pub loop-preserved : goal.loop-preserved
loop-preserved g c =
    let arcs = g.T.ArcTable.arcs c.args.table.now in
    let spans = spans_of arcs in
    let t = c.loop.side in
    let m = 2 * length spans - (c.loop.counter + 1) in
    let k : 2 * length spans - c.loop.counter ≡ suc m = omega (arith, c.loop-test.true, c.count-end.ensures, count_spans arcs) in
    record {
      side = subst (IsSide (length arcs)) (sym c.next-side.ensures) (next_of_arc arcs t c.loop.invariant.side);
      row = more spans c.args.first t c.loop.ring c.push.new.self _ (2 * length spans - c.loop.counter) m c.in_ok-push.ensures k
          (goes_on (next_side spans) c.args.first t c.next-side.result m c.next-side.ensures (sym c.is.ensures ∙ c.if-is.false)) c.loop.invariant.row;
    }

pub returns-then-is : goal.returns-then-is
returns-then-is g c =
    let arcs = g.T.ArcTable.arcs c.args.table.now in
    let spans = spans_of arcs in
    let t = c.loop.side in
    let m = 2 * length spans - (c.loop.counter + 1) in
    let k : 2 * length spans - c.loop.counter ≡ suc m = omega (arith, c.loop-test.true, c.count-end.ensures, count_spans arcs) in
    sym (append-nil c.push.new.self)
    ∙ more spans c.args.first t c.loop.ring c.push.new.self [] (2 * length spans - c.loop.counter) m c.in_ok-push.ensures k
    (comes_round (next_side spans) c.args.first t c.next-side.result m c.next-side.ensures (sym c.is.ensures ∙ c.if-is.true)) c.loop.invariant.row
