use Rattle.std.proofs.Common.{◌≡◌, ℕ, suc, ◌+◌, ◌-◌, List, [], ◌∷◌, ◌++◌, length, get_or, All, sym, ap, ◌∙◌, subst, append_assoc, length-append, arith}
use Rattle.std.proofs.lemmas.List.{append-nil}
use Rattle.std.proofs.lemmas.List.Elements.{All-nil, All-cons, All-append}
use Rattle.ring_walk.specs.declared.span.Span.{Span}
use Rattle.ring_walk.specs.declared.side.Side.{Side}
use Rattle.ring_walk.specs.declared.side.Way.TheVariants.{Along}
use Rattle.ring_walk.specs.Rings.{next_side, row_until, ring_from}
use Rattle.ring_walk.specs.Spans.{IsSide}
use Rattle.ring_walk.proofs.Tables.{read_next, read_within}
use Rattle.ring_walk.proofs.Walks.{goes_on, comes_round}
use Rattle.ring_walk.proofs.rings.ring_from.Goals as goal

abbrev none : Side
none = record { span = 0; way = Along }

-- one side more of the row
more : (spans : List Span) (first t : Side) (ring new rest : List Side) (m n : ℕ) → new ≡ ring ++ t ∷ [] → m ≡ suc n → row_until (next_side spans) first (suc n) t ≡ t ∷ rest
    → ring ++ row_until (next_side spans) first m t ≡ ring_from spans first → new ++ rest ≡ ring_from spans first
more spans first t ring new rest m n e f g h =
    ap (λ (r : List Side). r ++ rest) e ∙ append_assoc ring (t ∷ []) rest ∙ ap (λ (r : List Side). ring ++ r) (sym g) ∙ ap (λ k. ring ++ row_until (next_side spans) first k t) (sym f) ∙ h

one_more : (n : ℕ) (ring new : List Side) (t : Side) → new ≡ ring ++ t ∷ [] → All (IsSide n) ring → IsSide n t → All (IsSide n) new
one_more n ring new t e h w = subst (All (IsSide n)) (sym e) (All-append (IsSide n) ring (t ∷ []) h (All-cons (IsSide n) t [] w (All-nil (IsSide n))))

pushed : (ring new : List Side) (t : Side) (k : ℕ) → new ≡ ring ++ t ∷ [] → length ring ≡ k → length new ≡ k + 1
pushed ring new t k e f = ap length e ∙ omega (arith, length-append ring (t ∷ []), f)

pub loop-preserved : goal.loop-preserved
loop-preserved c =
    let spans = c.args.spans.now in
    let t = c.loop.side in
    let m = length c.args.next.now - (c.loop.counter + 1) in
    let u = get_or c.args.next.now c.number.result none in
    let read : u ≡ next_side spans t = read_next spans c.args.next.now c.requires.next t c.loop.invariant.side c.number.result none c.number.ensures in
    record {
      row = more spans c.args.first t c.loop.ring c.push.new.self _ (length c.args.next.now - c.loop.counter) m c.in_ok-push.ensures (omega arith)
          (goes_on (next_side spans) c.args.first t u m read (sym c.is.ensures ∙ c.if-is.false)) c.loop.invariant.row;
      within = one_more (length spans) c.loop.ring c.push.new.self t c.in_ok-push.ensures c.loop.invariant.within c.loop.invariant.side;
      long = pushed c.loop.ring c.push.new.self t c.loop.counter c.in_ok-push.ensures c.loop.invariant.long;
      side = read_within spans c.args.next.now c.requires.next t c.loop.invariant.side c.number.result none c.number.ensures;
    }

pub returns-then-is-clause-value : goal.returns-then-is-clause-value
returns-then-is-clause-value c =
    let spans = c.args.spans.now in
    let t = c.loop.side in
    let m = length c.args.next.now - (c.loop.counter + 1) in
    let u = get_or c.args.next.now c.number.result none in
    let read : u ≡ next_side spans t = read_next spans c.args.next.now c.requires.next t c.loop.invariant.side c.number.result none c.number.ensures in
    sym (append-nil c.push.new.self)
    ∙ more spans c.args.first t c.loop.ring c.push.new.self [] (length c.args.next.now - c.loop.counter) m c.in_ok-push.ensures (omega arith)
    (comes_round (next_side spans) c.args.first t u m read (sym c.is.ensures ∙ c.if-is.true)) c.loop.invariant.row

pub returns-then-is-clause-row : goal.returns-then-is-clause-row
returns-then-is-clause-row c = record {
  sides = one_more (length c.args.spans.now) c.loop.ring c.push.new.self c.loop.side c.in_ok-push.ensures c.loop.invariant.within c.loop.invariant.side;
  short = omega (arith, pushed c.loop.ring c.push.new.self c.loop.side c.loop.counter c.in_ok-push.ensures c.loop.invariant.long, c.requires.next.long);
}
