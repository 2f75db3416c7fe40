use Rattle.std.proofs.Common.{◌≡◌, ◌*◌, ◌<◌, ◌||◌, ◌==◌, Bool, true, false, List, [], ◌∷◌, ◌++◌, length, length-append, get_or, map, fold, All, sym, ap, ap₂, ◌∙◌, subst, arith}
use Rattle.std.specs.List.{list_any, range_with_len}
use Rattle.std.proofs.lemmas.List.{with_items_is}
use Rattle.std.proofs.lemmas.List.Elements.{All-nil, All-cons, All-append}
use Rattle.ring_walk.specs.declared.side.Side.{Side}
use Rattle.ring_walk.specs.Sides.{side_number, numbered}
use Rattle.ring_walk.specs.Rings.{ring_from, is_in_ring, with_ring_of, rings_of}
use Rattle.ring_walk.specs.Spans.{IsRing}
use Rattle.ring_walk.proofs.SideNumbers.{number_within}
use Rattle.ring_walk.proofs.Walks.{no_ring, one_ring, taken_more}
use Rattle.ring_walk.proofs.rings.rings_of.Goals as goal
use Rattle.ring_walk.proofs.rings.rings_of.Goals.{then-not-index+in_ok-ring+in_ok-push, else-not-index}

pub take_all-requires : goal.take_all-requires
take_all-requires c = λ k d l.
    let n = length c.args.spans.now in
    let ring = c.in_ok-ring.ring in
    let short : k < length ring = subst (λ (r : List Side). k < length r) c.as_slice.ensures l in
    let within = number_within n (get_or ring k d) (c.in_ok-ring.ensures.row.sides k d short) in
    subst (λ (r : List Side). side_number (get_or r k d) < length c.deref_mut.result.now) (sym c.as_slice.ensures)
    (omega (arith, within, ap length c.deref_mut.ensures.value, c.loop-number.invariant.long))

pub loop-number-preserved : goal.loop-number-preserved
loop-number-preserved c =
    let spans = c.args.spans.now in
    let n = length spans in
    let i = c.loop-number.number in
    let rings = c.loop-number.rings in
    let old = c.loop-number.taken.items in
    let inside : i < 2 * n = omega (arith, c.in_ok-next.ensures.long) in
    let is_taken : c.index.result.now ≡ is_in_ring rings (numbered i) = c.index.ensures ∙ c.loop-number.invariant.taken i c.index.result.now inside in
    elim c.if-not-index.branch [
      | then-not-index+in_ok-ring+in_ok-push w ↦
          let ring : w.in_ok-ring.ring ≡ ring_from spans (numbered i) = w.in_ok-ring.ensures.value ∙ ap (ring_from spans) w.numbered.ensures in
          let len : length w.take_all.new.taken ≡ c.loop-number.taken.len = omega (arith, w.take_all.auto.taken) in
          let new : c.if-not-index.taken.items ≡ w.take_all.new.taken = ap (λ v. v.items) w.taken-is ∙ with_items_is c.loop-number.taken w.take_all.new.taken len in
          let more : c.if-not-index.rings ≡ rings ++ ring_from spans (numbered i) ∷ [] = w.rings-is ∙ w.in_ok-push.ensures ∙ ap (λ (r : List Side). rings ++ r ∷ []) ring in
          let free : is_in_ring rings (numbered i) ≡ false = sym is_taken ∙ w.if-not-index.true in
          let before : w.deref_mut.result.now ≡ old = w.deref_mut.ensures.value in
          record {
            rings = more ∙ one_ring spans rings i c.loop-number.invariant.rings free;
            few = omega (arith, ap length more, length-append rings (ring_from spans (numbered i) ∷ []), c.loop-number.invariant.few);
            each = subst (All (IsRing n)) (sym (w.rings-is ∙ w.in_ok-push.ensures)) (All-append (IsRing n) rings (w.in_ok-ring.ring ∷ []) c.loop-number.invariant.each
                (All-cons (IsRing n) w.in_ok-ring.ring [] w.in_ok-ring.ensures.row (All-nil (IsRing n))));
            long = ap length new ∙ omega (arith, len, c.loop-number.invariant.long);
            taken = λ j d l. ap (λ (t : List Bool). get_or t j d) new
                ∙ taken_more rings (ring_from spans (numbered i)) old w.take_all.new.taken (2 * n) c.loop-number.invariant.long
                (λ k e m. w.take_all.ensures k e (subst (λ (t : List Bool). k < length t) (sym before) m)
                ∙ ap₂ (λ (t : List Bool) (r : List Side). get_or t k e || list_any (λ s. side_number s == k) r) before (w.as_slice.ensures ∙ ring))
                c.loop-number.invariant.taken j d l
                ∙ ap (λ (r : List (List Side)). is_in_ring r (numbered j)) (sym more);
          }
      | else-not-index w ↦
          let held : is_in_ring rings (numbered i) ≡ true = sym is_taken ∙ w.if-not-index.false in
          record {
            rings = w.rings-is ∙ no_ring spans rings i c.loop-number.invariant.rings held;
            few = omega (arith, ap length w.rings-is, c.loop-number.invariant.few);
            each = subst (All (IsRing n)) (sym w.rings-is) c.loop-number.invariant.each;
            long = ap (λ v. length v.items) w.taken-is ∙ c.loop-number.invariant.long;
            taken = λ j d l. ap (λ v. get_or v.items j d) w.taken-is ∙ c.loop-number.invariant.taken j d l ∙ ap (λ (r : List (List Side)). is_in_ring r (numbered j)) (sym w.rings-is);
          }
    ]

pub returns-clause-value : goal.returns-clause-value
unfolding rings_of
returns-clause-value c =
    let all : c.loop-number.number ≡ 2 * length c.args.spans.now = omega (arith, c.in_ok-next.ensures.long) in
    c.loop-number.invariant.rings ∙ ap (λ n. fold (with_ring_of c.args.spans.now) [] (map numbered (range_with_len 0 n))) all
