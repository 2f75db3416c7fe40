use Rattle.std.proofs.Common.{rules, ◌≡◌, ◌≤◌, ◌<◌, ◌+◌, [], ◌∷◌, ◌++◌, length, length-append, All, ap, refl, ◌∙◌, sym, subst, arith}
use Rattle.std.proofs.lemmas.List.Elements.{All-head, All-tail, All-push}
use Rattle.version_store.specs.Publishers.{numbers_of}
use Rattle.version_store.specs.Store.{seat_number, seat_numbers, AreSeatsFrom}
use Rattle.map_workers.specs.Seats.{SeesAll}
use Rattle.serving.proofs.Laters.{numbers_all, numbers_first, others_first, seat_at, seats_replaced, sees_one, sees_still, sees_told}
use Rattle.serving.proofs.later.with_later.Goals as goal

pub published-requires-clause-sees : goal.published-requires-clause-sees
published-requires-clause-sees g c =
    let listed : c.args.seats.items ≡ c.in-Some.first ∷ c.next.new.self.rest.items = sym c.into_iter-left.ensures.rest ∙ c.in-Some.ensures.items in
    All-head (SeesAll c.args.press.now) c.in-Some.first c.next.new.self.rest.items (subst (All (SeesAll c.args.press.now)) listed c.requires.sees)

pub loop-seat-init : goal.loop-seat-init
loop-seat-init g c =
    let listed : c.args.seats.items ≡ c.in-Some.first ∷ c.next.new.self.rest.items = sym c.into_iter-left.ensures.rest ∙ c.in-Some.ensures.items in
    let start : c.into_iter-seat-iterator.result.rest.items ≡ c.next.new.self.rest.items = search rules in
    let one = c.in_ok-published.field-0 in
    let e = c.in_ok-published.ensures in
    let told : c.push_reserved.new.self.items ≡ one ∷ [] = c.push_reserved.ensures.items ∙ ap (λ l. l ++ one ∷ []) c.in_ok-told.ensures.empty in
    let long : length c.push_reserved.new.self.items ≡ 1 = ap length told in
    let many = ap length listed in
    let room = c.in_ok-told.ensures.room in
    let same = c.push_reserved.ensures.capacity in
    let size = c.len.ensures in
    rw start (record {
      room = omega (arith, long, many, room, same, size);
      some = omega (arith, long);
      many = omega (arith, long, many);
      sees = sees_one c.published.new.press c.push_reserved.new.self.items one told e.sees;
      numbers = numbers_first c.args.seats.items c.push_reserved.new.self.items c.next.new.self.rest.items c.in-Some.first one listed told c.requires.numbers e.seat;
      others = others_first c.args.press.now c.args.seats.items c.next.new.self.rest.items c.in-Some.first listed c.requires.nobody c.requires.sees;
      versions = refl;
      publishers = refl;
    })

pub loop-seat-preserved : goal.loop-seat-preserved
loop-seat-preserved g c =
    let i = c.loop-seat.invariant in
    let seat = c.in-Some-seat.seat in
    let rest = c.next-in-loop-seat.new.self.rest.items in
    let before = c.loop-seat.told.items in
    let now = c.in_ok-told_of_all.field-0 in
    let e = c.in_ok-told_of_all.ensures in
    let first : c.loop-seat.seat-iterator.rest.items ≡ seat ∷ rest = search rules in
    let told : c.push_reserved-in-loop-seat.new.self.items ≡ before ++ now ∷ [] = c.push_reserved-in-loop-seat.ensures.items in
    let long : length c.push_reserved-in-loop-seat.new.self.items ≡ length before + 1 = ap length told ∙ length-append before (now ∷ []) in
    let left = ap length first in
    let same = c.push_reserved-in-loop-seat.ensures.capacity in
    let room = i.room in
    let some = i.some in
    let many = i.many in
    let numbers = subst (λ l. AreSeatsFrom 1 (before ++ l)) first i.numbers in
    let none = subst (All (λ other. seat_numbers other ≡ numbers_of (seat_number other) (0 ∷ []))) first i.others in
    let at = seat_at 1 before rest seat numbers in
    record {
      room = omega (arith, long, left, same, room);
      some = omega (arith, long);
      many = omega (arith, long, left, many);
      sees = subst (All (SeesAll c.told_of_all.new.press)) (sym told)
          (All-push (SeesAll c.told_of_all.new.press) before now (sees_still c.loop-seat.press c.told_of_all.new.press before e.versions e.publishers i.sees)
          (sees_told c.told_of_all.new.press seat now (length c.args.later.items) e.seen e.number e.numbers
          (All-head (λ other. seat_numbers other ≡ numbers_of (seat_number other) (0 ∷ [])) seat rest none) (omega (arith, at, some)) (e.publishers ∙ i.publishers ∙ c.in_ok-published.ensures.publishers)));
      numbers = subst (λ l. AreSeatsFrom 1 (l ++ rest)) (sym told) (seats_replaced 1 before rest seat now numbers e.number);
      others = All-tail (λ other. seat_numbers other ≡ numbers_of (seat_number other) (0 ∷ [])) seat rest none;
      versions = e.versions ∙ i.versions;
      publishers = e.publishers ∙ i.publishers;
    }

pub returns-clause-versions : goal.returns-clause-versions
returns-clause-versions g c = c.loop-seat.invariant.versions ∙ c.in_ok-published.ensures.versions

pub returns-clause-publishers : goal.returns-clause-publishers
returns-clause-publishers g c = c.loop-seat.invariant.publishers ∙ c.in_ok-published.ensures.publishers

pub returns-clause-numbers : goal.returns-clause-numbers
returns-clause-numbers g c =
    let done = sym c.loop-seat.seat-iterator.rest.ok.0 ∙ c.in-None.ensures.steps.0 in
    numbers_all c.loop-seat.told.items c.loop-seat.seat-iterator.rest.items done c.loop-seat.invariant.numbers
