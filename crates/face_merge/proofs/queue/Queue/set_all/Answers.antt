-- One more place is set, and all others stay.
use Rattle.std.proofs.Common.{◌≡◌, ◌<◌, ◌⊎◌, inl, inr, ℕ, ℤ, Bool, true, false, ◌||◌, ◌==◌, ◌+◌, List, length, take, get_or, cond, sym, refl, ◌∙◌, ap, subst, arith, pos, to_z, of_z, ne_eqb, eq-eqb, get_or-set_same, get_or-set_other, length-set}
use Rattle.std.specs.Int.{w128}
use Rattle.std.specs.List.{All}
use Rattle.std.proofs.lemmas.Int.{ints, to_z-of_z}
use Rattle.std.proofs.lemmas.Bool.{cases_eq, cond-true, cond-false}
use Rattle.std.proofs.lemmas.List.{take_all, take_more}
use Rattle.std.proofs.lemmas.List.Elements.{All-get_or}
use Rattle.face_merge.specs.declared.queue.Place.{Place}
use Rattle.face_merge.specs.Queue.{waits, count_at, lists, AreWaiting}
use Rattle.face_merge.proofs.Queued.{lists_push, waiting_set}
use Rattle.face_merge.proofs.queue.Queue.set_all.Goals as goal

abbrev no_place : Place
no_place = record { importance = pos 0; number = 0; slot = 0; permitted = 0 }

-- one more place is listed
lists_more : (places : List Place) (i : ℕ) (d : Place) (s : ℕ) → i < length places → lists (take (i + 1) places) s ≡ (lists (take i places) s || ((get_or places i d).slot == s))
lists_more places i d s inside = ap (λ (xs : List Place). lists xs s) (take_more places i d inside) ∙ lists_push (take i places) (get_or places i d) s

module _ (c : goal.In_ok-set) where
  places : List Place
  places = c.args.places.now

  abbrev place : Place
  place = get_or c.args.places.now c.loop-place.place-index no_place

  here : count_at c.set.new.self place.slot ≡ place.permitted
  here =
      let inside = All-get_or (λ (x : Place). x.slot < length c.args.self.now.counts.items) c.args.places.now c.loop-place.place-index no_place c.loop-place-test.true c.requires in
      ap (λ (xs : List ℕ). get_or xs place.slot 0) c.in_ok-set.ensures.counts ∙ get_or-set_same c.loop-place.self.counts.items place.slot place.permitted 0 (omega (arith, inside, c.loop-place.invariant.slots))

  there : (t : ℕ) → (t ≡ place.slot → ⊥) → count_at c.set.new.self t ≡ count_at c.loop-place.self t
  there t d = ap (λ (xs : List ℕ). get_or xs t 0) c.in_ok-set.ensures.counts ∙ get_or-set_other c.loop-place.self.counts.items place.slot t place.permitted 0 d

  importance_is : to_z w128 (of_z w128 c.importance.result) ≡ place.importance
  importance_is = to_z-of_z w128 c.importance.result (omega (arith, ints, c.importance.type_inv)) ∙ c.importance.ensures

  counts_more : (count : ℕ → ℕ) → All (λ place. place.permitted ≡ count place.slot) c.args.places.now
      → (s : ℕ) → count_at c.set.new.self s ≡ cond (lists (take (c.loop-place.place-index + 1) c.args.places.now) s) (count s) (count_at c.args.self.now s)
  counts_more count are s =
      chosen (cases_eq s place.slot)
      ∙ ap (λ (b : Bool). cond b (count s) (count_at c.args.self.now s)) (sym (lists_more c.args.places.now c.loop-place.place-index no_place s c.loop-place-test.true))
    where
      at : place.permitted ≡ count place.slot
      at = All-get_or (λ (x : Place). x.permitted ≡ count x.slot) c.args.places.now c.loop-place.place-index no_place c.loop-place-test.true are

      or_yes : (a b : Bool) (x y : ℕ) → b ≡ true → x ≡ cond (a || b) x y
      or_yes true b x y e = refl
      or_yes false b x y e = sym (cond-true b x y e)

      or_no : (a b : Bool) (x y : ℕ) → b ≡ false → cond a x y ≡ cond (a || b) x y
      or_no true b x y e = refl
      or_no false b x y e = sym (cond-false b x y e)

      chosen : (s ≡ place.slot) ⊎ (s ≡ place.slot → ⊥)
          → count_at c.set.new.self s ≡ cond (lists (take c.loop-place.place-index c.args.places.now) s || (place.slot == s)) (count s) (count_at c.args.self.now s)
      chosen (inl e) =
          ap (count_at c.set.new.self) e ∙ (here ∙ (at ∙ (ap count (sym e)
          ∙ or_yes (lists (take c.loop-place.place-index c.args.places.now) s) (place.slot == s) (count s) (count_at c.args.self.now s) (eq-eqb place.slot s (sym e)))))
      chosen (inr d) =
          there s d ∙ (c.loop-place.invariant.counts count are s
          ∙ or_no (lists (take c.loop-place.place-index c.args.places.now) s) (place.slot == s) (count s) (count_at c.args.self.now s) (ne_eqb place.slot s (λ e. d (sym e))))

  waiting_more : (number : ℕ → ℕ) (importance : ℕ → ℤ) → All (λ place. (place.number ≡ number place.slot) × (place.importance ≡ importance place.number)) c.args.places.now
      → AreWaiting number importance (waits c.args.self.now) (count_at c.args.self.now) → AreWaiting number importance (waits c.set.new.self) (count_at c.set.new.self)
  waiting_more number importance are was =
      let at = All-get_or (λ (x : Place). (x.number ≡ number x.slot) × (x.importance ≡ importance x.number)) c.args.places.now c.loop-place.place-index no_place c.loop-place-test.true are in
      waiting_set number importance (waits c.loop-place.self) (count_at c.loop-place.self) (c.loop-place.invariant.waiting number importance are was) (waits c.set.new.self) (count_at c.set.new.self)
      (to_z w128 (of_z w128 c.importance.result)) place.number place.slot place.permitted (importance_is ∙ at.1) at.0 c.in_ok-set.ensures.waits here there

pub loop-place-preserved : goal.loop-place-preserved
loop-place-preserved c = record {
  waiting = waiting_more c;
  counts = counts_more c;
  slots = ap length c.in_ok-set.ensures.counts
      ∙ (length-set c.loop-place.self.counts.items (get_or c.args.places.now c.loop-place.place-index no_place).slot (get_or c.args.places.now c.loop-place.place-index no_place).permitted
      ∙ c.loop-place.invariant.slots);
}

pub returns-clause-counts : goal.returns-clause-counts
returns-clause-counts c = λ count are s.
    subst (λ (xs : List Place). count_at c.loop-place.self s ≡ cond (lists xs s) (count s) (count_at c.args.self.now s))
    (take_all c.loop-place.place-index c.args.places.now c.loop-place-test.false) (c.loop-place.invariant.counts count are s)
