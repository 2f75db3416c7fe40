-- A name that is handed over keeps the rule of the store.
use Rattle.std.proofs.Common.{◌≡◌, ◌<◌, inl, inr, ⊎_elim, ℕ, List, [], set, refl, sym, ap, ◌∙◌, subst, arith}
use Rattle.std.proofs.lemmas.Bool.{cases_eq}
use mathlib.Core.Option.{some}
use lib.ListN.{get_elem?}
use Rattle.atomic_table.specs.Table.{Splits, Joins}
use Rattle.atomic_table.proofs.Lists.{at_set}
use Rattle.version_store.specs.declared.known.Known.{Known}
use Rattle.version_store.specs.Rule.{Homes, Fits, Kept, note, without_name, name_of, with_name}
use Rattle.version_store.proofs.RuleKept.{renewed, stays, joined, note_fits, was}
use Rattle.version_store.proofs.Prefixes.{prefix_nil}

module _ {V : Type 0} (number : V → ℕ) (limit : ℕ) where
  -- who publishes in nobody's name any more
  unnamed_fits : (seats : ℕ) (list : List V) (publishers : List ℕ) (homes : Homes V) (d : Known V) → Fits limit seats list publishers homes d
      → Fits limit seats list publishers homes (without_name d)
  unnamed_fits seats list publishers homes d f = record {
    seen = f.seen;
    told = f.told;
    bound = f.bound;
    press = λ e. let q = f.press e in
        record { all = q.all; publishers_are = q.publishers_are; counted = q.counted; from = q.from; next = q.next; free = q.free };
    seat = λ s e. let q = f.seat s e in record { one = q.one; waits = q.waits };
    one_of = omega arith;
    numbers_are = λ l. absurd (omega arith);
  }

  -- what is handed over
  name_fits : (seats : ℕ) (list : List V) (publishers : List ℕ) (homes : Homes V) (d : Known V) → Fits limit seats list publishers homes d
      → Fits limit seats list publishers homes (name_of d)
  name_fits seats list publishers homes d f = record {
    seen = prefix_nil list;
    told = prefix_nil list;
    bound = λ l. absurd (omega arith);
    press = λ e. absurd (omega arith);
    seat = λ s e. absurd (omega arith);
    one_of = f.one_of;
    numbers_are = f.numbers_are;
  }

  -- who takes it over
  named_fits : (seats : ℕ) (list : List V) (publishers : List ℕ) (homes : Homes V) (d w : Known V) → Fits limit seats list publishers homes d
      → Fits limit seats list publishers homes w → Fits limit seats list publishers homes (with_name d w)
  named_fits seats list publishers homes d w f g = record {
    seen = f.seen;
    told = f.told;
    bound = f.bound;
    press = λ e. let q = f.press e in
        record { all = q.all; publishers_are = q.publishers_are; counted = q.counted; from = q.from; next = q.next; free = q.free };
    seat = λ s e. let q = f.seat s e in record { one = q.one; waits = q.waits };
    one_of = g.one_of;
    numbers_are = g.numbers_are;
  }

  pub lends : (id : ℕ) (d : Known V) → Splits (Kept number limit) id d (without_name d) (name_of d)
  unfolding stays renewed
  lends id d s r at =
      let f = r.each id d at in
      let first = stays number limit s r id d (without_name d) s.words at refl (λ l. absurd (omega arith)) r.word (unnamed_fits r.seats r.list r.publishers s.homes d f) in
      joined number limit record { words = s.words; homes = s.homes; views = set s.views id (without_name d) } first (name_of d)
      (name_fits r.seats r.list r.publishers s.homes d f)
      (λ l. absurd (omega arith))
      (λ one i e a same. ⊎_elim
      (λ t. let none : 0 ≡ e.publisher = ap (λ (k : Known V). k.publisher) t.1 in let one' : 0 < d.publisher = one in let same' : e.publisher ≡ d.publisher = same in omega arith)
      (λ t. t.0 (r.alone i id e d t.1 at (subst (λ (k : ℕ). 0 < k) (sym same) one) same))
      (at_set s.views id i (without_name d) e a))

  -- one place takes over what another one gives up
  pub takes_name : (id : ℕ) (d : Known V) (other : ℕ) (w : Known V) → w.role ≡ 0 → Joins (Kept number limit) id d other w (with_name d w) (note [])
  takes_name id d other w role s r at apart other_at = record {
    list = r.list;
    publishers = r.publishers;
    seats = r.seats;
    word = r.word;
    slots = r.slots;
    room = r.room;
    few = r.few;
    numbered = r.numbered;
    even = r.even;
    each = λ i x a. ⊎_elim
        (λ t. subst F t.1 (note_fits number limit r.seats r.list [] r.publishers s.homes (prefix_nil r.list)))
        (λ t. ⊎_elim
        (λ u. subst F u.1 (named_fits r.seats r.list r.publishers s.homes d w (r.each id d at) (r.each other w old)))
        (λ u. r.each i x u.1)
        (at_set s.views id i (with_name d w) x t.1))
        (at_set middle other i (note []) x a);
    apart = λ i j x y ai aj pos same.
        let p = role_was i x ai in
        let q = role_was j y aj in
        r.apart i j p.0 q.0 p.1 q.1 (subst (λ (k : ℕ). 0 < k) p.2 pos) (sym p.2 ∙ same ∙ q.2);
    alone = λ i j x y ai aj pos same. one i j x y ai aj pos same;
  }
    where
      middle : List (Known V)
      middle = set s.views id (with_name d w)

      F : Known V → Type 0
      F = Fits limit r.seats r.list r.publishers s.homes

      old : get_elem? s.views other ≡ some w
      old = ⊎_elim (λ t. absurd (apart t.0)) (λ t. t.1) (at_set s.views id other (with_name d w) w other_at)

      role_was : (i : ℕ) (x : Known V) → get_elem? (set middle other (note [])) i ≡ some x → (o : Known V) × (get_elem? s.views i ≡ some o) × (x.role ≡ o.role)
      role_was i x a =
          let t = was number limit middle other w (note []) other_at (sym role) i x a in
          let u = was number limit s.views id d (with_name d w) at refl i t.0 t.1 in
          (u.0, u.1, t.2 ∙ u.2)

      -- where a name stands now, and where it stood
      name_was : (i : ℕ) (x : Known V) → get_elem? (set middle other (note [])) i ≡ some x → 0 < x.publisher
          → (k : ℕ) × (o : Known V) × (get_elem? s.views k ≡ some o) × (x.publisher ≡ o.publisher) × ((k ≡ other) → i ≡ id) × (¬ (k ≡ other) → i ≡ k)
      name_was i x a pos = ⊎_elim
          (λ t. absurd (let none : 0 ≡ x.publisher = ap (λ (z : Known V). z.publisher) t.1 in omega arith))
          (λ t. ⊎_elim
          (λ u. (other, w, old, ap (λ (z : Known V). z.publisher) (sym u.1), (λ _. u.0), (λ unlike. absurd (unlike refl))))
          (λ u. (i, x, u.1, refl, (λ e. absurd (t.0 e)), (λ _. refl)))
          (at_set s.views id i (with_name d w) x t.1))
          (at_set middle other i (note []) x a)

      one : (i j : ℕ) (x y : Known V) → get_elem? (set middle other (note [])) i ≡ some x → get_elem? (set middle other (note [])) j ≡ some y
          → 0 < x.publisher → x.publisher ≡ y.publisher → i ≡ j
      one i j x y ai aj pos same =
          let p = name_was i x ai pos in
          let q = name_was j y aj (subst (λ (k : ℕ). 0 < k) same pos) in
          let k : p.0 ≡ q.0 = r.alone p.0 q.0 p.1 q.1 p.2 q.2 (subst (λ (n : ℕ). 0 < n) p.3 pos) (sym p.3 ∙ same ∙ q.3) in
          elim (cases_eq p.0 other) [
            | inl is ↦ p.4 is ∙ sym (q.4 (sym k ∙ is))
            | inr unlike ↦ p.5 unlike ∙ k ∙ sym (q.5 (λ e. unlike (k ∙ e)))
          ]
