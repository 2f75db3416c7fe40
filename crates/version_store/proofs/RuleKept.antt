-- Each step keeps the rule of the store, and tells what it is to tell.
use Rattle.std.proofs.Common.{◌≡◌, ◌<◌, ◌≤◌, ◌+◌, ◌-◌, ◌*◌, ◌⊎◌, inl, inr, ⊎_elim, ℕ, zero, suc, List, [], ◌∷◌, ◌++◌, length, map, set, get_or, Some, None, refl, sym, ap, ◌∙◌, subst, arith, rules}
use Rattle.std.specs.Prelude.{slice_get, replicate}
use Rattle.std.proofs.lemmas.Bool.{cases_eq, cases_lt}
use Rattle.std.proofs.lemmas.List.{length-set, length_push, length-replicate, length-map}
use Rattle.std.proofs.lemmas.Option.{slice_get_within}
use mathlib.Core.Option.{some, some-injective, some-ne-none}
use mathlib.Core.Option as maybe
use lib.ListN.{get_elem?}
use Rattle.std.specs.Arc.{arc_value}
use Rattle.std.specs.declared.alloc.Global.{Global}
use Rattle.std.specs.declared.sync.Arc.{Arc}
use Rattle.atomic_table.specs.Table.{State, step, keeps, takes, gives, Allows, Splits, Joins, opening}
use Rattle.atomic_table.proofs.Lists.{at_set, set_here, set_else}
use Rattle.version_store.specs.declared.known.Known.{Known}
use Rattle.version_store.specs.Growth.{IsPrefix, AreNumbered}
use Rattle.version_store.specs.Publishers.{numbers_of}
use Rattle.version_store.specs.Rule.{Slot, Homes, Fits, Kept, first_press, with_seat, new_seat, note, hearing}
use Rattle.version_store.specs.Steps.{Holder, sees, compares, lifts, lays, raises}
use Rattle.version_store.proofs.Publishers.{numbers_push, numbers_else, numbers_first}
use Rattle.version_store.proofs.Prefixes.{prefix_self, prefix_nil, prefix_push, prefix_trans, prefix_length, prefix_whole, get_last, get_left, some_inside, some_same, head_same, numbered_nil}

-- where one list ends and another begins
at_end : {A : Type 0} (l : List A) (a b : A) (j : ℕ) → get_elem? (l ++ a ∷ []) j ≡ some b → (get_elem? l j ≡ some b) ⊎ ((j ≡ length l) × (a ≡ b))
at_end [] a b zero e = inr (refl, some-injective a b e)
at_end [] a b (suc j) e = absurd (some-ne-none b (sym e))
at_end (x ∷ xs) a b zero e = inl e
at_end (x ∷ xs) a b (suc j) e = ⊎_elim (λ t. inl t) (λ t. inr (ap suc t.0, t.1)) (at_end xs a b j e)

module _ {V : Type 0} (number : V → ℕ) (limit : ℕ) where
  abbrev St : Type 0
  St = State (Slot V) (Known V)

  -- what a place was that has a role now
  pub was : (views : List (Known V)) (id : ℕ) (d d' : Known V) → get_elem? views id ≡ some d → d'.role ≡ d.role → (i : ℕ) (x : Known V) → get_elem? (set views id d') i ≡ some x
      → (o : Known V) × (get_elem? views i ≡ some o) × (x.role ≡ o.role)
  was views id d d' at role i x e = ⊎_elim
      (λ t. (d, subst (λ k. get_elem? views k ≡ some d) (sym t.0) at, ap (λ (k : Known V). k.role) (sym t.1) ∙ role))
      (λ t. (x, t.1, refl))
      (at_set views id i d' x e)

  -- what a place was that publishes in a seat's name now
  pub was_named : (views : List (Known V)) (id : ℕ) (d d' : Known V) → get_elem? views id ≡ some d → (0 < d'.publisher → d'.publisher ≡ d.publisher)
      → (i : ℕ) (x : Known V) → get_elem? (set views id d') i ≡ some x → 0 < x.publisher
      → (o : Known V) × (get_elem? views i ≡ some o) × (x.publisher ≡ o.publisher)
  was_named views id d d' at named i x e pos = ⊎_elim
      (λ t. let same : x.publisher ≡ d'.publisher = ap (λ (k : Known V). k.publisher) (sym t.1) in
      (d, subst (λ k. get_elem? views k ≡ some d) (sym t.0) at, same ∙ named (subst (λ (k : ℕ). 0 < k) same pos)))
      (λ t. (x, t.1, refl))
      (at_set views id i d' x e)

  -- a place knows something else, and the table changes with it
  unfoldable pub renewed : (s : St) (r : Kept number limit s) (id : ℕ) (d d' : Known V) (list : List V) (publishers : List ℕ) (seats : ℕ) (words : List ℕ) (homes : Homes V)
      → get_elem? s.views id ≡ some d → d'.role ≡ d.role → (0 < d'.publisher → d'.publisher ≡ d.publisher)
      → words ≡ length list ∷ [] → length homes ≡ 16 * limit → length list ≤ limit → seats ≤ 16 → AreNumbered number list → length publishers ≡ length list
      → Fits limit seats list publishers homes d'
      → ((e : Known V) → (0 < d.role → ¬ (e.role ≡ d.role)) → (0 < e.publisher → ¬ (e.publisher ≡ d.publisher))
      → Fits limit r.seats r.list r.publishers s.homes e → Fits limit seats list publishers homes e)
      → Kept number limit record { words = words; homes = homes; views = set s.views id d' }
  renewed s r id d d' list publishers seats words homes at role named word wide room few numbered even mine others = record {
    list = list;
    publishers = publishers;
    seats = seats;
    word = word;
    slots = wide;
    room = room;
    few = few;
    numbered = numbered;
    even = even;
    each = λ j e a. ⊎_elim
        (λ t. subst (Fits limit seats list publishers homes) t.1 mine)
        (λ t. others e (λ pos same. t.0 (r.apart j id e d t.1 at (subst (λ (k : ℕ). 0 < k) (sym same) pos) same))
        (λ pos same. t.0 (r.alone j id e d t.1 at pos same)) (r.each j e t.1))
        (at_set s.views id j d' e a);
    apart = λ i j x y ai aj pos same.
        let p = was s.views id d d' at role i x ai in
        let q = was s.views id d d' at role j y aj in
        r.apart i j p.0 q.0 p.1 q.1 (subst (λ (k : ℕ). 0 < k) p.2 pos) (sym p.2 ∙ same ∙ q.2);
    alone = λ i j x y ai aj pos same.
        let p = was_named s.views id d d' at named i x ai pos in
        let q = was_named s.views id d d' at named j y aj (subst (λ (k : ℕ). 0 < k) same pos) in
        r.alone i j p.0 q.0 p.1 q.1 (subst (λ (k : ℕ). 0 < k) p.2 pos) (sym p.2 ∙ same ∙ q.2);
  }

  -- a place knows something else, and the table stays
  unfoldable pub stays : (s : St) (r : Kept number limit s) (id : ℕ) (d d' : Known V) (words : List ℕ) → get_elem? s.views id ≡ some d → d'.role ≡ d.role
      → (0 < d'.publisher → d'.publisher ≡ d.publisher) → words ≡ length r.list ∷ []
      → Fits limit r.seats r.list r.publishers s.homes d' → Kept number limit record { words = words; homes = s.homes; views = set s.views id d' }
  stays s r id d d' words at role named word mine =
      renewed s r id d d' r.list r.publishers r.seats words s.homes at role named word r.slots r.room r.few r.numbered r.even mine (λ e _ _ f. f)

  -- a place more
  pub joined : (s : St) (r : Kept number limit s) (w : Known V) → Fits limit r.seats r.list r.publishers s.homes w
      → (0 < w.role → (i : ℕ) (e : Known V) → get_elem? s.views i ≡ some e → ¬ (e.role ≡ w.role))
      → (0 < w.publisher → (i : ℕ) (e : Known V) → get_elem? s.views i ≡ some e → ¬ (e.publisher ≡ w.publisher))
      → Kept number limit record { words = s.words; homes = s.homes; views = s.views ++ w ∷ [] }
  joined s r w mine alone unnamed = record {
    list = r.list;
    publishers = r.publishers;
    seats = r.seats;
    word = r.word;
    slots = r.slots;
    room = r.room;
    few = r.few;
    numbered = r.numbered;
    even = r.even;
    each = λ j e a. ⊎_elim (λ t. r.each j e t) (λ t. subst (Fits limit r.seats r.list r.publishers s.homes) t.1 mine) (at_end s.views w e j a);
    apart = λ i j x y ai aj pos same. ⊎_elim
        (λ p. ⊎_elim
        (λ q. r.apart i j x y p q pos same)
        (λ q. let e : y.role ≡ w.role = ap (λ (k : Known V). k.role) (sym q.1) in absurd (alone (subst (λ (k : ℕ). 0 < k) (same ∙ e) pos) i x p (same ∙ e)))
        (at_end s.views w y j aj))
        (λ p. let e : x.role ≡ w.role = ap (λ (k : Known V). k.role) (sym p.1) in ⊎_elim
        (λ q. absurd (alone (subst (λ (k : ℕ). 0 < k) e pos) j y q (sym same ∙ e)))
        (λ q. p.0 ∙ sym q.0)
        (at_end s.views w y j aj))
        (at_end s.views w x i ai);
    alone = λ i j x y ai aj pos same. ⊎_elim
        (λ p. ⊎_elim
        (λ q. r.alone i j x y p q pos same)
        (λ q. let e : y.publisher ≡ w.publisher = ap (λ (k : Known V). k.publisher) (sym q.1) in
        absurd (unnamed (subst (λ (k : ℕ). 0 < k) (same ∙ e) pos) i x p (same ∙ e)))
        (at_end s.views w y j aj))
        (λ p. let e : x.publisher ≡ w.publisher = ap (λ (k : Known V). k.publisher) (sym p.1) in ⊎_elim
        (λ q. absurd (unnamed (subst (λ (k : ℕ). 0 < k) e pos) j y q (sym same ∙ e)))
        (λ q. p.0 ∙ sym q.0)
        (at_end s.views w y j aj))
        (at_end s.views w x i ai);
  }

  -- a note fits where its list begins the whole one
  pub note_fits : (seats : ℕ) (list seen : List V) (publishers : List ℕ) (homes : Homes V) → IsPrefix seen list → Fits limit seats list publishers homes (note seen)
  note_fits seats list seen publishers homes p = record {
    seen = p;
    told = prefix_nil list;
    bound = λ l. absurd (omega arith);
    press = λ e. absurd (omega arith);
    seat = λ s e. absurd (omega arith);
    one_of = omega arith;
    numbers_are = λ l. absurd (omega arith);
  }

  -- a place that hears of a front of the list
  hearing_fits : (seats : ℕ) (list : List V) (publishers : List ℕ) (homes : Homes V) (d w : Known V) → Fits limit seats list publishers homes d → IsPrefix w.list list
      → Fits limit seats list publishers homes (hearing d w)
  hearing_fits seats list publishers homes d w f p = record {
    seen = f.seen;
    told = p;
    bound = f.bound;
    press = λ e. let q = f.press e in
        record { all = q.all; publishers_are = q.publishers_are; counted = q.counted; from = q.from; next = q.next; free = q.free };
    seat = λ s e. let q = f.seat s e in record { one = q.one; waits = q.waits };
    one_of = f.one_of;
    numbers_are = f.numbers_are;
  }

  -- ---- splits and joins

  pub notes : (id : ℕ) (d : Known V) → Splits (Kept number limit) id d d (note d.list)
  unfolding stays renewed
  notes id d s r at =
      joined record { words = s.words; homes = s.homes; views = set s.views id d } (stays s r id d d s.words at refl (λ _. refl) r.word (r.each id d at)) (note d.list)
      (note_fits r.seats r.list d.list r.publishers s.homes (r.each id d at).seen) (λ l. absurd (omega arith)) (λ l. absurd (omega arith))

  pub hears : (id : ℕ) (d : Known V) (other : ℕ) (w : Known V) → w.role ≡ 0 → Joins (Kept number limit) id d other w (hearing d w) (note [])
  unfolding stays renewed
  hears id d other w role s r at apart other_at =
      let old : get_elem? s.views other ≡ some w = ⊎_elim (λ t. absurd (apart t.0)) (λ t. t.1) (at_set s.views id other (hearing d w) w other_at) in
      let first = stays s r id d (hearing d w) s.words at refl (λ _. refl) r.word (hearing_fits r.seats r.list r.publishers s.homes d w (r.each id d at) (r.each other w old).seen) in
      stays record { words = s.words; homes = s.homes; views = set s.views id (hearing d w) } first other w (note []) s.words other_at (sym role) (λ l. absurd (omega arith)) r.word
      (note_fits r.seats r.list [] r.publishers s.homes (prefix_nil r.list))

  pub seats_one : (id : ℕ) (d : Known V) → d.role ≡ 1 → d.seats < 16 → d.publishers ≡ 0 ∷ [] → Splits (Kept number limit) id d (with_seat d) (new_seat d)
  unfolding renewed
  seats_one id d role few nobody s r at =
      let f = r.each id d at in
      let p = f.press role in
      let k : ℕ = r.seats in
      let counted : d.seats ≡ k = p.counted in
      let mine : Fits limit (k + 1) r.list r.publishers s.homes (with_seat d) = record {
        seen = f.seen;
        told = f.told;
        bound = f.bound;
        press = λ _. record { all = p.all; publishers_are = p.publishers_are; counted = ap (λ (z : ℕ). z + 1) counted; from = p.from; next = p.next; free = p.free };
        seat = λ n e. absurd (let e' : d.role ≡ n + 2 = e in omega (arith, role));
        one_of = (let o = f.one_of in omega arith);
        numbers_are = f.numbers_are;
      } in
      let others : (e : Known V) → (0 < d.role → ¬ (e.role ≡ d.role)) → (0 < e.publisher → ¬ (e.publisher ≡ d.publisher)) → Fits limit k r.list r.publishers s.homes e
      → Fits limit (k + 1) r.list r.publishers s.homes e = λ e no _ g. record {
        seen = g.seen;
        told = g.told;
        bound = g.bound;
        press = λ one. absurd (no (omega (arith, role)) (one ∙ sym role));
        seat = λ n e'. let q = g.seat n e' in record { one = (let o = q.one in omega arith); waits = q.waits };
        one_of = (let o = g.one_of in omega arith);
        numbers_are = g.numbers_are;
      } in
      let first = renewed s r id d (with_seat d) r.list r.publishers (k + 1) s.words s.homes at refl (λ _. refl) r.word r.slots r.room (omega arith) r.numbered r.even mine others in
      let new : Fits limit (k + 1) r.list r.publishers s.homes (new_seat d) = record {
        seen = f.seen;
        told = prefix_nil r.list;
        bound = λ _. f.bound (omega (arith, role));
        press = λ e. absurd (let e' : d.seats + 2 ≡ 1 = e in omega arith);
        seat = λ n e. let e' : d.seats + 2 ≡ n + 2 = e in record {
          one = omega arith;
          waits = λ v x low at'. absurd (let l = slice_get_within r.list v x at' in let m : length d.list ≡ length r.list = ap length p.all in omega arith);
        };
        one_of = omega arith;
        numbers_are = λ _. numbers_first d.seats r.publishers (sym p.publishers_are ∙ nobody);
      } in
      joined record { words = s.words; homes = s.homes; views = set s.views id (with_seat d) } first (new_seat d) new
      (λ _ i e a same. ⊎_elim
      (λ t. let c : d.role ≡ e.role = ap (λ (z : Known V). z.role) t.1 in let c' : e.role ≡ d.seats + 2 = same in omega (arith, role))
      (λ t. let o = ((r.each i e t.1).seat d.seats same).one in omega arith)
      (at_set s.views id i (with_seat d) e a))
      (λ _ i e a same. let same' : e.publisher ≡ d.seats + 1 = same in ⊎_elim
      (λ t. let c : d.publisher ≡ e.publisher = ap (λ (z : Known V). z.publisher) t.1 in let o = f.one_of in omega arith)
      (λ t. let o = (r.each i e t.1).one_of in omega arith)
      (at_set s.views id i (with_seat d) e a))

  -- ---- steps that leave the slots

  -- a word that is read stays
  word_stays : (words : List ℕ) (n : ℕ) → words ≡ n ∷ [] → set words 0 (get_or words 0 0) ≡ n ∷ []
  word_stays words n e = ap (λ (w : List ℕ). set w 0 (get_or w 0 0)) e

  pub compares_kept : (slots id : ℕ) (me : Holder V) → me.0.role ≡ 1 → Allows (Kept number limit) slots id me 0 (λ n. n) (compares (step slots 0 0 0 maybe.none) me)
  compares_kept slots id me role s r wide at small =
      let f = r.each id me.0 at in (
        me.0,
        keeps,
        tt,
        stays s r id me.0 me.0 (set s.words 0 (get_or s.words 0 0)) at refl (λ _. refl) (word_stays s.words (length r.list) r.word) f,
        (
          refl,
          subst (IsPrefix me.0.told) (sym (f.press role).all) f.told,
          λ one. f.numbers_are one ∙ ap (numbers_of me.0.publisher) (sym (f.press role).publishers_are),
        ),
      )

  -- ---- a seat sees the list

  -- a place that changes no slot of the press, and of no other seat, leaves what they know
  else_fits : (seats : ℕ) (list : List V) (publishers : List ℕ) (homes : Homes V) (slot : ℕ) (value : maybe.Option (Slot V)) (e : Known V)
      → Fits limit seats list publishers homes e
      → (e.role ≡ 1 → slot < 16 * length list)
      → ((n v : ℕ) → e.role ≡ n + 2 → n < seats → v < length list → ¬ (16 * v + n ≡ slot))
      → Fits limit seats list publishers (set homes slot value) e
  else_fits seats list publishers homes slot value e f low apart = record {
    seen = f.seen;
    told = f.told;
    bound = f.bound;
    press = λ one. let p = f.press one in let l = low one in record {
      all = p.all;
      publishers_are = p.publishers_are;
      counted = p.counted;
      from = p.from;
      next = λ k x le lt is. let q = p.next k x le lt is in (q.0, q.1, set_else homes slot k value (λ h. omega arith) ∙ q.2);
      free = λ k le lt. let q = p.free k le lt in let a : 16 * length list ≤ e.filled = p.from in (q.0, set_else homes slot k value (λ h. omega arith) ∙ q.1);
    };
    seat = λ n is. let p = f.seat n is in record {
      one = p.one;
      waits = λ v x le at. let q = p.waits v x le at in (q.0, q.1, set_else homes slot (16 * v + n) value (apart n v is p.one (slice_get_within list v x at)) ∙ q.2);
    };
    one_of = f.one_of;
    numbers_are = f.numbers_are;
  }

  -- a seat that has seen the whole list
  seen_fits : (seats : ℕ) (list : List V) (publishers : List ℕ) (homes homes' : Homes V) (n : ℕ) (d : Known V) → d.role ≡ n + 2
      → Fits limit seats list publishers homes d → Fits limit seats list publishers homes' (record d { list = list })
  seen_fits seats list publishers homes homes' n d role f = record {
    seen = prefix_self list;
    told = f.told;
    bound = f.bound;
    press = λ one. absurd (let o : d.role ≡ 1 = one in omega (arith, role));
    seat = λ m is. record { one = (f.seat m is).one; waits = λ v x le at. absurd (let l = slice_get_within list v x at in omega arith) };
    one_of = f.one_of;
    numbers_are = f.numbers_are;
  }

  pub sees_kept : (slots id : ℕ) (me : Holder V) (n : ℕ) → me.0.role ≡ n + 2 → Allows (Kept number limit) slots id me 0 (λ k. k) (sees number (step slots 0 0 0 maybe.none) me)
  sees_kept slots id me n role s r wide at small =
      let d = me.0 in
      let f = r.each id d at in
      let seat = f.seat n role in
      let list = r.list in
      let count : ℕ = length list in
      let found : ℕ = get_or s.words 0 0 in
      let is : found ≡ count = ap (λ (w : List ℕ). get_or w 0 0) r.word in
      let words = set s.words 0 (get_or s.words 0 0) in
      let word : words ≡ count ∷ [] = word_stays s.words count r.word in
      let w : Known V = record d { list = list } in
      let seen = prefix_length d.list list f.seen in
      let room : count ≤ limit = r.room in
      let bound : d.limit ≡ limit = f.bound (omega (arith, role)) in
      elim (cases_lt (length d.list) count) [
        | inl new ↦
            let x = some_inside list (count - 1) (omega arith) in
            let q = seat.waits (count - 1) x.0 (omega arith) x.1 in
            let slot : ℕ = 16 * (count - 1) + n in (
              w,
              takes slot (Some q.0),
              q.2,
              renewed s r id d w list r.publishers r.seats words (set s.homes slot maybe.none) at refl (λ _. refl) word (length-set s.homes slot maybe.none ∙ r.slots) room r.few r.numbered r.even
                  (seen_fits r.seats list r.publishers s.homes (set s.homes slot maybe.none) n d role f)
                  (λ e no _ g. else_fits r.seats list r.publishers s.homes slot maybe.none e g
                  (λ one. let o = seat.one in let fw = r.few in omega arith)
                  (λ m v m_role m_one inside same.
                  let fw = r.few in let o = seat.one in
                  no (omega (arith, role)) (let a : m ≡ n = omega arith in omega (arith, m_role, role)))),
              record {
                same = refl;
                grows = f.seen;
                told = f.told;
                count = sym is;
                room = omega arith;
                numbered = r.numbered;
                takes = λ _. (
                  q.0,
                  subst (λ (k : ℕ). slice_get list (k - 1) ≡ Some (arc_value q.0)) (sym is) (x.1 ∙ ap Some (sym q.1)),
                  ap (λ (k : ℕ). (k, Some q.0) ∷ me.1) (let e : slot ≡ 16 * (found - 1) + (d.role - 2) = omega (arith, role) in e),
                );
                keeps = λ le. absurd (omega arith);
              },
            )
        | inr old ↦
            let same : d.list ≡ list = prefix_whole d.list list f.seen old in (
              w,
              keeps,
              tt,
              renewed s r id d w list r.publishers r.seats words s.homes at refl (λ _. refl) word r.slots room r.few r.numbered r.even (seen_fits r.seats list r.publishers s.homes s.homes n d role f)
                  (λ e _ _ g. g),
              record {
                same = refl;
                grows = f.seen;
                told = f.told;
                count = sym is;
                room = omega arith;
                numbered = r.numbered;
                takes = λ lt. absurd (omega arith);
                keeps = λ _. ap (λ (l : List V). (record d { list = l }, me.1)) (sym same);
              },
            )
      ]

  -- ---- the press fills slots and publishes

  pub lifts_kept : (slots id : ℕ) (me : Holder V) → me.0.role ≡ 1 → me.0.out ≡ 0 → me.0.filled < 16 * limit
      → Allows (Kept number limit) slots id me 0 (λ k. k) (lifts (step slots 0 0 0 maybe.none) me)
  lifts_kept slots id me role none low s r wide at small =
      let d = me.0 in
      let f = r.each id d at in
      let p = f.press role in
      let slot : ℕ = d.filled in
      let q = p.free slot (omega arith) low in
      let homes = set s.homes slot maybe.none in
      let words = set s.words 0 (get_or s.words 0 0) in
      let mine : Fits limit r.seats r.list r.publishers homes (record d { out = 1 }) = record {
        seen = f.seen;
        told = f.told;
        bound = f.bound;
        press = λ _. record {
          all = p.all;
          publishers_are = p.publishers_are;
          counted = p.counted;
          from = p.from;
          next = λ k x le lt is. let t = p.next k x le lt is in (t.0, t.1, set_else s.homes slot k maybe.none (λ h. let l : k < d.filled = lt in omega arith) ∙ t.2);
          free = λ k le lt. let l : d.filled + 1 ≤ k = le in let t = p.free k (omega arith) lt in (t.0, set_else s.homes slot k maybe.none (λ h. omega arith) ∙ t.1);
        };
        seat = λ n is. absurd (let i : d.role ≡ n + 2 = is in omega (arith, role));
        one_of = f.one_of;
        numbers_are = f.numbers_are;
      } in (
        record d { out = 1 },
        takes slot q.0,
        q.1,
        renewed s r id d (record d { out = 1 }) r.list r.publishers r.seats words homes at refl (λ _. refl) (word_stays s.words (length r.list) r.word) (length-set s.homes slot maybe.none ∙ r.slots)
            r.room r.few r.numbered r.even mine
            (λ e no _ g. else_fits r.seats r.list r.publishers s.homes slot maybe.none e g
            (λ one. absurd (no (omega (arith, role)) (one ∙ sym role)))
            (λ m v m_role m_one inside same. let a = p.from in let fw = r.few in omega arith)),
        (q.0, refl),
      )

  pub lays_kept : (slots id : ℕ) (d : Known V) (owner : Arc V Global) (others : List (ℕ × Slot V)) → d.role ≡ 1 → d.out ≡ 1 → d.filled < 16 * limit
      → (16 * length d.list < d.filled → d.next ≡ arc_value owner ∷ [])
      → Allows (Kept number limit) slots id (d, (d.filled, Some owner) ∷ others) 0 (λ k. k) (lays (step slots 0 0 0 maybe.none) (d, (d.filled, Some owner) ∷ others))
  lays_kept slots id d owner others role out low next s r wide at small =
      let f = r.each id d at in
      let p = f.press role in
      let slot : ℕ = d.filled in
      let homes = set s.homes slot (some (Some owner)) in
      let words = set s.words 0 (get_or s.words 0 0) in
      let w : Known V = record d { filled = slot + 1; out = 0; next = arc_value owner ∷ [] } in
      let long : length d.list ≡ length r.list = ap length p.all in
      let mine : Fits limit r.seats r.list r.publishers homes w = record {
        seen = f.seen;
        told = f.told;
        bound = f.bound;
        press = λ _. record {
          all = p.all;
          publishers_are = p.publishers_are;
          counted = p.counted;
          from = (let a = p.from in omega arith);
          next = λ k x le lt is. elim (cases_eq k slot) [
            | inl here ↦ (
              owner,
              head_same (arc_value owner) x is,
              subst (λ (j : ℕ). get_elem? homes j ≡ some (some (Some owner))) (sym here)
                  (set_here s.homes slot (some (Some owner)) (subst (λ (j : ℕ). slot < j) (sym r.slots) low)),
            )
            | inr there ↦ let l : k < slot + 1 = lt in let t = p.next k x le (omega arith) (next (omega arith) ∙ is) in
                (t.0, t.1, set_else s.homes slot k (some (Some owner)) there ∙ t.2)
          ];
          free = λ k le lt. let l : slot + 1 + 0 ≤ k = le in let t = p.free k (omega arith) lt in (t.0, set_else s.homes slot k (some (Some owner)) (λ h. omega arith) ∙ t.1);
        };
        seat = λ n is. absurd (let i : d.role ≡ n + 2 = is in omega (arith, role));
        one_of = f.one_of;
        numbers_are = f.numbers_are;
      } in (
        w,
        gives,
        tt,
        renewed s r id d w r.list r.publishers r.seats words homes at refl (λ _. refl) (word_stays s.words (length r.list) r.word) (length-set s.homes slot (some (Some owner)) ∙ r.slots)
            r.room r.few r.numbered r.even mine
            (λ e no _ g. else_fits r.seats r.list r.publishers s.homes slot (some (Some owner)) e g
            (λ one. absurd (no (omega (arith, role)) (one ∙ sym role)))
            (λ m v m_role m_one inside same. let a = p.from in let fw = r.few in omega arith)),
        (owner, refl, refl),
      )

  -- one version more has the number of its place
  pub numbered_push : (list : List V) (x : V) → AreNumbered number list → number x ≡ length list → AreNumbered number (list ++ x ∷ [])
  numbered_push list x numbered is i y e = elim (cases_lt i (length list)) [
    | inl inside ↦ numbered i y (get_left list x y i inside e)
    | inr past ↦
        let l : i < length list + 1 = subst (λ (k : ℕ). i < k) (length_push list x) (slice_get_within (list ++ x ∷ []) i y e) in
        let here : i ≡ length list = omega arith in
        let same : x ≡ y = some_same x y (sym (get_last list x) ∙ ap (λ (k : ℕ). slice_get (list ++ x ∷ []) k) (sym here) ∙ e) in
        ap number (sym same) ∙ is ∙ sym here
  ]

  pub raises_kept : (slots id : ℕ) (me : Holder V) (x : V) (count : ℕ) → me.0.role ≡ 1 → me.0.out ≡ 0 → me.0.next ≡ x ∷ [] → 16 * length me.0.list + me.0.seats ≤ me.0.filled → me.0.filled ≤ 16 * count
      → count ≡ length me.0.list + 1 → count ≤ limit → number x ≡ length me.0.list
      → Allows (Kept number limit) slots id me 0 (λ _. count) (λ _. raises (step slots 0 count 0 maybe.none) me count)
  raises_kept slots id me x count role none next enough below is room numbered s r wide at small =
      let d = me.0 in
      let f = r.each id d at in
      let p = f.press role in
      let list = r.list ++ x ∷ [] in
      let long : length d.list ≡ length r.list = ap length p.all in
      let longer : length list ≡ length r.list + 1 = length_push r.list x in
      let publishers = r.publishers ++ d.publisher ∷ [] in
      let w : Known V = record d {
        filled = 16 * count;
        list = d.list ++ d.next;
        numbers = d.numbers ++ length d.list ∷ [];
        publishers = d.publishers ++ d.publisher ∷ [];
      } in
      let whole : d.list ++ d.next ≡ list = ap (λ (l : List V). l ++ d.next) p.all ∙ ap (λ (l : List V). r.list ++ l) next in
      let mine : Fits limit r.seats list publishers s.homes w = record {
        seen = subst (λ (l : List V). IsPrefix l list) (sym whole) (prefix_self list);
        told = prefix_trans d.told r.list list f.told (prefix_push r.list x);
        bound = f.bound;
        press = λ _. record {
          all = whole;
          publishers_are = ap (λ (l : List ℕ). l ++ d.publisher ∷ []) p.publishers_are;
          counted = p.counted;
          from = omega arith;
          next = λ k y le lt _. let l : k < 16 * count = lt in absurd (omega arith);
          free = λ k le lt. let l : 16 * count + d.out ≤ k = le in p.free k (omega arith) lt;
        };
        seat = λ n i. absurd (let i' : d.role ≡ n + 2 = i in omega (arith, role));
        one_of = f.one_of;
        numbers_are = λ one. ap (λ (l : List ℕ). l ++ length d.list ∷ []) (f.numbers_are one)
            ∙ ap (λ (k : ℕ). numbers_of d.publisher r.publishers ++ k ∷ []) (long ∙ sym r.even) ∙ sym (numbers_push d.publisher r.publishers);
      } in
      let others : (e : Known V) → (0 < d.role → ¬ (e.role ≡ d.role)) → (0 < e.publisher → ¬ (e.publisher ≡ d.publisher)) → Fits limit r.seats r.list r.publishers s.homes e
      → Fits limit r.seats list publishers s.homes e = λ e no else_named g. record {
        seen = prefix_trans e.list r.list list g.seen (prefix_push r.list x);
        told = prefix_trans e.told r.list list g.told (prefix_push r.list x);
        bound = g.bound;
        press = λ one. absurd (no (omega (arith, role)) (one ∙ sym role));
        seat = λ n i. let q = g.seat n i in record {
          one = q.one;
          waits = λ v y le e'. elim (cases_lt v (length r.list)) [
            | inl inside ↦ q.waits v y le (get_left r.list x y v inside e')
            | inr past ↦
                let l : v < length r.list + 1 = subst (λ (k : ℕ). v < k) longer (slice_get_within list v y e') in
                let here : v ≡ length r.list = omega arith in
                let same : x ≡ y = some_same x y (sym (get_last r.list x) ∙ ap (λ (k : ℕ). slice_get list k) (sym here) ∙ e') in
                let o = q.one in let c : d.seats ≡ r.seats = p.counted in
                p.next (16 * v + n) y (omega arith) (omega arith) (next ∙ ap (λ (z : V). z ∷ []) same)
          ];
        };
        one_of = g.one_of;
        numbers_are = λ one. g.numbers_are one ∙ sym (numbers_else e.publisher d.publisher r.publishers (else_named one));
      } in (
        w,
        keeps,
        tt,
        renewed s r id d w list publishers r.seats (set s.words 0 count) s.homes at refl (λ _. refl) (ap (λ (ws : List ℕ). set ws 0 count) r.word ∙ ap (λ (k : ℕ). k ∷ []) (let e : count ≡ length list = omega arith in e))
            r.slots (omega arith) r.few (numbered_push r.list x r.numbered (numbered ∙ long))
            (length_push r.publishers d.publisher ∙ ap (λ (k : ℕ). k + 1) r.even ∙ sym longer) mine others,
        (refl, subst (λ (k : ℕ). d.publisher ≤ k) (sym p.counted) f.one_of),
      )

  -- ---- the table at the start

  nothing : Slot V
  nothing = None

  homes_free : (n k : ℕ) → k < n → get_elem? (map some (replicate n nothing)) k ≡ some (some nothing)
  homes_free zero k l = absurd (omega arith)
  homes_free (suc n) zero l = refl
  homes_free (suc n) (suc k) l = homes_free n k (omega arith)

  pub starts_kept : Kept number limit (opening (0 ∷ []) (replicate (16 * limit) None) (first_press limit))
  unfolding nothing
  starts_kept = record {
    list = [];
    publishers = [];
    seats = 0;
    word = refl;
    slots = search (rules, length-map, length-replicate);
    room = omega arith;
    few = omega arith;
    numbered = numbered_nil number;
    even = refl;
    each = first_fits;
    apart = λ i j d e a b _ _. only i d a ∙ sym (only j e b);
    alone = λ i j d e a b _ _. only i d a ∙ sym (only j e b);
  }
    where
      only : (i : ℕ) (d : Known V) → get_elem? (first_press {V = V} limit ∷ []) i ≡ some d → i ≡ 0
      only zero d e = refl
      only (suc i) d e = absurd (some-ne-none d (sym e))

      first_fits : (i : ℕ) (d : Known V) → get_elem? (first_press {V = V} limit ∷ []) i ≡ some d → Fits limit 0 [] [] (map some (replicate (16 * limit) None)) d
      first_fits zero d e = subst (Fits limit 0 [] [] _) (some-injective (first_press limit) d e) record {
        seen = prefix_nil [];
        told = prefix_nil [];
        bound = λ _. refl;
        press = λ _. record { all = refl; publishers_are = refl; counted = refl; from = omega arith; next = λ k x le lt is. absurd (omega arith); free = λ k le lt. (None, homes_free (16 * limit) k lt) };
        seat = λ n is. absurd (omega arith);
        one_of = omega arith;
        numbers_are = λ l. absurd (omega arith);
      }
      first_fits (suc i) d e = absurd (some-ne-none d (sym e))
