-- Slots that are emptied by key, and given to what comes.
use Rattle.std.proofs.Common.{◌≡◌, ◌⊎◌, inl, inr, ℕ, zero, suc, ◌+◌, ◌<◌, ◌≤◌, Bool, true, false, cond, not, nat_eq, ◌&&◌, ◌||◌, ◌==◌, List, [], ◌∷◌, ◌++◌, length, filter, map, get_or, take, Contains, IsPermutation, Option, Some, None, refl, sym, ap, ap₂, ◌∙◌, subst, append_assoc, true≢false, arith}
use Rattle.std.specs.Prelude.{option_to_list, slice_set}
use Rattle.std.proofs.lemmas.Bool.{cases_lt, cases_eq}
use Rattle.std.proofs.lemmas.Bool.Decides.{nat_tests}
use Rattle.std.proofs.lemmas.List.{length-set, get_or-set_same, get_or-set_other, take_more, map_push}
use Rattle.std.proofs.lemmas.List.Elements.{All-contains, All-filter, filter-append, Contains-append_left, Contains-append_right}
use Rattle.std.proofs.lemmas.List.Sorted.{IsPermutation-trans, IsPermutation-append_comm, IsPermutation-append_left, IsPermutation-append_right}
use Rattle.tgap_model.specs.declared.geometry.Window.{Window}
use Rattle.lemmas.proofs.Members.{in_head}
use Rattle.grid_index.specs.declared.keys.KeyBox.{KeyBox}
use Rattle.grid_index.specs.declared.segments.Entry.{Entry}
use Rattle.grid_index.specs.Near.{near_boxes, IsNextNear}
use Rattle.grid_index.specs.Picked.{no_box}
use Rattle.grid_index.specs.Slots.{held, slot_at, stays, has_key, is_near, AreNear, IsBounded}
use Rattle.grid_index.proofs.Finding.{none_near}
use Rattle.grid_index.proofs.Holding.{held_set}
use Rattle.grid_index.proofs.Placing.{filter_twice, neither}

-- ---- the slots with a key

abbrev pub kept : ℕ → Option Entry → Option Entry
kept key slot = cond (has_key key slot) None slot

-- what stays of one slot
one_kept : (key : ℕ) (slot : Option Entry) → option_to_list (kept key slot) ≡ filter (stays (key ∷ [])) (option_to_list slot)
one_kept key None = refl
one_kept key (Some e) = by (key == e.key)
  where
    by : (b : Bool) → option_to_list (cond b None (Some e)) ≡ cond (not (b || false)) (e ∷ []) []
    by true = refl
    by false = refl

all_kept : (key : ℕ) (old new : List (Option Entry)) → length new ≡ length old → ((i : ℕ) → i < length old → slot_at new i ≡ kept key (slot_at old i)) → held new ≡ filter (stays (key ∷ [])) (held old)
all_kept key [] [] long h = refl
all_kept key [] (y ∷ new) long h = absurd (omega arith)
all_kept key (x ∷ old) [] long h = absurd (omega arith)
all_kept key (x ∷ old) (y ∷ new) long h =
    ap₂ (λ (es fs : List Entry). es ++ fs) (ap option_to_list (h 0 (omega arith)) ∙ one_kept key x) (all_kept key old new (omega arith) (λ i l. h (suc i) (omega arith)))
    ∙ sym (filter-append (stays (key ∷ [])) (option_to_list x) (held old))

in_held : (slots : List (Option Entry)) (i : ℕ) (e : Entry) → slot_at slots i ≡ Some e → Contains (held slots) e
in_held [] i e h = absurd cc
in_held (x ∷ slots) zero e h = Contains-append_left (option_to_list x) (held slots) e (subst (λ (s : Option Entry). Contains (option_to_list s) e) (sym h) (in_head e []))
in_held (x ∷ slots) (suc i) e h = Contains-append_right (option_to_list x) (held slots) e (in_held slots i e h)

-- the slots before a place are emptied of the key, and the others are as they were
pub record IsEmptied (key : ℕ) (old new : List (Option Entry)) (at : ℕ) : Type 0 where
  pub long : length new ≡ length old
  pub done : (i : ℕ) → i < at → slot_at new i ≡ kept key (slot_at old i)
  pub rest : (i : ℕ) → at ≤ i → slot_at new i ≡ slot_at old i

pub IsEmptied-start : (key : ℕ) (old : List (Option Entry)) → IsEmptied key old old 0
IsEmptied-start key old = record { long = refl; done = λ i l. absurd (omega arith); rest = λ i l. refl }

-- boxes that do not meet the area are over slots without the key
pub IsEmptied-pass : (area : Window) (key : ℕ) (old new : List (Option Entry)) (row : List Window) (from next : ℕ) → IsBounded new row → AreNear area key (held old) → IsNextNear area row from next
    → IsEmptied key old new from → IsEmptied key old new next
IsEmptied-pass area key old new row from next bounded near is h = record {
  long = h.long;
  done = λ i l. by i l (cases_lt i from);
  rest = λ i l. let after = is.after in h.rest i (omega arith);
}
  where
    far : (i : ℕ) → from ≤ i → i < next → (slot : Option Entry) → slot_at old i ≡ slot → has_key key slot ≡ false
    far i l m None e = refl
    far i l m (Some x) e = off (key == x.key) refl
      where
        here : slot_at new i ≡ Some x
        here = h.rest i l ∙ e

        empty : near_boxes area x.boxes ≡ []
        empty = none_near area (get_or row i area) 0 x.boxes (bounded.holds i area x here) (is.apart i area l m)

        from_test : (m n : ℕ) → (m == n) ≡ true → n ≡ m
        from_test m n e = grind (arith, nat_tests)

        off : (b : Bool) → (key == x.key) ≡ b → b ≡ false
        off false e = refl
        off true f = absurd (true≢false (sym (All-contains (λ (y : Entry). y.key ≡ key → is_near area y ≡ true) (held old) x near (in_held old i x e) (from_test key x.key f))
            ∙ ap (λ (ps : List ℕ). not (nat_eq (length ps) 0)) empty))

    by : (i : ℕ) → i < next → (i < from) ⊎ (from ≤ i) → slot_at new i ≡ kept key (slot_at old i)
    by i l (inl m) = h.done i m
    by i l (inr m) = h.rest i m ∙ sym (ap (λ (b : Bool). cond b None (slot_at old i)) (far i m l (slot_at old i) refl))

-- a slot with the key
pub IsEmptied-clear : (key : ℕ) (old new : List (Option Entry)) (at : ℕ) → at < length new → has_key key (slot_at new at) ≡ true → IsEmptied key old new at → IsEmptied key old (slice_set new at None) (at + 1)
IsEmptied-clear key old new at l has h = record {
  long = length-set new at None ∙ h.long;
  done = λ i m. by i m (cases_eq i at);
  rest = λ i m. get_or-set_other new at i None None (λ (e : i ≡ at). omega arith) ∙ h.rest i (omega arith);
}
  where
    by : (i : ℕ) → i < at + 1 → (i ≡ at) ⊎ (i ≡ at → ⊥) → slot_at (slice_set new at None) i ≡ kept key (slot_at old i)
    by i m (inl e) =
        ap (λ n. slot_at (slice_set new at None) n) e ∙ get_or-set_same new at None None l
        ∙ sym (ap (λ n. kept key (slot_at old n)) e ∙ ap (kept key) (sym (h.rest at (omega arith))) ∙ ap (λ (b : Bool). cond b None (slot_at new at)) has)
    by i m (inr ne) = get_or-set_other new at i None None ne ∙ h.done i (omega arith)

-- another slot
pub IsEmptied-leave : (key : ℕ) (old new : List (Option Entry)) (at : ℕ) → has_key key (slot_at new at) ≡ false → IsEmptied key old new at → IsEmptied key old new (at + 1)
IsEmptied-leave key old new at has h = record {
  long = h.long;
  done = λ i m. by i m (cases_eq i at);
  rest = λ i m. h.rest i (omega arith);
}
  where
    by : (i : ℕ) → i < at + 1 → (i ≡ at) ⊎ (i ≡ at → ⊥) → slot_at new i ≡ kept key (slot_at old i)
    by i m (inl e) =
        ap (slot_at new) e ∙ sym (ap (λ n. kept key (slot_at old n)) e ∙ ap (kept key) (sym (h.rest at (omega arith))) ∙ ap (λ (b : Bool). cond b None (slot_at new at)) has)
    by i m (inr ne) = h.done i (omega arith)

pub IsEmptied-end : (key : ℕ) (old new : List (Option Entry)) (at : ℕ) → length new ≤ at → IsEmptied key old new at → held new ≡ filter (stays (key ∷ [])) (held old)
IsEmptied-end key old new at l h = let long = h.long in all_kept key old new long (λ i m. h.done i (omega arith))

-- ---- one key after the other

-- what is read past the last of them
abbrev pub no_key_box : KeyBox
no_key_box = record { key = 0; area = no_box }

pub emptied_more : (sought : List KeyBox) (i : ℕ) (old now new : List Entry) → i < length sought → now ≡ filter (stays (map (λ s. s.key) (take i sought))) old
    → new ≡ filter (stays ((get_or sought i no_key_box).key ∷ [])) now → new ≡ filter (stays (map (λ s. s.key) (take (i + 1) sought))) old
emptied_more sought i old now new l h e =
    e ∙ ap (filter (stays (one.key ∷ []))) h
    ∙ filter_twice (stays (one.key ∷ [])) (stays ks) (stays (ks ++ one.key ∷ [])) old (λ x. neither ks (one.key ∷ []) x.key ∙ swapped (stays ks x) (stays (one.key ∷ []) x))
    ∙ ap (λ (keys : List ℕ). filter (stays keys) old) (sym (ap (map key_of) (take_more sought i no_key_box l) ∙ map_push key_of (take i sought) one))
  where
    one : KeyBox
    one = get_or sought i no_key_box

    key_of : KeyBox → ℕ
    key_of s = s.key

    ks : List ℕ
    ks = map (λ s. s.key) (take i sought)

    swapped : (a b : Bool) → (a && b) ≡ (b && a)
    swapped true true = refl
    swapped true false = refl
    swapped false true = refl
    swapped false false = refl

pub still_near : (gone : List ℕ) (area : Window) (key : ℕ) (old now : List Entry) → now ≡ filter (stays gone) old → AreNear area key old → AreNear area key now
still_near gone area key old now e h = subst (AreNear area key) (sym e) (All-filter (stays gone) (λ (x : Entry). x.key ≡ key → is_near area x ≡ true) old h)

-- ---- what comes

-- an empty slot takes one of those that come
pub given : (slots come left : List (Option Entry)) (i : ℕ) (x : Option Entry) → i < length slots → slot_at slots i ≡ None → IsPermutation (held come) (option_to_list x ++ held left)
    → IsPermutation (held slots ++ held come) (held (slice_set slots i x) ++ held left)
given slots come left i x l empty h =
    IsPermutation-trans (held slots ++ held come) (held slots ++ (option_to_list x ++ held left)) (held (slice_set slots i x) ++ held left)
    (IsPermutation-append_right (held slots) (held come) (option_to_list x ++ held left) h)
    (subst (λ (es : List Entry). IsPermutation es (held (slice_set slots i x) ++ held left)) (append_assoc (held slots) (option_to_list x) (held left))
    (IsPermutation-append_left (held left) (held slots ++ option_to_list x) (held (slice_set slots i x))
    (IsPermutation-trans (held slots ++ option_to_list x) (option_to_list x ++ held slots) (held (slice_set slots i x)) (IsPermutation-append_comm (held slots) (option_to_list x))
    (subst (λ (s : Option Entry). IsPermutation (option_to_list x ++ held slots) (option_to_list s ++ held (slice_set slots i x))) empty (held_set slots i x l)))))

pub popped : (come left : List (Option Entry)) (x : Option Entry) → held come ≡ held left ++ option_to_list x → IsPermutation (held come) (option_to_list x ++ held left)
popped come left x e = subst (λ (es : List Entry). IsPermutation es (option_to_list x ++ held left)) (sym e) (IsPermutation-append_comm (held left) (option_to_list x))

pub stays_all : (es : List Entry) → filter (stays []) es ≡ es
stays_all [] = refl
stays_all (e ∷ es) = ap (λ l. e ∷ l) (stays_all es)
