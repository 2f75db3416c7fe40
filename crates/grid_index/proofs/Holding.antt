-- What slots have, where one of them changes.
use Rattle.std.proofs.Common.{◌≡◌, ◌≢◌, ◌⊎◌, inl, inr, ℕ, zero, suc, ◌+◌, ◌<◌, ◌≤◌, Bool, true, false, List, [], ◌∷◌, ◌++◌, length, get_or, take, replicate, All, IsPermutation, Option, Some, None, refl, sym, ap, ap₂, ◌∙◌, subst, subst₂, append_assoc, true≢false, arith}
use Rattle.std.specs.Prelude.{option_to_list, slice_set, is_some, IfNone, not}
use Rattle.std.proofs.lemmas.Grind.{flat_map-append}
use Rattle.std.proofs.lemmas.List.{append-nil, take_all, take_more, take_more_set, length-set, length-append, length-replicate, get_or_append_left, get_or_push}
use Rattle.std.proofs.lemmas.Bool.{cases_lt}
use Rattle.std.proofs.lemmas.List.Sorted.{IsPermutation-trans, IsPermutation-append, IsPermutation-append_comm, IsPermutation-append_left, IsPermutation-append_right, length_permutation}
use Rattle.tgap_model.specs.declared.geometry.Window.{Window}
use Rattle.grid_index.specs.declared.segments.Entry.{Entry}
use Rattle.grid_index.specs.Boxes.{Covers}
use Rattle.grid_index.specs.Slots.{held, slot_at, IsBounded}

-- two rows exchanged, with a third behind them
pub rows_exchanged : {A : Type 0} (xs ys zs : List A) → IsPermutation (xs ++ (ys ++ zs)) (ys ++ (xs ++ zs))
rows_exchanged xs ys zs = subst₂ IsPermutation (append_assoc xs ys zs) (append_assoc ys xs zs) (IsPermutation-append_left zs (xs ++ ys) (ys ++ xs) (IsPermutation-append_comm xs ys))

pub held-append : (xs ys : List (Option Entry)) → held (xs ++ ys) ≡ held xs ++ held ys
held-append xs ys = flat_map-append option_to_list xs ys

-- one slot has something else
pub held_set : (xs : List (Option Entry)) (i : ℕ) (y : Option Entry) → i < length xs → IsPermutation (option_to_list y ++ held xs) (option_to_list (slot_at xs i) ++ held (slice_set xs i y))
held_set [] i y l = absurd (omega arith)
held_set (x ∷ xs) zero y l = rows_exchanged (option_to_list y) (option_to_list x) (held xs)
held_set (x ∷ xs) (suc i) y l =
    let o = option_to_list y in
    let p = option_to_list x in
    let q = option_to_list (slot_at xs i) in
    let r = held (slice_set xs i y) in
    IsPermutation-trans (o ++ (p ++ held xs)) (p ++ (o ++ held xs)) (q ++ (p ++ r)) (rows_exchanged o p (held xs))
    (IsPermutation-trans (p ++ (o ++ held xs)) (p ++ (q ++ r)) (q ++ (p ++ r))
    (IsPermutation-append_right p (o ++ held xs) (q ++ r) (held_set xs i y (omega arith))) (rows_exchanged p q r))

-- empty slots have nothing
pub held_empty : (n : ℕ) → held (replicate n None) ≡ []
held_empty zero = refl
held_empty (suc n) = held_empty n

-- what a slot of a row has if empty ones are put behind it
pub slot_at_widened : (xs : List (Option Entry)) (n i : ℕ) (e : Entry) → slot_at (xs ++ replicate n None) i ≡ Some e → (i < length xs) × (slot_at xs i ≡ Some e)
slot_at_widened [] n i e h = absurd (empty n i h)
  where
    empty : (n i : ℕ) → slot_at (replicate n None) i ≡ Some e → ⊥
    empty zero i h = cc
    empty (suc n) zero h = cc
    empty (suc n) (suc i) h = empty n i h
slot_at_widened (x ∷ xs) n zero e h = (omega arith, h)
slot_at_widened (x ∷ xs) n (suc i) e h = let r = slot_at_widened xs n i e h in (omega (arith, r.0), r.1)

-- only a slot that is there has something
pub slot_within : (xs : List (Option Entry)) (i : ℕ) (e : Entry) → slot_at xs i ≡ Some e → i < length xs
slot_within [] i e h = absurd cc
slot_within (x ∷ xs) zero e h = omega arith
slot_within (x ∷ xs) (suc i) e h = let r = slot_within xs i e h in omega arith

-- one slot more
held_more : (xs : List (Option Entry)) (i : ℕ) → i < length xs → held (take (i + 1) xs) ≡ held (take i xs) ++ option_to_list (slot_at xs i)
held_more xs i l = ap held (take_more xs i None l) ∙ held-append (take i xs) (slot_at xs i ∷ []) ∙ ap (λ ys. held (take i xs) ++ ys) (append-nil (option_to_list (slot_at xs i)))

-- ---- what comes goes into empty slots

-- the slots before a place have something, and what comes is in them, next, or left
pub record IsFilled (old come : List (Option Entry)) (i : ℕ) (new : List (Option Entry)) (next : Option Entry) (left : List (Option Entry)) : Type 0 where
  pub moved : IsPermutation (held old ++ held come) (held new ++ (option_to_list next ++ held left))
  pub full : length (held (take i new)) ≡ i
  pub long : length new ≡ length old
  pub none : next ≡ None → left ≡ []

pub IsFilled-start : (old come : List (Option Entry)) (next : Option Entry) (left : List (Option Entry)) → held come ≡ held left ++ option_to_list next → (next ≡ None → left ≡ []) → IsFilled old come 0 old next left
IsFilled-start old come next left h none = record {
  moved = IsPermutation-append_right (held old) (held come) (option_to_list next ++ held left)
      (subst (λ (xs : List Entry). IsPermutation xs (option_to_list next ++ held left)) (sym h) (IsPermutation-append_comm (held left) (option_to_list next)));
  full = refl;
  long = refl;
  none = none;
}

pub none_left : (next : Option Entry) (left : List (Option Entry)) → IfNone next (left ≡ []) → next ≡ None → left ≡ []
none_left None left h e = h
none_left (Some x) left h e = absurd cc

pub none_from_test : (x : Option Entry) (r : Bool) → is_some x ≡ not r → r ≡ true → x ≡ None
none_from_test None r e h = refl
none_from_test (Some y) r e h = absurd (true≢false (e ∙ ap not h))

pub some_from_test : (x : Option Entry) (r : Bool) → is_some x ≡ not r → r ≡ false → x ≢ None
some_from_test x r e h none = true≢false (sym (sym (ap is_some none) ∙ e ∙ ap not h))

one_held : (x : Option Entry) → x ≢ None → length (option_to_list x) ≡ 1
one_held None ne = absurd (ne refl)
one_held (Some e) ne = refl

-- a slot that has something
pub IsFilled-kept : (old come : List (Option Entry)) (i : ℕ) (new : List (Option Entry)) (next : Option Entry) (left : List (Option Entry)) → i < length new → slot_at new i ≢ None
    → IsFilled old come i new next left → IsFilled old come (i + 1) new next left
IsFilled-kept old come i new next left l ne h = record {
  moved = h.moved;
  full = ap length (held_more new i l) ∙ length-append (held (take i new)) (option_to_list (slot_at new i)) ∙ ap₂ (λ m n. m + n) h.full (one_held (slot_at new i) ne);
  long = h.long;
  none = h.none;
}

-- an empty one, which takes what is next
pub IsFilled-put : (old come : List (Option Entry)) (i : ℕ) (new : List (Option Entry)) (next : Option Entry) (left : List (Option Entry)) (after : Option Entry) (rest : List (Option Entry)) → i < length new
    → slot_at new i ≡ None → next ≢ None → held left ≡ held rest ++ option_to_list after → (after ≡ None → rest ≡ []) → IsFilled old come i new next left
    → IsFilled old come (i + 1) (slice_set new i next) after rest
IsFilled-put old come i new next left after rest l empty ne popped none h = record {
  moved = IsPermutation-trans (held old ++ held come) (H ++ (o ++ held left)) (K ++ (a ++ held rest)) h.moved
      (IsPermutation-trans (H ++ (o ++ held left)) (o ++ (H ++ held left)) (K ++ (a ++ held rest)) (rows_exchanged H o (held left))
      (subst (λ (xs : List Entry). IsPermutation xs (K ++ (a ++ held rest))) (append_assoc o H (held left))
      (IsPermutation-append (o ++ H) K (held left) (a ++ held rest) filled
      (subst (λ (xs : List Entry). IsPermutation xs (a ++ held rest)) (sym popped) (IsPermutation-append_comm (held rest) a)))));
  full =
      ap (λ (xs : List (Option Entry)). length (held xs)) (take_more_set new i next l) ∙ ap length (held-append (take i new) (next ∷ []))
      ∙ length-append (held (take i new)) (held (next ∷ [])) ∙ ap₂ (λ m n. m + n) h.full (ap length (append-nil o) ∙ one_held next ne);
  long = length-set new i next ∙ h.long;
  none = none;
}
  where
    H : List Entry
    H = held new

    K : List Entry
    K = held (slice_set new i next)

    o : List Entry
    o = option_to_list next

    a : List Entry
    a = option_to_list after

    filled : IsPermutation (o ++ H) K
    filled = subst (λ (x : Option Entry). IsPermutation (o ++ H) (option_to_list x ++ K)) empty (held_set new i next l)

-- what was filled stays so where equal lists stand for its own
pub IsFilled-same : {old come : List (Option Entry)} {i : ℕ} {new newer : List (Option Entry)} {next after : Option Entry} {left rest : List (Option Entry)} → newer ≡ new → after ≡ next → rest ≡ left
    → IsFilled old come i new next left → IsFilled old come i newer after rest
IsFilled-same {old} {come} {i} {new} {newer} {next} {after} {left} {rest} e f g h =
    subst₂ (λ (n : List (Option Entry)) (x : Option Entry). IsFilled old come i n x rest) (sym e) (sym f) (subst (λ (l : List (Option Entry)). IsFilled old come i new next l) (sym g) h)

-- nothing is left
pub IsFilled-end : (old come : List (Option Entry)) (i : ℕ) (new : List (Option Entry)) (next : Option Entry) (left : List (Option Entry)) → next ≡ None → IsFilled old come i new next left
    → IsPermutation (held old ++ held come) (held new)
IsFilled-end old come i new next left e h =
    subst (λ (xs : List Entry). IsPermutation (held old ++ held come) xs)
    (ap₂ (λ (x : Option Entry) (l : List (Option Entry)). held new ++ (option_to_list x ++ held l)) e (h.none e) ∙ append-nil (held new)) h.moved

-- nor is it where all slots have something, for there is room
pub IsFilled-all : (old come : List (Option Entry)) (i : ℕ) (new : List (Option Entry)) (next : Option Entry) (left : List (Option Entry)) → length new ≤ i → length (held old) + length (held come) ≤ length old
    → IsFilled old come i new next left → IsPermutation (held old ++ held come) (held new)
IsFilled-all old come i new None left le room h = IsFilled-end old come i new None left refl h
IsFilled-all old come i new (Some e) left le room h =
    let count = length_permutation (held old ++ held come) (held new ++ (e ∷ held left)) h.moved in
    let a = length-append (held old) (held come) in
    let b = length-append (held new) (e ∷ held left) in
    let all : length (held new) ≡ i = ap (λ (xs : List (Option Entry)). length (held xs)) (sym (take_all i new le)) ∙ h.full in
    let long = h.long in
    absurd (omega arith)

-- ---- boxes over slots

pub IsBounded-more : (slots : List (Option Entry)) (i : ℕ) (row : List Window) (slot : Option Entry) (b : Window) → i < length slots → slot ≡ slot_at slots i → IsBounded (take i slots) row
    → ((e : Entry) → slot ≡ Some e → All (Covers b) e.boxes) → IsBounded (take (i + 1) slots) (row ++ b ∷ [])
IsBounded-more slots i row slot b l same h holds =
    subst (λ (xs : List (Option Entry)). IsBounded xs (row ++ b ∷ [])) (sym (take_more slots i None l ∙ ap (λ (x : Option Entry). take i slots ++ x ∷ []) (sym same))) (push (take i slots) row h)
  where
    push : (xs : List (Option Entry)) (row : List Window) → IsBounded xs row → IsBounded (xs ++ slot ∷ []) (row ++ b ∷ [])
    push xs row h = record {
      long = length-append row (b ∷ []) ∙ ap (λ n. n + 1) h.long ∙ sym (length-append xs (slot ∷ []));
      holds = λ k d e is. by k d e is (cases_lt k (length xs));
    }
      where
        by : (k : ℕ) (d : Window) (e : Entry) → slot_at (xs ++ slot ∷ []) k ≡ Some e → (k < length xs) ⊎ (length xs ≤ k) → All (Covers (get_or (row ++ b ∷ []) k d)) e.boxes
        by k d e is (inl less) =
            let long = h.long in
            let within : k < length row = omega arith in
            subst (λ a. All (Covers a) e.boxes) (sym (get_or_append_left row (b ∷ []) d k within)) (h.holds k d e (sym (get_or_append_left xs (slot ∷ []) None k less) ∙ is))
        by k d e is (inr le) =
            let m = slot_within (xs ++ slot ∷ []) k e is in
            let long = h.long in
            let last : k ≡ length xs = omega (arith, length-append xs (slot ∷ [])) in
            let last_row : length row ≡ k = omega arith in
            subst (λ a. All (Covers a) e.boxes) (sym (get_or_push row b d k last_row)) (holds e (sym (get_or_push xs slot None k (sym last)) ∙ is))

pub IsBounded-widened : (slots : List (Option Entry)) (row : List Window) (n : ℕ) (b : Window) → IsBounded slots row → IsBounded (slots ++ replicate n None) (row ++ replicate n b)
IsBounded-widened slots row n b h = record {
  long = length-append row (replicate n b) ∙ ap₂ (λ i j. i + j) h.long (length-replicate n b ∙ sym (length-replicate {A = Option Entry} n None)) ∙ sym (length-append slots (replicate n None));
  holds = λ i d e is.
      let r = slot_at_widened slots n i e is in
      let long = h.long in
      let within : i < length row = omega (arith, r.0) in
      subst (λ a. All (Covers a) e.boxes) (sym (get_or_append_left row (replicate n b) d i within)) (h.holds i d e r.1);
}
