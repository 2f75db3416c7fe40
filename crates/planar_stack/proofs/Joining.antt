-- The first gaps of parts, joined.
use Rattle.std.proofs.Common.{◌≡◌, inl, inr, ℕ, zero, suc, ◌+◌, ◌-◌, ◌<◌, ◌≤◌, List, [], ◌∷◌, ◌++◌, length, get_or, take, ℤ, pos, All, Option, Some, None, Result, Ok, Err, IfOk, true, refl, sym, ap, ◌∙◌, subst, arith}
use Rattle.std.specs.Option.{option_map, is_some}
use Rattle.std.specs.List.{AllZip, range_with_len}
use Rattle.std.proofs.lemmas.Bool.{cases_lt}
use Rattle.std.proofs.Math.Nat.{mul-le-mul_left}
use Rattle.std.proofs.lemmas.List.{get_or_default, get_or-take, get_or_append_left, get_or-append-add, length-append, length-take-le}
use Rattle.std.proofs.lemmas.List.FromFn.{get_or-range_with_len, length-range_with_len}
use Rattle.tgap_model.specs.declared.segment.LabelledSegment.{LabelledSegment}
use Rattle.tgap_model.specs.declared.failure.Memory.{Memory}
use Rattle.tgap_model.specs.Partition.{stack_fault, first_fault, all_but_last}
use Rattle.tgap_model.proofs.FirstFault.{none_from_faults}
use Rattle.planar_stack.specs.declared.gap.StackGap.{StackGap}
use Rattle.planar_stack.specs.Sweep.{disagrees}
use Rattle.planar_stack.specs.Parts.{IsGapIn, first_found, part_start}
use Rattle.planar_stack.proofs.Swept.{first_fault_at, all_but_last-All}

-- a relation of two lists, place by place
zip_at : {A B : Type 0} (R : A → B → Type 0) (xs : List A) (ys : List B) → AllZip R xs ys
    → (length ys ≡ length xs) × ((k : ℕ) (d : A) (e : B) → k < length xs → R (get_or xs k d) (get_or ys k e))
zip_at R [] [] h = (refl, λ k d e lt. absurd (omega (arith, lt)))
zip_at R [] (y ∷ ys) h = absurd h
zip_at R (x ∷ xs) [] h = absurd h
zip_at {A} {B} R (x ∷ xs) (y ∷ ys) h = let rest = zip_at R xs ys h.1 in (ap suc rest.0, at rest.1)
  where
    at : ((k : ℕ) (d : A) (e : B) → k < length xs → R (get_or xs k d) (get_or ys k e)) → (k : ℕ) (d : A) (e : B) → k < length (x ∷ xs) → R (get_or (x ∷ xs) k d) (get_or (y ∷ ys) k e)
    at rest zero d e lt = h.0
    at rest (suc k) d e lt = rest k d e (omega arith)

module _ (segments : List LabelledSegment) (lines : List ℤ) where
  -- what stands first in a part stands first in a longer one
  gap_longer : (a b c : ℕ) (g : StackGap) → b ≤ c → IsGapIn segments lines a b (Some g) → IsGapIn segments lines a c (Some g)
  gap_longer a b c g le (k, from, to, here, none) = (k, from, omega arith, here, none)

  gap_after : (a b c : ℕ) (y : Option StackGap) → a ≤ b → IsGapIn segments lines a b None → IsGapIn segments lines b c y → IsGapIn segments lines a c y
  gap_after a b c None le before after = λ k from to. elim (cases_lt k b) [ inl less ↦ before k from less | inr more ↦ after k more to ]
  gap_after a b c (Some g) le before (k, from, to, here, none) =
      (k, omega arith, to, here, λ j after less. elim (cases_lt j b) [ inl lt ↦ before j after lt | inr more ↦ none j more less ])

  -- a gap at a line, where no line before it has one
  pub gap_at_line : (from to i : ℕ) (gap : Option StackGap) → is_some gap ≡ true → option_map disagrees gap ≡ stack_fault segments (get_or lines i (pos 0)) → from ≤ i → i < to
      → ((k : ℕ) → from ≤ k → k < i → stack_fault segments (get_or lines k (pos 0)) ≡ None) → IsGapIn segments lines from to gap
  gap_at_line from to i None some e le lt none = absurd cc
  gap_at_line from to i (Some g) some e le lt none = (i, le, lt, sym e, none)

  joined : (a b c : ℕ) (x y : Result (Option StackGap) Memory) → a ≤ b → b ≤ c → IfOk x (IsGapIn segments lines a b) → IfOk y (IsGapIn segments lines b c)
      → IfOk (first_found x y) (IsGapIn segments lines a c)
  joined a b c (Ok None) (Ok y) l m h k = gap_after a b c y l h k
  joined a b c (Ok None) (Err e) l m h k = k
  joined a b c (Ok (Some g)) y l m h k = gap_longer a b c g m h
  joined a b c (Err e) y l m h k = h

  -- ---- parts in a row

  module _ (size : ℕ) where
    later : (p q : ℕ) → p ≤ q → part_start lines size p ≤ part_start lines size q
    later p q le = omega (arith, mul-le-mul_left size le)

    -- the parts from one on have their first gap
    abbrev pub IsFirstOfParts : List (Result (Option StackGap) Memory) → Result (Option StackGap) Memory → Type 0
    IsFirstOfParts found first =
        (p : ℕ) → ((k : ℕ) (d : Result (Option StackGap) Memory) → k < length found → IfOk (get_or found k d) (IsGapIn segments lines (part_start lines size (p + k)) (part_start lines size (p + k + 1))))
        → IfOk first (IsGapIn segments lines (part_start lines size p) (part_start lines size (p + length found)))

    pub none_found : (e : Result (Option StackGap) Memory) → e ≡ Ok None → IsFirstOfParts [] e
    none_found e none p parts = subst (λ (r : Result (Option StackGap) Memory). IfOk r (IsGapIn segments lines (part_start lines size p) (part_start lines size (p + 0)))) (sym none)
        (λ k from to. absurd (omega (arith, from, to)))

    pub both_found : (xs ys : List (Result (Option StackGap) Memory)) (a b r : Result (Option StackGap) Memory) → IsFirstOfParts xs a → IsFirstOfParts ys b → r ≡ first_found a b → IsFirstOfParts (xs ++ ys) r
    both_found xs ys a b r h k e p parts =
        let n = length xs in
        let m = length ys in
        let all : p + n + m ≡ p + length (xs ++ ys) = omega (arith, length-append xs ys) in
        let left = h p (λ j d lt. subst (λ (x : Result (Option StackGap) Memory). IfOk x (IsGapIn segments lines (part_start lines size (p + j)) (part_start lines size (p + j + 1)))) (get_or_append_left xs ys d j lt)
        (parts j d (omega (arith, lt, length-append xs ys)))) in
        let right = k (p + n) (λ j d lt.
        let here : p + (n + j) ≡ p + n + j = omega arith in
        subst (λ (x : Result (Option StackGap) Memory). IfOk x (IsGapIn segments lines (part_start lines size (p + n + j)) (part_start lines size (p + n + j + 1)))) (get_or-append-add xs ys j d)
        (subst (λ (i : ℕ). IfOk (get_or (xs ++ ys) (n + j) d) (IsGapIn segments lines (part_start lines size i) (part_start lines size (i + 1)))) here (parts (n + j) d (omega (arith, lt, length-append xs ys))))) in
        subst (λ (x : Result (Option StackGap) Memory). IfOk x (IsGapIn segments lines (part_start lines size p) (part_start lines size (p + length (xs ++ ys))))) (sym e)
        (subst (λ (i : ℕ). IfOk (first_found a b) (IsGapIn segments lines (part_start lines size p) (part_start lines size i))) all
        (joined (part_start lines size p) (part_start lines size (p + n)) (part_start lines size (p + n + m)) a b (later p (p + n) (omega arith)) (later (p + n) (p + n + m) (omega arith)) left right))

    one_found : (x : Result (Option StackGap) Memory) → IsFirstOfParts (x ∷ []) x
    one_found x p parts =
        let here : p + 0 ≡ p = omega arith in
        subst (λ (i : ℕ). IfOk x (IsGapIn segments lines (part_start lines size i) (part_start lines size (p + 1)))) here
        (let next : p + 0 + 1 ≡ p + 1 = omega arith in
        subst (λ (i : ℕ). IfOk x (IsGapIn segments lines (part_start lines size (p + 0)) (part_start lines size i))) next (parts 0 x (omega arith)))

    pub more_found : (xs : List (Result (Option StackGap) Memory)) (a x r : Result (Option StackGap) Memory) → IsFirstOfParts xs a → r ≡ first_found a x → IsFirstOfParts (xs ++ x ∷ []) r
    more_found xs a x r h e = both_found xs (x ∷ []) a x r h (one_found x) e

    -- all parts, from the first one on
    pub from_first : (found : List (Result (Option StackGap) Memory)) (first : Result (Option StackGap) Memory) (n : ℕ)
        → AllZip (λ (p : ℕ) (x : Result (Option StackGap) Memory). IfOk x (IsGapIn segments lines (part_start lines size p) (part_start lines size (p + 1)))) (range_with_len 0 n) found
        → IsFirstOfParts found first → IfOk first (IsGapIn segments lines 0 (part_start lines size n))
    from_first found first n h f =
        let zipped = zip_at (λ (p : ℕ) (x : Result (Option StackGap) Memory). IfOk x (IsGapIn segments lines (part_start lines size p) (part_start lines size (p + 1)))) (range_with_len 0 n) found h in
        let long : length found ≡ n = zipped.0 ∙ length-range_with_len 0 n in
        let zero_start : part_start lines size 0 ≡ 0 = omega arith in
        let all : 0 + length found ≡ n = omega (arith, long) in
        subst (λ (i : ℕ). IfOk first (IsGapIn segments lines i (part_start lines size n))) zero_start
        (subst (λ (i : ℕ). IfOk first (IsGapIn segments lines (part_start lines size 0) (part_start lines size i))) all
        (f 0 (λ k d lt. subst (λ (i : ℕ). IfOk (get_or found k d) (IsGapIn segments lines (part_start lines size i) (part_start lines size (i + 1)))) (get_or-range_with_len 0 n k 0 (omega (arith, lt, long)))
        (zipped.1 k 0 d (omega (arith, lt, long, length-range_with_len 0 n))))))

  -- ---- all lines

  below : (n : ℕ) → n ≤ length lines → ((k : ℕ) → k < n → stack_fault segments (get_or lines k (pos 0)) ≡ None) → All (λ v. stack_fault segments v ≡ None) (take n lines)
  below n le none k d short =
      let lt : k < n = omega (arith, short, length-take-le n lines le) in
      subst (λ (v : ℤ). stack_fault segments v ≡ None) (get_or_default lines k (pos 0) d (omega arith) ∙ sym (get_or-take n lines k d lt)) (none k lt)

  -- the first gap of all lines that have a next one is the first fault
  pub gap_of_all : (gap : Option StackGap) → IsGapIn segments lines 0 (length lines - 1) gap → option_map disagrees gap ≡ first_fault (stack_fault segments) (all_but_last lines)
  gap_of_all None h =
      sym (none_from_faults (stack_fault segments) (all_but_last lines) (all_but_last-All (λ v. stack_fault segments v ≡ None) lines (length lines - 1) (omega arith)
      (below (length lines - 1) (omega arith) (λ k lt. h k (omega arith) lt))))
  gap_of_all (Some g) (k, from, to, here, none) =
      sym (first_fault_at (stack_fault segments) lines k (pos 0) (disagrees g) (omega arith) (below k (omega arith) (λ j lt. none j (omega arith) lt)) here)
