-- Counts in a line: what is read as one, and that its spelling is read again.
use Rattle.std.proofs.Common.{◌≡◌, ℕ, ◌-◌, ◌^◌, ◌≤◌, true, cond, eqb, List, [], ◌∷◌, Some, None, refl, subst, arith}
use Rattle.std.specs.Prelude.{decimal}
use Rattle.std.proofs.lemmas.Bool.{lt-ltb, ltb-true, eqb-true}
use Rattle.line_forms.specs.Words.{Row, after_word, natural_at, count_at, after_count}
use Rattle.line_forms.specs.ListingLines.{read_count}
use Rattle.map_forms.specs.Listing.{count_words}
use Rattle.slice_forms.specs.SliceForms.{is_number}
use Rattle.std.proofs.lemmas.Option.{cond_some, option_and_then_some}
use Rattle.plain_io.proofs.Words.{is_plain_word, decimal_plain}
use Rattle.plain_io.proofs.Rows.{is_plain_row}
use Rattle.plain_io.proofs.Steps.{bind_some, after_word_is, natural_at_is, ended_is, after_word_again, natural_at_again}

-- the test of a number
pub number_test : (n : ℕ) → n ≤ 2 ^ 32 - 1 → is_number n ≡ true
number_test n high = lt-ltb n (2 ^ 32) (omega arith)

pub number_small : (n : ℕ) → is_number n ≡ true → n ≤ 2 ^ 32 - 1
number_small n h = let small = ltb-true n (2 ^ 32) h in omega arith

-- its spelling has no separator
pub number_plain : (n : ℕ) → is_number n ≡ true → is_plain_word (decimal n) ≡ true
number_plain n h = decimal_plain n (omega (arith, number_small n h))

-- a number from least on
pub number_from_is : (least : ℕ) (row : Row) (x : ℕ × Row) → natural_at least (2 ^ 32 - 1) row ≡ Some x → (row ≡ decimal x.0 ∷ x.1) × (least ≤ x.0) × (is_number x.0 ≡ true)
number_from_is least row x e =
    let given = natural_at_is least (2 ^ 32 - 1) row x e in
    (given.0, given.1, number_test x.0 given.2)

pub number_from_again : (least n : ℕ) (rest : Row) → least ≤ n → is_number n ≡ true → natural_at least (2 ^ 32 - 1) (decimal n ∷ rest) ≡ Some (n, rest)
number_from_again least n rest low h = natural_at_again least (2 ^ 32 - 1) n rest low (number_small n h) (omega (arith, number_small n h))

-- a count
pub count_at_is : (row : Row) (x : ℕ × Row) → count_at row ≡ Some x → (row ≡ decimal x.0 ∷ x.1) × (is_number x.0 ≡ true)
count_at_is row x e = let given = number_from_is 0 row x e in (given.0, given.2)

pub count_at_again : (n : ℕ) (rest : Row) → is_number n ≡ true → count_at (decimal n ∷ rest) ≡ Some (n, rest)
count_at_again n rest h = number_from_again 0 n rest (omega arith) h

-- a count that was passed over is a number
pub after_count_small : (n : ℕ) (row rest : Row) → after_count n row ≡ Some rest → is_number n ≡ true
after_count_small n row rest e =
    let a = bind_some (count_at row) (λ z. cond (eqb z.0 n) (Some z.1) None) rest e in
    let given = cond_some (eqb a.0.0 n) a.0.1 rest a.2 in
    subst (λ (k : ℕ). is_number k ≡ true) (eqb-true a.0.0 n given.0) (count_at_is row a.0 a.1).1

-- a row of a keyword and a count
pub count_row_is : (word : List ℕ) (row : Row) (n : ℕ) → read_count word 0 (2 ^ 32 - 1) row ≡ Some n → (row ≡ count_words word n) × (is_number n ≡ true)
unfolding read_count
count_row_is word row n e =
    option_and_then_some _ (after_word word row) n e (λ start e0 r0.
    option_and_then_some _ (natural_at 0 (2 ^ 32 - 1) start) n r0 (λ m e1 r1.
    let f0 = after_word_is word row start e0 in
    let f1 = count_at_is start m e1 in
    let done = ended_is m.0 n m.1 r1 in
    let spelled : row ≡ count_words word m.0 = let s = f1.0 in let last = done.0 in cc in
    subst (λ (k : ℕ). (row ≡ count_words word k) × (is_number k ≡ true)) done.1 (spelled, f1.1)))

pub count_row_again : (word : List ℕ) (n : ℕ) → is_number n ≡ true → read_count word 0 (2 ^ 32 - 1) (count_words word n) ≡ Some n
unfolding read_count
count_row_again word n h = rw (after_word_again word (decimal n ∷ []), number_from_again 0 n [] (omega arith) h) refl

pub count_row_plain : (word : List ℕ) (n : ℕ) → is_plain_word word ≡ true → is_number n ≡ true → is_plain_row (count_words word n) ≡ true
count_row_plain word n plain h = rw (plain, number_plain n h) refl
