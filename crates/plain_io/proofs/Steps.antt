-- The steps of a reader: what each takes is what it was to find, and what is spelled so is taken again.
use Rattle.std.proofs.Common.{◌≡◌, ◌≢◌, ℕ, zero, suc, ◌++◌, ◌-◌, ◌^◌, ◌<◌, ◌≤◌, true, cond, eqb, List, [], ◌∷◌, Option, Some, None, Result, Ok, Err, refl, ap, subst, ◌∙◌, arith}
use Rattle.std.specs.Prelude.{ℤ, pos, negsuc, unsigned_abs, decimal, bytes_eq}
use Rattle.std.specs.Fmt.{signed_decimal}
use Rattle.std.specs.Option.{ok_or}
use Rattle.std.proofs.lemmas.Bool.{eqb-true, eq-eqb}
use Rattle.std.proofs.lemmas.Int.{ints}
use Rattle.std.proofs.lemmas.Option.{cond_some, option_and_then_some}
use Rattle.tgap_model.specs.Base.{within}
use Rattle.line_forms.specs.Texts.{number_of}
use Rattle.line_forms.specs.Words.{Row, ◌>>=◌, after_word, number_at, natural_at, count_at, after_count, ended, read_words}
use Rattle.line_forms.specs.Lines.{◌>>=◌ as ◌or>>=◌, Lines, next_number, whole_line, line_at, read_row, read_line}
use Rattle.plain_io.proofs.Words.{same_bytes, bytes_eq_itself, number_again, number_is}

-- the value of a step that gave one
pub bind_some : {A B : Type 0} (o : Option A) (f : A → Option B) (y : B) → (o >>= f) ≡ Some y → (x : A) × (o ≡ Some x) × (f x ≡ Some y)
bind_some (Some x) f y e = (x, refl, e)
bind_some None f y e = absurd cc

-- ---- what a step takes

-- the word that was passed over
pub after_word_is : (word : List ℕ) (row rest : Row) → after_word word row ≡ Some rest → row ≡ word ∷ rest
after_word_is word [] rest e = absurd cc
after_word_is word (w ∷ row) rest e =
    let given = cond_some (bytes_eq w word) row rest e in
    let same = same_bytes w word given.0 in
    cc

-- the spelling of the number that was read, which is in the range
pub number_at_is : (least most : ℤ) (row : Row) (x : ℤ × Row) → number_at least most row ≡ Some x → (row ≡ signed_decimal x.0 ∷ x.1) × (within least most x.0 ≡ true)
number_at_is least most [] x e = absurd cc
number_at_is least most (w ∷ row) x e =
    let a = bind_some (number_of least most w) (λ z. Some (z, row)) x e in
    let given = number_is least most a.0 w a.1 in
    let made : (a.0, row) ≡ x = cc in
    subst (λ (y : ℤ × Row). (w ∷ row ≡ signed_decimal y.0 ∷ y.1) × (within least most y.0 ≡ true)) made (ap (λ (v : List ℕ). v ∷ row) given.0, given.1)

-- a number from 0 on has no sign
natural : (least most : ℕ) (z : ℤ) → within (pos least) (pos most) z ≡ true → (z ≡ pos (unsigned_abs z)) × (least ≤ unsigned_abs z) × (unsigned_abs z ≤ most)
natural least most (pos n) e = (refl, grind (arith, ints), grind (arith, ints))
natural least most (negsuc n) e = absurd cc

-- the spelling of the number without a sign that was read, which is in the range
pub natural_at_is : (least most : ℕ) (row : Row) (x : ℕ × Row) → natural_at least most row ≡ Some x → (row ≡ decimal x.0 ∷ x.1) × (least ≤ x.0) × (x.0 ≤ most)
natural_at_is least most row x e =
    let a = bind_some (number_at (pos least) (pos most) row) (λ z. Some (unsigned_abs z.0, z.1)) x e in
    let given = number_at_is (pos least) (pos most) row a.0 a.1 in
    let made : (unsigned_abs a.0.0, a.0.1) ≡ x = cc in
    let plain = natural least most a.0.0 given.1 in
    subst (λ (y : ℕ × Row). (row ≡ decimal y.0 ∷ y.1) × (least ≤ y.0) × (y.0 ≤ most)) made (given.0 ∙ ap (λ z. signed_decimal z ∷ a.0.1) plain.0, plain.1, plain.2)

-- the spelling of the count that was passed over
pub after_count_is : (n : ℕ) (row rest : Row) → after_count n row ≡ Some rest → row ≡ decimal n ∷ rest
after_count_is n row rest e =
    let a = bind_some (count_at row) (λ z. cond (eqb z.0 n) (Some z.1) None) rest e in
    let given = cond_some (eqb a.0.0 n) a.0.1 rest a.2 in
    (natural_at_is 0 (2 ^ 32 - 1) row a.0 a.1).0 ∙ ap (λ k. decimal k ∷ a.0.1) (eqb-true a.0.0 n given.0) ∙ ap (λ r. decimal n ∷ r) given.1

-- nothing is left, and the value is the one given
pub ended_is : {A X : Type 0} (x y : A) (rest : List X) → ended x rest ≡ Some y → (rest ≡ []) × (x ≡ y)
ended_is x y [] e = (refl, cc)
ended_is x y (z ∷ rest) e = absurd cc

-- a row of certain words is these words
pub read_words_is : (words row : Row) (x : Unit {0}) → read_words words row ≡ Some x → row ≡ words
read_words_is [] row x e = (ended_is tt x row e).0
read_words_is (w ∷ words) row x e =
    let a = bind_some (after_word w row) (λ rest. read_words words rest) x e in
    after_word_is w row a.0 a.1 ∙ ap (λ r. w ∷ r) (read_words_is words a.0 x a.2)

-- ---- what is spelled is taken

-- a word is passed over where it stands
pub after_word_again : (word : List ℕ) (rest : Row) → after_word word (word ∷ rest) ≡ Some rest
after_word_again word rest = rw (bytes_eq_itself word) refl

-- the spelling of a number in the range is read as that number
pub number_at_again : (least most z : ℤ) (rest : Row) → unsigned_abs z < 2 ^ 63 → within least most z ≡ true → number_at least most (signed_decimal z ∷ rest) ≡ Some (z, rest)
number_at_again least most z rest small fits = rw (number_again least most z small fits) refl

-- the spelling of a number without a sign is read as that number
pub natural_at_again : (least most n : ℕ) (rest : Row) → least ≤ n → n ≤ most → n < 2 ^ 63 → natural_at least most (decimal n ∷ rest) ≡ Some (n, rest)
natural_at_again least most n rest low high small =
    let fits : within (pos least) (pos most) (pos n) ≡ true = grind (arith, ints) in
    rw (number_at_again (pos least) (pos most) (pos n) rest small fits) refl

-- the spelling of a count is passed over where it stands
pub after_count_again : (n : ℕ) (rest : Row) → n < 2 ^ 32 → after_count n (decimal n ∷ rest) ≡ Some rest
after_count_again n rest small = rw (natural_at_again 0 (2 ^ 32 - 1) n rest (omega arith) (omega arith) (omega arith), eq-eqb n n refl) refl

-- certain words are read as these words
pub read_words_again : (words : Row) → read_words words words ≡ Some tt
read_words_again [] = refl
read_words_again (w ∷ words) = rw (after_word_again w words, read_words_again words) refl

-- ---- lines

-- the value of a step that came to no fault
pub bound : {A B F P : Type 0} (f : A → Result B F) (r : Result A F) (y : B) → (r or>>= f) ≡ Ok y → ((x : A) → r ≡ Ok x → f x ≡ Ok y → P) → P
bound f (Ok x) y e go = go x refl e
bound f (Err z) y e go = absurd cc

-- a value that is there, or the fault
pub ok_or_is : {A F : Type 0} (o : Option A) (f : F) (x : A) → ok_or o f ≡ Ok x → o ≡ Some x
ok_or_is (Some y) f x e = let same : y ≡ x = cc in ap Some same
ok_or_is None f x e = absurd cc

-- the first row was the line
whole_line_is : (n : ℕ) (rows : List Row) (x : Row × Lines) → whole_line n rows ≡ Some x → rows ≡ x.0 ∷ x.1.rows
whole_line_is n [] x e = absurd cc
whole_line_is n (row ∷ []) x e = absurd cc
whole_line_is n (row ∷ next ∷ rows) x e =
    let rest : Lines = record { number = next_number n; rows = next ∷ rows } in
    let made : (row, rest) ≡ x = cc in
    ap (λ (y : Row × Lines). y.0 ∷ y.1.rows) made

pub line_at_is : (lines : Lines) (x : Row × Lines) → line_at lines ≡ Some x → lines.rows ≡ x.0 ∷ x.1.rows
line_at_is lines x e = whole_line_is lines.number lines.rows x e

-- the line that was read
pub read_row_is : {A : Type 0} (read : Row → Option A) (lines : Lines) (x : A × Lines) → read_row read lines ≡ Some x → (row : Row) × (lines.rows ≡ row ∷ x.1.rows) × (read row ≡ Some x.0)
read_row_is read lines x e =
    option_and_then_some _ (line_at lines) x e (λ line e0 r0.
    option_and_then_some _ (read line.0) x r0 (λ value e1 r1.
    let made : (value, line.1) ≡ x = cc in
    (line.0, line_at_is lines line e0 ∙ ap (λ y. line.0 ∷ y.1.rows) made, e1 ∙ ap (λ y. Some y.0) made)))

pub read_line_is : {A F : Type 0} (bad : ℕ → F) (read : Row → Option A) (lines : Lines) (x : A × Lines) → read_line bad read lines ≡ Ok x → (row : Row) × (lines.rows ≡ row ∷ x.1.rows) × (read row ≡ Some x.0)
read_line_is bad read lines x e = read_row_is read lines x (ok_or_is (read_row read lines) (bad lines.number) x e)

-- the number after so many lines
abbrev pub number_after : ℕ → ℕ → ℕ
number_after zero n = n
number_after (suc k) n = number_after k (next_number n)

-- these rows, of which the first line has this number
abbrev pub lines_from : ℕ → List Row → Lines
lines_from n rows = record { number = n; rows = rows }

-- rows that stand before others, of which there are some, are some
pub some_rows : (front rest : List Row) → rest ≢ [] → (front ++ rest) ≢ []
some_rows [] rest some = some
some_rows (row ∷ front) rest some = λ e. cc

-- a line is taken where another row stands after it
pub line_at_again : (n : ℕ) (row : Row) (rest : List Row) → rest ≢ [] → line_at (lines_from n (row ∷ rest)) ≡ Some (row, lines_from (next_number n) rest)
line_at_again n row [] some = absurd (some refl)
line_at_again n row (next ∷ rest) some = refl

-- a line that is read by itself is read where it stands
pub read_line_again : {A F : Type 0} (bad : ℕ → F) (read : Row → Option A) (n : ℕ) (row : Row) (rest : List Row) (x : A) → rest ≢ [] → read row ≡ Some x
    → read_line bad read (lines_from n (row ∷ rest)) ≡ Ok (x, lines_from (next_number n) rest)
read_line_again bad read n row rest x some e = rw (line_at_again n row rest some, e) refl
