-- One thing after another: as a loop reads them, as they are spelled, and in which form they are.
use Rattle.std.proofs.Common.{◌≡◌, ◌≢◌, ℕ, zero, suc, ◌+◌, ◌-◌, ◌<◌, ◌≤◌, Bool, true, ◌&&◌, nat_lt, List, [], ◌∷◌, ◌++◌, length, map, Option, Some, Result, Ok, Err, refl, sym, ap, subst, ◌∙◌, append_assoc, arith}
use Rattle.std.specs.List.{list_all, flat_map}
use Rattle.std.proofs.lemmas.Bool.{and_from, and_parts, lt-ltb, ltb-true}
use Rattle.std.proofs.lemmas.List.Folds.{list_all-append}
use Rattle.lemmas.specs.Sorting.{is_sorted_by}
use Rattle.line_forms.specs.Words.{Row}
use Rattle.line_forms.specs.Lines.{Lines, next_number, read_line}
use Rattle.wire_text.specs.SliceReading.{each_at}
use Rattle.plain_io.specs.Fronts.{in_front}
use Rattle.plain_io.proofs.Rows.{is_plain_row}
use Rattle.plain_io.proofs.Steps.{bound, read_line_is, read_line_again, lines_from, some_rows}
use Rattle.plain_io.proofs.Loops.{one_left, none_left, in_front_more, in_front_stop, in_front_done}

-- ---- as a loop reads them

-- one more
pub each_go_on : {A F : Type 0} (next : ℕ → A → ℕ) (read : ℕ → Lines → Result (A × Lines) F) (front : List A) (n i k : ℕ) (lines : Lines) (a : A) (rest : Lines)
    → i < n → read k lines ≡ Ok (a, rest)
    → in_front (front ++ a ∷ []) (each_at next read (next k a) (n - (i + 1)) rest) ≡ in_front front (each_at next read k (n - i) lines)
unfolding each_at
each_go_on next read front n i k lines a rest lt e =
    in_front_more front a (each_at next read (next k a) (n - (i + 1)) rest) (each_at next read k (n - i) lines) (rw (one_left n i lt, e) refl)

-- none where there was to be one
pub each_stop : {A F : Type 0} (next : ℕ → A → ℕ) (read : ℕ → Lines → Result (A × Lines) F) (front : List A) (n i k : ℕ) (lines : Lines) (f : F)
    → i < n → read k lines ≡ Err f → in_front front (each_at next read k (n - i) lines) ≡ Err f
unfolding each_at
each_stop next read front n i k lines f lt e = in_front_stop front f (each_at next read k (n - i) lines) (rw (one_left n i lt, e) refl)

-- all of them
pub each_done : {A F : Type 0} (next : ℕ → A → ℕ) (read : ℕ → Lines → Result (A × Lines) F) (front : List A) (n i k : ℕ) (lines : Lines)
    → n ≤ i → in_front front (each_at next read k (n - i) lines) ≡ Ok (front, lines)
unfolding each_at
each_done next read front n i k lines le = in_front_done front lines (each_at next read k (n - i) lines) (rw (none_left n i le) refl)

-- ---- as they are spelled

-- What is read by a number is spelled in these rows and fits that number, and what fits it is read from these rows, whose words
-- have no separator.
pub record IsReader {A F : Type 0} (read : ℕ → Lines → Result (A × Lines) F) (fits : ℕ → A → Bool) (rows : A → List Row) : Type 0 where
  pub spelled : (k : ℕ) (lines : Lines) (x : A × Lines) → read k lines ≡ Ok x → (lines.rows ≡ rows x.0 ++ x.1.rows) × (fits k x.0 ≡ true)
  pub again : (k n : ℕ) (a : A) (rest : List Row) → rest ≢ [] → fits k a ≡ true → (m : ℕ) × (read k (lines_from n (rows a ++ rest)) ≡ Ok (a, lines_from m rest))
  pub plain : (k : ℕ) (a : A) → fits k a ≡ true → list_all is_plain_row (rows a) ≡ true

-- a line that is read whole
pub line_reader : {A F : Type 0} (bad : ℕ → F) (read : ℕ → Row → Option A) (fits : ℕ → A → Bool) (words : A → Row)
    → ((k : ℕ) (row : Row) (a : A) → read k row ≡ Some a → (row ≡ words a) × (fits k a ≡ true))
    → ((k : ℕ) (a : A) → fits k a ≡ true → read k (words a) ≡ Some a)
    → ((k : ℕ) (a : A) → fits k a ≡ true → is_plain_row (words a) ≡ true)
    → IsReader (λ k. read_line bad (read k)) fits (λ a. words a ∷ [])
line_reader bad read fits words is again plain = record {
  spelled = λ k lines x e.
      let row = read_line_is bad (read k) lines x e in
      let one = is k row.0 x.0 row.2 in
      (row.1 ∙ ap (λ (r : Row). r ∷ x.1.rows) one.0, one.1);
  again = λ k n a rest some h. (next_number n, read_line_again bad (read k) n (words a) rest a some (again k a h));
  plain = λ k a h. and_from _ _ (plain k a h) refl;
}

-- each fits the number that it is to have
abbrev pub each_fits : {A : Type 0} → (ℕ → A → ℕ) → (ℕ → A → Bool) → ℕ → List A → Bool
each_fits next fits k [] = true
each_fits next fits k (a ∷ xs) = fits k a && each_fits next fits (next k a) xs

-- things that are read are spelled so
pub record AreEach {A : Type 0} (next : ℕ → A → ℕ) (fits : ℕ → A → Bool) (rows : A → List Row) (k n : ℕ) (lines : Lines) (x : List A × Lines) : Type 0 where
  pub spelled : lines.rows ≡ flat_map rows x.0 ++ x.1.rows
  pub count : length x.0 ≡ n
  pub fit : each_fits next fits k x.0 ≡ true

pub each_is : {A F : Type 0} (next : ℕ → A → ℕ) (read : ℕ → Lines → Result (A × Lines) F) (fits : ℕ → A → Bool) (rows : A → List Row) → IsReader read fits rows
    → (k n : ℕ) (lines : Lines) (x : List A × Lines) → each_at next read k n lines ≡ Ok x → AreEach next fits rows k n lines x
unfolding each_at
each_is {A} next read fits rows reader k zero lines x e =
    let made : ([], lines) ≡ x = cc in
    subst (λ (y : List A × Lines). AreEach next fits rows k 0 lines y) made (record { spelled = refl; count = refl; fit = refl })
each_is {A} next read fits rows reader k (suc n) lines x e =
    bound _ (read k lines) x e (λ first e0 r0.
    bound _ (each_at next read (next k first.0) n first.1) x r0 (λ more e1 r1.
    let one = reader.spelled k lines first e0 in
    let others = each_is next read fits rows reader (next k first.0) n first.1 more e1 in
    let made : (first.0 ∷ more.0, more.1) ≡ x = cc in
    let spelled : lines.rows ≡ flat_map rows (first.0 ∷ more.0) ++ more.1.rows =
    one.0 ∙ ap (λ (rest : List Row). rows first.0 ++ rest) others.spelled ∙ sym (append_assoc (rows first.0) (flat_map rows more.0) more.1.rows) in
    subst (λ (y : List A × Lines). AreEach next fits rows k (suc n) lines y) made
    (record { spelled = spelled; count = ap suc others.count; fit = and_from _ _ one.1 others.fit })))

-- the rows of things that fit are read as these things
pub each_again : {A F : Type 0} (next : ℕ → A → ℕ) (read : ℕ → Lines → Result (A × Lines) F) (fits : ℕ → A → Bool) (rows : A → List Row) → IsReader read fits rows
    → (k n : ℕ) (xs : List A) (rest : List Row) → rest ≢ [] → each_fits next fits k xs ≡ true
    → (m : ℕ) × (each_at next read k (length xs) (lines_from n (flat_map rows xs ++ rest)) ≡ Ok (xs, lines_from m rest))
unfolding each_at
each_again next read fits rows reader k n [] rest some h = (n, refl)
each_again next read fits rows reader k n (a ∷ xs) rest some h =
    let parts = and_parts (fits k a) (each_fits next fits (next k a) xs) h in
    let first = reader.again k n a (flat_map rows xs ++ rest) (some_rows (flat_map rows xs) rest some) parts.0 in
    let more = each_again next read fits rows reader (next k a) first.0 xs rest some parts.1 in
    (more.0, rw (append_assoc (rows a) (flat_map rows xs) rest, first.1, more.1) refl)

-- their words have no separator
pub each_plain : {A F : Type 0} (next : ℕ → A → ℕ) (read : ℕ → Lines → Result (A × Lines) F) (fits : ℕ → A → Bool) (rows : A → List Row) → IsReader read fits rows
    → (k : ℕ) (xs : List A) → each_fits next fits k xs ≡ true → list_all is_plain_row (flat_map rows xs) ≡ true
each_plain next read fits rows reader k [] h = refl
each_plain next read fits rows reader k (a ∷ xs) h =
    let parts = and_parts (fits k a) (each_fits next fits (next k a) xs) h in
    list_all-append is_plain_row (rows a) (flat_map rows xs) ∙ and_from _ _ (reader.plain k a parts.0) (each_plain next read fits rows reader (next k a) xs parts.1)

-- ---- in which form they are

-- where each fits, each passes a test that what fits passes, as long as something holds of the numbers
pub all_from_each : {A : Type 0} (next : ℕ → A → ℕ) (fits : ℕ → A → Bool) (holds : ℕ → Type 0) (test : A → Bool)
    → ((k : ℕ) (a : A) → holds k → fits k a ≡ true → holds (next k a) × (test a ≡ true))
    → (k : ℕ) (xs : List A) → holds k → each_fits next fits k xs ≡ true → list_all test xs ≡ true
all_from_each next fits holds test go k [] now h = refl
all_from_each next fits holds test go k (a ∷ xs) now h =
    let parts = and_parts (fits k a) (each_fits next fits (next k a) xs) h in
    let one = go k a now parts.0 in
    and_from _ _ one.1 (all_from_each next fits holds test go (next k a) xs one.0 parts.1)

-- where each passes a test, each fits, as long as something holds of the numbers by which what passes fits
pub each_from_all : {A : Type 0} (next : ℕ → A → ℕ) (fits : ℕ → A → Bool) (holds : ℕ → Type 0) (test : A → Bool)
    → ((k : ℕ) (a : A) → holds k → test a ≡ true → holds (next k a) × (fits k a ≡ true))
    → (k : ℕ) (xs : List A) → holds k → list_all test xs ≡ true → each_fits next fits k xs ≡ true
each_from_all next fits holds test go k [] now h = refl
each_from_all next fits holds test go k (a ∷ xs) now h =
    let parts = and_parts (test a) (list_all test xs) h in
    let one = go k a now parts.0 in
    and_from _ _ one.1 (each_from_all next fits holds test go (next k a) xs one.0 parts.1)

-- where each has a key above the one before it, the keys are sorted
pub sorted_from_each : {A : Type 0} (key : A → ℕ) (fits : ℕ → A → Bool) → ((k : ℕ) (a : A) → fits k a ≡ true → k ≤ key a)
    → (k : ℕ) (xs : List A) → each_fits (λ j a. key a + 1) fits k xs ≡ true → is_sorted_by nat_lt (map key xs) ≡ true
sorted_from_each key fits from k [] h = refl
sorted_from_each key fits from k (a ∷ []) h = refl
sorted_from_each key fits from k (a ∷ b ∷ xs) h =
    let parts = and_parts (fits k a) (each_fits (λ j c. key c + 1) fits (key a + 1) (b ∷ xs)) h in
    let second = and_parts (fits (key a + 1) b) (each_fits (λ j c. key c + 1) fits (key b + 1) xs) parts.1 in
    let above : key a < key b = omega (arith, from (key a + 1) b second.0) in
    and_from _ _ (lt-ltb (key a) (key b) above) (sorted_from_each key fits from (key a + 1) (b ∷ xs) parts.1)

-- the first of these keys, where there is one, is this one or above it
abbrev pub StartsFrom : {A : Type 0} → (A → ℕ) → ℕ → List A → Type 0
StartsFrom key k [] = Unit {0}
StartsFrom key k (a ∷ xs) = k ≤ key a

-- where the keys are sorted from a number on, each has a key above the one before it
pub each_from_sorted : {A : Type 0} (key : A → ℕ) (fits : ℕ → A → Bool) (test : A → Bool) → ((k : ℕ) (a : A) → k ≤ key a → test a ≡ true → fits k a ≡ true)
    → (k : ℕ) (xs : List A) → StartsFrom key k xs → list_all test xs ≡ true → is_sorted_by nat_lt (map key xs) ≡ true
    → each_fits (λ j a. key a + 1) fits k xs ≡ true
each_from_sorted key fits test go k [] from all sorted = refl
each_from_sorted key fits test go k (a ∷ []) from all sorted =
    let parts = and_parts (test a) true all in
    and_from _ _ (go k a from parts.0) refl
each_from_sorted key fits test go k (a ∷ b ∷ xs) from all sorted =
    let parts = and_parts (test a) (list_all test (b ∷ xs)) all in
    let order = and_parts (nat_lt (key a) (key b)) (is_sorted_by nat_lt (map key (b ∷ xs))) sorted in
    let above : key a < key b = ltb-true (key a) (key b) order.0 in
    let next : key a + 1 ≤ key b = omega arith in
    and_from _ _ (go k a from parts.0) (each_from_sorted key fits test go (key a + 1) (b ∷ xs) next parts.1 order.1)
