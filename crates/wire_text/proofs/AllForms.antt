-- Lists whose members are all of one form: as they are read and as they are spelled.
use Rattle.std.proofs.Common.{◌≡◌, ◌≢◌, ℕ, Bool, true, List, [], ◌∷◌, ◌++◌, length, map, Result, Ok, sym, ap, ◌∙◌}
use Rattle.std.specs.List.{list_all, flat_map}
use Rattle.std.proofs.lemmas.List.Concat.{flat_map_single}
use Rattle.line_forms.specs.Words.{Row}
use Rattle.line_forms.specs.Lines.{Lines}
use Rattle.wire_text.specs.SliceReading.{each_at}
use Rattle.plain_io.proofs.Rows.{is_plain_row}
use Rattle.plain_io.proofs.Steps.{lines_from}
use Rattle.wire_text.proofs.Each.{IsReader, each_is, each_again, each_plain, all_from_each, each_from_all}

-- to fit a number is to pass a test, as long as something holds of the numbers
pub record IsForm {A : Type 0} (next : ℕ → A → ℕ) (fits : ℕ → A → Bool) (holds : ℕ → Type 0) (test : A → Bool) : Type 0 where
  pub passes : (k : ℕ) (a : A) → holds k → fits k a ≡ true → holds (next k a) × (test a ≡ true)
  pub fit : (k : ℕ) (a : A) → holds k → test a ≡ true → holds (next k a) × (fits k a ≡ true)

-- nothing has to hold
abbrev pub always : ℕ → Type 0
always k = Unit {0}

-- where the number does not matter
pub any_form : {A : Type 0} (test : A → Bool) → IsForm (λ k (a : A). k) (λ k (a : A). test a) always test
any_form test = record { passes = λ k a now h. (tt, h); fit = λ k a now h. (tt, h) }

-- things that are read are spelled so, in their form
pub record AreAll {A : Type 0} (rows : List A → List Row) (test : A → Bool) (n : ℕ) (lines : Lines) (x : List A × Lines) : Type 0 where
  pub spelled : lines.rows ≡ rows x.0 ++ x.1.rows
  pub count : length x.0 ≡ n
  pub form : list_all test x.0 ≡ true

-- of several rows each
pub all_are : {A F : Type 0} (next : ℕ → A → ℕ) (read : ℕ → Lines → Result (A × Lines) F) (fits : ℕ → A → Bool) (rows : A → List Row) (holds : ℕ → Type 0) (test : A → Bool)
    → IsReader read fits rows → IsForm next fits holds test
    → (k n : ℕ) (lines : Lines) (x : List A × Lines) → holds k → each_at next read k n lines ≡ Ok x → AreAll (flat_map rows) test n lines x
all_are next read fits rows holds test reader form k n lines x now e =
    let all = each_is next read fits rows reader k n lines x e in
    record { spelled = all.spelled; count = all.count; form = all_from_each next fits holds test form.passes k x.0 now all.fit }

pub all_again : {A F : Type 0} (next : ℕ → A → ℕ) (read : ℕ → Lines → Result (A × Lines) F) (fits : ℕ → A → Bool) (rows : A → List Row) (holds : ℕ → Type 0) (test : A → Bool)
    → IsReader read fits rows → IsForm next fits holds test
    → (k n : ℕ) (xs : List A) (rest : List Row) → holds k → rest ≢ [] → list_all test xs ≡ true
    → (m : ℕ) × (each_at next read k (length xs) (lines_from n (flat_map rows xs ++ rest)) ≡ Ok (xs, lines_from m rest))
all_again next read fits rows holds test reader form k n xs rest now some h =
    each_again next read fits rows reader k n xs rest some (each_from_all next fits holds test form.fit k xs now h)

pub all_plain : {A F : Type 0} (next : ℕ → A → ℕ) (read : ℕ → Lines → Result (A × Lines) F) (fits : ℕ → A → Bool) (rows : A → List Row) (holds : ℕ → Type 0) (test : A → Bool)
    → IsReader read fits rows → IsForm next fits holds test
    → (k : ℕ) (xs : List A) → holds k → list_all test xs ≡ true → list_all is_plain_row (flat_map rows xs) ≡ true
all_plain next read fits rows holds test reader form k xs now h =
    each_plain next read fits rows reader k xs (each_from_all next fits holds test form.fit k xs now h)

-- of one row each
pub lines_are : {A F : Type 0} (next : ℕ → A → ℕ) (read : ℕ → Lines → Result (A × Lines) F) (fits : ℕ → A → Bool) (words : A → Row) (holds : ℕ → Type 0) (test : A → Bool)
    → IsReader read fits (λ a. words a ∷ []) → IsForm next fits holds test
    → (k n : ℕ) (lines : Lines) (x : List A × Lines) → holds k → each_at next read k n lines ≡ Ok x → AreAll (map words) test n lines x
lines_are next read fits words holds test reader form k n lines x now e =
    let all = all_are next read fits (λ a. words a ∷ []) holds test reader form k n lines x now e in
    record { spelled = all.spelled ∙ ap (λ (rows : List Row). rows ++ x.1.rows) (flat_map_single words x.0); count = all.count; form = all.form }

pub lines_again : {A F : Type 0} (next : ℕ → A → ℕ) (read : ℕ → Lines → Result (A × Lines) F) (fits : ℕ → A → Bool) (words : A → Row) (holds : ℕ → Type 0) (test : A → Bool)
    → IsReader read fits (λ a. words a ∷ []) → IsForm next fits holds test
    → (k n : ℕ) (xs : List A) (rest : List Row) → holds k → rest ≢ [] → list_all test xs ≡ true
    → (m : ℕ) × (each_at next read k (length xs) (lines_from n (map words xs ++ rest)) ≡ Ok (xs, lines_from m rest))
lines_again next read fits words holds test reader form k n xs rest now some h =
    let all = all_again next read fits (λ a. words a ∷ []) holds test reader form k n xs rest now some h in
    (all.0, ap (λ (rows : List Row). each_at next read k (length xs) (lines_from n (rows ++ rest))) (sym (flat_map_single words xs)) ∙ all.1)

pub lines_plain : {A F : Type 0} (next : ℕ → A → ℕ) (read : ℕ → Lines → Result (A × Lines) F) (fits : ℕ → A → Bool) (words : A → Row) (holds : ℕ → Type 0) (test : A → Bool)
    → IsReader read fits (λ a. words a ∷ []) → IsForm next fits holds test
    → (k : ℕ) (xs : List A) → holds k → list_all test xs ≡ true → list_all is_plain_row (map words xs) ≡ true
lines_plain next read fits words holds test reader form k xs now h =
    ap (list_all is_plain_row) (sym (flat_map_single words xs)) ∙ all_plain next read fits (λ a. words a ∷ []) holds test reader form k xs now h
