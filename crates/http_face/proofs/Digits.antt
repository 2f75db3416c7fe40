-- The number that at most ten digits spell.
use Rattle.std.proofs.Common.{◌≡◌, ℕ, ◌+◌, ◌-◌, ◌*◌, ◌<◌, ◌≤◌, ◌^◌, true, nat_le, List, [], ◌∷◌, length, take, get_or, sym, ap, ◌∙◌, arith}
use Rattle.std.specs.List.{list_all}
use Rattle.std.specs.Char.{is_ascii_digit, digit_value}
use Rattle.std.specs.Str.Parse.{digits_value, AllDigits}
use Rattle.std.proofs.lemmas.Bool.{and_parts, leb-true}
use Rattle.std.proofs.lemmas.Str.Parse.{IsNumeralModel, numerals_by_value, tells_digits, digits_value_short, digits_value-take-le, digit_at}
use Rattle.std.proofs.lemmas.Str.{digit_value_digit}
use Rattle.std.proofs.lemmas.Int.Digits.{digits_value_more}
use Rattle.http_face.specs.Heads.{is_length}

own : IsNumeralModel (AllDigits 10) (digits_value 10)
own = numerals_by_value (AllDigits 10) tells_digits

-- bytes that pass the test are digits
all_digits : (ds : List ℕ) → list_all is_ascii_digit ds ≡ true → AllDigits 10 ds
all_digits [] h = tt
all_digits (d ∷ ds) h =
    let p = and_parts (is_ascii_digit d) (list_all is_ascii_digit ds) h in
    (grind arith, all_digits ds p.1)

-- what the test of a length says
parts_of : (ds : List ℕ) → is_length ds ≡ true → (length ds ≤ 10) × AllDigits 10 ds
parts_of ds h =
    let p = and_parts _ (list_all is_ascii_digit ds) h in
    let q = and_parts _ (nat_le (length ds) 10) p.0 in
    (leb-true (length ds) 10 q.1, all_digits ds p.1)

-- the number of the first digits is below 10,000,000,000
pub few_digits : (ds : List ℕ) (i : ℕ) → is_length ds ≡ true → digits_value 10 (take i ds) < 10000000000
few_digits ds i h =
    let p = parts_of ds h in
    let few : digits_value 10 (take i ds) ≤ digits_value 10 ds = digits_value-take-le 10 ds i (omega arith) in
    let all : digits_value 10 ds < 10 ^ 10 = digits_value_short own ds 10 p.1 p.0 in
    omega arith

-- the number with one digit more
pub next_digit : (ds : List ℕ) (i : ℕ) → is_length ds ≡ true → i < length ds
    → digits_value 10 (take i ds) * 10 + (get_or ds i 0 - 48) ≡ digits_value 10 (take (i + 1) ds)
next_digit ds i h lt =
    let digit : digit_value (get_or ds i 0) ≡ get_or ds i 0 - 48 = omega (arith, digit_value_digit (get_or ds i 0) (digit_at ds i (parts_of ds h).1 lt)) in
    sym (digits_value_more 10 ds i lt ∙ ap (λ n. digits_value 10 (take i ds) * 10 + n) digit)
