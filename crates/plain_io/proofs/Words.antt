-- Words: a number is read from its spelling and from no other word, and its spelling has neither a space nor a line feed.
use Rattle.std.proofs.Common.{◌≡◌, ℕ, suc, ◌^◌, ◌<◌, ◌≤◌, Bool, true, eqb, ◌&&◌, not, List, [], ◌∷◌, Some, refl, arith}
use Rattle.std.specs.Prelude.{ℤ, pos, negsuc, unsigned_abs, decimal, bytes_eq}
use Rattle.std.specs.Fmt.{signed_decimal}
use Rattle.std.specs.List.{list_all}
use Rattle.std.specs.Str.Parse.{AllDigits}
use Rattle.std.proofs.lemmas.Bool.{and_from, ne_eqb}
use Rattle.std.proofs.lemmas.Fmt.{decimal_is_IsNumeral}
use Rattle.std.proofs.lemmas.Slice.Eq.{bytes_eq-Decides}
use Rattle.std.proofs.lemmas.Str.Parse.{digit_from_value}
use Rattle.std.specs.Int.{w64}
use Rattle.std.proofs.lemmas.Int.{fits_signed_from_abs}
use Rattle.plain_io.proofs.Numbers.{within_is, is_within, number_of-signed_decimal, number_of_some}
use Rattle.tgap_model.specs.Base.{within}
use Rattle.line_forms.specs.Texts.{number_of}

-- ---- bytes

-- bytes that test equal are equal
pub same_bytes : (xs ys : List ℕ) → bytes_eq xs ys ≡ true → xs ≡ ys
same_bytes xs ys e = (bytes_eq-Decides xs ys).0 e

-- bytes test equal to themselves
pub bytes_eq_itself : (xs : List ℕ) → bytes_eq xs xs ≡ true
bytes_eq_itself xs = (bytes_eq-Decides xs xs).1 refl

-- ---- words with neither a space nor a line feed

-- the byte separates neither words nor lines
abbrev pub is_plain : ℕ → Bool
is_plain b = not (eqb b 32) && not (eqb b 10)

-- no byte of the word separates words or lines
abbrev pub is_plain_word : List ℕ → Bool
is_plain_word word = list_all is_plain word

-- a digit separates nothing
digit_plain : (b : ℕ) → 48 ≤ b → is_plain b ≡ true
digit_plain b low = rw (ne_eqb b 32 (λ e. omega arith), ne_eqb b 10 (λ e. omega arith)) refl

-- digits separate nothing
digits_plain : (ds : List ℕ) → AllDigits 10 ds → is_plain_word ds ≡ true
digits_plain [] h = refl
digits_plain (d ∷ ds) h = and_from _ _ (digit_plain d (digit_from_value d h.0).0) (digits_plain ds h.1)

-- a decimal separates nothing
pub decimal_plain : (n : ℕ) → n < 2 ^ 64 → is_plain_word (decimal n) ≡ true
decimal_plain n small = digits_plain (decimal n) (decimal_is_IsNumeral n small).0.1

-- a decimal with a sign separates nothing
pub signed_plain : (z : ℤ) → unsigned_abs z < 2 ^ 63 → is_plain_word (signed_decimal z) ≡ true
signed_plain (pos n) small = decimal_plain n (omega arith)
signed_plain (negsuc n) small = decimal_plain (suc n) (omega arith)

-- ---- numbers

-- the spelling of a number in the range is read as that number
pub number_again : (least most z : ℤ) → unsigned_abs z < 2 ^ 63 → within least most z ≡ true → number_of least most (signed_decimal z) ≡ Some z
number_again least most z small fits =
    let range = within_is least most z fits in
    number_of-signed_decimal least most z (fits_signed_from_abs w64 z small) range.0 range.1

-- a word that is read as a number is its spelling, and the number is in the range
pub number_is : (least most z : ℤ) (word : List ℕ) → number_of least most word ≡ Some z → (word ≡ signed_decimal z) × (within least most z ≡ true)
number_is least most z word e =
    let given = number_of_some least most word z e in
    (given.0, is_within least most z given.1 given.2)
