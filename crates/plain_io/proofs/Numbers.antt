-- Words that are numbers in canonical decimal.
use Rattle.std.proofs.Common.{◌≡◌, ◌≢◌, ◌<◌, ◌≤◌, ◌^◌, ◌==◌, ◌⊎◌, inl, inr, ⊎_elim, ℕ, zero, suc, length, take, drop, Bool, true, false, cond, ◌&&◌, ℤ, pos, negsuc, neg_ℤ, ◌≤ℤ◌, FitsSigned, List, [], ◌∷◌, get_or, Option, Some, None, IfSome, IfNone, Result, Ok, Err, bytes_eq, decimal, IsUtf8, MatchResult, w64, refl, sym, ap, ◌∙◌, subst, arith, ne_eqb}
use Rattle.std.specs.Int.{IsInRange}
use Rattle.std.specs.Result.{result_ok}
use Rattle.std.specs.Fmt.{signed_decimal}
use Rattle.std.specs.Str.Parse.{digits_value, AllDigits, IsNumeral, ParsesSigned}
use Rattle.std.proofs.lemmas.Int.{ints}
use Rattle.std.proofs.lemmas.Bool.{and_parts}
use Rattle.std.proofs.lemmas.List.{length-take}
use Rattle.std.proofs.lemmas.Option.{cond_some}
use Rattle.std.proofs.lemmas.Slice.Eq.{bytes_eq-Decides}
use Rattle.std.proofs.lemmas.Str.{IsUtf8-from_ascii}
use Rattle.std.proofs.lemmas.Str.Parse.{IsNumeralModel, numerals_by_value, tells_digits, not_in_digits, digits_value_short, parse_signed_minus, parse_signed_plain}
use Rattle.std.proofs.lemmas.Fmt.{digits_decimal, digits_value-decimal, decimal-digits_value, decimal_is_IsNumeral, decimal_digit, decimal_nonempty, first_decimal, IsAscii-signed, parse-signed_decimal}
use Rattle.tgap_model.specs.Base.{within}
use Rattle.line_forms.specs.Texts.{word_value, number_of}
use Rattle.plain_io.specs.Canonical.{IsPlain}

abbrev ok_of : {E : Type 0} → ℤ → Result ℤ E
ok_of z = Ok z

own : IsNumeralModel (AllDigits 10) (digits_value 10)
own = numerals_by_value (AllDigits 10) tells_digits

-- a number between two of 64 bits is one
pub fits_between : (least most z : ℤ) → FitsSigned w64 least → FitsSigned w64 most → least ≤ℤ z → z ≤ℤ most → FitsSigned w64 z
fits_between least most z p q low high = omega (arith, ints)

-- what the test of a range says
pub within_is : (least most z : ℤ) → within least most z ≡ true → (least ≤ℤ z) × (z ≤ℤ most)
within_is least most z h = (grind (arith, ints), grind (arith, ints))

pub is_within : (least most z : ℤ) → least ≤ℤ z → z ≤ℤ most → within least most z ≡ true
is_within least most z low high = grind (arith, ints)

-- a word of digits has their value
word_value_digits : (ds : List ℕ) → get_or ds 0 0 ≢ 45 → word_value ds ≡ pos (digits_value 10 ds)
word_value_digits [] h = refl
word_value_digits (d ∷ ds) h = rw (ne_eqb d 45 h) refl

-- a number without a minus is written without one
no_minus : (n : ℕ) → n < 2 ^ 64 → get_or (decimal n) 0 0 ≢ 45
no_minus n small = not_in_digits own (decimal n) 45 (digits_decimal own n small) (λ (h : IsInRange 48 57 45). absurd (omega arith)) 0 (decimal_nonempty n small)

-- the value of a number's word is that number
pub word_value-signed_decimal : (z : ℤ) → FitsSigned w64 z → word_value (signed_decimal z) ≡ z
word_value-signed_decimal (pos n) fits =
    let small : n < 2 ^ 64 = omega (arith, fits.sfits) in
    word_value_digits (decimal n) (no_minus n small) ∙ ap pos (digits_value-decimal own n small)
word_value-signed_decimal (negsuc n) fits =
    let small : suc n < 2 ^ 64 = omega (arith, fits.sfits) in
    ap (λ (m : ℕ). neg_ℤ (pos m)) (digits_value-decimal own (suc n) small)

-- what a word is read as, where its value and the two tests are known
read_as : (least most : ℤ) (word : List ℕ) (z : ℤ) (b c : Bool) → word_value word ≡ z → bytes_eq word (signed_decimal z) ≡ b → within least most z ≡ c → number_of least most word ≡ cond (b && c) (Some z) None
unfolding number_of
read_as least most word z b c value spelled ranged = rw (value, spelled, ranged) refl

-- a word that spells a number is read as that number, where it is in range
pub number_of-signed_decimal : (least most z : ℤ) → FitsSigned w64 z → least ≤ℤ z → z ≤ℤ most → number_of least most (signed_decimal z) ≡ Some z
number_of-signed_decimal least most z fits low high =
    read_as least most (signed_decimal z) z true true (word_value-signed_decimal z fits) ((bytes_eq-Decides (signed_decimal z) (signed_decimal z)).1 refl) (is_within least most z low high)

-- a word that is read spells the number, which is in range
pub number_of_some : (least most : ℤ) (word : List ℕ) (z : ℤ) → number_of least most word ≡ Some z → (word ≡ signed_decimal z) × (least ≤ℤ z) × (z ≤ℤ most)
unfolding number_of
number_of_some least most word z h =
    let v = word_value word in
    let g = cond_some (bytes_eq word (signed_decimal v) && within least most v) v z h in
    let t = and_parts (bytes_eq word (signed_decimal v)) (within least most v) g.0 in
    let r = within_is least most v t.1 in
    let spelled = (bytes_eq-Decides word (signed_decimal v)).0 t.0 in
    (rw (← g.1) spelled, rw (← g.1) r.0, rw (← g.1) r.1)

some_or_none : (o : Option ℤ) → ((z : ℤ) → o ≡ Some z → ⊥) → o ≡ None
some_or_none None h = refl
some_or_none (Some z) h = absurd (h z refl)

-- a word that spells no number in range is read as none
pub number_of_none : (least most : ℤ) (word : List ℕ) → ((z : ℤ) → least ≤ℤ z → z ≤ℤ most → word ≢ signed_decimal z) → number_of least most word ≡ None
number_of_none least most word h =
    some_or_none (number_of least most word) (λ z e. let s = number_of_some least most word z e in h z s.1 s.2 s.0)

-- a word that is no text spells no number
pub no_text : (word : List ℕ) → ¬ (IsUtf8 word) → (z : ℤ) → FitsSigned w64 z → word ≢ signed_decimal z
no_text word h z fits e = h (rw e (IsUtf8-from_ascii (signed_decimal z) (IsAscii-signed z (omega (arith, fits.sfits)))))

-- a word that spells a number is parsed as it
pub parsed : {E : Type 0} (word : List ℕ) (r : Result ℤ E) → ParsesSigned w64 10 word r → (z : ℤ) → FitsSigned w64 z → word ≡ signed_decimal z → r ≡ Ok z
parsed word r h z fits e = parse-signed_decimal w64 z word r fits (omega (arith, fits.sfits)) e h

-- what a result without a value says, and one with a value
pub err_says : {S E : Type 0} (P : S → Type 0) (U : Type 0) (Q : E → Type 0) (r : Result S E) → MatchResult r P (λ e. U × Q e) → result_ok r ≡ None → U
err_says P U Q (Ok s) h e = absurd cc
err_says P U Q (Err x) h e = h.0

pub ok_says : {S E : Type 0} (P : S → Type 0) (Q : E → Type 0) (r : Result S E) (s : S) → MatchResult r P Q → result_ok r ≡ Some s → P s
ok_says P Q (Ok t) s h e = let same : t ≡ s = cc in subst P same h
ok_says P Q (Err x) s h e = absurd cc

-- a number of 64 bits that spells the word decides what the word is read as
pub read_in_range : (least most n : ℤ) (word : List ℕ) → (word ≡ signed_decimal n) × FitsSigned w64 n → (least ≤ℤ n) × (n ≤ℤ most) → number_of least most word ≡ Some n
read_in_range least most n word spelled range = rw spelled.0 (number_of-signed_decimal least most n spelled.1 range.0 range.1)

-- two spellings of one word are of one number
pub same_number : (word : List ℕ) (y z : ℤ) → FitsSigned w64 y → FitsSigned w64 z → word ≡ signed_decimal y → word ≡ signed_decimal z → y ≡ z
same_number word y z p q d e =
    sym (word_value-signed_decimal y p) ∙ ap word_value (sym d ∙ e) ∙ word_value-signed_decimal z q

-- a number of 64 bits that is out of range spells no word of one in range
pub none_in_range : (least most n : ℤ) (word : List ℕ) → FitsSigned w64 least → FitsSigned w64 most → (word ≡ signed_decimal n) × FitsSigned w64 n → ((least ≤ℤ n) × (n ≤ℤ most) → ⊥)
    → (z : ℤ) → least ≤ℤ z → z ≤ℤ most → word ≢ signed_decimal z
none_in_range least most n word p q spelled out z low high e =
    let same : n ≡ z = same_number word n z spelled.1 (fits_between least most z p q low high) spelled.0 e in
    out (rw same low, rw same high)

-- ---- words by how they begin

eq_or : (m n : ℕ) → (m ≡ n) ⊎ (m ≢ n)
eq_or m n = by (m == n) refl
  where
    by : (b : Bool) → (m == n) ≡ b → (m ≡ n) ⊎ (m ≢ n)
    by true e = inl (grind arith)
    by false e = inr (λ h. grind arith)

-- what is written begins plainly
pub written_plainly : (z : ℤ) → FitsSigned w64 z → IsPlain (signed_decimal z)
written_plainly (pos zero) fits =
    subst IsPlain (sym (decimal_digit 0 (omega arith))) (λ h. absurd (omega (arith, h)), λ h. omega arith, λ h. absurd (omega (arith, h)))
written_plainly (pos (suc n)) fits =
    let small : suc n < 2 ^ 64 = omega (arith, fits.sfits) in
    let first = first_decimal (suc n) (omega arith) small in
    (λ h. absurd (omega (arith, first, h)), λ h. absurd (omega (arith, first, h)), λ h. absurd (omega (arith, first, h)))
written_plainly (negsuc n) fits =
    let small : suc n < 2 ^ 64 = omega (arith, fits.sfits) in
    let first = first_decimal (suc n) (omega arith) small in
    (λ h. absurd (omega (arith, h)), λ h. absurd (omega (arith, h)), λ _ h. absurd (omega (arith, first, h)))

-- a minus and digits without a zero in front are what is written for their number
minus_spelled : (ds : List ℕ) → AllDigits 10 ds → 0 < length ds → get_or ds 0 0 ≢ 48 → digits_value 10 ds < 2 ^ 64
    → signed_decimal (neg_ℤ (pos (digits_value 10 ds))) ≡ 45 ∷ ds
minus_spelled ds digits some lead small =
    by (digits_value 10 ds) refl (decimal-digits_value own ds digits some (λ h. absurd (lead h)) small)
  where
    by : (v : ℕ) → digits_value 10 ds ≡ v → decimal (digits_value 10 ds) ≡ ds → signed_decimal (neg_ℤ (pos (digits_value 10 ds))) ≡ 45 ∷ ds
    by zero e written = absurd (lead (ap (λ (l : List ℕ). get_or l 0 0) (sym written ∙ (ap decimal e ∙ decimal_digit 0 (omega arith)))))
    by (suc m) e written = ap (λ (v : ℕ). signed_decimal (neg_ℤ (pos v))) e ∙ ap (λ (l : List ℕ). 45 ∷ l) (sym (ap decimal e) ∙ written)

-- a word that begins plainly and is parsed spells its number
pub plainly_parsed : {E : Type 0} (word : List ℕ) (r : Result ℤ E) → ParsesSigned w64 10 word r → IfSome (result_ok r) (λ z. IsPlain word → word ≡ signed_decimal z)
plainly_parsed word (Err e) h = tt
plainly_parsed {E} [] (Ok z) h =
    λ plain. (let p = parse_signed_plain own w64 [] (ok_of {E = E} z) h (λ (e : 0 ≡ 43). absurd (omega (arith, e))) (λ (e : 0 ≡ 45). absurd (omega (arith, e))) in absurd (omega (arith, p.0.1)))
plainly_parsed {E} (c ∷ cs) (Ok z) h = λ plain. ⊎_elim (minus plain) (other plain) (eq_or c 45)
  where
    minus : IsPlain (c ∷ cs) → c ≡ 45 → c ∷ cs ≡ signed_decimal z
    minus plain e =
        let p = parse_signed_minus own w64 (c ∷ cs) (ok_of {E = E} z) h e in
        let small : digits_value 10 cs < 2 ^ 64 = omega (arith, p.0.2) in
        ap (λ (b : ℕ). b ∷ cs) e ∙ sym (ap signed_decimal p.1 ∙ minus_spelled cs p.0.0 p.0.1 (plain.2 e) small)

    other : IsPlain (c ∷ cs) → c ≢ 45 → c ∷ cs ≡ signed_decimal z
    other plain ne =
        let p = parse_signed_plain own w64 (c ∷ cs) (ok_of {E = E} z) h plain.0 ne in
        let small : digits_value 10 (c ∷ cs) < 2 ^ 64 = omega (arith, p.0.2) in
        sym (ap signed_decimal p.1 ∙ decimal-digits_value own (c ∷ cs) p.0.0 p.0.1 (λ e. (let one = plain.1 e in omega (arith, one))) small)

-- what is told of a number under a condition
pub on_condition : {C : Type 0} (P Q : ℤ → Type 0) (o : Option ℤ) → C → IfSome o (λ n. C → P n) → IfSome o Q → IfSome o (λ n. P n × Q n)
on_condition P Q None c p q = tt
on_condition P Q (Some n) c p q = (p c, q)

-- what is not read spells no number
pub unread : (word : List ℕ) (o : Option ℤ) → ((n : ℤ) → FitsSigned w64 n → word ≡ signed_decimal n → o ≡ Some n)
    → IfNone o ((n : ℤ) → FitsSigned w64 n → word ≢ signed_decimal n)
unread word None h = λ n fits e. absurd (let none : None ≡ Some n = h n fits e in cc)
unread word (Some m) h = tt

-- ---- words of few bytes

-- at most k digits
pub digits_below : (bs : List ℕ) (i k : ℕ) → AllDigits 10 (take i bs) → i ≤ k → digits_value 10 (take i bs) < 10 ^ k
digits_below bs i k digits short = digits_value_short own (take i bs) k digits (omega (arith, length-take i bs))

-- digits that begin plainly are what is written for their value
pub digits_spelled : (ds : List ℕ) (v : ℕ) → IsPlain ds → IsNumeral 10 ds × (v ≡ digits_value 10 ds) → v < 10 ^ 18 → (ds ≡ signed_decimal (pos v)) × FitsSigned w64 (pos v)
digits_spelled ds v plain h small =
    (sym (ap decimal h.1 ∙ decimal-digits_value own ds h.0.1 h.0.0 (λ e. (let one = plain.1 e in omega (arith, one))) (omega arith)), record { sfits = omega arith })

-- a minus before few digits leaves the number in 64 bits
minus_fits : (v : ℕ) → v < 10 ^ 18 → FitsSigned w64 (neg_ℤ (pos v))
minus_fits zero small = record { sfits = omega arith }
minus_fits (suc n) small = record { sfits = omega arith }

-- a minus and digits that begin plainly are what is written for that number
pub minus_digits_spelled : (word : List ℕ) (v : ℕ) → IsPlain word → get_or word 0 0 ≡ 45 → IsNumeral 10 (drop 1 word) × (v ≡ digits_value 10 (drop 1 word)) → v < 10 ^ 18
    → (word ≡ signed_decimal (neg_ℤ (pos v))) × FitsSigned w64 (neg_ℤ (pos v))
minus_digits_spelled [] v plain first h small = absurd (omega (arith, first))
minus_digits_spelled (c ∷ cs) v plain first h small =
    let value : digits_value 10 cs < 2 ^ 64 = omega (arith, h.1) in
    let spelled = ap (λ (n : ℕ). signed_decimal (neg_ℤ (pos n))) h.1 ∙ minus_spelled cs h.0.1 h.0.0 (plain.2 first) value in
    (ap (λ (b : ℕ). b ∷ cs) first ∙ sym spelled, minus_fits v small)

-- a word that is no numeral spells no number without a minus
pub no_numeral : (word : List ℕ) → get_or word 0 0 ≢ 45 → ¬ (IsNumeral 10 word) → (z : ℤ) → FitsSigned w64 z → word ≢ signed_decimal z
no_numeral word first h (pos n) fits e = h (subst (IsNumeral 10) (sym e) (decimal_is_IsNumeral n (omega (arith, fits.sfits))).0)
no_numeral word first h (negsuc n) fits e = first (ap (λ (l : List ℕ). get_or l 0 0) e)

-- a minus before no numeral spells no number
pub no_numeral_behind : (word : List ℕ) → get_or word 0 0 ≡ 45 → ¬ (IsNumeral 10 (drop 1 word)) → (z : ℤ) → FitsSigned w64 z → word ≢ signed_decimal z
no_numeral_behind word first h (pos n) fits e = no_minus n (omega (arith, fits.sfits)) (ap (λ (l : List ℕ). get_or l 0 0) (sym e) ∙ first)
no_numeral_behind word first h (negsuc n) fits e =
    h (subst (IsNumeral 10) (ap (λ (l : List ℕ). drop 1 l) (sym e)) (decimal_is_IsNumeral (suc n) (omega (arith, fits.sfits))).0)
