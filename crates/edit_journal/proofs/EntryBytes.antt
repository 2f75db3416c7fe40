-- The bytes of one entry: what stands at the front of some bytes, and that it is the same whatever follows.
use Rattle.std.proofs.Common.{◌≡◌, ◌≢◌, ℕ, zero, suc, ◌+◌, ◌<◌, ◌≤◌, Bool, true, false, cond, ◌||◌, ◌==◌, nat_lt, List, [], ◌∷◌, ◌++◌, take, drop, length, Some, None, refl, sym, ◌∙◌, ap, arith, append_assoc, length-append, take-append-drop, length-drop}
use Rattle.std.proofs.lemmas.Bool.{cond-true, cond-false, le-ltb, ltb-false, lt-ltb, eqb-false, ne_eqb}
use Rattle.std.proofs.lemmas.List.{take_at, drop_at, length-take-le}
use Rattle.std.proofs.Math.Seq.{drop-nil}
use Rattle.std.specs.Int.{w32, w64, from_be_bytes}
use Rattle.tgap_model.specs.Keeping.{KeptEntry}
use Rattle.edit_journal.specs.Entries.{entry_at, entry_size}

-- these bytes are those of the entry, from its first byte to the end of its batch
pub record EntryBytes (e : KeptEntry) (bytes : List ℕ) : Type 0 where
  pub first : ℕ
  pub number : List ℕ
  pub size : List ℕ
  pub opens : first ≢ 0
  pub number_long : length number ≡ 8
  pub size_long : length size ≡ 4
  pub is_number : from_be_bytes w64 number ≡ e.number
  pub is_size : from_be_bytes w32 size ≡ length e.batch
  pub all : bytes ≡ first ∷ (number ++ (size ++ e.batch))

pub entry_long : (e : KeptEntry) (bytes : List ℕ) → EntryBytes e bytes → length bytes ≡ entry_size e
entry_long e bytes b =
    omega (arith, ap length b.all, b.number_long, b.size_long, length-append b.number (b.size ++ e.batch), length-append b.size e.batch)

-- the size that the bytes behind the first tell
abbrev pub told_size : List ℕ → ℕ
told_size rest = from_be_bytes w32 (take 4 (drop 8 rest))

or_false : (a b : Bool) → a ≡ false → b ≡ false → (a || b) ≡ false
or_false a b p q = cc

or_right : (a b : Bool) → b ≡ true → (a || b) ≡ true
or_right true b q = refl
or_right false b q = q

or_both : (a b : Bool) → (a || b) ≡ false → (a ≡ false) × (b ≡ false)
or_both true b p = absurd (cc)
or_both false b p = (refl, p)

take_near : (p q : List ℕ) (n : ℕ) → n ≡ length p → take n (p ++ q) ≡ p
take_near p q n is = take_at p q n (sym is)

-- what the parts behind a first byte are, one after the other
parts_at : (number size batch any : List ℕ) (n s : ℕ) → length number ≡ n → length size ≡ s
    → (take n (number ++ (size ++ (batch ++ any))) ≡ number) × (take s (drop n (number ++ (size ++ (batch ++ any)))) ≡ size)
    × (drop (n + s) (number ++ (size ++ (batch ++ any))) ≡ batch ++ any)
parts_at number size batch any n s is_n is_s = (
  take_at number (size ++ (batch ++ any)) n is_n,
  ap (λ (l : List ℕ). take s l) (drop_at number (size ++ (batch ++ any)) n is_n) ∙ take_at size (batch ++ any) s is_s,
  ap (λ (l : List ℕ). drop (n + s) l) (sym (append_assoc number size (batch ++ any)))
      ∙ drop_at (number ++ size) (batch ++ any) (n + s) (omega (arith, length-append number size)),
)

-- an entry stands at the front, whatever follows its bytes
module _ (e : KeptEntry) (bytes any : List ℕ) (b : EntryBytes e bytes) where
  behind : List ℕ
  behind = b.number ++ (b.size ++ (e.batch ++ any))

  whole : bytes ++ any ≡ b.first ∷ behind
  unfolding behind
  whole =
      ap (λ (l : List ℕ). l ++ any) b.all
      ∙ ap (λ (l : List ℕ). b.first ∷ l) (append_assoc b.number (b.size ++ e.batch) any ∙ ap (λ (l : List ℕ). b.number ++ l) (append_assoc b.size e.batch any))

  number_is : take 8 behind ≡ b.number
  unfolding behind
  number_is = (parts_at b.number b.size e.batch any 8 4 b.number_long b.size_long).0

  size_is : told_size behind ≡ length e.batch
  unfolding behind
  size_is = ap (from_be_bytes w32) (parts_at b.number b.size e.batch any 8 4 b.number_long b.size_long).1 ∙ b.is_size

  tail_is : drop 12 behind ≡ e.batch ++ any
  unfolding behind
  tail_is = (parts_at b.number b.size e.batch any 8 4 b.number_long b.size_long).2

  fits : 12 + told_size behind ≤ length behind
  unfolding behind
  fits =
      omega (arith, size_is, b.number_long, b.size_long, length-append b.number (b.size ++ (e.batch ++ any)), length-append b.size (e.batch ++ any), length-append e.batch any)

  batch_is : take (told_size behind) (drop 12 behind) ≡ e.batch
  batch_is = ap (λ (n : ℕ). take n (drop 12 behind)) size_is ∙ ap (λ (l : List ℕ). take (length e.batch) l) tail_is ∙ take_at e.batch any (length e.batch) refl

  number_told : from_be_bytes w64 (take 8 behind) ≡ e.number
  number_told = ap (from_be_bytes w64) number_is ∙ b.is_number

  pub at_front : entry_at (bytes ++ any) ≡ Some e
  at_front =
      ap entry_at whole
      ∙ cond-false ((b.first == 0) || nat_lt (length behind) (12 + told_size behind)) None (Some (record { number = from_be_bytes w64 (take 8 behind); batch = take (told_size behind) (drop 12 behind) })) (or_false _ _ (ne_eqb b.first 0 b.opens) (le-ltb _ _ fits))
      ∙ (λ i. Some (record { number = number_told i; batch = batch_is i }))

-- what is found at the front is an entry's bytes, and then the rest
pub record Found (e : KeptEntry) (bytes : List ℕ) : Type 0 where
  pub front : List ℕ
  pub rest : List ℕ
  pub split : bytes ≡ front ++ rest
  pub entry : EntryBytes e front

cond_some_last : {A : Type 0} (b : Bool) (x y : A) → cond b None (Some x) ≡ Some y → (b ≡ false) × (x ≡ y)
cond_some_last true x y is = absurd (cc)
cond_some_last false x y is = (refl, cc)

pub drop_twice : (m n : ℕ) (l : List ℕ) → drop n (drop m l) ≡ drop (m + n) l
drop_twice zero n l = let same : n ≡ zero + n = omega arith in ap (λ (k : ℕ). drop k l) same
drop_twice (suc m) n [] = drop-nil n ∙ sym (drop-nil (suc m + n))
drop_twice (suc m) n (x ∷ l) =
    let same : suc (m + n) ≡ suc m + n = omega arith in
    drop_twice m n l ∙ ap (λ (k : ℕ). drop k (x ∷ l)) same

-- what is behind the first byte, cut into its parts
cut_up : (rest : List ℕ) (n s size : ℕ) → rest ≡ take n rest ++ (take s (drop n rest) ++ (take size (drop (n + s) rest) ++ drop size (drop (n + s) rest)))
cut_up rest n s size =
    sym (take-append-drop n rest)
    ∙ ap (λ (l : List ℕ). take n rest ++ l) (sym (take-append-drop s (drop n rest)) ∙ ap (λ (l : List ℕ). take s (drop n rest) ++ l) (drop_twice n s rest ∙ sym (take-append-drop size (drop (n + s) rest))))

module _ (e : KeptEntry) (first : ℕ) (rest : List ℕ) (is : entry_at (first ∷ rest) ≡ Some e) where
  chosen : (((first == 0) || nat_lt (length rest) (12 + told_size rest)) ≡ false)
      × (record { number = from_be_bytes w64 (take 8 rest); batch = take (told_size rest) (drop 12 rest) } ≡ e)
  chosen = cond_some_last _ _ _ is

  tests : ((first == 0) ≡ false) × (nat_lt (length rest) (12 + told_size rest) ≡ false)
  tests = or_both _ _ chosen.0

  long : 12 + told_size rest ≤ length rest
  long = ltb-false _ _ tests.1

  number_same : from_be_bytes w64 (take 8 rest) ≡ e.number
  number_same = ap (λ (k : KeptEntry). k.number) chosen.1

  batch_same : take (told_size rest) (drop 12 rest) ≡ e.batch
  batch_same = ap (λ (k : KeptEntry). k.batch) chosen.1

  batch_long : told_size rest ≡ length e.batch
  batch_long =
      sym (length-take-le (told_size rest) (drop 12 rest) (omega (arith, long, length-drop 12 rest))) ∙ ap length batch_same

  pub found_in : Found e (first ∷ rest)
  found_in = record {
    front = first ∷ (take 8 rest ++ (take 4 (drop 8 rest) ++ e.batch));
    rest = drop (told_size rest) (drop 12 rest);
    split =
        ap (λ (l : List ℕ). first ∷ l) (cut_up rest 8 4 (told_size rest) ∙ ap (λ (l : List ℕ). take 8 rest ++ (take 4 (drop 8 rest) ++ (l ++ drop (told_size rest) (drop 12 rest)))) batch_same
        ∙ ap (λ (l : List ℕ). take 8 rest ++ l) (sym (append_assoc (take 4 (drop 8 rest)) e.batch (drop (told_size rest) (drop 12 rest))))
        ∙ sym (append_assoc (take 8 rest) (take 4 (drop 8 rest) ++ e.batch) (drop (told_size rest) (drop 12 rest))));
    entry = record {
      first = first;
      number = take 8 rest;
      size = take 4 (drop 8 rest);
      opens = eqb-false first 0 tests.0;
      number_long = length-take-le 8 rest (omega (arith, long));
      size_long = length-take-le 4 (drop 8 rest) (omega (arith, long, length-drop 8 rest));
      is_number = number_same;
      is_size = batch_long;
      all = refl;
    };
  }

pub found : (e : KeptEntry) (bytes : List ℕ) → entry_at bytes ≡ Some e → Found e bytes
found e [] is = absurd (cc)
found e (first ∷ rest) is = found_in e first rest is

-- where there is no entry though the first byte is not 0, there is none whatever that byte is
pub none_whatever : (first other : ℕ) (rest : List ℕ) → first ≢ 0 → entry_at (first ∷ rest) ≡ None → entry_at (other ∷ rest) ≡ None
none_whatever first other rest opens none = cond-true _ _ _ (or_right (other == 0) _ short)
  where
    none_chosen : {A : Type 0} (b : Bool) (x : A) → cond b None (Some x) ≡ None → b ≡ true
    none_chosen true x is = refl
    none_chosen false x is = absurd (cc)

    or_left : (a b : Bool) → a ≡ false → (a || b) ≡ true → b ≡ true
    or_left a b p q = cc

    short : nat_lt (length rest) (12 + told_size rest) ≡ true
    short = or_left _ _ (ne_eqb first 0 opens) (none_chosen _ _ none)

-- a byte alone is no entry, nor is a byte 0 with anything behind it
pub none_alone : (first : ℕ) → entry_at (first ∷ []) ≡ None
none_alone first =
    let short : 0 < 12 + told_size [] = omega arith in
    cond-true _ _ _ (or_right (first == 0) _ (lt-ltb 0 (12 + told_size []) short))

pub none_at_0 : (any : List ℕ) → entry_at (0 ∷ any) ≡ None
none_at_0 any = refl
