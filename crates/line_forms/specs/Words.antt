-- How a line is read: word after word.
use Rattle.std.specs.Prelude.{ℕ, ◌-◌, ◌^◌, ◌==◌, ℤ, pos, unsigned_abs, List, [], ◌∷◌, bytes_eq, Option, Some, None, option_and_then, if◌then◌else◌}
use Rattle.line_forms.specs.Texts.{number_of}

-- the words of a line
abbrev pub Row : Type 0
Row = List (List ℕ)

-- what is read next, where something was read before
infixl 10 ◌>>=◌
abbrev pub ◌>>=◌ : {A B : Type 0} → Option A → (A → Option B) → Option B
o >>= f = option_and_then f o

-- what stands after this word
abbrev pub after_word : List ℕ → Row → Option Row
after_word word [] = None
after_word word (w ∷ row) = if bytes_eq w word then Some row else None

-- a number from least to most, and what stands after it
abbrev pub number_at : ℤ → ℤ → Row → Option (ℤ × Row)
number_at least most [] = None
number_at least most (w ∷ row) = number_of least most w >>= λ z. Some (z, row)

-- a number from least to most, both not negative, and what stands after it
abbrev pub natural_at : ℕ → ℕ → Row → Option (ℕ × Row)
natural_at least most row = number_at (pos least) (pos most) row >>= λ z. Some (unsigned_abs z.0, z.1)

-- a count: a number from 0 to 4,294,967,295
abbrev pub count_at : Row → Option (ℕ × Row)
count_at row = natural_at 0 (2 ^ 32 - 1) row

-- what stands after this count
abbrev pub after_count : ℕ → Row → Option Row
after_count n row = count_at row >>= λ z. if z.0 == n then Some z.1 else None

-- the value, where nothing is left
abbrev pub ended : {A X : Type 0} → A → List X → Option A
ended x [] = Some x
ended x (y ∷ rest) = None

-- a row of exactly these words
abbrev pub read_words : Row → Row → Option (Unit {0})
read_words [] row = ended tt row
read_words (w ∷ words) row = after_word w row >>= λ rest. read_words words rest
