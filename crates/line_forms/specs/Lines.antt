-- How a text is read: one line after another, until a line is out of form.
use Rattle.std.specs.Prelude.{ℕ, ◌+◌, ◌-◌, ◌^◌, min, Bool, false, List, [], ◌∷◌, bytes_eq, Option, Some, None, option_and_then, Result, Ok, Err}
use Rattle.std.specs.Option.{ok_or}
use Rattle.line_forms.specs.Texts.{rows_of}
use Rattle.line_forms.specs.Words.{Row}

-- the lines of a text that are left: the number of the next one, and the rows of words
pub record Lines : Type 0 where
  pub number : ℕ
  pub rows : List Row

-- what is read next, where no fault was found before
infixl 10 ◌>>=◌
abbrev pub ◌>>=◌ : {A B F : Type 0} → Result A F → (A → Result B F) → Result B F
Ok x >>= f = f x
Err e >>= f = Err e

-- the lines of a text, which are numbered from 1
abbrev pub all_lines : List ℕ → Lines
all_lines bytes = record { number = 1; rows = rows_of bytes }

-- The number of the line after this one. It is told in 32 bits, and stays where they end.
abbrev pub next_number : ℕ → ℕ
next_number n = min (n + 1) (2 ^ 32 - 1)

-- the first of these rows, which is a whole line only where another row stands after it
abbrev pub whole_line : ℕ → List Row → Option (Row × Lines)
whole_line n [] = None
whole_line n (row ∷ []) = None
whole_line n (row ∷ next ∷ rows) = Some (row, record { number = next_number n; rows = next ∷ rows })

-- the next line, and the lines after it
abbrev pub line_at : Lines → Option (Row × Lines)
line_at lines = whole_line lines.number lines.rows

-- the next line as a reader of rows reads it, and the lines after it
abbrev pub read_row : {A : Type 0} → (Row → Option A) → Lines → Option (A × Lines)
read_row read lines = option_and_then (λ line. option_and_then (λ x. Some (x, line.1)) (read line.0)) (line_at lines)

-- the same, or the fault of a line with this number that is not of its form
abbrev pub read_line : {A F : Type 0} → (ℕ → F) → (Row → Option A) → Lines → Result (A × Lines) F
read_line bad read lines = ok_or (read_row read lines) (bad lines.number)

-- nothing stands after the last line feed: there is one row, of one empty word
abbrev pub is_over : List Row → Bool
is_over ((word ∷ []) ∷ []) = bytes_eq word []
is_over rows = false
