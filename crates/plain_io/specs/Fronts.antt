-- What is read one thing after another: what was read before stands in front of what is still read.
use Rattle.std.specs.Prelude.{List, ◌++◌, Option, Some, Result, Ok, Err}
use Rattle.line_forms.specs.Words.{◌>>=◌}

-- what was read before, and what is still read
abbrev pub with_front : {A S : Type 0} → List A → Option (List A × S) → Option (List A × S)
with_front front read = read >>= λ x. Some (front ++ x.0, x.1)

-- the same, or the fault of what is still read
abbrev pub in_front : {A S F : Type 0} → List A → Result (List A × S) F → Result (List A × S) F
in_front front (Ok x) = Ok (front ++ x.0, x.1)
in_front front (Err f) = Err f
