-- The parameters of a path, as the router takes them.
use Rattle.std.specs.Prelude.{ℕ, List, [], ◌∷◌, map}
use Rattle.std.specs.Str.{IsUtf8}
use Rattle.matchit.specs.declared.params.Params.{Params}
use Rattle.matchit.specs.Params.{walk}
use Rattle.line_forms.specs.Words.{Row}

-- the values of these pairs of a name and a value
abbrev pub values_of : List (List ℕ × List ℕ) → Row
values_of pairs = map (λ p. p.1) pairs

-- the values that the path has for the names of the route
abbrev pub taken : Params → Row
taken p = values_of (walk p.pattern.now p.text.now p.path.now p.names.now 0 0)

-- each of these is UTF-8
abbrev pub AreTexts : Row → Type 0
AreTexts [] = Unit {0}
AreTexts (p ∷ parameters) = IsUtf8 p × AreTexts parameters
