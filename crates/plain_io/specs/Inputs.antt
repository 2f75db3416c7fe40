-- The bytes that a link in memory gives.
use Rattle.std.specs.Prelude.{ℕ, Bool, List, take, drop}
use Rattle.plain_io.specs.declared.link.input.Input.{Input}

-- the bytes that were given
abbrev pub given_of : Input → List ℕ
given_of input = take input.given input.bytes

-- the bytes that are still to be given
abbrev pub rest_of : Input → List ℕ
rest_of input = drop input.given input.bytes

-- whether the end was told
abbrev pub ended_of : Input → Bool
ended_of input = input.ended
