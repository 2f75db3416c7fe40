-- What a link that never fails holds.
use Rattle.std.specs.Prelude.{ℕ, Bool, List}
use Rattle.plain_io.specs.declared.link.sure.SureLink.{SureLink}
use Rattle.plain_io.specs.Inputs.{given_of, rest_of, ended_of}

-- the bytes that were taken
abbrev pub taken_of : SureLink → List ℕ
taken_of link = given_of link.input

-- the bytes that are left to be taken
abbrev pub left_of : SureLink → List ℕ
left_of link = rest_of link.input

-- whether a take answered 0
abbrev pub is_ended : SureLink → Bool
is_ended link = ended_of link.input
