-- The pieces of a text that are left.
use Rattle.std.specs.Prelude.{ℕ, List}
use Rattle.plain_io.specs.declared.text.pieces.Pieces.TheInside.{Inside}
use Rattle.plain_io.specs.Rest.{split_rest}

abbrev pub pieces_left : Inside → List (List ℕ)
pieces_left p = split_rest p.separator p.rest
