-- The edit that a line of a batch tells, as it was read.
use Rattle.std.specs.Prelude.{◌≡◌, ℕ, Result, Ok, Err}
use Rattle.tgap_model.specs.declared.failure.Or.{Or}
use Rattle.plain_io.specs.Taking.{Refuses}
use Rattle.edit_laws.specs.Edits.{Edit as Told, Class as ToldClass, Move as ToldMove, Add as ToldAdd, Drop as ToldDrop, Node as ToldNode, Cut as ToldCut, Fuse as ToldFuse}
use Rattle.map_version.specs.declared.line.Edit.{Edit}
use Rattle.map_version.specs.declared.line.Edit.TheVariants.{Class, Move, Add, Remove, Node, Cut, Fuse}

abbrev pub told : Edit → Told
told (Class face class) = ToldClass face.now class.now
told (Move old new) = ToldMove old new
told (Add a b new) = ToldAdd a b new
told (Remove old) = ToldDrop old
told (Node at) = ToldNode at
told (Cut face class points) = ToldCut face.now class.now points
told (Fuse kept gone) = ToldFuse kept.now gone.now

-- what a line tells, want of memory apart
abbrev pub GivesTold : Result Edit (Or ℕ) → Result Told ℕ → Type 0
GivesTold (Ok edit) read = read ≡ Ok (told edit)
GivesTold (Err e) read = Refuses e read
