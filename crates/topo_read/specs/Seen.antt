-- What a step of the reader gives, beside the definition of what is read.
use Rattle.std.specs.Prelude.{◌≡◌, Result, Ok, Err}
use Rattle.tgap_model.specs.declared.failure.Or.{Or}
use Rattle.plain_io.specs.Taking.{Refuses}

-- what is read in the end, as it is seen, want of memory apart
abbrev pub GivesSeen : {X Y F : Type 0} → (X → Y) → Result X (Or F) → Result Y F → Type 0
GivesSeen seen (Ok x) read = read ≡ Ok (seen x)
GivesSeen seen (Err e) read = Refuses e read
