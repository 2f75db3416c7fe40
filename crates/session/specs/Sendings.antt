-- The bytes of a reply, whatever holds them.
use Rattle.std.specs.Prelude.{ℕ, List, ◌++◌}
use Rattle.session.specs.declared.sending.Holder.{Holder}
use Rattle.session.specs.declared.sending.Holder.TheVariants.{Kept, Whole, Parts}

abbrev pub bytes_of : Holder → List ℕ
bytes_of (Kept text) = text
bytes_of (Whole text) = text
bytes_of (Parts head body) = head ++ body
