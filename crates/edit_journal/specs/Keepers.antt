-- What a keeper over a journal holds.
use Rattle.edit_journal.specs.declared.journal.Journal.{Journal}
use Rattle.edit_journal.specs.declared.kept.Kept.{Kept}

abbrev pub journal_of : {D : Type 0} {d : _} → Kept D d → Journal D d
journal_of keeper = keeper.journal
