-- What the code holds of entries, as entries that are told.
use Rattle.std.specs.Prelude.{ℕ, List, map, Option, option_map}
use Rattle.std.specs.Option.{option_to_list}
use Rattle.edit_journal.specs.declared.entry.Entry.{Entry}
use Rattle.tgap_model.specs.Keeping.{KeptEntry}

abbrev pub kept_of : Entry → KeptEntry
kept_of entry = record { number = entry.number; batch = entry.batch }

abbrev pub all_kept : List Entry → List KeptEntry
all_kept entries = map kept_of entries

-- an entry in doubt, or none
abbrev pub doubted : Option Entry → List KeptEntry
doubted doubt = option_to_list (option_map kept_of doubt)

-- what was read, as the entries and the place where they end
abbrev pub read_of : List Entry × ℕ → List KeptEntry × ℕ
read_of found = (all_kept found.0, found.1)
