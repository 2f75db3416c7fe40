use Rattle.built_text.proofs.slice.slice_text_at.Given as goal

abbrev pub ghosts-ids_at : goal.ghosts-ids_at
ghosts-ids_at a = record { name = a.blank.name; parts = a.blank.parts }
