use Rattle.slice_read.proofs.near.ids_near.Given as goal

-- nobody counts
abbrev pub ghosts-ids_at : goal.ghosts-ids_at
ghosts-ids_at a = record { name = a.blank.name; parts = a.blank.parts }
