-- A queue of corners: entries with areas, of which one with the least area is taken first.
use Rattle.std.specs.Prelude.{ℕ, Bool, ◌&&◌, ◌==◌, nat_le, List}
use Rattle.std.specs.List.{list_any}
use Rattle.std.specs.declared.cmp.Ordering.{Ordering}
use Rattle.std.specs.Ordering.{nat_cmp, ordering_then}
use Rattle.std.specs.declared.cmp.Reverse.{Reverse}
use Rattle.tgap_build.specs.declared.corner_queue.Entry.{Entry}

-- the order of a queue: by area and then by key, the least last
abbrev pub entry_cmp : Reverse Entry → Reverse Entry → Ordering
entry_cmp a b = ordering_then (nat_cmp b.0.area a.0.area) (nat_cmp b.0.key a.0.key)

-- an entry with the key tells of a corner of at most so much
abbrev pub is_queued : List (Reverse Entry) → ℕ → ℕ → Bool
is_queued queue k n = list_any (λ x. (x.0.key == k) && nat_le x.0.area n) queue
