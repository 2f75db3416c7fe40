-- How the log of a disk in memory goes on.
use Rattle.std.proofs.Common.{◌≡◌, ℕ, true, List, ◌∷◌, sym, subst}
use Rattle.edit_journal.specs.Disk.{Stays}
use Rattle.edit_journal.specs.DiskLogs.{Logged, MadeSure, left_after, are_within, seen_left}

-- after a sync a crash leaves what it might have left before
pub stays_sure : (first : List ℕ) (old new : List Logged) → are_within first old ≡ true → new ≡ MadeSure ∷ old → Stays (left_after first old) (left_after first new)
stays_sure first old new within is =
    subst (λ (l : List Logged). Stays (left_after first old) (left_after first l)) (sym is) (λ image same. subst (left_after first old) (sym same) (seen_left first old within))
