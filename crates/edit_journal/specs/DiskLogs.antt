-- The calls that a disk in memory has seen, the newest first, and what a crash at each moment leaves.
use Rattle.std.specs.Prelude.{◌≡◌, ◌⊎◌, ℕ, ◌+◌, ◌-◌, ◌≤◌, nat_le, Bool, true, ◌&&◌, List, [], ◌∷◌, ◌++◌, reverse, length, take, drop, refl}
use Rattle.std.proofs.Common.{inl, inr, sym, ◌∙◌, ap, subst, arith, length-append, length-drop, append_assoc}
use Rattle.std.proofs.lemmas.Bool.{and_parts, leb-true}
use Rattle.std.proofs.lemmas.List.{take_at, drop_at, length-take-le}
use Rattle.edit_journal.specs.declared.disk.log.Step.{Step}
use Rattle.edit_journal.specs.declared.disk.log.Step.TheVariants.{Wrote, Tore, Sure}
use Rattle.edit_journal.specs.declared.disk.log.DiskLog.{DiskLog}
use Rattle.edit_journal.specs.Disk.{Torn}

-- a write that succeeded, one that failed, of so many bytes, and a sync that succeeded
pub data Logged : Type 0 where
  Write : ℕ → List ℕ → Logged
  Tear : ℕ → ℕ → Logged
  MadeSure : Logged

-- the calls of these steps, of which the writes that succeeded wrote these bytes, the newest last
abbrev pub logged : List Step → List ℕ → List Logged
logged [] bytes = []
logged (Wrote at len ∷ earlier) bytes = Write at (drop (length bytes - len) bytes) ∷ logged earlier (take (length bytes - len) bytes)
logged (Tore at len ∷ earlier) bytes = Tear at len ∷ logged earlier bytes
logged (Sure ∷ earlier) bytes = MadeSure ∷ logged earlier bytes

-- the calls that a log has
abbrev pub calls_in : DiskLog → List Logged
calls_in log = logged (reverse log.steps.items) log.bytes.items

-- what a read gives after these calls on a disk that had these bytes at first
abbrev pub seen_after : List ℕ → List Logged → List ℕ
seen_after first [] = first
seen_after first (Write at bytes ∷ earlier) = take at (seen_after first earlier) ++ bytes ++ drop (at + length bytes) (seen_after first earlier)
seen_after first (Tear at len ∷ earlier) = seen_after first earlier
seen_after first (MadeSure ∷ earlier) = seen_after first earlier

-- what a crash after them may leave
abbrev pub left_after : List ℕ → List Logged → List ℕ → Type 0
left_after first [] image = image ≡ first
left_after first (Write at bytes ∷ earlier) image = (before : List ℕ) × left_after first earlier before × Torn at (length bytes) before image
left_after first (Tear at len ∷ earlier) image = (before : List ℕ) × left_after first earlier before × Torn at len before image
left_after first (MadeSure ∷ earlier) image = image ≡ seen_after first earlier

-- what a crash after so many calls, or after later ones, might have left
abbrev pub left_from : List ℕ → List Logged → ℕ → List ℕ → Type 0
left_from first [] moment image = left_after first [] image
left_from first (call ∷ earlier) moment image = left_after first (call ∷ earlier) image ⊎ ((moment ≤ length earlier) × left_from first earlier moment image)

-- no write begins past the end
abbrev pub are_within : List ℕ → List Logged → Bool
are_within first [] = true
are_within first (Write at bytes ∷ earlier) = nat_le at (length (seen_after first earlier)) && are_within first earlier
are_within first (Tear at len ∷ earlier) = are_within first earlier
are_within first (MadeSure ∷ earlier) = are_within first earlier

-- a write that changes nothing is a torn one
pub torn_same : (at n : ℕ) (bytes : List ℕ) → Torn at n bytes bytes
torn_same at n bytes = record { before = refl; after = refl; no_shorter = omega arith; no_longer = omega arith }

-- and so is one that succeeds
pub torn_written : (at : ℕ) (old bytes : List ℕ) → at ≤ length old → Torn at (length bytes) old (take at old ++ bytes ++ drop (at + length bytes) old)
torn_written at old bytes fits =
    let front : length (take at old) ≡ at = length-take-le at old fits in
    let both : length (take at old ++ bytes) ≡ at + length bytes = omega (arith, front, length-append (take at old) bytes) in
    let back = drop (at + length bytes) old in
    let long : length (take at old ++ bytes ++ back) ≡ at + length bytes + (length old - (at + length bytes)) = omega (arith, both, length-append (take at old ++ bytes) back, length-drop (at + length bytes) old) in
    record {
      before = ap (λ (l : List ℕ). take at l) (append_assoc (take at old) bytes back) ∙ take_at (take at old) (bytes ++ back) at front;
      after = drop_at (take at old ++ bytes) back (at + length bytes) both;
      no_shorter = omega (arith, long);
      no_longer = omega (arith, long, fits);
    }

-- a read gives what a crash may leave
pub seen_left : (first : List ℕ) (log : List Logged) → are_within first log ≡ true → left_after first log (seen_after first log)
seen_left first [] within = refl
seen_left first (Write at bytes ∷ earlier) within =
    let parts = and_parts _ _ within in
    (seen_after first earlier, seen_left first earlier parts.1, torn_written at (seen_after first earlier) bytes (leb-true _ _ parts.0))
seen_left first (Tear at len ∷ earlier) within = (seen_after first earlier, seen_left first earlier within, torn_same at len (seen_after first earlier))
seen_left first (MadeSure ∷ earlier) within = refl

pub held_left : (first : List ℕ) (log : List Logged) (held : List ℕ) → held ≡ seen_after first log → are_within first log ≡ true → left_after first log held
held_left first log held is within = subst (left_after first log) (sym is) (seen_left first log within)

pub left_now : (first : List ℕ) (log : List Logged) (moment : ℕ) (image : List ℕ) → left_after first log image → left_from first log moment image
left_now first [] moment image left = left
left_now first (call ∷ earlier) moment image left = inl left

pub left_only : (first : List ℕ) (log : List Logged) (image : List ℕ) → left_from first log (length log) image → left_after first log image
left_only first [] image left = left
left_only first (call ∷ earlier) image (inl left) = left
left_only first (call ∷ earlier) image (inr (later, left)) = absurd (omega arith)
