-- The queue of faces: each waits by its importance, then by its number.
use Rattle.std.specs.Prelude.{◌≡◌, ◌<◌, ◌==◌, ℕ, ℤ, Bool, true, false, List, slice_index}
use Rattle.std.specs.declared.cmp.Ordering.{Ordering}
use Rattle.std.specs.Ordering.{ordering_then, nat_cmp, int_cmp, is_gt}
use Rattle.std.specs.BTreeSet.{contains}
use Rattle.std.specs.List.{list_any}
use Rattle.face_merge.specs.declared.queue.Place.{Place}
use Rattle.face_merge.specs.declared.queue.Queue.{Queue}

-- by importance, then by number, then by slot
abbrev pub place_cmp : ℤ × ℕ × ℕ → ℤ × ℕ × ℕ → Ordering
place_cmp x y = ordering_then (ordering_then (int_cmp x.0 y.0) (nat_cmp x.1 y.1)) (nat_cmp x.2 y.2)

-- the face of this importance and number waits, in this slot
abbrev pub waits : Queue → ℤ → ℕ → ℕ → Bool
waits q i n s = contains place_cmp q.faces (i, n, s)

-- how many permitted neighbours the face in a slot has
abbrev pub count_at : Queue → ℕ → ℕ
count_at q s = slice_index q.counts.items s

-- one of these places is in this slot
abbrev pub lists : List Place → ℕ → Bool
lists places s = list_any (λ place. place.slot == s) places

-- The faces that have a permitted neighbour wait, and no others, where this is the number of the face in each slot, the
-- importance of each face, and how many permitted neighbours the face in each slot has.
pub record AreWaiting (number : ℕ → ℕ) (importance : ℕ → ℤ) (waits : ℤ → ℕ → ℕ → Bool) (count : ℕ → ℕ) : Type 0 where
  pub each : (s : ℕ) → 0 < count s → waits (importance (number s)) (number s) s ≡ true
  pub only : (i : ℤ) (f s : ℕ) → waits i f s ≡ true → (f ≡ number s) × (i ≡ importance f) × (0 < count s)

-- the face in this slot waits, and none that waits is less important, or as important with a smaller number
abbrev pub IsFirst : (ℤ → ℕ → ℕ → Bool) → ℕ → Type 0
IsFirst waits s = (i : ℤ) × (n : ℕ) × (waits i n s ≡ true)
    × ((j : ℤ) (m t : ℕ) → waits j m t ≡ true → is_gt (place_cmp (i, n, s) (j, m, t)) ≡ false)
