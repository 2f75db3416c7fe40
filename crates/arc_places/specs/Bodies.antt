-- Bodies: what is listed for a point is bodies, and each body stands in a slot.
use Rattle.std.specs.Prelude.{◌≡◌, ℕ, ◌==◌, List, slice_index_or, if◌then◌else◌}

-- the number that stands in a list at place i; past the end each number stands at its own place
abbrev pub image : List ℕ → ℕ → ℕ
image numbers i = slice_index_or numbers i i

-- the slots of the bodies and the bodies of the slots: one to one
pub record AreInverse (slots bodies : List ℕ) : Type 0 where
  pub slot_again : (i : ℕ) → image slots (image bodies i) ≡ i
  pub body_again : (b : ℕ) → image bodies (image slots b) ≡ b

-- a number where i and j change places
abbrev pub exchanged : ℕ → ℕ → ℕ → ℕ
exchanged i j k = if k == i then j else if k == j then i else k
