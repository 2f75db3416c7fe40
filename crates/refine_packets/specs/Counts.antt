-- How many sides of edges each face is.
use Rattle.std.specs.Prelude.{◌≡◌, ◌<◌, ℕ, ◌+◌, ◌==◌, Bool, true, ◌&&◌, not, List, get_or, All, Contains, if◌then◌else◌}
use Rattle.std.specs.List.{sum_by}
use Rattle.std.specs.List.Sorted.{IsStrictlyIncreasing}
use Rattle.tgap_model.specs.declared.slice.Edge.{Edge}

-- one where the two faces are one
abbrev pub one_at : ℕ → ℕ → ℕ
one_at f g = if g == f then 1 else 0

-- how many sides of the edges the face is
abbrev pub sides_at : ℕ → List Edge → ℕ
sides_at f edges = sum_by (λ e. one_at f e.left + one_at f e.right) edges

-- the count of a face; of one past the last it is 0
abbrev pub count_at : List ℕ → ℕ → ℕ
count_at counts f = get_or counts f 0

-- both faces have a count
abbrev pub AreCounted : ℕ → List Edge → Type 0
AreCounted faces edges = All (λ e. (e.left < faces) × (e.right < faces)) edges

-- the counts are those of the edges
abbrev pub AreCounts : List ℕ → List Edge → Type 0
AreCounts counts edges = (f : ℕ) → count_at counts f ≡ sides_at f edges

-- the face that is read after a step in the place of a face before it, where no edge had the winner
abbrev pub read_for : ℕ → ℕ → ℕ → ℕ
read_for made winner f = if f == winner then made else if f == made then winner else f

-- ---- faces that are not counted

-- the face is not counted, and no outside
abbrev pub is_out : List ℕ → ℕ → Bool
is_out counts f = not (f == 0) && (count_at counts f == 0)

-- These are, of some faces, those that are not counted, without the outside, in ascending order.
pub record AreOut (counts some faces : List ℕ) : Type 0 where
  pub ascend : IsStrictlyIncreasing faces
  pub into : (f : ℕ) → Contains faces f → Contains some f × (is_out counts f ≡ true)
  pub all : (f : ℕ) → Contains some f → is_out counts f ≡ true → Contains faces f
