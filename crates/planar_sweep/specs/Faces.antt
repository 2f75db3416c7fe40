-- The faces down the row of the sweep: at how many of its places the face that is reached from above is not the one that stands there, and
-- that there was none at any abscissa so far.
use Rattle.std.specs.Prelude.{◌≡◌, ◌⊎◌, ℕ, ◌+◌, ◌<◌, ◌≤◌, ◌==◌, ℤ, pos, ◌+ℤ◌, ◌*ℤ◌, ◌<ℤ◌, ◌≤ℤ◌, List, [], ◌∷◌, ◌++◌, length, map, take, drop, get_or, All, if◌then◌else◌}
use Rattle.tgap_model.specs.declared.geometry.Seg.{Seg}
use Rattle.tgap_model.specs.declared.segment.LabelledSegment.{LabelledSegment}
use Rattle.tgap_model.specs.Partition.{Sides, sides}
use Rattle.planar_sweep.specs.Rows.{Moment, changes_of, IsRow}
use Rattle.planar_sweep.specs.Ends.{segment_at}

-- the faces at the sides of the segment of a number
abbrev pub sides_at : List LabelledSegment → ℕ → Sides
sides_at segments n = sides (segment_at segments n)

-- ---- the places of a stack: one above each member, and one below all

-- one where two faces differ
abbrev pub differ : ℕ → ℕ → ℕ
differ u v = if u == v then 0 else 1

-- at how many places of a stack the face that is reached from above, which is u at first, is not the one that stands there
abbrev pub gaps_from : ℕ → List Sides → ℕ
gaps_from u [] = differ u 0
gaps_from u (s ∷ ss) = differ u s.upper + gaps_from s.lower ss

-- the face that is reached at a place, where u is above all
abbrev pub reached_at : {A : Type 0} → (A → Sides) → ℕ → List A → ℕ → ℕ
reached_at faces u xs k = get_or (u ∷ map (λ x. (faces x).lower) xs) k 0

-- the face that stands there, which is the outside below all
abbrev pub standing_at : {A : Type 0} → (A → Sides) → List A → ℕ → ℕ
standing_at faces xs k = get_or (map (λ x. (faces x).upper) xs ++ 0 ∷ []) k 0

-- ---- the rows at the abscissas

-- All events up to an abscissa are done, and no others.
pub record IsColumn (v : ℤ) (front rest : List Moment) : Type 0 where
  pub done : All (λ e. e.time ≤ℤ (pos 4 *ℤ v +ℤ pos 3)) front
  pub ahead : All (λ e. (pos 4 *ℤ v +ℤ pos 3) <ℤ e.time) rest

-- Between two abscissas the row had no place at which the faces differ, after each number of events up to this one.
abbrev pub HadAgreement : List LabelledSegment → List Seg → List Moment → ℕ → Type 0
HadAgreement segments segs events k =
    (j : ℕ) → j ≤ k → (v : ℤ) → IsColumn v (take j events) (drop j events)
    → (row : List ℕ) × IsRow segs (changes_of (take j events)) row × (gaps_from 0 (map (sides_at segments) row) ≡ 0)

-- A time and a later one are of one abscissa.
pub record AreOfOneColumn (s t : ℤ) : Type 0 where
  pub abscissa : ℤ
  pub from : (pos 4 *ℤ abscissa) ≤ℤ s
  pub to : t ≤ℤ (pos 4 *ℤ abscissa +ℤ pos 3)

-- After event k the row has no place at which the faces differ, or the next event is at the same abscissa.
abbrev pub AgreesBehind : List LabelledSegment → List Moment → ℕ → Moment → List ℕ → Type 0
AgreesBehind segments events k d row =
    (gaps_from 0 (map (sides_at segments) row) ≡ 0) ⊎ ((k + 1 < length events) × AreOfOneColumn (get_or events k d).time (get_or events (k + 1) d).time)
