-- The runs of a row, and the places at which they begin.
use Rattle.std.specs.Prelude.{◌≡◌, ◌<◌, ◌+◌, ◌^◌, ℕ, List, [], ◌∷◌, ◌++◌, length, All, Option}
use Rattle.tgap_model.specs.declared.geometry.Point.{Point}
use Rattle.tgap_model.specs.declared.geometry.Window.{Window}
use Rattle.point_rope.specs.Corners.{least_area}
use Rattle.point_rope.specs.Held.{IsHeld, IsNearPoint}

-- the points of some runs, one run after the other
abbrev pub joined : List (List Point) → List Point
joined [] = []
joined (run ∷ runs) = run ++ joined runs

-- the places at which the runs begin, of which the first begins at n: each behind the points of those before it
unfoldable pub starts_from : ℕ → List (List Point) → List ℕ
starts_from n [] = []
starts_from n (run ∷ runs) = n ∷ starts_from (n + length run) runs

-- the points are within the limits, the box holds them, and this is their least corner
pub record IsFullRun (points : List Point) (bounds : Window) (least : Option ℕ) : Type 0 where
  pub near : All IsNearPoint points
  pub held : All (IsHeld bounds) points
  pub exact : least ≡ least_area points

-- where runs begin, and how many points they have
pub record AreRuns (runs : List (List Point)) (starts : List ℕ) (count : ℕ) : Type 0 where
  pub begin : starts ≡ starts_from 0 runs
  pub counted : count ≡ length (joined runs)

-- Full runs, and the points after them, of which there are some where there is a point at all. A machine number counts
-- them all.
pub record IsRope (full : List (List Point)) (last : List Point) : Type 0 where
  pub near : All IsNearPoint last
  pub end : length last ≡ 0 → length (joined full) ≡ 0
  pub few : length (joined full) + length last < 2 ^ 64
