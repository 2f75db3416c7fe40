-- What meets a window: boxes by their places.
use Rattle.std.specs.Prelude.{◌≡◌, ℕ, ◌+◌, ◌<◌, ◌≤◌, Bool, true, false, List, [], ◌∷◌, length, get_or}
use Rattle.tgap_model.specs.declared.geometry.Window.{Window}
use Rattle.grid_index.specs.Boxes.{meets}

-- x in front, where the test passed
abbrev pub cons_if : {A : Type 0} → Bool → A → List A → List A
cons_if true x xs = x ∷ xs
cons_if false x xs = xs

-- which boxes meet the area, by their places, which are counted from i on
abbrev pub boxes_near : Window → ℕ → List Window → List ℕ
boxes_near area i [] = []
boxes_near area i (b ∷ boxes) = cons_if (meets area b) i (boxes_near area (i + 1) boxes)

-- which boxes meet the area, by their places in ascending order
abbrev pub near_boxes : Window → List Window → List ℕ
near_boxes area boxes = boxes_near area 0 boxes

-- the first place from this one on whose box passes the test, or the number of the boxes where there is none
pub record IsNextHit (hits : Window → Bool) (boxes : List Window) (from next : ℕ) : Type 0 where
  pub after : from ≤ next
  pub within : next ≤ length boxes
  pub near : (d : Window) → next < length boxes → hits (get_or boxes next d) ≡ true
  pub apart : (k : ℕ) (d : Window) → from ≤ k → k < next → hits (get_or boxes k d) ≡ false

-- the first place from this one on whose box meets the area, or the number of the boxes where there is none
abbrev pub IsNextNear : Window → List Window → ℕ → ℕ → Type 0
IsNextNear area boxes from next = IsNextHit (meets area) boxes from next
