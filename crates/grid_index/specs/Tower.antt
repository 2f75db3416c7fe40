-- Levels of boxes over a row of boxes: a box of each level holds up to so many of the level below, in their order.
use Rattle.std.specs.Prelude.{◌≡◌, ◌≢◌, ℕ, zero, suc, ◌+◌, ◌*◌, ◌/◌, ◌<◌, ◌≤◌, Bool, false, List, [], ◌∷◌, length, get_or, filter, All}
use Rattle.std.specs.List.{flat_map, range_with_len}
use Rattle.tgap_model.specs.declared.geometry.Window.{Window}
use Rattle.grid_index.specs.declared.tree.TheConstants.{FANOUT}
use Rattle.grid_index.specs.Boxes.{meets, Covers}
use Rattle.grid_index.specs.Near.{near_boxes}

-- box i is there and meets the area
abbrev pub meets_at : Window → List Window → ℕ → Bool
meets_at area [] i = false
meets_at area (b ∷ boxes) zero = meets area b
meets_at area (b ∷ boxes) (suc i) = meets_at area boxes i

-- the places of what a box holds of the level below
unfoldable pub children : ℕ → List ℕ
children parent = range_with_len (FANOUT * parent) FANOUT

-- the children of these boxes that meet the area
abbrev pub meeting : Window → List Window → List ℕ → List ℕ
meeting area level parents = filter (meets_at area level) (flat_map children parents)

-- each box of the lower level is held by a box of the upper one, which has no more boxes than it needs
pub record IsHull (up down : List Window) : Type 0 where
  pub room : length down ≤ FANOUT * length up
  pub few : FANOUT * length up < length down + FANOUT
  pub holds : (i : ℕ) (d e : Window) → i < length down → Covers (get_or up (i / FANOUT) d) (get_or down i e)

-- each level, from the upper one down to the boxes, is held by the one before it
abbrev pub AreHulls : List Window → List (List Window) → List Window → Type 0
AreHulls up [] boxes = IsHull up boxes
AreHulls up (down ∷ levels) boxes = IsHull up down × AreHulls down levels boxes

-- levels over the boxes, the highest first, which has no more boxes than one box holds
abbrev pub IsTower : List (List Window) → List Window → Type 0
IsTower [] boxes = length boxes ≤ FANOUT
IsTower (top ∷ levels) boxes = (length top ≤ FANOUT) × AreHulls top levels boxes

-- the children of these boxes are places of the level, and they are all that meets the area in it
pub record Leads (area : Window) (parents : List ℕ) (level : List Window) : Type 0 where
  pub room : All (λ n. FANOUT * n ≤ length level) parents
  pub all : meeting area level parents ≡ near_boxes area level

-- they lead to the next level, and from there each level is held by the one before it
abbrev pub Reaches : Window → List ℕ → List (List Window) → List Window → Type 0
Reaches area parents [] boxes = Leads area parents boxes
Reaches area parents (level ∷ levels) boxes = Leads area parents level × AreHulls level levels boxes

-- a box holds those of a level that belong to a box of this place in the level above
abbrev pub HoldsGroup : Window → ℕ → List Window → Type 0
HoldsGroup up parent boxes = (i : ℕ) (e : Window) → i < length boxes → i / FANOUT ≡ parent → Covers up (get_or boxes i e)

-- two rows that differ in the box of one place at most
pub record IsRowBut (was boxes : List Window) (place : ℕ) : Type 0 where
  pub long : length was ≡ length boxes
  pub same : (i : ℕ) (d : Window) → i ≢ place → get_or was i d ≡ get_or boxes i d

-- levels over a row in which one box has changed since
abbrev pub IsTowerBut : List (List Window) → List Window → ℕ → Type 0
IsTowerBut levels boxes place = (was : List Window) × (IsTower levels was) × (IsRowBut was boxes place)

-- each of these levels, of which the last one holds the row, is held by the one before it
abbrev pub AreLevels : List (List Window) → List Window → Type 0
AreLevels [] row = Unit
AreLevels (top ∷ levels) row = AreHulls top levels row

-- no box of the row from one place on passes the test, up to another place
abbrev pub IsClear : (Window → Bool) → List Window → ℕ → ℕ → Type 0
IsClear hits row from end = (k : ℕ) (d : Window) → from ≤ k → k < end → k < length row → hits (get_or row k d) ≡ false
