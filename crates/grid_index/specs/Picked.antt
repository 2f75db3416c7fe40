-- Boxes in another order.
use Rattle.std.specs.Prelude.{◌≡◌, ℕ, pos, ◌-◌, ◌^◌, ◌<◌, List, length, map, get_or, IsPermutation}
use Rattle.std.specs.List.{range_with_len}
use Rattle.tgap_model.specs.declared.geometry.Window.{Window}

-- what is read past the last box
abbrev pub no_box : Window
no_box = record { x0 = pos 0; y0 = pos 0; x1 = pos 0; y1 = pos 0 }

-- the box at a place
abbrev pub box_at : List Window → ℕ → Window
box_at boxes i = get_or boxes i no_box

-- the order has each place of the boxes once, and the row is the boxes in that order
pub record IsOrdered (boxes : List Window) (order : List ℕ) (row : List Window) : Type 0 where
  pub places : IsPermutation (range_with_len 0 (length boxes)) order
  pub row_is : row ≡ map (box_at boxes) order

-- The numbers below so many, in an order, and at which place of it each one stands.
pub record AreInverse (count : ℕ) (order places : List ℕ) : Type 0 where
  pub all : IsPermutation (range_with_len 0 count) order
  pub long : length places ≡ count
  pub back : (i : ℕ) → i < count → get_or places (get_or order i 0) 0 ≡ i

-- the boxes of a row by their keys, where the slot of each key is told
abbrev pub boxes_by_key : List ℕ → List Window → List Window
boxes_by_key slots row = map (box_at row) slots

-- The keys of a row of boxes, the slot of each key, and fewer boxes than 32 bits count.
pub record AreKeyed (keys slots : List ℕ) (row : List Window) : Type 0 where
  pub inverse : AreInverse (length row) keys slots
  pub few : length row < 2 ^ 32 - 1
