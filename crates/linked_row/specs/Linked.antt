-- Rows of different numbers below a count, and the links between neighbours.
use Rattle.std.specs.Prelude.{◌⊎◌, ◌≡◌, ◌<◌, ◌≤◌, ◌+◌, ◌-◌, ◌^◌, ◌==◌, ℕ, zero, suc, List, [], ◌∷◌, ◌++◌, map, length, get_or, All}
use Rattle.std.specs.List.{Contains, IsDistinct}
use Rattle.linked_row.specs.declared.links.Node.{Node}

-- Different numbers below a count, in a row.
pub record Linked : Type 0 where
  pub count : ℕ
  pub row : List ℕ

-- what stands above and below each gap of the row; the end is above the first and below the last
abbrev pub uppers : Linked → List ℕ
uppers l = l.count ∷ l.row

abbrev pub lowers : Linked → List ℕ
lowers l = l.row ++ l.count ∷ []

-- a number of the row, or the end
abbrev pub IsNode : Linked → ℕ → Type 0
IsNode l n = (n ≡ l.count) ⊎ Contains l.row n

-- an entry that nothing was linked to: the end stands above it, and itself below
abbrev pub lone : ℕ → ℕ → Node
lone end number = record { above = end; below = number }

-- what stands above each node, and what below
abbrev pub aboves : List Node → List ℕ
aboves nodes = map (λ (n : Node). n.above) nodes

abbrev pub belows : List Node → List ℕ
belows nodes = map (λ (n : Node). n.below) nodes

-- the next so many numbers below one, where each has its neighbour below in a list
unfoldable pub next_below : List ℕ → ℕ → ℕ → List ℕ
next_below below zero n = []
next_below below (suc k) n = get_or below n 0 ∷ next_below below k (get_or below n 0)

-- the row of so many numbers that begins below the end, which is the last entry
abbrev pub linked_by : List ℕ → ℕ → Linked
linked_by below len = record { count = length below - 1; row = next_below below len (length below - 1) }

-- At each gap of the row the lists tell what stands below and above it. A number that is not in the row stands below itself, and no entry is above the end.
pub record AreLinks (above below : List ℕ) (l : Linked) : Type 0 where
  pub above_length : length above ≡ l.count + 1
  pub below_length : length below ≡ l.count + 1
  pub few : l.count < 2 ^ 32
  pub differ : IsDistinct ◌==◌ l.row
  pub known : All (λ n. n < l.count) l.row
  pub down : (k : ℕ) → k ≤ length l.row → get_or below (get_or (uppers l) k 0) 0 ≡ get_or (lowers l) k 0
  pub up : (k : ℕ) → k ≤ length l.row → get_or above (get_or (lowers l) k 0) 0 ≡ get_or (uppers l) k 0
  pub free : (n : ℕ) → n < l.count → Contains l.row n ⊎ (get_or below n 0 ≡ n)
  pub bound : All (λ n. n ≤ l.count) above
