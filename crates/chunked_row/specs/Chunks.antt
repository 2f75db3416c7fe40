-- The chunks of a row, none of them empty, the places at which they begin, and the spot in them of a place of the row.
use Rattle.std.specs.Prelude.{◌≡◌, ◌<◌, ◌≤◌, ◌+◌, ◌^◌, ℕ, List, [], ◌∷◌, length, take, get_or, All}
use Rattle.std.specs.List.{concat}
use Rattle.chunked_row.specs.declared.spot.Spot.{Spot}

abbrev pub HasSome : List ℕ → Type 0
HasSome chunk = 0 < length chunk

-- no chunk is empty, and together they have so many numbers, which a machine number can count
pub record AreCounted (chunks : List (List ℕ)) (count : ℕ) : Type 0 where
  pub full : All HasSome chunks
  pub counted : count ≡ length (concat chunks)
  pub few : count < 2 ^ 64

-- the places at which the chunks begin, of which the first begins at n: each behind the numbers of those before it
unfoldable pub starts_from : ℕ → List (List ℕ) → List ℕ
starts_from n [] = []
starts_from n (chunk ∷ chunks) = n ∷ starts_from (n + length chunk) chunks

-- The place is behind so many numbers of a chunk, and behind one of them at least where it is not the first place.
pub record IsSpot (chunks : List (List ℕ)) (place : ℕ) (s : Spot) : Type 0 where
  pub chunk : s.chunk < length chunks
  pub index : s.index ≤ length (get_or chunks s.chunk [])
  pub before : length (concat (take s.chunk chunks)) + s.index ≡ place
  pub behind : 0 < place → 0 < s.index
