-- The line of the sweep: its row and what it keeps beside it, where a segment may stand in the row, and what changes there.
use Rattle.std.specs.Prelude.{◌≡◌, ◌≢◌, ℕ, ◌+◌, ◌<◌, ◌≤◌, List, Contains, length, get_or}
use Rattle.std.specs.List.{All, insert, remove}
use Rattle.tgap_model.specs.declared.geometry.Seg.{Seg}
use Rattle.linked_row.specs.Linked.{Linked, IsNode, uppers, lowers}
use Rattle.planar_sweep.specs.declared.line.Line.{Line}
use Rattle.planar_sweep.specs.Rows.{Over}

-- Its numbers are those of segments, and the end of the row has the number of their count.
pub record IsLineOf (segs : List Seg) (l : Line) : Type 0 where
  pub count : l.row.count ≡ length segs
  pub known : All (λ n. n < length segs) l.row.row
  pub sample : All (λ n. n < length segs) l.sample.numbers
  pub last : l.last ≤ length segs

-- a node may stand next above a segment, and next below one: the end always may
abbrev pub MayBeAbove : List Seg → ℕ → ℕ → Type 0
MayBeAbove segs upper n = upper ≢ length segs → Over segs upper n

abbrev pub MayBeBelow : List Seg → ℕ → ℕ → Type 0
MayBeBelow segs n lower = lower ≢ length segs → Over segs n lower

-- A segment may stand in the row below a node.
pub record Fits (segs : List Seg) (row : Linked) (upper n : ℕ) : Type 0 where
  pub node : IsNode row upper
  pub above : MayBeAbove segs upper n
  pub below : (k : ℕ) → k ≤ length row.row → get_or (uppers row) k 0 ≡ upper → MayBeBelow segs n (get_or (lowers row) k 0)

-- A segment has come below a node, where it may stand.
pub record CameBelow (segs : List Seg) (n upper : ℕ) (old new : Linked) : Type 0 where
  pub place : ℕ
  pub within : place ≤ length old.row
  pub there : get_or (uppers old) place 0 ≡ upper
  pub placed : new.row ≡ insert old.row place n
  pub fresh : Contains old.row n → ⊥
  pub above : MayBeAbove segs upper n
  pub below : MayBeBelow segs n (get_or (lowers old) place 0)

-- A number has gone out of the row.
pub record GoneOut (n : ℕ) (old new : Linked) : Type 0 where
  pub place : ℕ
  pub within : place < length old.row
  pub there : get_or old.row place 0 ≡ n
  pub without : new.row ≡ remove old.row place

-- what stood above the place may stand next above what stood below it
abbrev pub MayClose : List Seg → Linked → ℕ → Type 0
MayClose segs row place = get_or (uppers row) place 0 ≢ length segs → MayBeBelow segs (get_or (uppers row) place 0) (get_or (lowers row) (place + 1) 0)
