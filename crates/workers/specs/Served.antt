-- What was served at a door.
use Rattle.std.specs.Prelude.{◌≡◌, ℕ, ◌+◌, ◌++◌, Bool, List, map, length, Option, option_map}
use Rattle.plain_io.specs.declared.connection.ConnectionEnd.{ConnectionEnd}
use Rattle.plain_io.specs.declared.link.Link as OfLink
use Rattle.plain_io.specs.Doors.{Connections}

-- A link as it came and as it was left, and the end of its connection.
pub record Visit (L : Type 0) : Type 0 where
  pub came : L
  pub left : L
  pub end : ConnectionEnd

-- the link and the end that are handed back
abbrev pub handed_back : {L : Type 0} → Visit L → L × ConnectionEnd
handed_back visit = (visit.left, visit.end)

-- A connection after its end: what was taken from its link and what was put to it, before it and after it, where that is told; whether the
-- input has ended; how often a take and how often a put has failed; and the end that was told.
pub record Talk : Type 0 where
  pub taken_before : Option (List ℕ)
  pub told_before : Option (List ℕ)
  pub taken : Option (List ℕ)
  pub told : Option (List ℕ)
  pub ended : Bool
  pub take_faults : ℕ
  pub put_faults : ℕ
  pub end : ConnectionEnd

-- what a link tells of the connection of a visit
abbrev pub talk_of : {L : Type 0} → OfLink.Ghosts L → Visit L → Talk
talk_of link visit = record {
  taken_before = link.taken visit.came;
  told_before = link.told visit.came;
  taken = link.taken visit.left;
  told = link.told visit.left;
  ended = link.ended visit.left;
  take_faults = link.take_faults visit.left;
  put_faults = link.put_faults visit.left;
  end = visit.end;
}

-- So many links came, each was handed back with the end of its connection, and P says it of these connections.
pub record ServesDoor {L : Type 0} (link : OfLink.Ghosts L) (told told' : Option (Connections L)) (P : List Talk → Type 0) : Type 0 where
  pub visits : List (Visit L)
  pub back : told' ≡ option_map (λ all. record { came = all.came + length visits; back = all.back ++ map handed_back visits }) told
  pub right : P (map (talk_of link) visits)
