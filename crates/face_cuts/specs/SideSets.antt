-- Sets of sides, by their numbers.
use Rattle.std.specs.Prelude.{Bool}
use Rattle.std.specs.Ordering.{nat_cmp}
use Rattle.std.specs.BTreeSet.{contains}
use Rattle.ring_walk.specs.declared.side.Side.{Side}
use Rattle.ring_walk.specs.Sides.{side_number}
use Rattle.face_cuts.specs.declared.side_set.SideSet.{SideSet}

-- the side is in the set
abbrev pub has : SideSet → Side → Bool
has set s = contains nat_cmp set.numbers (side_number s)
