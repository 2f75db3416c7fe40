use Rattle.std.proofs.Common.{◌≡◌, ◌<◌, ◌==◌, ◌||◌, ℕ, Bool, length, get_or, take}
use Rattle.std.specs.List.{list_any}
use Rattle.ring_walk.specs.Sides.{side_number}
use Rattle.ring_walk.proofs.rings.take_all.Given as goal

-- the sides so far are noted
abbrev pub invariant-loop-side : goal.invariant-loop-side
invariant-loop-side l = (i : ℕ) (d : Bool) → i < length l.fn.taken → get_or l.taken i d ≡ get_or l.fn.taken i d || list_any (λ s. side_number s == i) (take l.side-index l.ring)
