use Rattle.std.proofs.Common.{◌≡◌, ◌++◌, take}
use Rattle.arc_places.proofs.borders.appended.Given as goal

-- the numbers so far stand behind those of the one list
abbrev pub invariant-loop-number : goal.invariant-loop-number
invariant-loop-number l = l.longer ≡ l.initial.longer ++ take l.number-index l.shorter
