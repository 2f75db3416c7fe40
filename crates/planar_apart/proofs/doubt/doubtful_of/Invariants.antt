-- Those so far.
use Rattle.std.proofs.Common.{◌≡◌, take}
use Rattle.std.specs.List.{filter}
use Rattle.planar_apart.specs.Doubts.{is_doubtful}
use Rattle.planar_apart.proofs.doubt.doubtful_of.Given as goal

abbrev pub invariant-loop-number : goal.invariant-loop-number
invariant-loop-number l = l.found.items ≡ filter (is_doubtful l.doubts) (take l.number-index l.numbers)
