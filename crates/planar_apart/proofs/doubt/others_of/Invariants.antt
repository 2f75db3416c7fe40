-- The ones so far.
use Rattle.std.proofs.Common.{◌≡◌, not, get_or, map}
use Rattle.std.specs.List.{filter, range_with_len}
use Rattle.planar_apart.specs.Rows.{past_last}
use Rattle.planar_apart.specs.Doubts.{is_doubtful}
use Rattle.planar_apart.proofs.doubt.others_of.Given as goal

abbrev pub invariant-loop-number : goal.invariant-loop-number
invariant-loop-number l = l.kept ≡ map (λ i. get_or l.segments i past_last) (filter (λ i. not (is_doubtful l.doubts i)) (range_with_len 0 l.number))
