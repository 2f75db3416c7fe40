-- The best link is that of the links so far, if one of them leads to a permitted neighbour.
use Rattle.std.proofs.Common.{take, MatchOption}
use Rattle.face_merge.specs.Running.{AreBarred, IsBestLink, number_in}
use Rattle.face_merge.proofs.merging.Merging.best_link.Given as goal

abbrev pub invariant-loop-link : goal.invariant-loop-link
invariant-loop-link l = MatchOption l.best (AreBarred l.self (number_in l.self l.fn.loser) (take l.link-index l.links)) (IsBestLink l.self (number_in l.self l.fn.loser) (take l.link-index l.links))
