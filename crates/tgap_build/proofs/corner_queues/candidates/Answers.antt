-- An edge with a small corner is one of those that are told.
use Rattle.std.proofs.Common.{◌≡◌, ℤ, true, sym, subst}
use Rattle.std.specs.Int.{w128}
use Rattle.std.proofs.lemmas.Int.{to_z-of_z}
use Rattle.vertex_drop.specs.Corners.{small_area}
use Rattle.vertex_drop.proofs.Least.{least_from_small}
use Rattle.tgap_build.proofs.corner_queues.candidates.Goals as goal

pub returns-clause-small : goal.returns-clause-small
returns-clause-small c = λ e m side h.
    let least = least_from_small c.args.ratio c.args.loser_area e.points h in
    let small = subst (λ (z : ℤ). small_area c.args.ratio z least.0 ≡ true) (sym (to_z-of_z w128 c.args.loser_area c.ranges.loser_area)) least.2 in
    c.in_ok-keys.ensures.small e least.0 m side least.1 (c.largest_small.ensures least.0 small)
