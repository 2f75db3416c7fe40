use Rattle.std.proofs.Common.{◌≡◌, ◌+◌, take}
use Rattle.tgap_model.specs.Base.{count_points}
use Rattle.tgap_model.specs.declared.limits.TheConstants.{MAX_POINTS}
use Rattle.tgap_model.proofs.validity.are_points_within_limit.Given as goal

-- the points so far, and how many more there may be
abbrev pub invariant-loop-arc : goal.invariant-loop-arc
invariant-loop-arc l = count_points (take l.arc-index l.arcs) + l.remaining ≡ MAX_POINTS
