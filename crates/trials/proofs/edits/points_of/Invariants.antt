use Rattle.std.proofs.Common.{IsTrue}
use Rattle.std.specs.List.{list_all}
use Rattle.tgap_model.specs.Base.{in_limits}
use Rattle.trials.proofs.edits.points_of.Given as goal

-- the points so far are within the limits
abbrev pub invariant-loop-pair : goal.invariant-loop-pair
invariant-loop-pair l = IsTrue (list_all in_limits l.points)
