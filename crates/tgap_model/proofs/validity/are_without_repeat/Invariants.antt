use Rattle.std.proofs.Common.{◌≡◌, ◌-◌, drop}
use Rattle.tgap_model.specs.Base.{no_repeat}
use Rattle.tgap_model.proofs.validity.are_without_repeat.Given as goal

-- the points from the last one on decide
abbrev pub invariant-loop-i : goal.invariant-loop-i
invariant-loop-i l = no_repeat (drop (l.i - 1) l.points) ≡ no_repeat l.points
