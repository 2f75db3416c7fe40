use Rattle.std.proofs.Common.{◌∙◌}
use Rattle.point_rope.proofs.corners.Corners.least.Goals as goal

pub returns-clause-exact : goal.returns-clause-exact
returns-clause-exact c points h = h.least

pub returns-clause-small : goal.returns-clause-small
returns-clause-small c points n h e = h.small n (h.least ∙ e)
