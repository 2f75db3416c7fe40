use Rattle.removal_laws.proofs.OneLine.{one_line_covers}
use Rattle.removal_laws.proofs.triangle.one_line_covers.Goals as goal

pub returns : goal.returns
returns c = one_line_covers
