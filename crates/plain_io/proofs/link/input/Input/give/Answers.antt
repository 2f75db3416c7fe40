use Rattle.std.proofs.Math.Seq.{take-add}
use Rattle.plain_io.proofs.link.input.Input.give.Goals as goal

pub returns-clause-given : goal.returns-clause-given
returns-clause-given c = take-add _ _ _
