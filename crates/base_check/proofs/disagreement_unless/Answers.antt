-- Where the faces agree there is no fault.
use Rattle.std.proofs.Common.{sym}
use Rattle.planar_stack.proofs.Slabs.{no_faults_from_agree}
use Rattle.base_check.proofs.disagreement_unless.Goals as goal

pub returns-then-agree-clause-exact : goal.returns-then-agree-clause-exact
returns-then-agree-clause-exact g c = sym (no_faults_from_agree c.args.segments (c.requires.agree c.if-agree.true))
