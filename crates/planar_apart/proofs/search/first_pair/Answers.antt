-- Where the sweep shows that all are apart, no pair meets.
use Rattle.std.proofs.Common.{sym}
use Rattle.planar_apart.proofs.Pairs.{none_from_apart}
use Rattle.planar_apart.proofs.search.first_pair.Goals as goal

pub returns-then-shown-clause-exact : goal.returns-then-shown-clause-exact
returns-then-shown-clause-exact c = sym (none_from_apart c.args.segments.now c.requires.proper (c.in_ok-shown.ensures.apart c.if-shown.true))
