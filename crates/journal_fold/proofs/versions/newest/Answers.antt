use Rattle.std.proofs.Common.{sym, ◌∙◌}
use Rattle.journal_fold.proofs.VersionSteps.{newest_some}
use Rattle.journal_fold.proofs.versions.newest.Goals as goal

pub returns-in-Some : goal.returns-in-Some
returns-in-Some c =
    c.deref.ensures ∙ sym (newest_some c.args.first.now c.args.versions.now c.in-Some.version.now (sym c.in-Some.ensures.value))
