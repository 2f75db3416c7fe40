use Rattle.std.proofs.Common.{subst}
use Rattle.tgap_model.specs.Keeping.{Kept, sure_of}
use Rattle.edit_journal.specs.Entries.{entries_of}
use Rattle.edit_journal.specs.Journals.{IsOf}
use Rattle.edit_journal.specs.Runs.{during}
use Rattle.edit_journal.proofs.RunLaws.{goes, left_after, holds_after, history_of, history_ended}
use Rattle.edit_journal.proofs.promise.crash_at_any_moment.Goals as goal

pub returns-clause-between : goal.returns-clause-between
returns-clause-between g c =
    λ disk entries calls now first run image left.
    subst (λ (k : Kept). IsOf k image) (holds_after (sure_of entries) now.1 calls (goes g.D.Disk.moment g.D.Disk.left_since g.D.Disk.may_leave (disk, sure_of entries) now calls run)) (left_after g.D.Disk.moment g.D.Disk.left_since g.D.Disk.may_leave (disk, sure_of entries) now calls first run image left)

pub returns-clause-within : goal.returns-clause-within
returns-clause-within g c =
    λ disk entries calls now next call run called image left.
    subst (λ (k : Kept). IsOf (during k call) image) (holds_after (sure_of entries) now.1 calls (goes g.D.Disk.moment g.D.Disk.left_since g.D.Disk.may_leave (disk, sure_of entries) now calls run)) (called.any_moment.each image left)

pub returns-clause-between_all : goal.returns-clause-between_all
returns-clause-between_all g c =
    λ disk entries calls now first run image left.
    history_of entries now.1 calls (goes g.D.Disk.moment g.D.Disk.left_since g.D.Disk.may_leave (disk, sure_of entries) now calls run) (entries_of image).0 (left_after g.D.Disk.moment g.D.Disk.left_since g.D.Disk.may_leave (disk, sure_of entries) now calls first run image left)

pub returns-clause-within_all : goal.returns-clause-within_all
returns-clause-within_all g c =
    λ disk entries calls now next call run called image left.
    history_ended g.D.Disk.moment g.D.Disk.left_since g.D.Disk.may_leave entries calls now next call (goes g.D.Disk.moment g.D.Disk.left_since g.D.Disk.may_leave (disk, sure_of entries) now calls run) called image left
