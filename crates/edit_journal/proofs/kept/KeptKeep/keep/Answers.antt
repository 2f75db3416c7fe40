use Rattle.std.proofs.Common.{◌≡◌, Ok, Err, refl, ◌∙◌, subst, Result}
use Rattle.std.proofs.lemmas.Result.{err_from_is_err_and}
use Rattle.tgap_model.specs.declared.keep.KeepFail.TheVariants.{Full}
use Rattle.tgap_model.specs.Keeping.{KeptEntry, Kept}
use Rattle.edit_journal.specs.declared.entry.AppendFail.{AppendFail}
use Rattle.edit_journal.specs.declared.entry.AppendFail.TheVariants as Append
use Rattle.edit_journal.specs.Journals.{held_by, Appends}
use Rattle.edit_journal.proofs.KeeperSteps.{told_keeps, started_refused, started_ok, started_full}
use Rattle.edit_journal.proofs.kept.KeptKeep.keep.Goals as goal

pub returns-in_err-make_sure-clause-kept : goal.returns-in_err-make_sure-clause-kept
returns-in_err-make_sure-clause-kept g c =
    let e : KeptEntry = record { number = c.args.number; batch = c.args.batch.now } in
    let before : Kept = held_by c.args.self.now.journal in
    let now : Kept = held_by c.make_sure.new.self.journal in
    let p = err_from_is_err_and c.from_residual.result c.from_residual.ensures.1 in
    let gives = p.2 in
    rw p.1 (told_keeps (g.D.Disk.told c.args.self.now.journal.disk) (g.D.Disk.told c.make_sure.new.self.journal.disk) before now e (Err p.0) c.make_sure.ensures.told (λ told. started_refused before now e p.0 c.in_err-make_sure.ensures.refused (λ most is. c.make_sure.ensures.room told most (cc (c.in_err-make_sure.was, gives)))))

pub returns-in-Ok-clause-kept : goal.returns-in-Ok-clause-kept
returns-in-Ok-clause-kept g c =
    let e : KeptEntry = record { number = c.args.number; batch = c.args.batch.now } in
    let before : Kept = held_by c.args.self.now.journal in
    let settled : Kept = held_by c.make_sure.new.self.journal in
    let now : Kept = held_by c.append.new.self in
    told_keeps (g.D.Disk.told c.args.self.now.journal.disk) (g.D.Disk.told c.append.new.self.disk) before now e (Ok tt) (c.append.ensures.told ∙ c.make_sure.ensures.told) (λ told. started_ok before settled now e (c.in_ok-make_sure.ensures.start told) tt c.in-Ok.ensures.appended (λ above. let refused : c.append.result ≡ Err (Append.Full 67108864) = (c.append.ensures.full 67108864).1 (refl, above) in cc (c.in-Ok.is, refused)))

pub returns-in-Err-Full-clause-full : goal.returns-in-Err-Full-clause-full
returns-in-Err-Full-clause-full g c =
    λ most same.
    let is_full : c.append.result ≡ Err (Append.Full c.in-Err-Full.limit) = cc in
    let limit : c.in-Err-Full.limit ≡ 67108864 = ((c.append.ensures.full c.in-Err-Full.limit).0 is_full).0 in
    cc

pub returns-in-Err-Full-clause-kept : goal.returns-in-Err-Full-clause-kept
returns-in-Err-Full-clause-kept g c =
    let e : KeptEntry = record { number = c.args.number; batch = c.args.batch.now } in
    let before : Kept = held_by c.args.self.now.journal in
    let settled : Kept = held_by c.make_sure.new.self.journal in
    let now : Kept = held_by c.append.new.self in
    let is_full : c.append.result ≡ Err (Append.Full c.in-Err-Full.limit) = cc in
    let full = (c.append.ensures.full c.in-Err-Full.limit).0 is_full in
    told_keeps (g.D.Disk.told c.args.self.now.journal.disk) (g.D.Disk.told c.append.new.self.disk) before now e (Err (Full c.in-Err-Full.limit)) (c.append.ensures.told ∙ c.make_sure.ensures.told) (λ told. started_full before settled now e (c.in_ok-make_sure.ensures.start told) c.in-Err-Full.limit c.in_ok-make_sure.ensures.sure (subst (λ (r : Result (Unit {0}) AppendFail). Appends settled e r now) is_full c.append.ensures.appended) full.1)
