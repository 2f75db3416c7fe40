use Rattle.std.proofs.Common.{◌≡◌, ◌≤◌, ◌∙◌, true, length, ap, refl, inl}
use Rattle.edit_journal.specs.Entries.{entries_of}
use Rattle.edit_journal.specs.Journals.{held_by}
use Rattle.serving.specs.Asked.{serving_of}
use Rattle.serving.proofs.Servings.{serves_on, refused_serves}
use Rattle.serving.proofs.Journals.{none_refused, open_kept, open_refused, open_stops, some_served}
use Rattle.serving.proofs.journal.keep_map.Goals as goal

pub returns-in-Ok-clause-serves : goal.returns-in-Ok-clause-serves
returns-in-Ok-clause-serves g c =
    let e = c.in-Ok.ensures in
    let asked = serving_of c.args.serving in
    let name = c.args.name.now in
    let told = g.D.Disks.told c.args.disks.now in
    let held = g.D.Disks.held c.args.disks.now in
    let entries = (held_by c.in-Ok.journal).entries in
    let read : told ≡ true → (entries ≡ (entries_of (held name)).0) × (length (held name) ≤ 67108864) =
    λ is. (ap (λ kept. kept.entries) (e.entries is), e.within is) in
    serves_on _ _ _ _ _ _ _ _ _ _ _ _ _ _ _ _ (λ o is. none_refused asked name told held _ _ entries o c.requires.name read is)
    (λ all. some_served g.H.Gate.Door.closed g.H.Gate.Door.faults g.H.Gate.Door.told g.H.Gate.Line.Link _ asked g.D.One.Disk told held _ _ _ _ name entries all.0
    c.requires.name e.told read all.1 all.2) refl refl (λ doors back. back) c.keep_journal.ensures.serves

pub returns-in-Err-clause-serves : goal.returns-in-Err-clause-serves
returns-in-Err-clause-serves g c =
    let refused = c.in-Err.ensures.refused in
    let told = g.D.Disks.told c.args.disks.now in
    let held = g.D.Disks.held c.args.disks.now in
    refused_serves _ _ _ _ _ _ _ _ _ _ c.in-Err.outcome (open_stops c.args.name.now told held _ _ _ refused)
    (open_refused (serving_of c.args.serving) c.args.name.now told held _ _ _ _ c.requires.name refused) (inl refl) c.put.ensures

pub returns-in-Err-clause-disks_kept : goal.returns-in-Err-clause-disks_kept
returns-in-Err-clause-disks_kept g c four =
    open_kept c.args.name.now (g.D.Disks.told c.args.disks.now) (g.D.Disks.held c.args.disks.now) _ _ c.in-Err.outcome _ _ _ _ _ c.in-Err.ensures.refused c.put.ensures
    four

pub returns-in-Ok-clause-disks_kept : goal.returns-in-Ok-clause-disks_kept
returns-in-Ok-clause-disks_kept g c four = c.keep_journal.ensures.disks_kept four ∙ c.in-Ok.ensures.kept
