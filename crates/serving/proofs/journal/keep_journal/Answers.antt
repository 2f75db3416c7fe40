use Rattle.std.proofs.Common.{◌≡◌, [], ◌∷◌, drop, true, inl, refl, sym, ap, ◌∙◌, subst, Some, None, Ok, Err}
use Rattle.std.specs.Prelude.{if◌then◌else◌}
use Rattle.std.specs.Arc.{arc_value}
use Rattle.tgap_model.specs.Keeping.{folded}
use Rattle.edit_journal.specs.Journals.{disk_of, held_by}
use Rattle.session.specs.Versions.{Extends}
use Rattle.version_store.specs.Folds.{FitsTold}
use Rattle.journal_fold.specs.JournalFolds.{journal_maps}
use Rattle.journal_fold.specs.Made.{values, maps_of, made_by}
use Rattle.serving.proofs.Servings.{serves_on, serves_all_on, refused_serves}
use Rattle.serving.proofs.Laters.{follow_from}
use Rattle.serving.proofs.Journals.{GivesNone, fits_all, fits_told, fold_refused, fold_stops, follow_all, four_apart, has_all}
use Rattle.serving.proofs.journal.keep_journal.Goals as goal

pub serve_versions-status-requires-clause-later : goal.serve_versions-status-requires-clause-later
serve_versions-status-requires-clause-later g c κs within = follow_from 1 (values c.in-Ok.later.items) c.in-Ok.ensures.numbers

pub serve_versions-status-requires-clause-kept : goal.serve_versions-status-requires-clause-kept
serve_versions-status-requires-clause-kept g c κs within =
    let e = c.in-Ok.ensures in
    let held = held_by c.args.journal in
    let made = made_by (values c.in-Ok.later.items) in
    let maps : journal_maps c.args.serving.versions (arc_value c.args.first).built held.entries ≡ Ok (maps_of (values c.in-Ok.later.items)) =
    subst (λ version. journal_maps c.args.serving.versions version.built held.entries ≡ Ok (maps_of (values c.in-Ok.later.items))) c.deref.ensures
    (subst (λ entries. journal_maps c.args.serving.versions c.deref.result.now.built entries ≡ Ok (maps_of (values c.in-Ok.later.items))) c.entries.ensures e.maps) in
    subst (λ journal. FitsTold made (if g.D.One.Disk.told (disk_of journal) then Some (held_by journal) else None)) (sym c.new-keeper.ensures)
    (fits_told (g.D.One.Disk.told (disk_of c.args.journal)) held made c.requires.sure
    (fits_all held.entries made (e.batches ∙ ap folded c.entries.ensures)
    (follow_all c.args.serving.versions (arc_value c.args.first).built held.entries (maps_of (values c.in-Ok.later.items)) maps)))

pub returns-in-Ok-clause-serves : goal.returns-in-Ok-clause-serves
returns-in-Ok-clause-serves g c =
    let e = c.in-Ok.ensures in
    let held = held_by c.args.journal in
    let made = made_by (values c.in-Ok.later.items) in
    let maps : journal_maps c.args.serving.versions (arc_value c.args.first).built held.entries ≡ Ok (maps_of (values c.in-Ok.later.items)) =
    subst (λ version. journal_maps c.args.serving.versions version.built held.entries ≡ Ok (maps_of (values c.in-Ok.later.items))) c.deref.ensures
    (subst (λ entries. journal_maps c.args.serving.versions c.deref.result.now.built entries ≡ Ok (maps_of (values c.in-Ok.later.items))) c.entries.ensures e.maps) in
    let start : (arc_value c.args.first).batch ∷ made ≡ [] ∷ folded held.entries =
    ap (λ batch. batch ∷ made) c.requires.batch ∙ ap (λ batches. [] ∷ batches) (e.batches ∙ ap folded c.entries.ensures) in
    let journal = c.into_journal.result in
    serves_on _ _ _ _ _ _ _ _ _ _ _ _ _ _ _ _ (λ o is. inl is)
    (λ all. (
      maps_of (values c.in-Ok.later.items),
      maps,
      serves_all_on g.H.Gate.Door.closed g.H.Gate.Door.faults g.H.Gate.Door.told g.H.Gate.Line.Link _ _ _ _ _ _ _ _ _ _ _ (λ doors back. back) refl refl refl
          (λ batches kept. (
            subst (λ batches_first. Extends batches_first batches) start kept.0,
            λ told.
                let is_told : g.D.One.Disk.told c.into_disk.result ≡ true =
                (g.met.D.One.Disk g.world.𝓛 g.world.𝓜 g.world.𝓡 ((λ s x. x), (λ x. x), (λ x. x), λ x. x)).told_alike c.into_disk.result (disk_of c.args.journal)
                ∙ c.requires.told told in
                has_all g.D.One.Disk _ c.into_disk.result (held_by journal) (drop 1 batches) (c.back.ensures.returned told) is_told
                (c.into_disk.ensures.left is_told)
                (subst (λ disk. FitsTold (drop 1 batches) (if g.D.One.Disk.told disk then Some (held_by journal) else None)) (sym c.into_disk.ensures.disk)
                (subst (λ j. FitsTold (drop 1 batches) (if g.D.One.Disk.told (disk_of j) then Some (held_by j) else None)) (sym c.into_journal.ensures)
                kept.1)),
          )) all,
    )) refl refl (λ doors back. back) c.serve_versions-status.ensures

pub returns-in-Ok-clause-disks_kept : goal.returns-in-Ok-clause-disks_kept
returns-in-Ok-clause-disks_kept g c four = absurd (four_apart _ _ _ _ _ _ _ _ _ _ c.serve_versions-status.ensures four)

pub returns-in-Err-clause-serves : goal.returns-in-Err-clause-serves
returns-in-Err-clause-serves g c =
    let entries = (held_by c.args.journal).entries in
    let none : GivesNone c.args.serving.versions (arc_value c.args.first).built entries c.in-Err.why =
    subst (λ version. GivesNone c.args.serving.versions version.built entries c.in-Err.why) c.deref.ensures
    (subst (λ all. GivesNone c.args.serving.versions c.deref.result.now.built all c.in-Err.why) c.entries.ensures c.in-Err.ensures.refused) in
    refused_serves _ _ _ _ _ _ _ _ _ _ c.fold_refusal.result (fold_stops c.in-Err.why c.fold_refusal.result c.fold_refusal.ensures)
    (fold_refused c.args.serving.versions (arc_value c.args.first).built entries c.in-Err.why c.fold_refusal.result none c.fold_refusal.ensures) (inl refl)
    c.put.ensures

pub returns-in-Err-clause-disks_kept : goal.returns-in-Err-clause-disks_kept
returns-in-Err-clause-disks_kept g c four = c.back-in-Err.ensures.faults.1 (ap g.D.One.Disk.faults c.into_disk-in-Err.ensures.disk ∙ c.requires.sound)
