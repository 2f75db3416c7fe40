use Rattle.std.proofs.Common.{◌∷◌, refl, ap, subst, inr}
use Rattle.journal_fold.specs.Made.{values, maps_of, made_by}
use Rattle.commands.specs.declared.outcome.Outcome.TheVariants.{OutOfMemory}
use Rattle.serving.specs.Journals.{KeepsOn}
use Rattle.serving.proofs.Servings.{serves_on, serves_all_on, refused_serves}
use Rattle.serving.proofs.serve.serve_versions.Goals as goal

pub returns-in-Ok : goal.returns-in-Ok
returns-in-Ok g c =
    let e = c.in-Ok.ensures in
    serves_on _ _ _ _ _ _ _ _ _ _ _ _ _ _ _ _ (λ o is. is)
    (serves_all_on g.H.Gate.Door.closed g.H.Gate.Door.faults g.H.Gate.Door.told g.H.Gate.Line.Link _ _ _ _ _ _ _ _ _ _ _
    (λ doors back. back) e.places e.limit
    (ap (λ version. version.built ∷ maps_of (values c.args.later.items)) e.first)
    (λ batches kept. subst (λ version. KeepsOn (version.batch ∷ made_by (values c.args.later.items)) (g.P.Keep.told c.serve_store.result.1) batches) e.first kept))
    refl refl (λ doors back. back) c.serve_store.ensures

pub returns-in-Err : goal.returns-in-Err
returns-in-Err g c = refused_serves _ _ _ _ _ _ _ _ _ _ OutOfMemory (inr (inr refl)) refl refl c.put.ensures
