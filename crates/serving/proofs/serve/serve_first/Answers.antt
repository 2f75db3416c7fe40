use Rattle.std.proofs.Common.{◌≡◌, ◌∷◌, [], None, ap, ◌∙◌, refl, inl}
use Rattle.std.specs.Prelude.{option_map}
use Rattle.journal_fold.specs.Made.{values, maps_of, made_by}
use Rattle.serving.specs.Asked.{serving_of}
use Rattle.serving.proofs.Servings.{serves_on}
use Rattle.serving.proofs.Journals.{none_served}
use Rattle.serving.proofs.serve.serve_first.Goals as goal

pub returns-in-None-clause-serves : goal.returns-in-None-clause-serves
returns-in-None-clause-serves g c =
    serves_on _ _ _ _ _ _ _ _ _ _ _ _ _ _ _ _ (λ o is. inl is)
    (none_served g.H.Gate.Door.closed g.H.Gate.Door.faults g.H.Gate.Door.told g.H.Gate.Line.Link _ (serving_of c.args.serving) g.D.One.Disk
    (g.D.Disks.told c.args.disks.now) (g.D.Disks.held c.args.disks.now) _ _ _ _ _ _
    (ap (λ journal. option_map (λ name. name.now) journal) c.in-None.is) c.requires.some.1 (ap (λ versions. maps_of (values versions)) c.new-later.ensures.items)
    (ap (λ batch. batch ∷ made_by (values c.new-later.result.items)) c.requires.batch
    ∙ ap (λ versions. [] ∷ made_by (values versions)) c.new-later.ensures.items)) refl refl (λ doors back. back) c.serve_versions.ensures
