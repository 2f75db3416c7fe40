-- The labels stand for the faces after the step.
use Rattle.std.proofs.Common.{◌≡◌, ℕ, set, ap, ◌∙◌}
use Rattle.std.proofs.lemmas.List.{get_or_default}
use Rattle.edge_forest.specs.FaceLabels.{label_of}
use Rattle.edge_forest.proofs.LabelSteps.{labels_follow}
use Rattle.edge_forest.proofs.face_labels.FaceLabels.merge.Goals as goal

pub returns-clause-follow : goal.returns-clause-follow
returns-clause-follow c = λ loser apart l current new.
    let t = c.args.self.now in
    let s = c.args.step.now in
    let label : c.index-label.result.now ≡ label_of t s.winner
    = c.index-label.ensures ∙ get_or_default t.labels.items s.winner c.index-label.result.now 0 c.requires.winner.face in
    labels_follow t _ s loser c.requires.winner apart c.requires.made (ap (λ (n : ℕ). set t.faces.items n s.made) label) (ap (λ (n : ℕ). set t.labels.items s.made n) label)
    l current new
