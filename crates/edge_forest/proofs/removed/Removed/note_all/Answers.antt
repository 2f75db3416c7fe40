-- One more point has the step.
use Rattle.std.proofs.Common.{Bool, List, Contains, get_or, take, cond, refl, sym, ap, ◌∙◌, subst}
use Rattle.std.specs.List.{list_any}
use Rattle.std.proofs.lemmas.List.{take_all}
use Rattle.std.proofs.lemmas.List.Folds.{list_any_more}
use Rattle.tgap_model.specs.declared.geometry.Point.{Point}
use Rattle.tgap_model.specs.declared.slice.Removal.{Removal}
use Rattle.tgap_model.specs.Base.{same_point}
use Rattle.edge_forest.specs.Removed.{step_of}
use Rattle.edge_forest.proofs.RemovedPoints.{no_removal, noted_more}
use Rattle.edge_forest.proofs.removed.Removed.note_all.Goals as goal

pub loop-removal-init : goal.loop-removal-init
loop-removal-init c = record { points = refl; steps = λ k all p. refl }

pub note-requires : goal.note-requires
note-requires c =
    let r = get_or c.args.removals.now c.loop-removal.removal-index no_removal in
    subst (λ (ps : List Point). Contains ps r.point) (sym c.loop-removal.invariant.points)
    (c.requires c.loop-removal.removal-index no_removal c.loop-removal-test.true)

pub loop-removal-preserved : goal.loop-removal-preserved
loop-removal-preserved c =
    let i = c.loop-removal.removal-index in
    let list = c.args.removals.now in
    let r = get_or list i no_removal in
    record {
      points = c.note.ensures.points ∙ c.loop-removal.invariant.points;
      steps = λ k all p.
          let old = step_of c.args.self.now p in
          let among = list_any (λ (r : Removal). same_point r.point p) (take i list) in
          let here = same_point r.point p in
          c.note.ensures.steps p
          ∙ ap (λ n. cond here n (step_of c.loop-removal.self p)) (all i no_removal c.loop-removal-test.true)
          ∙ ap (λ n. cond here k n) (c.loop-removal.invariant.steps k all p)
          ∙ noted_more among here k old
          ∙ ap (λ (b : Bool). cond b k old) (sym (list_any_more (λ (r : Removal). same_point r.point p) list i no_removal c.loop-removal-test.true));
    }

pub returns-clause-points : goal.returns-clause-points
returns-clause-points c = c.loop-removal.invariant.points

pub returns-clause-steps : goal.returns-clause-steps
returns-clause-steps c = λ k all p.
    let list = c.args.removals.now in
    c.loop-removal.invariant.steps k all p
    ∙ ap (λ (rs : List Removal). cond (list_any (λ r. same_point r.point p) rs) k (step_of c.args.self.now p))
    (take_all c.loop-removal.removal-index list c.loop-removal-test.false)
