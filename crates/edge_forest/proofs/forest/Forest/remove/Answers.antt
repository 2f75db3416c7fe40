-- Points that were there are removed at the step that was made last.
use Rattle.std.proofs.Common.{◌≡◌, ◌<◌, ◌||◌, ◌&&◌, nat_le, ℕ, false, List, All, Contains, get_or, true≢false, sym, ap, ◌∙◌, subst}
use Rattle.std.specs.List.{list_any}
use Rattle.tgap_model.specs.declared.geometry.Point.{Point}
use Rattle.tgap_model.specs.declared.slice.Removal.{Removal}
use Rattle.tgap_model.specs.Base.{same_point}
use Rattle.edge_forest.specs.Forest.{EdgeForest, is_gone}
use Rattle.edge_forest.specs.Removed.{arc_points, is_gone_by}
use Rattle.edge_forest.proofs.RemovedPoints.{IsNoted, steps_within, gone_after}
use Rattle.edge_forest.proofs.Forests.{removed_is_kept}
use Rattle.edge_forest.proofs.forest.Forest.remove.Goals as goal

pub note_all-requires : goal.note_all-requires
note_all-requires c =
    subst (λ (rs : List Removal). All (λ r. Contains c.self.inside.removed.points r.point) rs) (sym c.as_slice.ensures) (λ k d l.
    let p = (get_or c.args.list.now k d).point in
    c.self.invariant.kept.listed p (subst (λ (f : EdgeForest). Contains (arc_points f.base.arcs) p) (sym c.self.view_is) (c.requires.there k d l)))

pub invariant_of-self : goal.invariant_of-self
invariant_of-self c =
    let made = c.self.inside.made in
    let steps = subst (λ (f : EdgeForest). All (λ (r : Removal). r.step ≡ f.made) c.args.list.now) (sym c.self.view_is) c.requires.steps in
    let noted = c.note_all.ensures.steps made (subst (λ (rs : List Removal). All (λ r. r.step ≡ made) rs) (sym c.as_slice.ensures) steps) in
    record {
      indexed = c.self.invariant.indexed;
      told = λ e. absurd (true≢false (sym e ∙ ap (λ (f : EdgeForest). f.closed) c.self.view_is ∙ c.requires.open));
      kept = removed_is_kept made c.self.inside.closed c.self.inside.growth c.self.inside.removed c.note_all.new.self c.self.invariant.kept c.note_all.ensures.points
          (steps_within c.self.inside.removed c.note_all.new.self made c.as_slice.result.now c.self.invariant.kept.within noted);
    }

pub returns-clause-gone : goal.returns-clause-gone
returns-clause-gone c =
    let made = c.self.inside.made in
    let list = c.args.list.now in
    let steps = subst (λ (f : EdgeForest). All (λ (r : Removal). r.step ≡ f.made) list) (sym c.self.view_is) c.requires.steps in
    let left = subst (λ (f : EdgeForest). All (λ (r : Removal). is_gone f f.made r.point ≡ false) list) (sym c.self.view_is) c.requires.left in
    let positive = subst (λ (f : EdgeForest). 0 < f.made) (sym c.self.view_is) c.requires.made in
    let noted = subst (λ (rs : List Removal). All (λ r. r.step ≡ made) rs → IsNoted c.self.inside.removed c.note_all.new.self made rs)
    c.as_slice.ensures (c.note_all.ensures.steps made) steps in
    subst (λ (f : EdgeForest). (k : ℕ) (p : Point)
    → is_gone_by c.note_all.new.self k p ≡ (is_gone f k p || (nat_le f.made k && list_any (λ r. same_point r.point p) list)))
    c.self.view_is (gone_after c.self.inside.removed c.note_all.new.self made list positive c.self.invariant.kept.within left noted)
