-- There are few steps, and after this one the forest is at rest.
use Rattle.std.proofs.Common.{◌≡◌, ◌+◌, ◌-◌, ℕ, Bool, Contains, true≢false, sym, ap, ◌∙◌, subst, arith}
use Rattle.tgap_model.specs.Base.{BaseMap}
use Rattle.edge_forest.specs.Forest.{EdgeForest}
use Rattle.edge_forest.specs.Growth.{IsAtRest}
use Rattle.edge_forest.specs.Kept.{IsWhole, forest_of}
use Rattle.edge_forest.specs.Removed.{arc_points}
use Rattle.edge_forest.proofs.Forests.{made_small, rest_is_kept}
use Rattle.edge_forest.proofs.forest.Forest.merge.Goals as goal

pub overflow_add-low : goal.overflow_add-low
overflow_add-low c =
    omega (arith, made_small (forest_of c.self.inside.made c.self.inside.closed c.self.inside.growth c.self.inside.removed) c.self.invariant.kept.forest)

pub make_step-requires-clause-rest : goal.make_step-requires-clause-rest
make_step-requires-clause-rest c =
    let made = c.self.inside.made in
    let same : made ≡ made + 1 - 1 = omega arith in
    subst (λ (n : ℕ). IsAtRest n c.self.inside.growth) same (c.self.invariant.kept.growing (ap (λ (f : EdgeForest). f.closed) c.self.view_is ∙ c.requires.open)).0

pub invariant_of-self-2 : goal.invariant_of-self-2
invariant_of-self-2 c =
    subst (λ (b : Bool). IsWhole (c.self.inside.made + 1) b c.make_step.new.growth c.self.inside.removed c.self.inside.index c.self.inside.spent)
    (sym (ap (λ (f : EdgeForest). f.closed) c.self.view_is ∙ c.requires.open))
    (record {
      kept = rest_is_kept (c.self.inside.made + 1) c.make_step.new.growth c.self.inside.removed c.in_ok-make_step.ensures.rest c.in_ok-make_step.ensures.few
          (λ p m. c.self.invariant.kept.listed p (subst (λ (m : BaseMap). Contains (arc_points m.arcs) p) c.in_ok-make_step.ensures.base m))
          (λ p. omega (arith, c.self.invariant.kept.within p));
      indexed = λ e. absurd (true≢false (sym e));
      told = λ e. absurd (true≢false (sym e));
    })
