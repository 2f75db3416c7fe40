-- Each weight of the rules is small.
use Rattle.std.proofs.Common.{◌≤◌, ℕ, List, get_or, sym, subst}
use Rattle.tgap_model.specs.declared.limits.TheConstants.{MAX_WEIGHT}
use Rattle.tgap_model.proofs.BaseFacts.{rules_facts}
use Rattle.face_merge.proofs.Held.{weight_below}
use Rattle.face_merge.proofs.merging.weight.Goals as goal

pub returns-clause-small : goal.returns-clause-small
returns-clause-small c =
    subst (λ (ws : List ℕ). get_or ws c.args.class 0 ≤ MAX_WEIGHT) (sym c.as_slice.ensures)
    (weight_below c.args.rules.now.weights (rules_facts c.args.rules.now c.requires.rules).weights c.args.class)
