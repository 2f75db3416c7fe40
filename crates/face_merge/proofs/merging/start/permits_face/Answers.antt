-- The classes of both faces are among those of the rules.
use Rattle.std.proofs.Common.{◌≡◌, ◌<◌, ◌-◌, ◌∙◌, ℕ, true, List, ap, sym, subst, arith, length, get_or}
use Rattle.std.proofs.lemmas.List.Elements.{All-get_or}
use Rattle.tgap_model.specs.declared.base.Rules.{Rules}
use Rattle.tgap_model.specs.Base.{is_rules}
use Rattle.tgap_model.proofs.BaseFacts.{base_facts, classes_below}
use Rattle.face_merge.proofs.merging.start.permits_face.Goals.{After-rules}
use Rattle.face_merge.proofs.merging.start.permits_face.Goals as goal

class_small : (c : After-rules) (f : ℕ) → f - 1 < length c.args.base.now.classes → get_or c.as_slice-classes.result.now (f - 1) 0 < length c.rules.result.now.weights
class_small c f inside =
    let m = c.args.base.now in
    let below : get_or m.classes (f - 1) 0 < length m.rules.weights =
    All-get_or (λ (k : ℕ). k < length m.rules.weights) m.classes (f - 1) 0 inside (classes_below m (base_facts m c.classes.ensures.base)) in
    omega (
      arith,
      below,
      ap (λ (ks : List ℕ). get_or ks (f - 1) 0) (c.as_slice-classes.ensures ∙ c.classes.ensures.value),
      ap (λ (x : Rules). length x.weights) c.rules.ensures.value,
    )

pub permits-requires-clause-rules : goal.permits-requires-clause-rules
permits-requires-clause-rules c = subst (λ (x : Rules). is_rules x ≡ true) (sym c.rules.ensures.value) (base_facts c.args.base.now c.rules.ensures.base).rules

pub permits-requires-clause-class : goal.permits-requires-clause-class
permits-requires-clause-class c = class_small c c.args.face (omega (arith, c.requires.face, c.requires.below))

pub permits-requires-clause-other : goal.permits-requires-clause-other
permits-requires-clause-other c = class_small c c.args.other (omega (arith, c.requires.other, c.requires.other_below))
