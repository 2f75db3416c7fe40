use Rattle.std.proofs.Common.{◌∙◌, ◌-◌, length, arith, sym, ap}
use Rattle.tgap_model.specs.declared.base.Rules.{Rules}
use Rattle.tgap_model.specs.Base.{BaseMap}
use Rattle.tgap_model.proofs.BaseFacts.{base_facts, rules_facts}
use Rattle.edit_laws.proofs.Numbers.{named_most}
use Rattle.map_version.specs.Drafts.{arcs_now, drafted}
use Rattle.map_version.proofs.Drafts.{found_is}
use Rattle.map_version.proofs.draft.Draft.class_named.Goals as goal

pub overflow_sub-most : goal.overflow_sub-most
overflow_sub-most c =
    let kinds = c.len-most.ensures ∙ ap (λ (rules : Rules). length rules.weights) c.rules.ensures.value in
    let m : BaseMap = drafted c.self.inside.base.now c.self.inside.classes.items (arcs_now c.self.inside.arcs c.self.inside.base.now.arcs) in
    let some = (rules_facts m.rules (base_facts m c.self.invariant.base).rules).some_class in
    omega (arith, some, kinds)

pub named-requires : goal.named-requires
named-requires c =
    let kinds = c.len-most.ensures ∙ ap (λ (rules : Rules). length rules.weights) c.rules.ensures.value in
    let m : BaseMap = drafted c.self.inside.base.now c.self.inside.classes.items (arcs_now c.self.inside.arcs c.self.inside.base.now.arcs) in
    let few = (rules_facts m.rules (base_facts m c.self.invariant.base).rules).few_classes in
    omega (arith, few, kinds)

pub overflow_cast-result : goal.overflow_cast-result
overflow_cast-result c =
    let kinds = c.len-most.ensures ∙ ap (λ (rules : Rules). length rules.weights) c.rules.ensures.value in
    let m : BaseMap = drafted c.self.inside.base.now c.self.inside.classes.items (arcs_now c.self.inside.arcs c.self.inside.base.now.arcs) in
    let few = (rules_facts m.rules (base_facts m c.self.invariant.base).rules).few_classes in
    let most = named_most 0 (c.len-most.result - 1) c.args.word.now c.in_ok-class.class (sym c.named.ensures.named ∙ found_is c.named.result _ _ c.in_ok-class.ensures) in
    omega (arith, few, most, kinds)

pub returns-clause-range : goal.returns-clause-range
returns-clause-range c =
    let kinds = c.len-most.ensures ∙ ap (λ (rules : Rules). length rules.weights) c.rules.ensures.value in
    let m : BaseMap = drafted c.self.inside.base.now c.self.inside.classes.items (arcs_now c.self.inside.arcs c.self.inside.base.now.arcs) in
    let some = (rules_facts m.rules (base_facts m c.self.invariant.base).rules).some_class in
    let most = named_most 0 (c.len-most.result - 1) c.args.word.now c.in_ok-class.class (sym c.named.ensures.named ∙ found_is c.named.result _ _ c.in_ok-class.ensures) in
    let view = ap (λ (x : BaseMap). length x.rules.weights) c.self.view_is in
    omega (arith, some, most, kinds, view)
