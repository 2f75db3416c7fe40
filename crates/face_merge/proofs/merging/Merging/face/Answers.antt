-- The class and the area of the face, and its importance, which fits.
use Rattle.std.proofs.Common.{◌≡◌, ◌≤◌, ◌∙◌, true, ap, sym, subst, arith, ℤ, unsigned_abs, length}
use Rattle.std.specs.Int.{w128}
use Rattle.std.proofs.lemmas.Int.{ints, to_z-of_z}
use Rattle.tgap_model.specs.declared.base.Rules.{Rules}
use Rattle.tgap_model.specs.Base.{is_rules}
use Rattle.tgap_model.specs.Bounds.{max_area}
use Rattle.tgap_model.proofs.BaseFacts.{base_facts}
use Rattle.face_merge.proofs.Held.{held, class_read, area_read, importance_read}
use Rattle.face_merge.proofs.merging.Merging.face.Goals as goal

pub importance-importance-requires-clause-rules : goal.importance-importance-requires-clause-rules
importance-importance-requires-clause-rules c = subst (λ (x : Rules). is_rules x ≡ true) (sym c.rules.ensures.value) (base_facts c.args.self.now.base.now c.rules.ensures.base).rules

pub importance-importance-requires-clause-class : goal.importance-importance-requires-clause-class
importance-importance-requires-clause-class c =
    let face = held c.args.self.now c.args.slot c.requires.running c.requires.live in
    let class = class_read c.args.self.now c.args.slot c.index-number.result.now c.index-class.result.now c.requires.running c.requires.live face c.index-number.ensures c.index-class.ensures in
    omega (arith, class, face.class_below, ap (λ (r : Rules). length r.weights) c.rules.ensures.value)

pub importance-importance-requires-clause-area : goal.importance-importance-requires-clause-area
importance-importance-requires-clause-area c =
    let face = held c.args.self.now c.args.slot c.requires.running c.requires.live in
    subst (λ (z : ℤ). unsigned_abs z ≤ max_area) (sym (area_read c.args.self.now c.args.slot c.index-area.result.now face c.index-area.ensures ∙ sym face.area)) face.small

pub returns-clause-small : goal.returns-clause-small
returns-clause-small c =
    let face = held c.args.self.now c.args.slot c.requires.running c.requires.live in
    subst (λ (z : ℤ). unsigned_abs z ≤ max_area) (sym (area_read c.args.self.now c.args.slot c.index-area.result.now face c.index-area.ensures ∙ sym face.area)) face.small

pub returns-clause-importance : goal.returns-clause-importance
returns-clause-importance c =
    let r = c.args.self.now in
    let slot = c.args.slot in
    let face = held r slot c.requires.running c.requires.live in
    let back = to_z-of_z w128 c.importance-importance.result (omega (arith, ints, c.importance-importance.type_inv)) in
    let area = area_read r slot c.index-area.result.now face c.index-area.ensures in
    let class = class_read r slot c.index-number.result.now c.index-class.result.now c.requires.running c.requires.live face c.index-number.ensures c.index-class.ensures in
    back ∙ (c.importance-importance.ensures ∙ importance_read r slot _ c.index-class.result.now c.rules.result.now c.rules.ensures.value area class)
