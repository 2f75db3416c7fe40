-- The two classes are among the classes of the rules, and the rules are those of the map.
use Rattle.std.proofs.Common.{◌≡◌, ◌*◌, ◌+◌, ◌∙◌, ℕ, true, nat_lt, ap, refl, sym, subst, arith, length, slice_index}
use Rattle.tgap_model.specs.declared.base.Rules.{Rules}
use Rattle.tgap_model.specs.Base.{is_rules}
use Rattle.tgap_model.proofs.BaseFacts.{base_facts}
use Rattle.face_merge.proofs.Held.{rules_are}
use Rattle.face_merge.proofs.merging.Merging.permits.Goals as goal

permits_same : (p q : Rules) (i j k l : ℕ) → p ≡ q → i ≡ k → j ≡ l
    → nat_lt 0 (slice_index p.compat (i * length p.weights + j)) ≡ nat_lt 0 (slice_index q.compat (k * length q.weights + l))
permits_same p q i j k l e f g = rw (e, f, g) refl

pub permits-requires-clause-rules : goal.permits-requires-clause-rules
permits-requires-clause-rules c =
    subst (λ (x : Rules). is_rules x ≡ true) (sym c.rules.ensures.value) (base_facts c.args.self.now.base.now c.rules.ensures.base).rules

pub permits-requires-clause-class : goal.permits-requires-clause-class
permits-requires-clause-class c =
    omega (arith, c.requires.face.below, ap (λ (x : Rules). length x.weights) (c.rules.ensures.value ∙ sym (rules_are c.args.self.now.base.now c.args.self.now.steps)))

pub permits-requires-clause-other : goal.permits-requires-clause-other
permits-requires-clause-other c =
    omega (arith, c.requires.other.below, ap (λ (x : Rules). length x.weights) (c.rules.ensures.value ∙ sym (rules_are c.args.self.now.base.now c.args.self.now.steps)))

pub returns : goal.returns
returns c =
    c.permits.ensures
    ∙ permits_same _ _ _ _ _ _ (c.rules.ensures.value ∙ sym (rules_are c.args.self.now.base.now c.args.self.now.steps)) c.requires.face.class c.requires.other.class
