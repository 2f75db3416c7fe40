-- The compatibility is that of the two classes, and the length is the shared one.
use Rattle.std.proofs.Common.{◌≡◌, ◌∙◌, true, ap, sym, subst, arith, length}
use Rattle.tgap_model.specs.declared.base.Rules.{Rules}
use Rattle.tgap_model.specs.Base.{is_rules}
use Rattle.tgap_model.proofs.BaseFacts.{base_facts}
use Rattle.face_merge.proofs.Best.{class_within, link_live, score_of_link}
use Rattle.face_merge.proofs.Held.{rules_are}
use Rattle.face_merge.proofs.merging.Merging.score.Goals as goal

pub face-winner-requires-clause-live : goal.face-winner-requires-clause-live
face-winner-requires-clause-live c = link_live c.args.self.now c.args.loser.number c.args.link c.requires.link

pub compatibility-compatibility-requires-clause-rules : goal.compatibility-compatibility-requires-clause-rules
compatibility-compatibility-requires-clause-rules c =
    subst (λ (x : Rules). is_rules x ≡ true) (sym c.rules.ensures.value) (base_facts c.args.self.now.base.now c.rules.ensures.base).rules

pub compatibility-compatibility-requires-clause-class : goal.compatibility-compatibility-requires-clause-class
compatibility-compatibility-requires-clause-class c =
    let rules = c.rules.ensures.value ∙ sym (rules_are c.args.self.now.base.now c.args.self.now.steps) in
    omega (arith, class_within c.args.self.now c.args.loser.number c.args.link c.requires.running c.requires.link, c.requires.loser, ap (λ (x : Rules). length x.weights) rules)

pub compatibility-compatibility-requires-clause-other : goal.compatibility-compatibility-requires-clause-other
compatibility-compatibility-requires-clause-other c =
    let rules = c.rules.ensures.value ∙ sym (rules_are c.args.self.now.base.now c.args.self.now.steps) in
    omega (arith, c.face-winner.ensures.below, ap (λ (x : Rules). length x.weights) rules)

pub returns : goal.returns
returns c =
    score_of_link c.args.self.now c.args.loser.number c.args.link c.rules.result.now c.args.loser.class c.face-winner.result.class
    c.from.result c.from-2.result c.compatibility-compatibility.result c.requires.link c.rules.ensures.value c.requires.loser c.face-winner.ensures.class c.compatibility-compatibility.ensures c.from.ensures c.from-2.ensures
