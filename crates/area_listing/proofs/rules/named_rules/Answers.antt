use Rattle.std.proofs.Common.{◌≡◌, ◌-◌, ◌∙◌, length, Result, refl, sym, subst, ap}
use Rattle.std.proofs.lemmas.Result.{err_from_is_err_and}
use Rattle.serde_json.specs.View.{view}
use Rattle.tgap_model.specs.declared.topology.NamedRules.{NamedRules}
use Rattle.tgap_model.specs.declared.fault.MapFault.{MapFault}
use Rattle.plain_io.specs.Taking.{Refuses}
use Rattle.area_listing.proofs.RulesReading.{rules_from_classes, refused_first, default_refused, compat_refused, ratio_left}
use Rattle.area_listing.proofs.rules.named_rules.Goals as goal

pub returns-in_err-default-clause-exact : goal.returns-in_err-default-clause-exact
returns-in_err-default-clause-exact c =
    let p = err_from_is_err_and c.from_residual-in_err-default.result c.from_residual-in_err-default.ensures.1 in
    let d = view c.args.tree.now in
    let property = c.in_ok-property.property in
    let names = c.in_ok-names.names in
    let weights = c.in_ok-names.weights in
    let whole = rules_from_classes d c.in_ok-is_object.field-0 property names weights c.in_ok-is_object.ensures c.in_ok-property.ensures.exact c.in_ok-names.ensures.exact in
    let high : c.saturating_sub.result ≡ length weights - 1 = c.saturating_sub.ensures ∙ ap (λ n. n - 1) c.len.ensures in
    rw (p.1, p.2) (subst (λ (r : Result NamedRules MapFault). Refuses c.in_err-default.field-0.0 r) (sym whole)
    (default_refused d property names weights c.saturating_sub.result c.in_err-default.field-0.0 high c.in_err-default.ensures))

pub returns-in_err-compat-clause-exact : goal.returns-in_err-compat-clause-exact
returns-in_err-compat-clause-exact c =
    let p = err_from_is_err_and c.from_residual-in_err-compat.result c.from_residual-in_err-compat.ensures.1 in
    let d = view c.args.tree.now in
    let property = c.in_ok-property.property in
    let names = c.in_ok-names.names in
    let weights = c.in_ok-names.weights in
    let whole = rules_from_classes d c.in_ok-is_object.field-0 property names weights c.in_ok-is_object.ensures c.in_ok-property.ensures.exact c.in_ok-names.ensures.exact in
    let high : c.saturating_sub.result ≡ length weights - 1 = c.saturating_sub.ensures ∙ ap (λ n. n - 1) c.len.ensures in
    rw (p.1, p.2) (subst (λ (r : Result NamedRules MapFault). Refuses c.in_err-compat.field-0.0 r) (sym whole)
    (compat_refused d property names weights c.saturating_sub.result c.in_ok-default.default c.len-2.result c.in_err-compat.field-0.0 high c.in_ok-default.ensures c.len-2.ensures c.in_err-compat.ensures))

pub returns-in_err-ratio-clause-exact : goal.returns-in_err-ratio-clause-exact
returns-in_err-ratio-clause-exact c =
    let p = err_from_is_err_and c.from_residual-in_err-ratio.result c.from_residual-in_err-ratio.ensures.1 in
    let d = view c.args.tree.now in
    let property = c.in_ok-property.property in
    let names = c.in_ok-names.names in
    let weights = c.in_ok-names.weights in
    let whole = rules_from_classes d c.in_ok-is_object.field-0 property names weights c.in_ok-is_object.ensures c.in_ok-property.ensures.exact c.in_ok-names.ensures.exact in
    let high : c.saturating_sub.result ≡ length weights - 1 = c.saturating_sub.ensures ∙ ap (λ n. n - 1) c.len.ensures in
    let left = ratio_left d property names weights c.saturating_sub.result c.in_ok-default.default c.len-2.result c.in_ok-compat.compat high c.in_ok-default.ensures c.len-2.ensures c.in_ok-compat.ensures in
    rw (p.1, p.2) (subst (λ (r : Result NamedRules MapFault). Refuses c.in_err-ratio.field-0.0 r) (sym (whole ∙ left)) (refused_first c.in_err-ratio.field-0.0 _ _ c.in_err-ratio.ensures))

pub returns-clause-exact : goal.returns-clause-exact
returns-clause-exact c =
    let d = view c.args.tree.now in
    let property = c.in_ok-property.property in
    let names = c.in_ok-names.names in
    let weights = c.in_ok-names.weights in
    let whole = rules_from_classes d c.in_ok-is_object.field-0 property names weights c.in_ok-is_object.ensures c.in_ok-property.ensures.exact c.in_ok-names.ensures.exact in
    let high : c.saturating_sub.result ≡ length weights - 1 = c.saturating_sub.ensures ∙ ap (λ n. n - 1) c.len.ensures in
    let left = ratio_left d property names weights c.saturating_sub.result c.in_ok-default.default c.len-2.result c.in_ok-compat.compat high c.in_ok-default.ensures c.len-2.ensures c.in_ok-compat.ensures in
    whole ∙ left ∙ rw c.in_ok-ratio.ensures refl
