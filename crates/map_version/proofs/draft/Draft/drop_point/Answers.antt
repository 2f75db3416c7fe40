use Rattle.std.proofs.Common.{◌≡◌, ◌∙◌, ℕ, IsTrue, List, length, not, true, false, Ok, sym, ap, subst, arith, rules}
use Rattle.std.specs.Prelude.{option_map}
use Rattle.std.proofs.lemmas.Bool.{not-true}
use Rattle.tgap_model.specs.declared.base.BaseArc.{BaseArc}
use Rattle.tgap_model.specs.Base.{BaseMap, is_base}
use Rattle.plain_io.specs.Taking.{GivesWhole}
use Rattle.edit_laws.specs.Edits.{has_point, is_node, drop_point}
use Rattle.edit_laws.proofs.EditsKeep.{drops_keep}
use Rattle.map_version.specs.Indexed.{arcs_of}
use Rattle.map_version.specs.Firsts.{pair_of}
use Rattle.map_version.specs.Drafts.{drafted}
use Rattle.map_version.specs.Positions.{inner_at}
use Rattle.map_version.proofs.Positions.{inner_within}
use Rattle.map_version.proofs.Drafts.{ensured_holds, found_is, not_found, place_found, drop_found, drop_by, drop_made, refused_then}
use Rattle.map_version.proofs.draft.Draft.drop_point.Goals as goal

pub returns-in_err-place : goal.returns-in_err-place
returns-in_err-place c =
    let x = c.in_ok-arcs.arcs in
    let there : has_point c.args.old (arcs_of x) ≡ true = sym c.has_point.ensures ∙ ensured_holds c.has_point.result _ _ c.in_ok-ensured.ensures in
    let inner : is_node c.args.old (arcs_of x) ≡ false = sym c.is_node.ensures ∙ not-true c.is_node.result (ensured_holds (not c.is_node.result) _ _ c.in_ok-ensured-2.ensures) in
    absurd (drop_found c.args.old (arcs_of x) (pair_of x.slots) c.place_of.result c.place_of.ensures.first there inner (not_found c.place_of.result _ _ c.in_err-place.ensures))

pub goes_on-requires-clause-before : goal.goes_on-requires-clause-before
goes_on-requires-clause-before c =
    (inner_within c.args.old _ _ (place_found (inner_at c.args.old) c.in_ok-arcs.arcs.slots c.place_of.result c.in_ok-place.place (found_is c.place_of.result _ _ c.in_ok-place.ensures) c.place_of.ensures.found)).0

pub goes_on-requires-clause-after : goal.goes_on-requires-clause-after
goes_on-requires-clause-after c =
    omega (arith, (inner_within c.args.old _ _ (place_found (inner_at c.args.old) c.in_ok-arcs.arcs.slots c.place_of.result c.in_ok-place.place (found_is c.place_of.result _ _ c.in_ok-place.ensures) c.place_of.ensures.found)).1)

pub remove-requires-clause-some : goal.remove-requires-clause-some
remove-requires-clause-some c =
    omega (arith, (inner_within c.args.old _ _ (place_found (inner_at c.args.old) c.in_ok-arcs.arcs.slots c.place_of.result c.in_ok-place.place (found_is c.place_of.result _ _ c.in_ok-place.ensures) c.place_of.ensures.found)).1)

pub remove-requires-clause-at : goal.remove-requires-clause-at
remove-requires-clause-at c =
    omega (arith, (inner_within c.args.old _ _ (place_found (inner_at c.args.old) c.in_ok-arcs.arcs.slots c.place_of.result c.in_ok-place.place (found_is c.place_of.result _ _ c.in_ok-place.ensures) c.place_of.ensures.found)).1)

pub returns-in_err-goes_on : goal.returns-in_err-goes_on
returns-in_err-goes_on c =
    let x = c.in_ok-arcs.arcs in
    let m : BaseMap = drafted c.self.inside.base.now c.self.inside.classes.items (arcs_of x) in
    let same : m ≡ c.args.self = ap (drafted c.self.inside.base.now c.self.inside.classes.items) c.in_ok-arcs.ensures.arcs ∙ c.self.view_is in
    let there : has_point c.args.old (arcs_of x) ≡ true = sym c.has_point.ensures ∙ ensured_holds c.has_point.result _ _ c.in_ok-ensured.ensures in
    let inner : is_node c.args.old (arcs_of x) ≡ false = sym c.is_node.ensures ∙ not-true c.is_node.result (ensured_holds (not c.is_node.result) _ _ c.in_ok-ensured-2.ensures) in
    let first = ap (option_map (pair_of x.slots)) (sym (found_is c.place_of.result _ _ c.in_ok-place.ensures)) ∙ c.place_of.ensures.first in
    let by = drop_by m c.args.old (pair_of x.slots c.in_ok-place.place) first there inner in
    subst (λ (y : BaseMap). GivesWhole c.from_residual-in_err-goes_on.result (drop_point y c.args.old)) same (rw by (search (rules, refused_then)))

pub invariant_of-self : goal.invariant_of-self
invariant_of-self c =
    let x = c.in_ok-arcs.arcs in
    let m : BaseMap = drafted c.self.inside.base.now c.self.inside.classes.items (arcs_of x) in
    let is_map = subst (λ (xs : List BaseArc). IsTrue (is_base (drafted c.self.inside.base.now c.self.inside.classes.items xs))) (sym c.in_ok-arcs.ensures.arcs) c.self.invariant.base in
    let there : has_point c.args.old (arcs_of x) ≡ true = sym c.has_point.ensures ∙ ensured_holds c.has_point.result _ _ c.in_ok-ensured.ensures in
    let inner : is_node c.args.old (arcs_of x) ≡ false = sym c.is_node.ensures ∙ not-true c.is_node.result (ensured_holds (not c.is_node.result) _ _ c.in_ok-ensured-2.ensures) in
    let first = ap (option_map (pair_of x.slots)) (sym (found_is c.place_of.result _ _ c.in_ok-place.ensures)) ∙ c.place_of.ensures.first in
    let made = drop_made m c.args.old (pair_of x.slots c.in_ok-place.place) _ first there inner c.in_ok-goes_on.ensures in
    record {
      base = subst (λ (xs : List BaseArc). IsTrue (is_base (record m { arcs = xs }))) (sym c.remove.ensures.arcs) (drops_keep m _ c.args.old is_map made);
      faces = c.remove.ensures.faces ∙ (c.in_ok-arcs.ensures.faces ∙ ap (length {A = ℕ}) c.deref.ensures.value);
    }

pub returns : goal.returns
returns c =
    let x = c.in_ok-arcs.arcs in
    let m : BaseMap = drafted c.self.inside.base.now c.self.inside.classes.items (arcs_of x) in
    let same : m ≡ c.args.self = ap (drafted c.self.inside.base.now c.self.inside.classes.items) c.in_ok-arcs.ensures.arcs ∙ c.self.view_is in
    let there : has_point c.args.old (arcs_of x) ≡ true = sym c.has_point.ensures ∙ ensured_holds c.has_point.result _ _ c.in_ok-ensured.ensures in
    let inner : is_node c.args.old (arcs_of x) ≡ false = sym c.is_node.ensures ∙ not-true c.is_node.result (ensured_holds (not c.is_node.result) _ _ c.in_ok-ensured-2.ensures) in
    let first = ap (option_map (pair_of x.slots)) (sym (found_is c.place_of.result _ _ c.in_ok-place.ensures)) ∙ c.place_of.ensures.first in
    let made = drop_made m c.args.old (pair_of x.slots c.in_ok-place.place) _ first there inner c.in_ok-goes_on.ensures in
    subst (λ (y : BaseMap). drop_point y c.args.old ≡ Ok (record m { arcs = arcs_of c.remove.result })) same
    (made ∙ ap (λ (xs : List BaseArc). Ok (record m { arcs = xs })) (sym c.remove.ensures.arcs))
