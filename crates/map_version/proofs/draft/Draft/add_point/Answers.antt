use Rattle.std.proofs.Common.{◌≡◌, ◌∙◌, ◌<◌, ℕ, IsTrue, List, not, false, nat_lt, length, Ok, sym, ap, subst, rules}
use Rattle.std.specs.Prelude.{option_map}
use Rattle.std.proofs.lemmas.Bool.{not-true, ltb-true}
use Rattle.tgap_model.specs.declared.base.BaseArc.{BaseArc}
use Rattle.tgap_model.specs.declared.limits.TheConstants.{MAX_POINTS}
use Rattle.tgap_model.specs.Base.{BaseMap, is_base}
use Rattle.edit_laws.specs.Edits.{has_point, add_point}
use Rattle.edit_laws.proofs.Laws.{add_again}
use Rattle.plain_io.specs.Taking.{GivesWhole}
use Rattle.map_version.specs.Indexed.{arcs_of}
use Rattle.map_version.specs.Firsts.{pair_of}
use Rattle.map_version.specs.Drafts.{drafted}
use Rattle.map_version.specs.Positions.{segment_at}
use Rattle.map_version.proofs.Positions.{segment_within}
use Rattle.map_version.proofs.Drafts.{ensured_holds, found_is, place_found, add_by, added_arcs, add_made}
use Rattle.map_version.proofs.draft.Draft.add_point.Goals as goal

pub returns-in_err-place : goal.returns-in_err-place
returns-in_err-place c =
    let x = c.in_ok-arcs.arcs in
    let m : BaseMap = drafted c.self.inside.base.now c.self.inside.classes.items (arcs_of x) in
    let same : m ≡ c.args.self = ap (drafted c.self.inside.base.now c.self.inside.classes.items) c.in_ok-arcs.ensures.arcs ∙ c.self.view_is in
    let e = add_by m c.args.a c.args.b c.args.new (pair_of x.slots) c.place_of.result c.place_of.ensures.first in
    subst (λ (y : BaseMap). GivesWhole c.from_residual-in_err-place.result (add_point y c.args.a c.args.b c.args.new)) same (rw e (search rules))

pub returns-in_err-ensured : goal.returns-in_err-ensured
returns-in_err-ensured c =
    let x = c.in_ok-arcs.arcs in
    let m : BaseMap = drafted c.self.inside.base.now c.self.inside.classes.items (arcs_of x) in
    let same : m ≡ c.args.self = ap (drafted c.self.inside.base.now c.self.inside.classes.items) c.in_ok-arcs.ensures.arcs ∙ c.self.view_is in
    let e = add_by m c.args.a c.args.b c.args.new (pair_of x.slots) c.place_of.result c.place_of.ensures.first in
    subst (λ (y : BaseMap). GivesWhole c.from_residual-in_err-ensured.result (add_point y c.args.a c.args.b c.args.new)) same (rw e (search rules))

pub returns-in_err-ensured-2 : goal.returns-in_err-ensured-2
returns-in_err-ensured-2 c =
    let x = c.in_ok-arcs.arcs in
    let m : BaseMap = drafted c.self.inside.base.now c.self.inside.classes.items (arcs_of x) in
    let same : m ≡ c.args.self = ap (drafted c.self.inside.base.now c.self.inside.classes.items) c.in_ok-arcs.ensures.arcs ∙ c.self.view_is in
    let e = add_by m c.args.a c.args.b c.args.new (pair_of x.slots) c.place_of.result c.place_of.ensures.first in
    subst (λ (y : BaseMap). GivesWhole c.from_residual-in_err-ensured-2.result (add_point y c.args.a c.args.b c.args.new)) same (rw e (search rules))

pub insert-requires-clause-at : goal.insert-requires-clause-at
insert-requires-clause-at c = (segment_within c.args.a c.args.b _ _ (place_found (segment_at c.args.a c.args.b) c.in_ok-arcs.arcs.slots c.place_of.result c.in_ok-place.place (found_is c.place_of.result _ _ c.in_ok-place.ensures) c.place_of.ensures.found)).1

pub insert-requires-clause-room : goal.insert-requires-clause-room
insert-requires-clause-room c =
    subst (λ (n : ℕ). n < MAX_POINTS) c.count_points.ensures (ltb-true c.count_points.result MAX_POINTS (ensured_holds (nat_lt c.count_points.result MAX_POINTS) _ _ c.in_ok-ensured-2.ensures))

pub invariant_of-self : goal.invariant_of-self
invariant_of-self c =
    let x = c.in_ok-arcs.arcs in
    let arcs = arcs_of x in
    let m : BaseMap = drafted c.self.inside.base.now c.self.inside.classes.items arcs in
    let is_map = subst (λ (xs : List BaseArc). IsTrue (is_base (drafted c.self.inside.base.now c.self.inside.classes.items xs))) (sym c.in_ok-arcs.ensures.arcs) c.self.invariant.base in
    let found = found_is c.place_of.result _ _ c.in_ok-place.ensures in
    let first = ap (option_map (pair_of x.slots)) (sym found) ∙ c.place_of.ensures.first in
    let changes = added_arcs c.args.a c.args.b c.args.new arcs (pair_of x.slots c.in_ok-place.place) first in
    let free : has_point c.args.new arcs ≡ false = sym c.has_point.ensures ∙ not-true c.has_point.result (ensured_holds (not c.has_point.result) _ _ c.in_ok-ensured.ensures) in
    let room = subst (λ (n : ℕ). n < MAX_POINTS) c.count_points.ensures (ltb-true c.count_points.result MAX_POINTS (ensured_holds (nat_lt c.count_points.result MAX_POINTS) _ _ c.in_ok-ensured-2.ensures)) in
    record {
      base = subst (λ (xs : List BaseArc). IsTrue (is_base (record m { arcs = xs }))) (sym c.in_ok-insert.ensures.arcs) (add_again m c.args.a c.args.b c.args.new _ is_map c.requires free changes room);
      faces = c.in_ok-insert.ensures.faces ∙ (c.in_ok-arcs.ensures.faces ∙ ap (length {A = ℕ}) c.deref.ensures.value);
    }

pub returns : goal.returns
returns c =
    let x = c.in_ok-arcs.arcs in
    let arcs = arcs_of x in
    let m : BaseMap = drafted c.self.inside.base.now c.self.inside.classes.items arcs in
    let same : m ≡ c.args.self = ap (drafted c.self.inside.base.now c.self.inside.classes.items) c.in_ok-arcs.ensures.arcs ∙ c.self.view_is in
    let found = found_is c.place_of.result _ _ c.in_ok-place.ensures in
    let first = ap (option_map (pair_of x.slots)) (sym found) ∙ c.place_of.ensures.first in
    let free : has_point c.args.new arcs ≡ false = sym c.has_point.ensures ∙ not-true c.has_point.result (ensured_holds (not c.has_point.result) _ _ c.in_ok-ensured.ensures) in
    let room = ensured_holds (nat_lt c.count_points.result MAX_POINTS) _ _ c.in_ok-ensured-2.ensures in
    let made = add_made m c.args.a c.args.b c.args.new (pair_of x.slots c.in_ok-place.place) first free (ap (λ (n : ℕ). nat_lt n MAX_POINTS) (sym c.count_points.ensures) ∙ room) in
    subst (λ (y : BaseMap). add_point y c.args.a c.args.b c.args.new ≡ Ok (record m { arcs = arcs_of c.in_ok-insert.field-0 })) same
    (made ∙ ap (λ (xs : List BaseArc). Ok (record m { arcs = xs })) (sym c.in_ok-insert.ensures.arcs))
