use Rattle.std.proofs.Common.{◌≡◌, ◌∙◌, ◌+◌, ℕ, IsTrue, nat_le, ◌&&◌, true, List, not, false, length, Ok, sym, ap, subst, arith, rules}
use Rattle.std.specs.Prelude.{option_map}
use Rattle.std.proofs.lemmas.Bool.{not-true, and_parts, and_from}
use Rattle.tgap_model.specs.declared.base.BaseArc.{BaseArc}
use Rattle.tgap_model.specs.declared.limits.TheConstants.{MAX_ARCS, MAX_FACES, MAX_POINTS}
use Rattle.tgap_model.specs.Base.{BaseMap, count_points, is_base}
use Rattle.tgap_model.proofs.BaseFacts.{base_facts}
use Rattle.plain_io.specs.Taking.{GivesWhole}
use Rattle.face_cuts.specs.Outcomes.{has_room}
use Rattle.face_cuts.specs.Nodes.{add_node, is_node}
use Rattle.face_cuts.proofs.NodesKeep.{nodes_keep}
use Rattle.arc_places.specs.Borders.{HaveFaces}
use Rattle.map_version.specs.Indexed.{arcs_of}
use Rattle.map_version.specs.Firsts.{pair_of}
use Rattle.map_version.specs.Drafts.{drafted}
use Rattle.map_version.proofs.Drafts.{ensured_holds, found_is, have_faces, node_by, node_of, place_at}
use Rattle.map_version.proofs.draft.Draft.add_node.Goals as goal

pub returns-in_err-place : goal.returns-in_err-place
returns-in_err-place c =
    let x = c.in_ok-arcs.arcs in
    let m : BaseMap = drafted c.self.inside.base.now c.self.inside.classes.items (arcs_of x) in
    let same : m ≡ c.args.self = ap (drafted c.self.inside.base.now c.self.inside.classes.items) c.in_ok-arcs.ensures.arcs ∙ c.self.view_is in
    let e = node_by m c.args.at (pair_of x.slots) c.place_of.result c.place_of.ensures.first in
    subst (λ (y : BaseMap). GivesWhole c.from_residual-in_err-place.result (add_node y c.args.at)) same (rw e (search rules))

pub returns-in_err-ensured : goal.returns-in_err-ensured
returns-in_err-ensured c =
    let x = c.in_ok-arcs.arcs in
    let m : BaseMap = drafted c.self.inside.base.now c.self.inside.classes.items (arcs_of x) in
    let same : m ≡ c.args.self = ap (drafted c.self.inside.base.now c.self.inside.classes.items) c.in_ok-arcs.ensures.arcs ∙ c.self.view_is in
    let e = node_by m c.args.at (pair_of x.slots) c.place_of.result c.place_of.ensures.first in
    subst (λ (y : BaseMap). GivesWhole c.from_residual-in_err-ensured.result (add_node y c.args.at)) same (rw e (search rules))

pub returns-in_err-ensured-2 : goal.returns-in_err-ensured-2
returns-in_err-ensured-2 c =
    let x = c.in_ok-arcs.arcs in
    let m : BaseMap = drafted c.self.inside.base.now c.self.inside.classes.items (arcs_of x) in
    let same : m ≡ c.args.self = ap (drafted c.self.inside.base.now c.self.inside.classes.items) c.in_ok-arcs.ensures.arcs ∙ c.self.view_is in
    let e = node_by m c.args.at (pair_of x.slots) c.place_of.result c.place_of.ensures.first in
    subst (λ (y : BaseMap). GivesWhole c.from_residual-in_err-ensured-2.result (add_node y c.args.at)) same (rw e (search rules))

pub split-requires-clause-at : goal.split-requires-clause-at
split-requires-clause-at c = place_at c.args.at c.in_ok-arcs.arcs.slots c.place_of.result c.in_ok-place.place (found_is c.place_of.result _ _ c.in_ok-place.ensures) c.place_of.ensures.found

pub split-requires-clause-room : goal.split-requires-clause-room
split-requires-clause-room c =
    let arcs = arcs_of c.in_ok-arcs.arcs in
    let room = ensured_holds c.has_room.result _ _ c.in_ok-ensured-2.ensures in
    let all = and_parts (nat_le (c.len.result + 0) _ && nat_le (length arcs + 1) MAX_ARCS) (nat_le (count_points arcs + 1) MAX_POINTS) (sym c.has_room.ensures ∙ room) in
    and_from (nat_le (length arcs + 1) MAX_ARCS) (nat_le (count_points arcs + 1) MAX_POINTS) (and_parts (nat_le (c.len.result + 0) _) (nat_le (length arcs + 1) MAX_ARCS) all.0).1 all.1

pub split-requires-clause-faces : goal.split-requires-clause-faces
split-requires-clause-faces c =
    let m : BaseMap = drafted c.self.inside.base.now c.self.inside.classes.items (arcs_of c.in_ok-arcs.arcs) in
    let is_map = subst (λ (xs : List BaseArc). IsTrue (is_base (drafted c.self.inside.base.now c.self.inside.classes.items xs))) (sym c.in_ok-arcs.ensures.arcs) c.self.invariant.base in
    subst (λ (n : ℕ). HaveFaces n (arcs_of c.in_ok-arcs.arcs)) (sym (c.in_ok-arcs.ensures.faces ∙ ap (length {A = ℕ}) c.deref.ensures.value)) (have_faces (length m.classes) m.arcs (base_facts m is_map).arcs)

pub invariant_of-self : goal.invariant_of-self
invariant_of-self c =
    let x = c.in_ok-arcs.arcs in
    let m : BaseMap = drafted c.self.inside.base.now c.self.inside.classes.items (arcs_of x) in
    let is_map = subst (λ (xs : List BaseArc). IsTrue (is_base (drafted c.self.inside.base.now c.self.inside.classes.items xs))) (sym c.in_ok-arcs.ensures.arcs) c.self.invariant.base in
    let first = ap (option_map (pair_of x.slots)) (sym (found_is c.place_of.result _ _ c.in_ok-place.ensures)) ∙ c.place_of.ensures.first in
    let inner : is_node c.args.at (arcs_of x) ≡ false = sym c.is_node.ensures ∙ not-true c.is_node.result (ensured_holds (not c.is_node.result) _ _ c.in_ok-ensured.ensures) in
    let faces : length c.self.inside.classes.items ≡ c.len.result = omega (arith, c.len.ensures, c.self.inside.classes.ok.0) in
    let room : has_room m 0 1 1 ≡ true =
    ap (λ (n : ℕ). nat_le (n + 0) MAX_FACES && nat_le (length (arcs_of x) + 1) MAX_ARCS && nat_le (count_points (arcs_of x) + 1) MAX_POINTS) faces
    ∙ (sym c.has_room.ensures ∙ ensured_holds c.has_room.result _ _ c.in_ok-ensured-2.ensures) in
    let made = node_of m c.args.at (pair_of x.slots c.in_ok-place.place) first inner room in
    record {
      base = subst (λ (xs : List BaseArc). IsTrue (is_base (record m { arcs = xs }))) (sym c.in_ok-split.ensures.arcs) (nodes_keep m _ c.args.at is_map made);
      faces = c.in_ok-split.ensures.faces ∙ (c.in_ok-arcs.ensures.faces ∙ ap (length {A = ℕ}) c.deref.ensures.value);
    }

pub returns : goal.returns
returns c =
    let x = c.in_ok-arcs.arcs in
    let m : BaseMap = drafted c.self.inside.base.now c.self.inside.classes.items (arcs_of x) in
    let same : m ≡ c.args.self = ap (drafted c.self.inside.base.now c.self.inside.classes.items) c.in_ok-arcs.ensures.arcs ∙ c.self.view_is in
    let first = ap (option_map (pair_of x.slots)) (sym (found_is c.place_of.result _ _ c.in_ok-place.ensures)) ∙ c.place_of.ensures.first in
    let inner : is_node c.args.at (arcs_of x) ≡ false = sym c.is_node.ensures ∙ not-true c.is_node.result (ensured_holds (not c.is_node.result) _ _ c.in_ok-ensured.ensures) in
    let faces : length c.self.inside.classes.items ≡ c.len.result = omega (arith, c.len.ensures, c.self.inside.classes.ok.0) in
    let room : has_room m 0 1 1 ≡ true =
    ap (λ (n : ℕ). nat_le (n + 0) MAX_FACES && nat_le (length (arcs_of x) + 1) MAX_ARCS && nat_le (count_points (arcs_of x) + 1) MAX_POINTS) faces
    ∙ (sym c.has_room.ensures ∙ ensured_holds c.has_room.result _ _ c.in_ok-ensured-2.ensures) in
    let made = node_of m c.args.at (pair_of x.slots c.in_ok-place.place) first inner room in
    subst (λ (y : BaseMap). add_node y c.args.at ≡ Ok (record m { arcs = arcs_of c.in_ok-split.field-0 })) same
    (made ∙ ap (λ (xs : List BaseArc). Ok (record m { arcs = xs })) (sym c.in_ok-split.ensures.arcs))
