-- What is known of rules and of a topology that were read, and the base map that they make.
use Rattle.std.proofs.Common.{◌≡◌, ◌≤◌, ℕ, length, ◌==◌, ◌&&◌, nat_lt, count_by, List, true, cond, Option, Some, None, Result, Ok, ap, sym, refl, ◌∙◌, arith, IsTrue, IsSome, subst}
use Rattle.std.specs.List.{list_all}
use Rattle.std.proofs.lemmas.Bool.{and_parts, eqb-true, leb-true}
use Rattle.tgap_model.specs.declared.base.BaseArc.{BaseArc}
use Rattle.tgap_model.specs.declared.topology.NamedRules.{NamedRules}
use Rattle.tgap_model.specs.declared.topology.RawPolygon.{RawPolygon}
use Rattle.tgap_model.specs.declared.topology.RawMap.{RawMap}
use Rattle.tgap_model.specs.declared.geometry.Point.{Point}
use Rattle.tgap_model.specs.declared.base.Transform.{Transform}
use Rattle.tgap_model.specs.declared.base.Rules.{Rules}
use Rattle.tgap_model.specs.declared.fault.MapFault.{MapFault}
use Rattle.tgap_model.specs.declared.limits.TheConstants.{MAX_CLASSES, MAX_FACES}
use Rattle.tgap_model.specs.Base.{BaseMap, is_base, is_rules, is_transform, checked}
use Rattle.line_forms.specs.Json.{try_fold}
use Rattle.line_forms.specs.Lines.{◌>>=◌}
use Rattle.map_forms.specs.RulesFile.{is_named_rules}
use Rattle.topology_forms.specs.Topology.{has_ring}
use Rattle.topology_forms.specs.Rings.{Taken, is_raw_ring, is_raw_map, nothing_taken, polygon_taken, sided_from, based}
use Rattle.tgap_model.proofs.BaseFacts.{rules_facts}
use Rattle.ring_sides.specs.Arcs.{AreRawArcs}
use Rattle.ring_sides.proofs.BasedIsBase.{based_is_base}

-- there are no more names than classes
pub few_names : (named : NamedRules) → IsTrue (is_named_rules named) → length named.names ≤ MAX_CLASSES
unfolding is_named_rules
few_names named h =
    let default = and_parts (is_rules named.rules && (length named.names == length named.rules.weights)) (nat_lt named.default (length named.rules.weights)) h in
    let count = and_parts (is_rules named.rules) (length named.names == length named.rules.weights) default.0 in
    let same = eqb-true (length named.names) (length named.rules.weights) count.1 in
    let few = (rules_facts named.rules count.0).few_classes in
    omega (arith, same, few)

pub record RawMapFacts (raw : RawMap) : Type 0 where
  pub arcs : AreRawArcs raw.arcs
  pub few_faces : count_by has_ring raw.polygons ≤ MAX_FACES
  pub rings : list_all (λ p. list_all (is_raw_ring (length raw.arcs)) p.rings) raw.polygons ≡ true

pub raw_map_facts : (raw : RawMap) → IsTrue (is_raw_map raw) → RawMapFacts raw
unfolding is_raw_map
raw_map_facts raw h =
    let rings = and_parts _ _ h in
    let faces = and_parts _ _ rings.0 in
    let arcs = and_parts _ _ faces.0 in
    let points = and_parts _ _ arcs.0 in
    record {
      arcs = record { formed = arcs.1; few = leb-true _ _ points.0; short = leb-true _ _ points.1 };
      few_faces = leb-true _ _ faces.1;
      rings = rings.1;
    }

-- the rings of its polygons have their form, whatever they are called
pub rings_formed : (raw : RawMap) (arcs : List (List Point)) (polygons : List RawPolygon) → IsTrue (is_raw_map raw) → arcs ≡ raw.arcs → polygons ≡ raw.polygons
    → IsTrue (list_all (λ p. list_all (is_raw_ring (length arcs)) p.rings) polygons)
rings_formed raw arcs polygons holds same same' =
    ap (λ (ps : List RawPolygon). list_all (λ p. list_all (is_raw_ring (length arcs)) p.rings) ps) same'
    ∙ ap (λ (as' : List (List Point)). list_all (λ (p : RawPolygon). list_all (is_raw_ring (length as')) p.rings) raw.polygons) same
    ∙ (raw_map_facts raw holds).rings

-- ---- the base map

-- what was taken and the arcs with their faces make the base map of the topology
pub based_from : (raw : RawMap) (named : NamedRules) (taken : Taken) (arcs : List BaseArc) → try_fold (polygon_taken raw.arcs named) (nothing_taken raw.arcs) raw.polygons ≡ Ok taken
    → sided_from 0 raw.arcs taken.left taken.right ≡ Ok arcs
    → based raw named ≡ Ok (record { transform = raw.transform; rules = named.rules; classes = taken.classes; arcs = arcs })
unfolding based
based_from raw named taken arcs took sided =
    let with_arcs : Taken → List BaseArc → BaseMap = λ t a. record { transform = raw.transform; rules = named.rules; classes = t.classes; arcs = a } in
    let from_taken : Taken → Result BaseMap MapFault = λ t. sided_from 0 raw.arcs t.left t.right >>= λ a. Ok (with_arcs t a) in
    ap (λ r. r >>= from_taken) took ∙ ap (λ r. r >>= λ a. Ok (with_arcs taken a)) sided

-- a map that is checked and is one is there
checked_some : (m : BaseMap) (found : Option BaseMap) → found ≡ checked m → IsTrue (is_base m) → IsSome found
checked_some m found e base =
    let there : found ≡ Some m = e ∙ ap (λ b. cond b (Some m) None) base in
    subst IsSome (sym there) refl

-- the map that is made is there
pub made_some : (raw : RawMap) (named : NamedRules) (taken : Taken) (m : BaseMap) (found : Option BaseMap) → IsTrue (is_raw_map raw) → IsTrue (is_named_rules named)
    → IsTrue (is_transform raw.transform) → try_fold (polygon_taken raw.arcs named) (nothing_taken raw.arcs) raw.polygons ≡ Ok taken
    → sided_from 0 raw.arcs taken.left taken.right ≡ Ok m.arcs → m.transform ≡ raw.transform → m.rules ≡ named.rules → m.classes ≡ taken.classes
    → found ≡ checked m → IsSome found
made_some raw named taken m found raw_holds named_holds words took sided transform rules classes e =
    let make : Transform → Rules → List ℕ → BaseMap = λ t r k. record { transform = t; rules = r; classes = k; arcs = m.arcs } in
    let same : make m.transform m.rules m.classes ≡ make raw.transform named.rules taken.classes =
    ap (λ t. make t m.rules m.classes) transform ∙ ap (λ r. make raw.transform r m.classes) rules ∙ ap (λ k. make raw.transform named.rules k) classes in
    let base = based_is_base raw named (make raw.transform named.rules taken.classes) raw_holds named_holds words (based_from raw named taken m.arcs took sided) in
    checked_some m found e (subst (λ (n : BaseMap). IsTrue (is_base n)) (sym same) base)
