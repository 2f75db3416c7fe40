-- What a base map keeps to, one fact at a time.
use Rattle.std.proofs.Common.{◌≡◌, ℕ, ◌<◌, ◌≤◌, ◌*◌, ◌==◌, ◌&&◌, true, false, nat_le, nat_lt, All, length}
use Rattle.std.specs.List.{list_all}
use Rattle.std.proofs.lemmas.Bool.{and_parts, leb-true, eqb-true, ltb-true, not-true}
use Rattle.std.proofs.lemmas.List.Elements.{All-weaker}
use Rattle.std.proofs.lemmas.List.Sums.{AllPass-from_list_all}
use Rattle.tgap_model.specs.declared.base.Rules.{Rules}
use Rattle.tgap_model.specs.declared.base.BaseArc.{BaseArc}
use Rattle.tgap_model.specs.declared.limits.TheConstants.{MAX_CLASSES, MAX_FACES, MAX_ARCS, MAX_POINTS, MAX_COMPATIBILITY, MAX_WEIGHT, MAX_RATIO}
use Rattle.tgap_model.specs.Base.{BaseMap, is_transform, is_rules, in_limits, no_repeat, is_arc, is_base, count_points, all_faces_bordered}

-- the rules of a base map
pub record RulesFacts (r : Rules) : Type 0 where
  pub some_class : 1 ≤ length r.weights
  pub few_classes : length r.weights ≤ MAX_CLASSES
  pub weights : list_all (λ w. nat_le 1 w && nat_le w MAX_WEIGHT) r.weights ≡ true
  pub table : length r.compat ≡ length r.weights * length r.weights
  pub compat : list_all (λ v. nat_le v MAX_COMPATIBILITY) r.compat ≡ true
  pub ratio : r.ratio ≤ MAX_RATIO

-- an arc of a map with n faces
pub record ArcFacts (n : ℕ) (a : BaseArc) : Type 0 where
  pub left : a.left ≤ n
  pub right : a.right ≤ n
  pub differ : (a.left == a.right) ≡ false
  pub two_points : 2 ≤ length a.points
  pub in_limits : list_all in_limits a.points ≡ true
  pub apart : no_repeat a.points ≡ true

pub record BaseFacts (m : BaseMap) : Type 0 where
  pub transform : is_transform m.transform ≡ true
  pub rules : is_rules m.rules ≡ true
  pub few_faces : length m.classes ≤ MAX_FACES
  pub classes : list_all (λ k. nat_lt k (length m.rules.weights)) m.classes ≡ true
  pub few_arcs : length m.arcs ≤ MAX_ARCS
  pub few_points : count_points m.arcs ≤ MAX_POINTS
  pub arcs : list_all (is_arc (length m.classes)) m.arcs ≡ true
  pub bordered : all_faces_bordered (length m.classes) m.arcs ≡ true

pub rules_facts : (r : Rules) → is_rules r ≡ true → RulesFacts r
unfolding is_rules
rules_facts r h =
    let ratio = and_parts _ _ h in
    let compat = and_parts _ _ ratio.0 in
    let table = and_parts _ _ compat.0 in
    let weights = and_parts _ _ table.0 in
    let count = and_parts _ _ weights.0 in
    record {
      some_class = leb-true _ _ count.0;
      few_classes = leb-true _ _ count.1;
      weights = weights.1;
      table = eqb-true _ _ table.1;
      compat = compat.1;
      ratio = leb-true _ _ ratio.1;
    }

pub arc_facts : (n : ℕ) (a : BaseArc) → is_arc n a ≡ true → ArcFacts n a
unfolding is_arc
arc_facts n a h =
    let repeat = and_parts _ _ h in
    let limits = and_parts _ _ repeat.0 in
    let points = and_parts _ _ limits.0 in
    let differ = and_parts _ _ points.0 in
    let sides = and_parts _ _ differ.0 in
    record {
      left = leb-true _ _ sides.0;
      right = leb-true _ _ sides.1;
      differ = not-true _ differ.1;
      two_points = leb-true _ _ points.1;
      in_limits = limits.1;
      apart = repeat.1;
    }

pub base_facts : (m : BaseMap) → is_base m ≡ true → BaseFacts m
unfolding is_base
base_facts m h =
    let border = and_parts _ _ h in
    let arcs = and_parts _ _ border.0 in
    let points = and_parts _ _ arcs.0 in
    let count = and_parts _ _ points.0 in
    let classes = and_parts _ _ count.0 in
    let faces = and_parts _ _ classes.0 in
    let rules = and_parts _ _ faces.0 in
    record {
      transform = rules.0;
      rules = rules.1;
      few_faces = leb-true _ _ faces.1;
      classes = classes.1;
      few_arcs = leb-true _ _ count.1;
      few_points = leb-true _ _ points.1;
      arcs = arcs.1;
      bordered = border.1;
    }

-- each class is below the number of classes
pub classes_below : (m : BaseMap) → BaseFacts m → All (λ k. k < length m.rules.weights) m.classes
classes_below m b =
    let c = length m.rules.weights in
    All-weaker (λ k. nat_lt k c ≡ true) (λ k. k < c) (λ k e. ltb-true k c e) m.classes (AllPass-from_list_all (λ k. nat_lt k c) m.classes b.classes)

-- each arc has its form
pub each_arc : (m : BaseMap) → BaseFacts m → All (λ a. ArcFacts (length m.classes) a) m.arcs
each_arc m b =
    let n = length m.classes in
    All-weaker (λ a. is_arc n a ≡ true) (λ a. ArcFacts n a) (arc_facts n) m.arcs (AllPass-from_list_all (is_arc n) m.arcs b.arcs)
