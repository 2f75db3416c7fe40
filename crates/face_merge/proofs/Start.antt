-- What a base map gives to its merging: its points are within the limits, its rules have their form, its labels are faces.
use Rattle.std.proofs.Common.{◌≡◌, ◌<◌, ◌≤◌, ℕ, ◌+◌, ◌*◌, true, List, [], ◌∷◌, length, get_or, map, sym, subst, arith}
use Rattle.std.specs.Prelude.{IsTrue}
use Rattle.std.specs.List.{All, AllByRecursion}
use Rattle.std.proofs.lemmas.Nat.{mul-add-lt}
use Rattle.std.proofs.lemmas.List.{length-map}
use Rattle.std.proofs.lemmas.List.Sums.{AllPass-from_list_all, get_or-le-sum_by, count_by-le-length, sum_by-cons}
use Rattle.std.proofs.lemmas.List.Elements.{All-weaker, All-map, recursion_from_All}
use Rattle.tgap_model.specs.declared.base.Rules.{Rules}
use Rattle.tgap_model.specs.declared.base.BaseArc.{BaseArc}
use Rattle.tgap_model.specs.declared.limits.TheConstants.{MAX_CLASSES, MAX_POINTS}
use Rattle.tgap_model.specs.declared.merge.LabelledArc.{LabelledArc}
use Rattle.tgap_model.specs.Base.{BaseMap, is_base, is_rules, in_limits, count_points}
use Rattle.tgap_model.specs.Bounds.{IsNear, max_length, max_arc_length}
use Rattle.tgap_model.specs.History.{is_shared, labelled, history_of, AreNumbered}
use Rattle.tgap_model.proofs.BaseFacts.{ArcFacts, rules_facts, base_facts, classes_below, each_arc}
use Rattle.tgap_model.proofs.Points.{near_point}
use Rattle.face_merge.specs.Measures.{IsMeasured, total_length}
use Rattle.face_merge.specs.Merging.{IsLabelled, IsMerging, begin}
use Rattle.face_merge.proofs.Terms.{measured_arc, path_size}
use Rattle.face_merge.proofs.Steps.{history_is}
use Rattle.face_merge.proofs.Numbers.{steps_numbered}

-- ---- the rules

-- the square of the number of classes
squares : (n : ℕ) → n ≤ MAX_CLASSES → n * n ≤ MAX_CLASSES * MAX_CLASSES
squares n p = grind arith

-- the place of the compatibility of two classes, of n classes
pub place_within : (r : Rules) (n j k : ℕ) → IsTrue (is_rules r) → n ≡ length r.weights → j < n → k < n
    → (j * n + k < length r.compat) × (length r.compat ≤ MAX_CLASSES * MAX_CLASSES)
place_within r n j k rules e below_j below_k =
    let parts = rules_facts r rules in
    let same : length r.compat ≡ n * n = subst (λ (m : ℕ). length r.compat ≡ m * m) (sym e) parts.table in
    (omega (arith, same, mul-add-lt j n k n below_j below_k), omega (arith, same, squares n (omega (arith, parts.few_classes))))

-- ---- the points

-- the points of an arc are within the limits
near_points : (n : ℕ) (a : BaseArc) → ArcFacts n a → All IsNear a.points
near_points n a h = All-weaker (λ p. in_limits p ≡ true) IsNear near_point a.points (AllPass-from_list_all in_limits a.points h.in_limits)

-- its labels are faces
labels_within : (n : ℕ) (a : BaseArc) → ArcFacts n a → IsLabelled n (labelled a)
labels_within n a h = record { left = h.left; right = h.right }

-- ---- the base map

-- the points are within the limits
pub base_near : (m : BaseMap) → IsTrue (is_base m) → All (λ a. All IsNear a.points) m.arcs
base_near m h = All-weaker (λ a. ArcFacts (length m.classes) a) (λ a. All IsNear a.points) (near_points (length m.classes)) m.arcs (each_arc m (base_facts m h))

-- no arc has more points than the map
pub base_short : (m : BaseMap) → IsTrue (is_base m) → All (λ a. length a.points ≤ MAX_POINTS) m.arcs
base_short m h = λ k d p. omega (arith, (base_facts m h).few_points, get_or-le-sum_by (λ a. length a.points) m.arcs k d p)

-- the labels are faces
base_labelled : (m : BaseMap) → IsTrue (is_base m) → All (IsLabelled (length m.classes)) (map labelled m.arcs)
base_labelled m h =
    All-map (IsLabelled (length m.classes)) labelled m.arcs
    (All-weaker (λ a. ArcFacts (length m.classes) a) (λ a. IsLabelled (length m.classes) (labelled a)) (labels_within (length m.classes)) m.arcs (each_arc m (base_facts m h)))

-- the measures fit
pub base_measured : (m : BaseMap) → IsTrue (is_base m) → All IsMeasured (map labelled m.arcs)
base_measured m h =
    All-map IsMeasured labelled m.arcs (λ k d p. measured_arc (get_or m.arcs k d) (base_near m h k d p) (base_short m h k d p))

-- all arcs together are as long as their points allow
total_size : (arcs : List BaseArc) → AllByRecursion (λ a. All IsNear a.points) arcs → total_length (map labelled arcs) ≤ count_points arcs * max_length
total_size [] near = omega arith
total_size (a ∷ arcs) near =
    let one = path_size a.points (recursion_from_All IsNear a.points near.0) in
    let rest = total_size arcs near.1 in
    let length_more = sum_by-cons (λ (x : LabelledArc). x.extent) (labelled a) (map labelled arcs) in
    let points_more = sum_by-cons (λ (x : BaseArc). length x.points) a arcs in
    omega (arith, one, rest, length_more, points_more)

base_total : (m : BaseMap) → IsTrue (is_base m) → total_length (map labelled m.arcs) ≤ max_arc_length
base_total m h =
    omega (arith, total_size m.arcs (recursion_from_All (λ a. All IsNear a.points) m.arcs (base_near m h)), (base_facts m h).few_points)

-- what is known as the merging begins
pub merging_start : (m : BaseMap) → IsTrue (is_base m) → IsMerging (begin m)
merging_start m h =
    let parts = base_facts m h in
    record {
      rules_hold = parts.rules;
      classed = classes_below m parts;
      labelled = base_labelled m h;
      measured = base_measured m h;
      few_arcs = omega (arith, parts.few_arcs, length-map m.arcs labelled);
      short = base_total m h;
      few_faces = omega (arith, parts.few_faces, parts.few_arcs, length-map m.arcs labelled, count_by-le-length is_shared (map labelled m.arcs));
    }

-- the history of a base map is numbered in order
pub history_numbered : (m : BaseMap) → IsTrue (is_base m) → AreNumbered (length m.classes) (history_of m)
history_numbered m h = steps_numbered m.rules m.classes (map labelled m.arcs) (history_of m) (base_labelled m h) (history_is m)
