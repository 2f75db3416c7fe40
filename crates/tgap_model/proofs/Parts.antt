-- A base map is its parts, and a border of each face.
use Rattle.std.proofs.Common.{◌≡◌, ℕ, ◌≤◌, Bool, true, false, nat_le, nat_lt, ◌&&◌, List, [], ◌∷◌, length, refl, sym, ap, ◌∙◌, arith, IsTrue, Some, None, if◌then◌else◌}
use Rattle.std.specs.List.{list_all}
use Rattle.std.proofs.lemmas.Bool.{and_parts, and_from, and_left, and_right, ltb-true, lt-ltb, leb-true}
use Rattle.std.proofs.lemmas.Option.{cond_some}
use Rattle.tgap_model.specs.declared.base.Rules.{Rules}
use Rattle.tgap_model.specs.declared.base.BaseArc.{BaseArc}
use Rattle.tgap_model.specs.declared.limits.TheConstants.{MAX_POINTS, MAX_ARCS, MAX_FACES}
use Rattle.tgap_model.specs.declared.bordered.TheConstants.{MARK}
use Rattle.tgap_model.specs.Base.{BaseMap, is_transform, is_rules, is_arc, is_base, count_points, all_faces_bordered, checked}
use Rattle.tgap_model.specs.Parts.{are_parts}
use Rattle.tgap_model.proofs.Marks.{are_unmarked}

-- the tests of a base map, grouped by its parts
regroup : (r f k a p s b : Bool) → (((((((true && r) && f) && k) && a) && p) && s) && b) ≡ (((r && (f && k)) && ((a && p) && s)) && b)
regroup true true true true true s b = refl
regroup true true true true false s b = refl
regroup true true true false p s b = refl
regroup true true false a p s b = refl
regroup true false k a p s b = refl
regroup false f k a p s b = refl

-- where the transform has its form, a base map is its parts and their borders
pub is_base-parts : (m : BaseMap) → is_transform m.transform ≡ true
    → is_base m ≡ (are_parts m.rules m.classes m.arcs && all_faces_bordered (length m.classes) m.arcs)
unfolding is_base are_parts
is_base-parts m h =
    let n = length m.classes in
    let few_faces = nat_le n MAX_FACES in
    let below = list_all (λ k. nat_lt k (length m.rules.weights)) m.classes in
    let few_arcs = nat_le (length m.arcs) MAX_ARCS in
    let few_points = nat_le (count_points m.arcs) MAX_POINTS in
    let each_arc = list_all (is_arc n) m.arcs in
    let bordered = all_faces_bordered n m.arcs in
    ap (λ t. t && is_rules m.rules && few_faces && below && few_arcs && few_points && each_arc && bordered) h
    ∙ regroup (is_rules m.rules) few_faces below few_arcs few_points each_arc bordered

-- classes below a number that is not above the mark
unmarked_below : (n : ℕ) (ks : List ℕ) → n ≤ MARK → list_all (λ k. nat_lt k n) ks ≡ true → are_unmarked ks ≡ true
unmarked_below n [] l h = refl
unmarked_below n (k ∷ ks) l h =
    let parts = and_parts _ _ h in
    let below = ltb-true k n parts.0 in
    and_from _ _ (lt-ltb k MARK (omega arith)) (unmarked_below n ks l parts.1)

-- the classes of such parts are below the mark
pub parts-unmarked : (rules : Rules) (classes : List ℕ) (arcs : List BaseArc) → are_parts rules classes arcs ≡ true
    → IsTrue (are_unmarked classes)
unfolding are_parts is_rules
parts-unmarked rules classes arcs h =
    let a = and_parts _ _ h in
    let b = and_parts _ _ a.0 in
    let k = and_parts _ _ b.1 in
    let few : length rules.weights ≤ MARK = leb-true _ _ (and_parts _ _ (and_parts _ _ (and_parts _ _ (and_parts _ _ (and_parts _ _ b.0).0).0).0).0).1 in
    unmarked_below (length rules.weights) classes few k.1

-- and each of their arcs is one
pub parts-arcs : (rules : Rules) (classes : List ℕ) (arcs : List BaseArc) → are_parts rules classes arcs ≡ true
    → IsTrue (list_all (is_arc (length classes)) arcs)
unfolding are_parts
parts-arcs rules classes arcs h = (and_parts _ _ (and_parts _ _ h).1).1

-- None where the test is false
if-false : {A : Type 0} (b : Bool) (x : A) → b ≡ false → None ≡ (if b then Some x else None)
if-false b x e = ap (λ t. if t then Some x else None) (sym e)

-- no base map where the parts are out of form
pub checked-not_parts : (m : BaseMap) → is_transform m.transform ≡ true → are_parts m.rules m.classes m.arcs ≡ false → None ≡ checked m
checked-not_parts m h no_parts = if-false (is_base m) m (is_base-parts m h ∙ and_left _ _ no_parts)

-- the test is false where there is None
none-false : {A : Type 0} (b : Bool) (x : A) → None ≡ (if b then Some x else None) → b ≡ false
none-false true x e = cc
none-false false x e = refl

-- no base map where some face has no border
pub checked-not_bordered : (m : BaseMap) → is_transform m.transform ≡ true
    → None ≡ (if all_faces_bordered (length m.classes) m.arcs then Some m.classes else None) → None ≡ checked m
checked-not_bordered m h none = if-false (is_base m) m (is_base-parts m h ∙ and_right _ _ (none-false _ _ none))

-- a base map where the parts have their form and each face has a border
pub is_base-bordered : (m : BaseMap) (classes : List ℕ) → is_transform m.transform ≡ true → are_parts m.rules m.classes m.arcs ≡ true
    → Some classes ≡ (if all_faces_bordered (length m.classes) m.arcs then Some m.classes else None)
    → (is_base m ≡ true) × (classes ≡ m.classes)
is_base-bordered m classes h parts some =
    let found = cond_some (all_faces_bordered (length m.classes) m.arcs) m.classes classes (sym some) in
    (is_base-parts m h ∙ and_from _ _ parts found.0, sym found.1)

-- the same map with the classes that are given back
abbrev pub with_classes : BaseMap → List ℕ → BaseMap
with_classes m classes = record { transform = m.transform; rules = m.rules; classes = classes; arcs = m.arcs }

-- it is a base map
pub is_base-again : (m : BaseMap) (classes : List ℕ) → (is_base m ≡ true) × (classes ≡ m.classes) → IsTrue (is_base (with_classes m classes))
is_base-again m classes h = ap (λ ks. is_base (with_classes m ks)) h.1 ∙ h.0

-- and it is what is checked
pub checked-again : (m : BaseMap) (classes : List ℕ) → (is_base m ≡ true) × (classes ≡ m.classes) → Some (with_classes m classes) ≡ checked m
checked-again m classes h = ap (λ ks. Some (with_classes m ks)) h.1 ∙ ap (λ b. if b then Some m else None) (sym h.0)
