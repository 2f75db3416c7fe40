-- A base map from its facts.
use Rattle.std.proofs.Common.{◌≡◌, ◌∙◌, ℕ, ◌+◌, ◌-◌, ◌≤◌, ◌<◌, ◌&&◌, nat_le, true, not, List, length, get_or, sym, ap, subst, arith}
use Rattle.std.specs.List.{list_any, range_with_len}
use Rattle.std.proofs.lemmas.Bool.{and_parts, and_from, le-leb, leb-true}
use Rattle.std.proofs.lemmas.List.Sums.{AllPass-from_list_all, list_all-from_AllPass}
use Rattle.std.proofs.lemmas.List.FromFn.{length-range_with_len, get_or-range_with_len}
use Rattle.tgap_model.specs.declared.base.BaseArc.{BaseArc}
use Rattle.tgap_model.specs.declared.limits.TheConstants.{MAX_FACES, MAX_ARCS, MAX_POINTS}
use Rattle.tgap_model.specs.Base.{BaseMap, count_points, is_arc, is_base, borders_face, all_faces_bordered}
use Rattle.tgap_model.proofs.BaseFacts.{ArcFacts, BaseFacts}
use Rattle.face_cuts.specs.Outcomes.{has_room}

pub base_from : (m : BaseMap) → BaseFacts m → is_base m ≡ true
unfolding is_base
base_from m b =
    and_from _ _ (and_from _ _ (and_from _ _ (and_from _ _ (and_from _ _ (and_from _ _ (and_from _ _ b.transform b.rules)
    (le-leb _ _ b.few_faces)) b.classes) (le-leb _ _ b.few_arcs)) (le-leb _ _ b.few_points)) b.arcs) b.bordered

pub arc_from : (n : ℕ) (a : BaseArc) → ArcFacts n a → is_arc n a ≡ true
unfolding is_arc
arc_from n a f =
    and_from _ _ (and_from _ _ (and_from _ _ (and_from _ _ (and_from _ _ (le-leb _ _ f.left) (le-leb _ _ f.right)) (ap not f.differ)) (le-leb _ _ f.two_points)) f.in_limits) f.apart

-- each face has a border, one by one
pub border_of : (n : ℕ) (arcs : List BaseArc) → all_faces_bordered n arcs ≡ true → (f : ℕ) → 1 ≤ f → f ≤ n → list_any (borders_face f) arcs ≡ true
border_of n arcs h f some low =
    let at : get_or (range_with_len 1 n) (f - 1) 0 ≡ f = get_or-range_with_len 1 n (f - 1) 0 (omega arith) ∙ omega arith in
    subst (λ g. list_any (borders_face g) arcs ≡ true) at
    (AllPass-from_list_all (λ g. list_any (borders_face g) arcs) (range_with_len 1 n) h (f - 1) 0 (omega (arith, length-range_with_len 1 n)))

pub borders_from : (n : ℕ) (arcs : List BaseArc) → ((f : ℕ) → 1 ≤ f → f ≤ n → list_any (borders_face f) arcs ≡ true) → all_faces_bordered n arcs ≡ true
borders_from n arcs each = list_all-from_AllPass (λ g. list_any (borders_face g) arcs) (range_with_len 1 n)
    (λ k d l.
    let short : k < n = omega (arith, l, length-range_with_len 1 n) in
    subst (λ g. list_any (borders_face g) arcs ≡ true) (sym (get_or-range_with_len 1 n k d short)) (each (1 + k) (omega arith) (omega (arith, short))))

-- room for so many more
pub record HasRoom (m : BaseMap) (i j k : ℕ) : Type 0 where
  pub faces : length m.classes + i ≤ MAX_FACES
  pub arcs : length m.arcs + j ≤ MAX_ARCS
  pub points : count_points m.arcs + k ≤ MAX_POINTS

pub room_facts : (m : BaseMap) (faces arcs points : ℕ) → has_room m faces arcs points ≡ true → HasRoom m faces arcs points
room_facts m faces arcs points h =
    let f = nat_le (length m.classes + faces) MAX_FACES in
    let a = nat_le (length m.arcs + arcs) MAX_ARCS in
    let p = nat_le (count_points m.arcs + points) MAX_POINTS in
    let last = and_parts (f && a) p h in
    let two = and_parts f a last.0 in
    record { faces = leb-true (length m.classes + faces) MAX_FACES two.0; arcs = leb-true (length m.arcs + arcs) MAX_ARCS two.1; points = leb-true (count_points m.arcs + points) MAX_POINTS last.1 }
