-- A base map with a node where it had an inner vertex is a base map.
use Rattle.std.proofs.Common.{◌≡◌, ◌≢◌, ◌∙◌, ℕ, zero, suc, ◌+◌, ◌-◌, ◌≤◌, ◌<◌, Bool, true, false, not, Option, Some, None, Result, Ok, List, [], ◌∷◌, length, get_or, set, take, drop, IsTrue, refl, sym, ap, subst, subst₂, length-append, arith}
use Rattle.std.specs.Prelude.{option_map}
use Rattle.std.specs.List.{list_all, list_any, position}
use Rattle.std.specs.Option.{ok_or}
use Rattle.std.proofs.lemmas.Bool.{and_parts, and_from, or_parts, false≢true}
use Rattle.std.proofs.lemmas.List.{length-set, length-drop, length-take-le}
use Rattle.std.proofs.lemmas.List.Elements.{All-set, All-append, All-cons, All-nil, All-take, All-drop}
use Rattle.std.proofs.lemmas.List.Folds.{list_any-append}
use Rattle.std.proofs.lemmas.List.Sums.{AllPass-from_list_all, list_all-from_AllPass, sum_by-append, sum_by-cons, sum_by-set}
use Rattle.std.proofs.lemmas.List.Quantifiers.{position-Some}
use Rattle.std.proofs.lemmas.Option.{option_and_then_some}
use Rattle.tgap_model.specs.declared.geometry.Point.{Point}
use Rattle.tgap_model.specs.declared.base.BaseArc.{BaseArc}
use Rattle.tgap_model.specs.Base.{BaseMap, same_point, in_limits, no_repeat, is_arc, is_base, borders_face, count_points}
use Rattle.tgap_model.specs.Chains.{arc_number, first_point, last_point}
use Rattle.tgap_model.proofs.BaseFacts.{ArcFacts, BaseFacts, base_facts, arc_facts}
use Rattle.ring_walk.specs.Sides.{origin}
use Rattle.face_cuts.specs.Outcomes.{◌>>=◌, ensured, has_room}
use Rattle.face_cuts.specs.Nodes.{passes, is_end, is_node, place_of, with_points, split_at, add_node}
use Rattle.face_cuts.specs.EditLaws.{NodesKeepMaps}
use Rattle.face_cuts.proofs.Cases.{any_set, first_is, last_is, or_left}
use Rattle.face_cuts.proofs.Maps.{base_from, arc_from, border_of, borders_from, room_facts}

-- ---- parts of a row of points

no_repeat_take : (n : ℕ) (points : List Point) → no_repeat points ≡ true → no_repeat (take n points) ≡ true
no_repeat_take zero points h = refl
no_repeat_take (suc n) [] h = refl
no_repeat_take (suc zero) (p ∷ points) h = refl
no_repeat_take (suc (suc n)) (p ∷ []) h = refl
no_repeat_take (suc (suc n)) (p ∷ q ∷ points) h =
    let parts = and_parts (not (same_point p q)) (no_repeat (q ∷ points)) h in
    and_from _ _ parts.0 (no_repeat_take (suc n) (q ∷ points) parts.1)

no_repeat_rest : (p : Point) (points : List Point) → no_repeat (p ∷ points) ≡ true → no_repeat points ≡ true
no_repeat_rest p [] h = refl
no_repeat_rest p (q ∷ points) h = (and_parts (not (same_point p q)) (no_repeat (q ∷ points)) h).1

no_repeat_drop : (n : ℕ) (points : List Point) → no_repeat points ≡ true → no_repeat (drop n points) ≡ true
no_repeat_drop zero points h = h
no_repeat_drop (suc n) [] h = refl
no_repeat_drop (suc n) (p ∷ points) h = no_repeat_drop n points (no_repeat_rest p points h)

all_taken : (p : Point → Bool) (n : ℕ) (points : List Point) → list_all p points ≡ true → list_all p (take n points) ≡ true
all_taken p n points h = list_all-from_AllPass p (take n points) (All-take (λ x. p x ≡ true) n points (AllPass-from_list_all p points h))

all_dropped : (p : Point → Bool) (n : ℕ) (points : List Point) → list_all p points ≡ true → list_all p (drop n points) ≡ true
all_dropped p n points h = list_all-from_AllPass p (drop n points) (All-drop (λ x. p x ≡ true) n points (AllPass-from_list_all p points h))

-- the arc with other points
other_points : (n : ℕ) (a : BaseArc) (points : List Point) → ArcFacts n a → 2 ≤ length points → list_all in_limits points ≡ true → no_repeat points ≡ true → is_arc n (with_points a points) ≡ true
other_points n a points f long limits apart = arc_from n (with_points a points) (record {
  left = f.left;
  right = f.right;
  differ = f.differ;
  two_points = long;
  in_limits = limits;
  apart = apart;
})

-- ---- the place of an inner vertex

pub record IsInner (v : Point) (arcs : List BaseArc) (i k : ℕ) : Type 0 where
  pub arc : i < length arcs
  pub before : 1 ≤ k
  pub after : k + 1 < length (arc_number arcs i).points

no_end : (v : Point) (a : BaseArc) (arcs : List BaseArc) (i : ℕ) → i < length arcs → is_node v arcs ≡ false → is_end v (arc_number arcs i) ≡ false
no_end v a [] i l free = absurd (omega arith)
no_end v a (b ∷ arcs) zero l free = (or_parts (is_end v b) (is_node v arcs) free).0
no_end v a (b ∷ arcs) (suc i) l free = no_end v a arcs i (omega (arith, l)) (or_parts (is_end v b) (is_node v arcs) free).1

not_there : (v p q : Point) → same_point v p ≡ true → p ≡ q → same_point v q ≡ false → ⊥
not_there v p q h e n = false≢true (sym n ∙ subst (λ (r : Point). same_point v r ≡ true) e h)

inner_in : (v : Point) (arcs : List BaseArc) (i k : ℕ) → i < length arcs → position (same_point v) (arc_number arcs i).points ≡ Some k → is_node v arcs ≡ false → IsInner v arcs i k
inner_in v arcs i k l found free =
    let points = (arc_number arcs i).points in
    let at = position-Some (same_point v) points k origin found in
    let short : k < length points = at.0 in
    let none = or_parts (same_point v (first_point points)) (same_point v (last_point points)) (no_end v (arc_number arcs i) arcs i l free) in
    let first : k ≢ 0 = λ e. not_there v (get_or points k origin) (first_point points) at.1 (ap (λ n. get_or points n origin) e ∙ sym (first_is points origin (omega (arith, short)))) none.0 in
    let last : k ≢ length points - 1 = λ e. not_there v (get_or points k origin) (last_point points) at.1 (ap (λ n. get_or points n origin) e ∙ sym (last_is points origin (omega (arith, short)))) none.1 in
    record { arc = l; before = omega (arith, first); after = omega (arith, last, short) }

pub inner_place : (v : Point) (arcs : List BaseArc) (place : ℕ × ℕ) → place_of v arcs ≡ Some place → is_node v arcs ≡ false → IsInner v arcs place.0 place.1
inner_place v arcs place found free =
    option_and_then_some (λ i. option_map (λ k. (i, k)) (position (same_point v) (arc_number arcs i).points)) (position (passes v) arcs) place found
    (λ i at more. by i (position (same_point v) (arc_number arcs i).points) refl more
    (position-Some (passes v) arcs i (arc_number arcs 0) at).0)
  where
    by : (i : ℕ) (o : Option ℕ) → position (same_point v) (arc_number arcs i).points ≡ o → option_map (λ k. (i, k)) o ≡ Some place → i < length arcs → IsInner v arcs place.0 place.1
    by i None at more l = absurd cc
    by i (Some k) at more l =
        let pair : (ℕ × ℕ) = (i, k) in
        let same : pair ≡ place = cc in
        subst (λ (p : ℕ × ℕ). IsInner v arcs p.0 p.1) same (inner_in v arcs i k l at free)

-- ---- the split map

module _ (m : BaseMap) (b : BaseFacts m) (v : Point) (i k : ℕ) (h : IsInner v m.arcs i k) (room : has_room m 0 1 1 ≡ true) where
  abbrev n : ℕ
  n = length m.classes

  abbrev arc : BaseArc
  arc = arc_number m.arcs i

  abbrev lower : BaseArc
  lower = with_points arc (take (k + 1) arc.points)

  abbrev upper : BaseArc
  upper = with_points arc (drop k arc.points)

  facts : ArcFacts n arc
  facts = arc_facts n arc (AllPass-from_list_all (is_arc n) m.arcs b.arcs i (record { left = 0; right = 0; points = [] }) h.arc)

  long : length (take (k + 1) arc.points) ≡ k + 1
  long = length-take-le (k + 1) arc.points (let a = h.after in omega (arith, a))

  rest : length (drop k arc.points) ≡ length arc.points - k
  rest = length-drop k arc.points

  split_arcs : list_all (is_arc n) (split_at m.arcs (i, k)) ≡ true
  split_arcs =
      let before = h.before in
      let after = h.after in
      list_all-from_AllPass (is_arc n) (split_at m.arcs (i, k))
      (All-append (λ a. is_arc n a ≡ true) (set m.arcs i lower) (upper ∷ [])
      (All-set (λ a. is_arc n a ≡ true) m.arcs i lower
      (other_points n arc (take (k + 1) arc.points) facts (omega (arith, long, before)) (all_taken in_limits (k + 1) arc.points facts.in_limits) (no_repeat_take (k + 1) arc.points facts.apart))
      (AllPass-from_list_all (is_arc n) m.arcs b.arcs))
      (All-cons (λ a. is_arc n a ≡ true) upper []
      (other_points n arc (drop k arc.points) facts (omega (arith, rest, after)) (all_dropped in_limits k arc.points facts.in_limits) (no_repeat_drop k arc.points facts.apart))
      (All-nil (λ a. is_arc n a ≡ true))))

  split_count : count_points (split_at m.arcs (i, k)) ≡ count_points m.arcs + 1
  split_count =
      let size = λ (a : BaseArc). length a.points in
      let none : BaseArc = record { left = 0; right = 0; points = [] } in
      let after = h.after in
      let e1 = sum_by-append size (set m.arcs i lower) (upper ∷ []) in
      let e2 = sum_by-cons size upper [] in
      let e3 = sum_by-set size m.arcs i lower none h.arc in
      omega (arith, e1, e2, e3, long, rest, after)

  split_borders : (f : ℕ) → 1 ≤ f → f ≤ n → list_any (borders_face f) (split_at m.arcs (i, k)) ≡ true
  split_borders f some low =
      list_any-append (borders_face f) (set m.arcs i lower) (upper ∷ [])
      ∙ or_left (list_any (borders_face f) (set m.arcs i lower)) (list_any (borders_face f) (upper ∷ []))
      (any_set (borders_face f) m.arcs i lower (record { left = 0; right = 0; points = [] }) refl ∙ border_of n m.arcs b.bordered f some low)

  pub split_is_base : is_base (record m { arcs = split_at m.arcs (i, k) }) ≡ true
  split_is_base =
      let r = room_facts m 0 1 1 room in
      let arcs_room = r.arcs in
      let points_room = r.points in
      let l1 = length-append (set m.arcs i lower) (upper ∷ []) in
      let l2 = length-set m.arcs i lower in
      base_from (record m { arcs = split_at m.arcs (i, k) }) (record {
        transform = b.transform;
        rules = b.rules;
        few_faces = b.few_faces;
        classes = b.classes;
        few_arcs = omega (arith, l1, l2, arcs_room);
        few_points = omega (arith, split_count, points_room);
        arcs = split_arcs;
        bordered = borders_from n (split_at m.arcs (i, k)) split_borders;
      })

pub nodes_keep : NodesKeepMaps
unfolding add_node
nodes_keep m e v base made = by (place_of v m.arcs) (is_node v m.arcs) (has_room m 0 1 1) refl refl refl made
  where
    by : (found : Option (ℕ × ℕ)) (node room : Bool) → place_of v m.arcs ≡ found → is_node v m.arcs ≡ node → has_room m 0 1 1 ≡ room
        → (let result : Result BaseMap ℕ = ok_or found 3 >>= λ place. ensured (not node) 6 >>= λ i. ensured room 11 >>= λ r. Ok (record m { arcs = split_at m.arcs place }) in
        let wanted : Result BaseMap ℕ = Ok e in result ≡ wanted)
        → IsTrue (is_base e)
    by None node room found free fits made = absurd cc
    by (Some place) true room found free fits made = absurd cc
    by (Some place) false false found free fits made = absurd cc
    by (Some place) false true found free fits made =
        (let same : record m { arcs = split_at m.arcs place } ≡ e = cc in
        subst (λ (x : BaseMap). IsTrue (is_base x)) same
        (split_is_base m (base_facts m base) v place.0 place.1 (inner_place v m.arcs place found free) fits))

-- the map that is made, where each test is passed
pub node_made : (m : BaseMap) (v : Point) (place : ℕ × ℕ) → place_of v m.arcs ≡ Some place → is_node v m.arcs ≡ false → has_room m 0 1 1 ≡ true
    → add_node m v ≡ Ok (record m { arcs = split_at m.arcs place })
unfolding add_node
node_made m v place found free room = rw (found, free, room) refl

-- the map that is made is a base map, of copies of the parts
pub node_is_base : (m : BaseMap) (v : Point) (place : ℕ × ℕ) (arcs made : List BaseArc) (classes : List ℕ) → is_base m ≡ true → arcs ≡ m.arcs → classes ≡ m.classes
    → made ≡ split_at arcs place → place_of v arcs ≡ Some place → is_node v arcs ≡ false → has_room m 0 1 1 ≡ true → is_base (record m { classes = classes; arcs = made }) ≡ true
node_is_base m v place arcs made classes h same_arcs same_classes is found free room =
    subst₂ (λ (cs : List ℕ) (bs : List BaseArc). is_base (record m { classes = cs; arcs = bs }) ≡ true) (sym same_classes) (sym (is ∙ ap (λ (bs : List BaseArc). split_at bs place) same_arcs))
    (split_is_base m (base_facts m h) v place.0 place.1
    (inner_place v m.arcs place (sym (ap (place_of v) same_arcs) ∙ found) (sym (ap (is_node v) same_arcs) ∙ free)) room)
