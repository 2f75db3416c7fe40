-- What stands in front of a spoke round its node, by the places of sorted spokes.
use Rattle.std.proofs.Common.{◌≡◌, ◌≢◌, ℕ, zero, suc, ◌+◌, ◌-◌, ◌<◌, ◌≤◌, Bool, true, false, ◌||◌, cond, if◌then◌else◌, List, [], ◌∷◌, ◌++◌, length, take, drop, filter, get_or, All, refl, sym, ap, ap₂, ◌∙◌, subst, true≢false, arith}
use Rattle.std.proofs.lemmas.Bool.{false_from_ne_true}
use Rattle.std.proofs.lemmas.List.{take-append-drop, drop_more, take_more, map-append, get_or-drop, get_or-take, get_or_default, length-take, append-nil}
use Rattle.std.proofs.Common.{length-drop}
use Rattle.std.proofs.lemmas.List.Elements.{All-head, All-tail, All-map, All-filter, filter-append}
use Rattle.std.proofs.lemmas.List.Sorted.{sorted_far}
use Rattle.lemmas.proofs.Members.{filter_none}
use Rattle.lemmas.proofs.Keys.{decided}
use Rattle.tgap_model.specs.declared.geometry.Point.{Point}
use Rattle.tgap_model.specs.Base.{same_point}
use Rattle.tgap_model.specs.Segment.{point_before}
use Rattle.grid_geo.proofs.PointOrder.{points}
use Rattle.ring_walk.specs.declared.spoke.Spoke.{Spoke}
use Rattle.ring_walk.specs.declared.side.Side.{Side}
use Rattle.ring_walk.specs.Sides.{same_side}
use Rattle.ring_walk.specs.Rings.{last_after, in_front_after, in_front}
use Rattle.ring_walk.specs.Spans.{before, leaves, sides_in, AreOrdered}
use Rattle.ring_walk.proofs.Order.{before_order}
use Rattle.ring_walk.proofs.SideNumbers.{same_side-itself, same_side-true}

-- ---- rows of sides

pub last_after-append : (z y : Side) (xs ys : List Side) → last_after z (xs ++ y ∷ ys) ≡ last_after y ys
last_after-append z y [] ys = refl
last_after-append z y (x ∷ xs) ys = last_after-append x y xs ys

in_front_after-append : (z x : Side) (front back : List Side) → All (λ t. same_side t x ≡ false) front → in_front_after z x (front ++ x ∷ back) ≡ last_after z front
in_front_after-append z x [] back h = ap (λ (b : Bool). if b then z else in_front_after x x back) (same_side-itself x)
in_front_after-append z x (t ∷ front) back h =
    ap (λ (b : Bool). if b then z else in_front_after t x (front ++ x ∷ back)) (All-head (λ u. same_side u x ≡ false) t front h)
    ∙ in_front_after-append t x front back (All-tail (λ u. same_side u x ≡ false) t front h)

-- in front of a side stands the last one before it, or else the last one after it
pub in_front-append : (x : Side) (front back : List Side) → All (λ t. same_side t x ≡ false) front → in_front x (front ++ x ∷ back) ≡ last_after (last_after x back) front
in_front-append x front back h = ap (λ (z : Side). in_front_after z x (front ++ x ∷ back)) (last_after-append x x front back) ∙ in_front_after-append (last_after x back) x front back h

-- the last of a row of spokes
last_of_take : (p : Spoke) (ps : List Spoke) (m : ℕ) (d : Spoke) → m ≤ length ps → last_after p.side (sides_in (take m ps)) ≡ (get_or (p ∷ ps) m d).side
last_of_take p ps zero d l = refl
last_of_take p [] (suc m) d l = absurd (omega arith)
last_of_take p (q ∷ ps) (suc m) d l = last_of_take q ps m d (omega arith)

-- ---- lists that a filter keeps whole

filter_whole : {A : Type 0} (p : A → Bool) (xs : List A) → All (λ x. p x ≡ true) xs → filter p xs ≡ xs
filter_whole p [] h = refl
filter_whole p (x ∷ xs) h =
    ap (λ (b : Bool). cond b (x ∷ filter p xs) (filter p xs)) (All-head (λ y. p y ≡ true) x xs h)
    ∙ ap (λ ys. x ∷ ys) (filter_whole p xs (All-tail (λ y. p y ≡ true) x xs h))

-- ---- sorted spokes

module _ (spokes : List Spoke) (o : AreOrdered spokes) where
  not_first : (a b : Bool) → (a || b) ≡ false → a ≡ false
  not_first true b e = absurd (true≢false e)
  not_first false b e = refl

  -- the nodes do not descend
  ascend : (i j : ℕ) (d : Spoke) → i ≤ j → j < length spokes → point_before (get_or spokes j d).node (get_or spokes i d).node ≡ false
  ascend i j d l m = not_first _ _ (sorted_far before before_order spokes o.sorted i j d l m)

  -- between two spokes of one node there is no other
  between : (i j k : ℕ) (d : Spoke) → i ≤ j → j ≤ k → k < length spokes → (get_or spokes i d).node ≡ (get_or spokes k d).node → (get_or spokes j d).node ≡ (get_or spokes k d).node
  between i j k d l m n e = decided points (get_or spokes j d).node (get_or spokes k d).node
      (subst (λ (v : Point). point_before (get_or spokes j d).node v ≡ false) e (ascend i j d l (omega arith)))
      (false_from_ne_true (point_before (get_or spokes k d).node (get_or spokes j d).node) (λ f. true≢false (sym f ∙ ascend j k d m n)))

  module _ (i : ℕ) (d : Spoke) (inside : i < length spokes) where
    abbrev p : Spoke
    p = get_or spokes i d

    abbrev v : Point
    v = p.node

    -- the spokes of the node, as those before this one, this one, and those after it
    at_node : filter (leaves v) spokes ≡ filter (leaves v) (take i spokes) ++ p ∷ filter (leaves v) (drop (i + 1) spokes)
    at_node =
        ap (filter (leaves v)) (sym (take-append-drop i spokes) ∙ ap (λ (ps : List Spoke). take i spokes ++ ps) (drop_more spokes i d inside))
        ∙ filter-append (leaves v) (take i spokes) (p ∷ drop (i + 1) spokes)
        ∙ ap (λ (b : Bool). filter (leaves v) (take i spokes) ++ cond b (p ∷ filter (leaves v) (drop (i + 1) spokes)) (filter (leaves v) (drop (i + 1) spokes))) (points.itself v)

    -- none of those before it has its side
    other_side : (k : ℕ) → k < i → same_side (get_or spokes k d).side p.side ≡ false
    other_side k l = false_from_ne_true (same_side (get_or spokes k d).side p.side) (λ e. o.differ k i d l inside (same_side-true (get_or spokes k d).side p.side e))

    differ : All (λ t. same_side t p.side ≡ false) (sides_in (filter (leaves v) (take i spokes)))
    differ = All-map (λ (t : Side). same_side t p.side ≡ false) (λ (q : Spoke). q.side) (filter (leaves v) (take i spokes))
        (All-filter (leaves v) (λ q. same_side q.side p.side ≡ false) (take i spokes) (λ k e l.
        let below : k < i = omega (arith, l, length-take-le spokes) in
        let short : k < length spokes = omega (arith, below, inside) in
        subst (λ (q : Spoke). same_side q.side p.side ≡ false) (sym (get_or-take i spokes k e below ∙ get_or_default spokes k e d short)) (other_side k below)))
      where
        length-take-le : (qs : List Spoke) → length (take i qs) ≤ i
        length-take-le qs = omega (arith, length-take i qs)

    split : in_front p.side (sides_in (filter (leaves v) spokes)) ≡ last_after (last_after p.side (sides_in (filter (leaves v) (drop (i + 1) spokes)))) (sides_in (filter (leaves v) (take i spokes)))
    split =
        ap (λ (ps : List Spoke). in_front p.side (sides_in ps)) at_node
        ∙ ap (in_front p.side) (map-append (λ (q : Spoke). q.side) (filter (leaves v) (take i spokes)) (p ∷ filter (leaves v) (drop (i + 1) spokes)))
        ∙ in_front-append p.side (sides_in (filter (leaves v) (take i spokes))) (sides_in (filter (leaves v) (drop (i + 1) spokes))) differ

    -- the one before it leaves its node
    pub front_before : (j : ℕ) → j + 1 ≡ i → (get_or spokes j d).node ≡ v → (get_or spokes j d).side ≡ in_front p.side (sides_in (filter (leaves v) spokes))
    front_before j e f =
        let q = get_or spokes j d in
        let short : j < length spokes = omega (arith, e, inside) in
        let cut : take i spokes ≡ take j spokes ++ q ∷ [] = ap (λ (k : ℕ). take k spokes) (sym e) ∙ take_more spokes j d short in
        let kept : filter (leaves v) (take i spokes) ≡ filter (leaves v) (take j spokes) ++ q ∷ [] =
        ap (filter (leaves v)) cut ∙ filter-append (leaves v) (take j spokes) (q ∷ [])
        ∙ ap (λ (b : Bool). filter (leaves v) (take j spokes) ++ cond b (q ∷ []) []) (subst (λ (u : Point). same_point q.node u ≡ true) f (points.itself q.node)) in
        sym (
        split
        ∙ ap (λ (ps : List Spoke). last_after (last_after p.side (sides_in (filter (leaves v) (drop (i + 1) spokes)))) (sides_in ps)) kept
        ∙ ap (last_after (last_after p.side (sides_in (filter (leaves v) (drop (i + 1) spokes))))) (map-append (λ (r : Spoke). r.side) (filter (leaves v) (take j spokes)) (q ∷ []))
        ∙ last_after-append (last_after p.side (sides_in (filter (leaves v) (drop (i + 1) spokes)))) q.side (sides_in (filter (leaves v) (take j spokes))) []
        )

    other_node : (q : Spoke) → q.node ≢ v → leaves v q ≡ false
    other_node q n = false_from_ne_true (leaves v q) (λ e. n (points.same q.node v e))

    -- where the one before it leaves another node, it is the first of its node
    none_before : ((j : ℕ) → j + 1 ≡ i → (get_or spokes j d).node ≢ v) → filter (leaves v) (take i spokes) ≡ []
    none_before first = filter_none (leaves v) (take i spokes) (λ k e l.
        let below : k < i = omega (arith, l, length-take i spokes) in
        let short : k < length spokes = omega (arith, below, inside) in
        subst (λ (q : Spoke). leaves v q ≡ false) (sym (get_or-take i spokes k e below ∙ get_or_default spokes k e d short))
        (other_node (get_or spokes k d) (λ f. first (i - 1) (omega (arith, below)) (between k (i - 1) i d (omega (arith, below)) (omega arith) inside f))))

    -- and the last one of the node stands in front of it
    pub front_last : (j : ℕ) → i ≤ j → j < length spokes → ((k : ℕ) → i ≤ k → k ≤ j → (get_or spokes k d).node ≡ v) → (j + 1 < length spokes → (get_or spokes (j + 1) d).node ≢ v)
        → ((k : ℕ) → k + 1 ≡ i → (get_or spokes k d).node ≢ v) → (get_or spokes j d).side ≡ in_front p.side (sides_in (filter (leaves v) spokes))
    front_last j reached within same ends first =
        let rest = drop (i + 1) spokes in
        let m = j - i in
        let cut : rest ≡ take m rest ++ drop m rest = sym (take-append-drop m rest) in
        let whole : filter (leaves v) (take m rest) ≡ take m rest = filter_whole (leaves v) (take m rest) (λ k e l.
        let below : k < m = omega (arith, l, length-take m rest) in
        let short : i + 1 + k < length spokes = omega (arith, below, within, reached) in
        subst (λ (q : Spoke). leaves v q ≡ true) (sym (get_or-take m rest k e below ∙ get_or-drop (i + 1) spokes k e ∙ get_or_default spokes (i + 1 + k) e d short))
        (subst (λ (u : Point). same_point u v ≡ true) (sym (same (i + 1 + k) (omega arith) (omega (arith, below, reached)))) (points.itself v))) in
        let none : filter (leaves v) (drop m rest) ≡ [] = filter_none (leaves v) (drop m rest) (λ k e l.
        let short : j + 1 + k < length spokes = omega (arith, l, length-drop m rest, length-drop (i + 1) spokes, reached, within) in
        let place : i + 1 + (m + k) ≡ j + 1 + k = omega (arith, reached) in
        subst (λ (q : Spoke). leaves v q ≡ false) (sym (get_or-drop m rest k e ∙ get_or-drop (i + 1) spokes (m + k) e ∙ ap (λ (n : ℕ). get_or spokes n e) place ∙ get_or_default spokes (j + 1 + k) e d short))
        (other_node (get_or spokes (j + 1 + k) d) (λ f. ends (omega (arith, short))
        (between i (j + 1) (j + 1 + k) d (omega (arith, reached)) (omega arith) short (sym f) ∙ f)))) in
        let after : filter (leaves v) rest ≡ take m rest = ap (filter (leaves v)) cut ∙ filter-append (leaves v) (take m rest) (drop m rest) ∙ ap₂ (λ (xs ys : List Spoke). xs ++ ys) whole none ∙ append-nil (take m rest) in
        let long : m ≤ length rest = omega (arith, length-drop (i + 1) spokes, reached, within) in
        sym (
        split
        ∙ ap₂ (λ (xs ys : List Spoke). last_after (last_after p.side (sides_in xs)) (sides_in ys)) after (none_before first)
        ∙ last_of_take p rest m d long
        ∙ ap (λ (ps : List Spoke). (get_or ps m d).side) (sym (drop_more spokes i d inside))
        ∙ ap (λ (q : Spoke). q.side) (get_or-drop i spokes m d ∙ ap (λ (n : ℕ). get_or spokes n d) (omega (arith, reached)))
        )
