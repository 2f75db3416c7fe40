-- What is found in slots, and what is changed there, is so in the arcs that are there.
use Rattle.std.proofs.Common.{◌≡◌, ◌∙◌, ℕ, zero, suc, ◌<◌, ◌≤◌, nat_lt, Bool, true, false, ◌&&◌, ◌||◌, cond, List, [], ◌∷◌, ◌++◌, length, filter, map, take, drop, set, ◌+◌, ◌-◌, Option, Some, None, refl, sym, ap, arith}
use Rattle.std.specs.Prelude.{option_map}
use Rattle.std.specs.List.{list_any, list_all}
use Rattle.std.proofs.lemmas.Bool.{and_from, and_parts, or_left, or_right, false≢true, lt-ltb, ltb-true, ltb-false}
use Rattle.std.proofs.lemmas.List.{length-drop, length-map, length-take-le}
use Rattle.std.proofs.lemmas.List.Elements.{filter-append}
use Rattle.tgap_model.specs.declared.geometry.Point.{Point}
use Rattle.tgap_model.specs.declared.base.BaseArc.{BaseArc}
use Rattle.tgap_model.specs.Base.{same_point, is_arc, borders_face}
use Rattle.tgap_model.specs.Chains.{arc_number}
use Rattle.tgap_model.proofs.BaseFacts.{arc_facts}
use Rattle.edit_laws.specs.Edits.{has_point, is_node, with_points, move_all, moved}
use Rattle.edit_laws.proofs.Cases.{by_test, by_option}
use Rattle.face_cuts.specs.Nodes.{passes, split_at}
use Rattle.arc_places.specs.Slots.{arcs_in, is_there, number_of}
use Rattle.arc_places.specs.Places.{arc_passes, Covers}
use Rattle.arc_places.specs.Borders.{CoversFaces, is_beside}
use Rattle.arc_places.proofs.SlotNumbers.{arc_there}
use Rattle.map_version.specs.Indexed.{ends_there}
use Rattle.map_version.specs.Positions.{first_place, changed_at}
use Rattle.map_version.proofs.Firsts.{changed_is_set, place_here, place_there}

-- ---- what is there

pub there : (a : BaseArc) → 1 ≤ length a.points → is_there a ≡ true
there a some = lt-ltb 0 (length a.points) (omega arith)

pub some_points : (a : BaseArc) → is_there a ≡ true → 1 ≤ length a.points
some_points a e = (let lt = ltb-true 0 (length a.points) e in omega arith)

pub no_points : (points : List Point) → nat_lt 0 (length points) ≡ false → points ≡ []
no_points [] e = refl
no_points (p ∷ points) e = absurd (let le = ltb-false 0 (length (p ∷ points)) e in omega arith)

-- all arcs of a base map are
pub all_there : (n : ℕ) (arcs : List BaseArc) → list_all (is_arc n) arcs ≡ true → arcs_in arcs ≡ arcs
all_there n [] all = refl
all_there n (a ∷ arcs) all =
    let parts = and_parts (is_arc n a) (list_all (is_arc n) arcs) all in
    let here : is_there a ≡ true = (let long = (arc_facts n a parts.0).two_points in there a (omega arith)) in
    ap (λ (b : Bool). cond b (a ∷ arcs_in arcs) (arcs_in arcs)) here ∙ ap (λ (rest : List BaseArc). a ∷ rest) (all_there n arcs parts.1)

-- what is there is so among those that are
pub there_again : (slots : List BaseArc) → arcs_in (arcs_in slots) ≡ arcs_in slots
there_again [] = refl
there_again (a ∷ slots) =
    by_test (is_there a)
    (λ t.
    ap (λ (b : Bool). arcs_in (cond b (a ∷ arcs_in slots) (arcs_in slots))) t
    ∙ ap (λ (b : Bool). cond b (a ∷ arcs_in (arcs_in slots)) (arcs_in (arcs_in slots))) t
    ∙ ap (λ (rest : List BaseArc). a ∷ rest) (there_again slots)
    ∙ ap (λ (b : Bool). cond b (a ∷ arcs_in slots) (arcs_in slots)) (sym t))
    (λ f.
    ap (λ (b : Bool). arcs_in (cond b (a ∷ arcs_in slots) (arcs_in slots))) f
    ∙ there_again slots
    ∙ ap (λ (b : Bool). cond b (a ∷ arcs_in slots) (arcs_in slots)) (sym f))

-- ---- what is found

-- some arc passes a test where some slot has one that is there and passes
pub any_in : (test : BaseArc → Bool) (slots : List BaseArc) → list_any test (arcs_in slots) ≡ list_any (λ a. is_there a && test a) slots
any_in test [] = refl
any_in test (a ∷ slots) = by (is_there a) (any_in test slots)
  where
    by : (b : Bool) → list_any test (arcs_in slots) ≡ list_any (λ a. is_there a && test a) slots
        → list_any test (cond b (a ∷ arcs_in slots) (arcs_in slots)) ≡ ((b && test a) || list_any (λ a. is_there a && test a) slots)
    by true h = ap (λ (r : Bool). test a || r) h
    by false h = h

-- an arc that has a point is there
there_has : (p : Point) (points : List Point) → (nat_lt 0 (length points) && list_any (same_point p) points) ≡ list_any (same_point p) points
there_has p [] = refl
there_has p (q ∷ points) =
    let here : nat_lt 0 (length (q ∷ points)) ≡ true = lt-ltb 0 (length (q ∷ points)) (omega arith) in
    ap (λ (b : Bool). b && list_any (same_point p) (q ∷ points)) here

pub has_in : (p : Point) (slots : List BaseArc) → has_point p (arcs_in slots) ≡ list_any (passes p) slots
has_in p slots = any_in (passes p) slots ∙ same slots
  where
    same : (xs : List BaseArc) → list_any (λ a. is_there a && passes p a) xs ≡ list_any (passes p) xs
    same [] = refl
    same (a ∷ xs) =
        ap (λ (b : Bool). b || list_any (λ (a : BaseArc). is_there a && passes p a) xs) (there_has p a.points)
        ∙ ap (λ (r : Bool). passes p a || r) (same xs)

pub node_in : (p : Point) (slots : List BaseArc) → is_node p (arcs_in slots) ≡ list_any (ends_there p) slots
node_in p slots = any_in _ slots

-- a place by the number of its arc, and one in the next arc
abbrev pub numbered : List BaseArc → ℕ × ℕ → ℕ × ℕ
numbered slots s = (number_of slots s.0, s.1)

abbrev pub next_arc : ℕ × ℕ → ℕ × ℕ
next_arc s = (suc s.0, s.1)

-- the first place in the slots is that in the arcs that are there
pub first_in : (find : List Point → Option ℕ) → find [] ≡ None → (slots : List BaseArc)
    → first_place find (arcs_in slots) ≡ option_map (numbered slots) (first_place find slots)
first_in find none [] = refl
first_in find none (a ∷ slots) =
    by_test (is_there a)
    (λ t.
    let front : arcs_in (a ∷ slots) ≡ a ∷ arcs_in slots = ap (λ (b : Bool). cond b (a ∷ arcs_in slots) (arcs_in slots)) t in
    by_option (find a.points)
    (λ nothing.
    ap (first_place find) front
    ∙ (place_there find a (arcs_in slots) nothing
    ∙ (ap (option_map next_arc) (first_in find none slots)
    ∙ (next (first_place find slots) (λ i. ap (λ (b : Bool). length (cond b (a ∷ arcs_in (take i slots)) (arcs_in (take i slots)))) t)
    ∙ sym (ap (option_map (numbered (a ∷ slots))) (place_there find a slots nothing))))))
    (λ k some.
    ap (first_place find) front
    ∙ (place_here find a (arcs_in slots) k some
    ∙ sym (ap (option_map (numbered (a ∷ slots))) (place_here find a slots k some)))))
    (λ f.
    let front : arcs_in (a ∷ slots) ≡ arcs_in slots = ap (λ (b : Bool). cond b (a ∷ arcs_in slots) (arcs_in slots)) f in
    let nothing : find a.points ≡ None = ap find (no_points a.points f) ∙ none in
    ap (first_place find) front
    ∙ (first_in find none slots
    ∙ (same (first_place find slots) (λ i. ap (λ (b : Bool). length (cond b (a ∷ arcs_in (take i slots)) (arcs_in (take i slots)))) f)
    ∙ sym (ap (option_map (numbered (a ∷ slots))) (place_there find a slots nothing)))))
  where
    next : (o : Option (ℕ × ℕ)) → ((i : ℕ) → number_of (a ∷ slots) (suc i) ≡ suc (number_of slots i))
        → option_map next_arc (option_map (numbered slots) o)
        ≡ option_map (numbered (a ∷ slots)) (option_map next_arc o)
    next None h = refl
    next (Some s) h = ap (λ (n : ℕ). let x : ℕ × ℕ = (n, s.1) in Some x) (sym (h s.0))

    same : (o : Option (ℕ × ℕ)) → ((i : ℕ) → number_of (a ∷ slots) (suc i) ≡ number_of slots i)
        → option_map (numbered slots) o
        ≡ option_map (numbered (a ∷ slots)) (option_map next_arc o)
    same None h = refl
    same (Some s) h = ap (λ (n : ℕ). let x : ℕ × ℕ = (n, s.1) in Some x) (sym (h s.0))

-- ---- what is changed

-- each arc becomes another one, and what is there stays there
pub map_in : (f : BaseArc → BaseArc) → ((a : BaseArc) → is_there (f a) ≡ is_there a) → (slots : List BaseArc) → arcs_in (map f slots) ≡ map f (arcs_in slots)
map_in f same [] = refl
map_in f same (a ∷ slots) =
    ap (λ (b : Bool). cond b (f a ∷ arcs_in (map f slots)) (arcs_in (map f slots))) (same a) ∙ by (is_there a) (map_in f same slots)
  where
    by : (b : Bool) → arcs_in (map f slots) ≡ map f (arcs_in slots)
        → cond b (f a ∷ arcs_in (map f slots)) (arcs_in (map f slots)) ≡ map f (cond b (a ∷ arcs_in slots) (arcs_in slots))
    by true h = ap (λ (rest : List BaseArc). f a ∷ rest) h
    by false h = h

moved_there : (old new : Point) (a : BaseArc) → is_there (with_points a (map (moved old new) a.points)) ≡ is_there a
moved_there old new a = ap (nat_lt 0) (length-map a.points (moved old new))

pub move_in : (old new : Point) (slots : List BaseArc) → arcs_in (move_all old new slots) ≡ move_all old new (arcs_in slots)
move_in old new slots = map_in (λ a. with_points a (map (moved old new) a.points)) (λ a. moved_there old new a) slots

-- one of them has other points
pub changed_in : (slots : List BaseArc) (i : ℕ) (change : List Point → List Point) → i < length slots → is_there (arc_number slots i) ≡ true
    → is_there (with_points (arc_number slots i) (change (arc_number slots i).points)) ≡ true
    → arcs_in (changed_at i change slots) ≡ changed_at (number_of slots i) change (arcs_in slots)
changed_in [] i change lt e f = absurd (omega arith)
changed_in (b ∷ slots) zero change lt e f =
    ap (λ (t : Bool). cond t (with_points b (change b.points) ∷ arcs_in slots) (arcs_in slots)) f
    ∙ sym (ap (λ (t : Bool). changed_at 0 change (cond t (b ∷ arcs_in slots) (arcs_in slots))) e)
changed_in (b ∷ slots) (suc i) change lt e f = by (is_there b) (changed_in slots i change (omega arith) e f)
  where
    front : List BaseArc
    front = filter is_there (take i slots)

    by : (t : Bool) → arcs_in (changed_at i change slots) ≡ changed_at (length front) change (arcs_in slots)
        → cond t (b ∷ arcs_in (changed_at i change slots)) (arcs_in (changed_at i change slots))
        ≡ changed_at (length (cond t (b ∷ front) front)) change (cond t (b ∷ arcs_in slots) (arcs_in slots))
    by true h = ap (λ (arcs : List BaseArc). b ∷ arcs) h
    by false h = h

-- ---- the faces of what is changed

-- an arc passes afterwards only where the one that was changed passed before
pub passes_changed : (test : BaseArc → Bool) (i : ℕ) (change : List Point → List Point) (slots : List BaseArc)
    → (test (with_points (arc_number slots i) (change (arc_number slots i).points)) ≡ true → test (arc_number slots i) ≡ true)
    → (j : ℕ) → arc_passes test (changed_at i change slots) j ≡ true → arc_passes test slots j ≡ true
passes_changed test i change [] back j e = e
passes_changed test zero change (a ∷ slots) back zero e = back e
passes_changed test zero change (a ∷ slots) back (suc j) e = e
passes_changed test (suc i) change (a ∷ slots) back zero e = e
passes_changed test (suc i) change (a ∷ slots) back (suc j) e = passes_changed test i change slots back j e

pub changed_borders : (lists : ℕ → List ℕ) (i : ℕ) (change : List Point → List Point) (slots : List BaseArc) → is_there (arc_number slots i) ≡ true
    → CoversFaces lists slots → CoversFaces lists (changed_at i change slots)
changed_borders lists i change slots here covers f j e =
    covers f j (passes_changed (is_beside f) i change slots
    (λ h. and_from (is_there (arc_number slots i)) (borders_face f (arc_number slots i)) here
    (and_parts (is_there (with_points (arc_number slots i) (change (arc_number slots i).points))) (borders_face f (arc_number slots i)) h).1) j e)

pub passes_all : (test : BaseArc → Bool) (f : BaseArc → BaseArc) → ((a : BaseArc) → test (f a) ≡ true → test a ≡ true) → (slots : List BaseArc) (i : ℕ)
    → arc_passes test (map f slots) i ≡ true → arc_passes test slots i ≡ true
passes_all test f back [] i e = e
passes_all test f back (a ∷ slots) zero e = back a e
passes_all test f back (a ∷ slots) (suc i) e = passes_all test f back slots i e

pub moved_borders : (lists : ℕ → List ℕ) (old new : Point) (slots : List BaseArc) → CoversFaces lists slots → CoversFaces lists (move_all old new slots)
moved_borders lists old new slots covers f j e =
    covers f j (passes_all (is_beside f) (λ a. with_points a (map (moved old new) a.points))
    (λ a h. sym (ap (λ (b : Bool). b && borders_face f a) (moved_there old new a)) ∙ h) slots j e)

-- points of an arc that were there before
pub changed_places : (lists : Point → List ℕ) (i : ℕ) (change : List Point → List Point) (slots : List BaseArc)
    → ((p : Point) → list_any (same_point p) (change (arc_number slots i).points) ≡ true → list_any (same_point p) (arc_number slots i).points ≡ true)
    → Covers lists slots → Covers lists (changed_at i change slots)
changed_places lists i change slots back covers p j e = covers p j (passes_changed (passes p) i change slots (back p) j e)

-- the first points and the last ones
pub any_taken : (test : Point → Bool) (k : ℕ) (points : List Point) → list_any test (take k points) ≡ true → list_any test points ≡ true
any_taken test zero points e = absurd (false≢true e)
any_taken test (suc k) [] e = e
any_taken test (suc k) (p ∷ points) e =
    by_test (test p)
    (λ t. or_left (test p) (list_any test points) t)
    (λ f. or_right (test p) (list_any test points) (any_taken test k points (rw f at e)))

-- ---- an arc that is split

pub split_in : (slots : List BaseArc) (i k : ℕ) → i < length slots → k < length (arc_number slots i).points
    → arcs_in (changed_at i (take (k + 1)) slots ++ with_points (arc_number slots i) (drop k (arc_number slots i).points) ∷ []) ≡ split_at (arcs_in slots) (number_of slots i, k)
split_in slots i k lt at =
    let a = arc_number slots i in
    let rest = with_points a (drop k a.points) in
    let here = there a (omega arith) in
    let long : length (drop k a.points) ≡ length a.points - k = length-drop k a.points in
    let front : length (take (k + 1) a.points) ≡ k + 1 = length-take-le (k + 1) a.points (omega arith) in
    let rest_there : is_there rest ≡ true = there rest (omega arith) in
    let front_there : is_there (with_points a (take (k + 1) a.points)) ≡ true = there (with_points a (take (k + 1) a.points)) (omega arith) in
    let number = arc_there slots i lt here in
    let n = number_of slots i in
    let arcs = arcs_in slots in
    filter-append is_there (changed_at i (take (k + 1)) slots) (rest ∷ [])
    ∙ (ap (λ (b : Bool). arcs_in (changed_at i (take (k + 1)) slots) ++ cond b (rest ∷ []) []) rest_there
    ∙ (ap (λ (xs : List BaseArc). xs ++ rest ∷ []) (changed_in slots i (take (k + 1)) lt here front_there
    ∙ changed_is_set n (take (k + 1)) arcs (record { left = 0; right = 0; points = [] }) number.within)
    ∙ ap (λ (b : BaseArc). set arcs n (with_points (arc_number arcs n) (take (k + 1) (arc_number arcs n).points)) ++ with_points b (drop k b.points) ∷ []) (sym number.same)))
