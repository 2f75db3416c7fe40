-- The least place among those of the listed arcs is the first of all.
use Rattle.std.proofs.Common.{◌≡◌, ◌∙◌, ℕ, ◌+◌, ◌<◌, eqb, nat_le, true, false, List, [], ◌∷◌, length, get_or, take, Option, Some, None, refl, sym, ap, subst, arith}
use Rattle.std.specs.Prelude.{option_map}
use Rattle.std.specs.List.{list_any}
use Rattle.std.proofs.lemmas.Bool.{or_left, or_right, leb-true, leb-false, cond-true, cond-false, eqb-true}
use Rattle.std.proofs.lemmas.List.{get_or_past}
use Rattle.std.proofs.lemmas.List.Folds.{list_any_more}
use Rattle.tgap_model.specs.declared.geometry.Point.{Point}
use Rattle.tgap_model.specs.declared.base.BaseArc.{BaseArc}
use Rattle.tgap_model.specs.Base.{same_point}
use Rattle.edit_laws.specs.Edits.{are_ends}
use Rattle.edit_laws.proofs.Cases.{by_test, by_option}
use Rattle.map_version.specs.declared.arcs.Place.{Place}
use Rattle.map_version.specs.declared.path.Sought.{Sought}
use Rattle.map_version.specs.declared.path.Sought.TheVariants.{Segment, Inner, Any}
use Rattle.arc_places.specs.Places.{is_among, Covers}
use Rattle.arc_places.proofs.Listed.{passes_here}
use Rattle.map_version.specs.Positions.{segment_at, inner_at, position, sought_point, first_place}
use Rattle.map_version.specs.Firsts.{earlier, pair_of}
use Rattle.map_version.proofs.Firsts.{points_at, first_at, nowhere}
use Rattle.map_version.proofs.InSlots.{numbered}
use Rattle.map_version.proofs.Points.{position_has}

-- Of the arcs that are listed this place is in the least one in which something is found.
abbrev pub IsLeast : (List Point → Option ℕ) → List BaseArc → List ℕ → Option Place → Type 0
IsLeast find arcs numbers None = (j : ℕ) → is_among j numbers ≡ true → find (points_at arcs j) ≡ None
IsLeast find arcs numbers (Some s) =
    (find (points_at arcs s.slot) ≡ Some s.at) × ((j : ℕ) → is_among j numbers ≡ true → j < s.slot → find (points_at arcs j) ≡ None)

-- among one more
among_more : (numbers : List ℕ) (n j : ℕ) → n < length numbers → is_among j (take (n + 1) numbers) ≡ true → {P : Type 0} → (is_among j (take n numbers) ≡ true → P) → (get_or numbers n 0 ≡ j → P) → P
among_more numbers n j lt e before here =
    by_test (is_among j (take n numbers))
    (λ t. before t)
    (λ f. here (eqb-true (get_or numbers n 0) j (rw f at (sym (list_any_more (λ i. eqb i j) numbers n 0 lt) ∙ e))))

pub least_more : (find : List Point → Option ℕ) (arcs : List BaseArc) (numbers : List ℕ) (n : ℕ) (first : Option Place) (found : Option ℕ) → n < length numbers
    → find (points_at arcs (get_or numbers n 0)) ≡ found → IsLeast find arcs (take n numbers) first
    → IsLeast find arcs (take (n + 1) numbers) (earlier first (get_or numbers n 0) found)
least_more find arcs numbers n None None lt here least = λ j e.
    among_more numbers n j lt e (λ before. least j before) (λ same. subst (λ (i : ℕ). find (points_at arcs i) ≡ None) same here)
least_more find arcs numbers n None (Some at) lt here least =
    (here, λ j e less. among_more numbers n j lt e (λ before. least j before) (λ same. absurd (omega arith)))
least_more find arcs numbers n (Some s) None lt here least =
    (least.0, λ j e less. among_more numbers n j lt e (λ before. least.1 j before less) (λ same. subst (λ (i : ℕ). find (points_at arcs i) ≡ None) same here))
least_more find arcs numbers n (Some s) (Some at) lt here least =
    let i = get_or numbers n 0 in
    let this : Place = record { slot = i; at = at } in
    by_test (nat_le s.slot i)
    (λ t. subst (IsLeast find arcs (take (n + 1) numbers)) (sym (cond-true (nat_le s.slot i) (Some s) (Some this) t))
    (least.0, λ j e less. among_more numbers n j lt e (λ before. least.1 j before less) (λ same. absurd (let le = leb-true s.slot i t in omega arith))))
    (λ f. subst (IsLeast find arcs (take (n + 1) numbers)) (sym (cond-false (nat_le s.slot i) (Some s) (Some this) f))
    (here, λ j e less. among_more numbers n j lt e (λ before. least.1 j before (let gt = leb-false s.slot i f in omega arith)) (λ same. absurd (omega arith))))

-- ---- the least place is the first

-- all arcs in which something is found are listed
abbrev pub FindsListed : (List Point → Option ℕ) → List BaseArc → List ℕ → Type 0
FindsListed find arcs numbers = (j k : ℕ) → find (points_at arcs j) ≡ Some k → is_among j numbers ≡ true

-- there is no point in an arc past the last
past_last : (find : List Point → Option ℕ) (arcs : List BaseArc) (i k : ℕ) → find [] ≡ None → find (points_at arcs i) ≡ Some k → i < length arcs
past_last find arcs i k none e =
    by_test (nat_le (length arcs) i)
    (λ t. absurd (
    let past : points_at arcs i ≡ [] = ap (λ (a : BaseArc). a.points) (get_or_past arcs i (record { left = 0; right = 0; points = [] }) (leb-true (length arcs) i t)) in
    let f = ap find past in
    cc))
    (λ f. leb-false (length arcs) i f)

-- the slot and the position
abbrev pub slot_and_position : Place → ℕ × ℕ
slot_and_position place = (place.slot, place.at)

pub least_is_first : (find : List Point → Option ℕ) (arcs : List BaseArc) (numbers : List ℕ) (first : Option Place) → find [] ≡ None → FindsListed find arcs numbers
    → IsLeast find arcs numbers first → option_map slot_and_position first ≡ first_place find arcs
least_is_first find arcs numbers None none listed least =
    sym (nowhere find arcs (λ j. by_option (find (points_at arcs j)) (λ e. e) (λ k e. least j (listed j k e))))
least_is_first find arcs numbers (Some s) none listed least =
    sym (first_at find arcs s.slot s.at (past_last find arcs s.slot s.at none least.0) least.0
    (λ j lt. by_option (find (points_at arcs j)) (λ e. e) (λ k e. least.1 j (listed j k e) lt)))

pub least_within : (find : List Point → Option ℕ) (arcs : List BaseArc) (numbers : List ℕ) (s : Place) → find [] ≡ None → IsLeast find arcs numbers (Some s) → s.slot < length arcs
least_within find arcs numbers s none least = past_last find arcs s.slot s.at none least.0

-- the pair of a place, by the number of its arc
pub numbered_first : (slots : List BaseArc) (first : Option Place)
    → option_map (pair_of slots) first ≡ option_map (numbered slots) (option_map slot_and_position first)
numbered_first slots None = refl
numbered_first slots (Some s) = refl

-- ---- what is sought stands at its point

segment_has : (a b : Point) (points : List Point) (k : ℕ) → segment_at a b points ≡ Some k → list_any (same_point a) points ≡ true
segment_has a b [] k e = absurd cc
segment_has a b (p ∷ []) k e = absurd cc
segment_has a b (p ∷ q ∷ points) k e =
    by_test (same_point a p)
    (λ t. or_left (same_point a p) (list_any (same_point a) (q ∷ points)) t)
    (λ f. by_test (same_point a q)
    (λ t. or_right (same_point a p) (list_any (same_point a) (q ∷ points)) (or_left (same_point a q) (list_any (same_point a) points) t))
    (λ g. let none : are_ends a b p q ≡ false = rw (f, g) refl in
    by_option (segment_at a b (q ∷ points))
    (λ nothing. absurd (let h : segment_at a b (p ∷ q ∷ points) ≡ None = rw (none, segment_at, nothing) refl in cc))
    (λ n some. or_right (same_point a p) (list_any (same_point a) (q ∷ points)) (segment_has a b (q ∷ points) n some))))

inner_has : (old : Point) (points : List Point) (k : ℕ) → inner_at old points ≡ Some k → list_any (same_point old) points ≡ true
inner_has old [] k e = absurd cc
inner_has old (p ∷ []) k e = absurd cc
inner_has old (p ∷ q ∷ []) k e = absurd cc
inner_has old (p ∷ q ∷ r ∷ points) k e =
    by_test (same_point old q)
    (λ t. or_right (same_point old p) (list_any (same_point old) (q ∷ r ∷ points)) (or_left (same_point old q) (list_any (same_point old) (r ∷ points)) t))
    (λ f. by_option (inner_at old (q ∷ r ∷ points))
    (λ nothing. absurd (let h : inner_at old (p ∷ q ∷ r ∷ points) ≡ None = rw (f, inner_at, nothing) refl in cc))
    (λ n some. or_right (same_point old p) (list_any (same_point old) (q ∷ r ∷ points)) (inner_has old (q ∷ r ∷ points) n some)))

sought_has : (sought : Sought) (points : List Point) (k : ℕ) → position sought points ≡ Some k → list_any (same_point (sought_point sought)) points ≡ true
sought_has (Segment a b) points k e = segment_has a b points k e
sought_has (Inner old) points k e = inner_has old points k e
sought_has (Any p) points k e = position_has (same_point p) points k e

-- without points there is nothing
pub nothing_there : (sought : Sought) → position sought [] ≡ None
nothing_there (Segment a b) = refl
nothing_there (Inner old) = refl
nothing_there (Any p) = refl

-- so each arc in which it is found is listed for that point
pub finds_listed : (lists : Point → List ℕ) (arcs : List BaseArc) (sought : Sought) → Covers lists arcs → FindsListed (position sought) arcs (lists (sought_point sought))
finds_listed lists arcs sought covers j k e =
    covers (sought_point sought) j (passes_here (sought_point sought) arcs j ∙ sought_has sought (points_at arcs j) k e)
