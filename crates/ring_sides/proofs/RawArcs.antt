-- What is known of the arcs and the rings of a topology that was read.
use Rattle.std.proofs.Common.{◌≡◌, ◌<◌, ◌≤◌, ℕ, suc, ◌+◌, ◌^◌, ◌-◌, not, Bool, true, false, ℤ, pos, negsuc, neg_ℤ, unsigned_abs, List, [], ◌∷◌, ◌++◌, length, get_or, take, map, sym, ap, subst, refl, ◌∙◌, arith, All, IsTrue}
use Rattle.std.specs.List.{list_all}
use Rattle.std.proofs.lemmas.Bool.{and_parts, leb-true, ltb-true, not-true, true≢false, false_from_ne_true}
use Rattle.std.proofs.lemmas.Int.{ints}
use Rattle.std.proofs.lemmas.List.{get_or-map, map_more}
use Rattle.std.proofs.lemmas.List.Elements.{All-get_or, All-weaker}
use Rattle.std.proofs.lemmas.List.Sums.{AllPass-from_list_all, get_or-le-sum_by}
use Rattle.lemmas.proofs.Signs.{Decides-int_le}
use Rattle.tgap_model.specs.declared.geometry.Point.{Point}
use Rattle.tgap_model.specs.declared.limits.TheConstants.{MAX_POINTS}
use Rattle.tgap_model.specs.Base.{in_limits, no_repeat, same_point}
use Rattle.tgap_model.specs.Bounds.{max_arc_area, IsNear}
use Rattle.tgap_model.specs.Point.{shoelace}
use Rattle.tgap_model.specs.Chains.{last_point}
use Rattle.topology_forms.specs.Topology.{names_arc}
use Rattle.topology_forms.specs.Rings.{arc_named, is_reversed, points_named, start_named, end_named, shoelace_named, is_raw_arc, is_raw_ring}
use Rattle.tgap_model.proofs.Points.{near_point, same_point-true, same_point-from}
use Rattle.ring_sides.specs.Arcs.{AreRawArcs, AreMeasured}
use Rattle.tgap_model.proofs.ShoelaceSums.{shoelace_size}

-- ---- one arc

pub record RawArcFacts (points : List Point) : Type 0 where
  pub some : 1 ≤ length points
  pub near : All IsNear points
  pub apart : no_repeat points ≡ true

pub raw_arc_facts : (points : List Point) → IsTrue (is_raw_arc points) → RawArcFacts points
raw_arc_facts points h =
    let repeat = and_parts _ _ h in
    let limits = and_parts _ _ repeat.0 in
    record {
      some = leb-true _ _ limits.0;
      near = All-weaker (λ p. in_limits p ≡ true) IsNear near_point points (AllPass-from_list_all in_limits points limits.1);
      apart = repeat.1;
    }

-- No point of an arc is repeated, so its points are one place only where it has one point.
pub one_place : (p a b : Point) (points : List Point) → no_repeat (a ∷ b ∷ points) ≡ true → list_all (same_point p) (a ∷ b ∷ points) ≡ false
one_place p a b points apart = false_from_ne_true (list_all (same_point p) (a ∷ b ∷ points)) (λ h.
    let first = and_parts (same_point p a) (list_all (same_point p) (b ∷ points)) h in
    let second = and_parts (same_point p b) (list_all (same_point p) points) first.1 in
    let same : a ≡ b = sym (same_point-true p a first.0) ∙ same_point-true p b second.0 in
    let differ = not-true (same_point a b) (and_parts (not (same_point a b)) (no_repeat (b ∷ points)) apart).0 in
    true≢false (sym (same_point-from a b same) ∙ differ))

-- ---- each arc

-- the arc of this number has its form
pub arc_formed : (arcs : List (List Point)) (i : ℕ) (d : List Point) → AreRawArcs arcs → i < length arcs → IsTrue (is_raw_arc (get_or arcs i d))
arc_formed arcs i d raw inside = All-get_or (λ a. is_raw_arc a ≡ true) arcs i d inside (AllPass-from_list_all is_raw_arc arcs raw.formed)

-- its points are within the limits
pub near_points : (arcs : List (List Point)) (i : ℕ) (arc points : List Point) → AreRawArcs arcs → i < length arcs → arc ≡ get_or arcs i arc → points ≡ arc → All IsNear points
near_points arcs i arc points raw inside here same =
    subst (All IsNear) (sym (same ∙ here)) (raw_arc_facts (get_or arcs i arc) (arc_formed arcs i arc raw inside)).near

-- and they are few
pub arc_short : (arcs : List (List Point)) (i : ℕ) (d : List Point) → AreRawArcs arcs → i < length arcs → length (get_or arcs i d) ≤ MAX_POINTS
arc_short arcs i d raw inside = omega (arith, raw.short, get_or-le-sum_by length arcs i d inside)

-- the shoelace sums up to an arc, and that of the arc
pub sums_more : (arcs : List (List Point)) (i : ℕ) (arc points : List Point) (sums : List ℤ) (z given : ℤ) → i < length arcs → arc ≡ get_or arcs i arc → points ≡ arc
    → sums ≡ map shoelace (take i arcs) → z ≡ shoelace points → given ≡ z → sums ++ given ∷ [] ≡ map shoelace (take (i + 1) arcs)
sums_more arcs i arc points sums z given inside here same so_far e is =
    let last : given ≡ shoelace (get_or arcs i arc) = is ∙ e ∙ ap shoelace (same ∙ here) in
    ap (λ zs. zs ++ given ∷ []) so_far ∙ ap (λ y. map shoelace (take i arcs) ++ y ∷ []) last ∙ sym (map_more shoelace arcs i arc inside)

-- its shoelace sum is one of those that are kept
pub arc_sum : (arcs : List (List Point)) (sums : List ℤ) (i : ℕ) (d : ℤ) → AreMeasured arcs sums → i < length arcs → get_or sums i d ≡ shoelace (get_or arcs i [])
arc_sum arcs sums i d known inside =
    ap (λ zs. get_or zs i d) known.measured ∙ get_or-map shoelace arcs i [] d inside

-- how large it is
pub arc_sum_size : (arcs : List (List Point)) (i : ℕ) → AreRawArcs arcs → i < length arcs → unsigned_abs (shoelace (get_or arcs i [])) ≤ max_arc_area
arc_sum_size arcs i raw inside =
    let facts = raw_arc_facts (get_or arcs i []) (arc_formed arcs i [] raw inside) in
    let size = shoelace_size (get_or arcs i []) facts.near in
    let short = arc_short arcs i [] raw inside in
    omega (arith, size, short)

-- ---- an index of a ring

-- the arc that it names is one of them
pub named_inside : (n : ℕ) (i : ℤ) → IsTrue (names_arc n i) → arc_named i < n
named_inside n (pos k) h = ltb-true k n (and_parts _ _ h).1
named_inside n (negsuc k) h =
    let low = (Decides-int_le (neg_ℤ (pos n)) (negsuc k)).0 (and_parts _ _ h).0 in
    omega (arith, ints, low)

-- the number that is kept for the arc that an index names is its shoelace sum, and is small
pub record IsSum (arcs : List (List Point)) (i : ℤ) (z : ℤ) : Type 0 where
  pub value : z ≡ shoelace (points_named arcs i)
  pub size : unsigned_abs z ≤ max_arc_area

pub named_sum : (inside arcs : List (List Point)) (sums : List ℤ) (i j z : ℤ) (k : ℕ) → inside ≡ arcs → AreMeasured inside sums
    → IsTrue (names_arc (length arcs) i) → j ≡ i → k ≡ arc_named j → z ≡ get_or sums k z → IsSum arcs i z
named_sum inside arcs sums i j z k view known named same e read =
    let few : arc_named i < length inside = omega (arith, named_inside (length arcs) i named, ap length view) in
    let place : k ≡ arc_named i = e ∙ ap arc_named same in
    let sum : z ≡ shoelace (get_or inside (arc_named i) []) = read ∙ ap (λ n. get_or sums n z) place ∙ arc_sum inside sums (arc_named i) z known few in
    record {
      value = sum ∙ ap (λ a. shoelace (get_or a (arc_named i) [])) view;
      size = subst (λ (y : ℤ). unsigned_abs y ≤ max_arc_area) (sym sum) (arc_sum_size inside (arc_named i) known.raw few);
    }

-- a ring that takes the arc from its last point to its first adds the negative of the sum
pub minus_named : (arcs : List (List Point)) (i j z : ℤ) (turned : Bool) → z ≡ shoelace (points_named arcs j) → j ≡ i → turned ≡ is_reversed j → turned ≡ true
    → neg_ℤ z ≡ shoelace_named arcs i
minus_named arcs (pos n) j z turned sum same e is = absurd (true≢false (sym is ∙ e ∙ ap is_reversed same))
minus_named arcs (negsuc n) j z turned sum same e is = ap neg_ℤ (sum ∙ ap (λ k. shoelace (points_named arcs k)) same)

-- each index of a ring names an arc
pub ring_names : (n : ℕ) (ring : List ℤ) (k : ℕ) (d : ℤ) → IsTrue (is_raw_ring n ring) → k < length ring → IsTrue (names_arc n (get_or ring k d))
ring_names n ring k d raw inside =
    let parts = and_parts _ _ raw in
    All-get_or (λ i. names_arc n i ≡ true) ring k d inside (AllPass-from_list_all (names_arc n) ring parts.0)

-- its places have numbers of 32 bits
pub ring_few : (n : ℕ) (ring : List ℤ) → IsTrue (is_raw_ring n ring) → length ring < 2 ^ 32 - 1
ring_few n ring raw = ltb-true (length ring) (2 ^ 32 - 1) (and_parts _ _ raw).1

-- where the arc that is named ends and starts, at the last of its points
pub last_at : (points : List Point) (d : Point) → 1 ≤ length points → get_or points (length points - 1) d ≡ last_point points
last_at [] d some = absurd (omega arith)
last_at (p ∷ []) d some = refl
last_at (p ∷ q ∷ points) d some =
    let before : length (p ∷ q ∷ points) - 1 ≡ suc (length (q ∷ points) - 1) = omega arith in
    ap (λ n. get_or (p ∷ q ∷ points) n d) before ∙ last_at (q ∷ points) d (omega arith)

pub start_last : (arcs : List (List Point)) (i j : ℤ) (points : List Point) (d : Point) (turned : Bool) → points ≡ points_named arcs j → IsTrue (is_raw_arc points) → j ≡ i
    → turned ≡ is_reversed j → turned ≡ true → get_or points (length points - 1) d ≡ start_named arcs i
start_last arcs (pos n) j points d turned e raw same is h = absurd (true≢false (sym h ∙ is ∙ ap is_reversed same))
start_last arcs (negsuc n) j points d turned e raw same is h =
    last_at points d (raw_arc_facts points raw).some ∙ ap last_point (e ∙ ap (points_named arcs) same)

pub end_last : (arcs : List (List Point)) (i j : ℤ) (points : List Point) (d : Point) (turned : Bool) → points ≡ points_named arcs j → IsTrue (is_raw_arc points) → j ≡ i
    → turned ≡ is_reversed j → turned ≡ false → get_or points (length points - 1) d ≡ end_named arcs i
end_last arcs (pos n) j points d turned e raw same is h =
    last_at points d (raw_arc_facts points raw).some ∙ ap last_point (e ∙ ap (points_named arcs) same)
end_last arcs (negsuc n) j points d turned e raw same is h = absurd (true≢false (sym (ap is_reversed same) ∙ sym is ∙ h))

-- An arc of several points is not at one place.
pub not_at : (place : Point) (points : List Point) → IsTrue (is_raw_arc points) → (length points ≡ 1 → ⊥) → list_all (same_point place) points ≡ false
not_at place [] raw several = absurd (omega (arith, (raw_arc_facts [] raw).some))
not_at place (p ∷ []) raw several = absurd (several refl)
not_at place (p ∷ q ∷ points) raw several = one_place place p q points (raw_arc_facts (p ∷ q ∷ points) raw).apart
