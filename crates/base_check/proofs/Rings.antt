-- One pass over the spokes of all nodes, and the rings that it goes through.
use Rattle.std.proofs.Common.{◌≡◌, ◌≢◌, ◌⊎◌, inl, inr, ℕ, zero, suc, ◌+◌, ◌-◌, ◌<◌, ◌≤◌, ◌==◌, Bool, true, false, not, cond, if◌then◌else◌, List, [], ◌∷◌, ◌++◌, length, drop, get_or, flat_map, All, Option, Some, None, is_some, option_map, refl, sym, ap, ◌∙◌, subst, true≢false, pos, arith}
use Rattle.std.proofs.lemmas.Bool.{or_cases, or_left, or_right, not-true, false_from_ne_true, cases_eq}
use Rattle.std.proofs.lemmas.Bool.Decides.{nat_tests}
use Rattle.std.proofs.lemmas.List.{drop_more, drop_all, get_or_default}
use Rattle.std.proofs.lemmas.List.Elements.{All-head, All-tail}
use Rattle.lemmas.specs.Sorting.{is_before_first, is_sorted_by}
use Rattle.lemmas.proofs.Sorting.{sorted_next, sorted_tail}
use Rattle.tgap_model.specs.declared.geometry.Point.{Point}
use Rattle.tgap_model.specs.declared.fault.MapFault.{MapFault}
use Rattle.tgap_model.specs.Base.{same_point}
use Rattle.tgap_model.specs.Segment.{point_before}
use Rattle.tgap_model.specs.Partition.{first_fault}
use Rattle.base_check.specs.declared.spoke.NodeSpoke.{NodeSpoke}
use Rattle.base_check.specs.declared.ring.NodeGap.{NodeGap}
use Rattle.base_check.specs.Spokes.{disagrees, ring_ends, or_gap, gap_between, gap_from, gap_of}
use Rattle.grid_geo.proofs.PointOrder.{points}

pub or_gap-none : (o : Option NodeGap) → or_gap o None ≡ o
or_gap-none None = refl
or_gap-none (Some gap) = refl

or_gap-assoc : (o p q : Option NodeGap) → or_gap (or_gap o p) q ≡ or_gap o (or_gap p q)
or_gap-assoc None p q = refl
or_gap-assoc (Some gap) p q = refl

pub or_gap-some : (o later : Option NodeGap) → is_some o ≡ true → or_gap o later ≡ o
or_gap-some None later e = absurd (true≢false (sym e))
or_gap-some (Some gap) later e = refl

pub or_gap-later : (o later : Option NodeGap) → is_some o ≡ false → or_gap o later ≡ later
or_gap-later None later e = refl
or_gap-later (Some gap) later e = absurd (true≢false e)

-- ---- a step of the pass

-- a ring ends before these spokes: there is none, or the next one is at another node
abbrev pub ends_before : Point → List NodeSpoke → Bool
ends_before v [] = true
ends_before v (q ∷ spokes) = not (same_point v q.node)

ends_here : (first p : NodeSpoke) (i : ℕ) (rest : List NodeSpoke) → ends_before p.node rest ≡ true → gap_from first i (p ∷ rest) ≡ or_gap (gap_between p i first 0) (gap_of rest)
ends_here first p i [] e = sym (or_gap-none (gap_between p i first 0))
ends_here first p i (q ∷ rest) e =
    ap (λ (b : Bool). if b then or_gap (gap_between p i q (i + 1)) (gap_from first (i + 1) (q ∷ rest)) else or_gap (gap_between p i first 0) (gap_from q 0 (q ∷ rest))) (not-true _ e)

goes_on : (first p q : NodeSpoke) (i : ℕ) (rest : List NodeSpoke) → same_point p.node q.node ≡ true → gap_from first i (p ∷ q ∷ rest) ≡ or_gap (gap_between p i q (i + 1)) (gap_from first (i + 1) (q ∷ rest))
goes_on first p q i rest e =
    ap (λ (b : Bool). if b then or_gap (gap_between p i q (i + 1)) (gap_from first (i + 1) (q ∷ rest)) else or_gap (gap_between p i first 0) (gap_from q 0 (q ∷ rest))) e

begins : (spokes : List NodeSpoke) (i : ℕ) (d : NodeSpoke) → gap_of (drop i spokes) ≡ gap_from (get_or spokes i d) 0 (drop i spokes)
begins [] zero d = refl
begins [] (suc i) d = refl
begins (p ∷ spokes) zero d = refl
begins (p ∷ spokes) (suc i) d = begins spokes i d

module _ (spokes : List NodeSpoke) (first i : ℕ) (d : NodeSpoke) (reached : first ≤ i) (inside : i < length spokes) where
  ends_is : ring_ends spokes i d ≡ true → ends_before (get_or spokes i d).node (drop (i + 1) spokes) ≡ true
  ends_is e = by (cases_eq (i + 1) (length spokes))
    where
      by : (i + 1 ≡ length spokes) ⊎ (i + 1 ≡ length spokes → ⊥) → ends_before (get_or spokes i d).node (drop (i + 1) spokes) ≡ true
      by (inl same) = ap (ends_before (get_or spokes i d).node) (drop_all (i + 1) spokes (omega (arith, same)))
      by (inr other) = ap (ends_before (get_or spokes i d).node) (drop_more spokes (i + 1) d (omega (arith, inside, other)))
          ∙ elim (or_cases (i + 1 == length spokes) (not (same_point (get_or spokes i d).node (get_or spokes (i + 1) d).node)) e) [
            | inl f ↦ absurd (other (grind (arith, nat_tests)))
            | inr f ↦ f
          ]

  -- more spokes follow where the ring does not end
  pub follows : ring_ends spokes i d ≡ false → i + 1 < length spokes
  follows e =
      let other : (i + 1 ≡ length spokes) → ⊥ = λ same. true≢false (sym (or_left (i + 1 == length spokes) (not (same_point (get_or spokes i d).node (get_or spokes (i + 1) d).node)) (grind (arith, nat_tests))) ∙ e) in
      omega (arith, inside, other)

  same_node : ring_ends spokes i d ≡ false → same_point (get_or spokes i d).node (get_or spokes (i + 1) d).node ≡ true
  same_node e = by (same_point (get_or spokes i d).node (get_or spokes (i + 1) d).node) refl
    where
      by : (b : Bool) → same_point (get_or spokes i d).node (get_or spokes (i + 1) d).node ≡ b → b ≡ true
      by true f = refl
      by false f = absurd (true≢false (sym (or_right (i + 1 == length spokes) (not (same_point (get_or spokes i d).node (get_or spokes (i + 1) d).node)) (ap not f)) ∙ e))

  -- the pass after the last spoke of a ring, and after another one
  pub pass_last : ring_ends spokes i d ≡ true
      → gap_from (get_or spokes first d) (i - first) (drop i spokes)
      ≡ or_gap (gap_between (get_or spokes i d) (i - first) (get_or spokes first d) (first - first)) (gap_from (get_or spokes (i + 1) d) (i + 1 - (i + 1)) (drop (i + 1) spokes))
  pass_last e =
      let none : 0 ≡ first - first = omega arith in
      let new : 0 ≡ i + 1 - (i + 1) = omega arith in
      ap (gap_from (get_or spokes first d) (i - first)) (drop_more spokes i d inside)
      ∙ ends_here (get_or spokes first d) (get_or spokes i d) (i - first) (drop (i + 1) spokes) (ends_is e)
      ∙ ap (or_gap (gap_between (get_or spokes i d) (i - first) (get_or spokes first d) 0)) (begins spokes (i + 1) d)
      ∙ ap (λ (j : ℕ). or_gap (gap_between (get_or spokes i d) (i - first) (get_or spokes first d) j) (gap_from (get_or spokes (i + 1) d) 0 (drop (i + 1) spokes))) none
      ∙ ap (λ (j : ℕ). or_gap (gap_between (get_or spokes i d) (i - first) (get_or spokes first d) (first - first)) (gap_from (get_or spokes (i + 1) d) j (drop (i + 1) spokes))) new

  pub pass_inner : ring_ends spokes i d ≡ false
      → gap_from (get_or spokes first d) (i - first) (drop i spokes)
      ≡ or_gap (gap_between (get_or spokes i d) (i - first) (get_or spokes (i + 1) d) (i + 1 - first)) (gap_from (get_or spokes first d) (i + 1 - first) (drop (i + 1) spokes))
  pass_inner e =
      let f = get_or spokes first d in
      let p = get_or spokes i d in
      let q = get_or spokes (i + 1) d in
      let place : i - first + 1 ≡ i + 1 - first = omega (arith, reached) in
      let more = drop_more spokes (i + 1) d (follows e) in
      ap (gap_from f (i - first)) (drop_more spokes i d inside)
      ∙ ap (λ (rest : List NodeSpoke). gap_from f (i - first) (p ∷ rest)) more
      ∙ goes_on f p q (i - first) (drop (i + 1 + 1) spokes) (same_node e)
      ∙ ap (λ (rest : List NodeSpoke). or_gap (gap_between p (i - first) q (i - first + 1)) (gap_from f (i - first + 1) rest)) (sym more)
      ∙ ap (λ (j : ℕ). or_gap (gap_between p (i - first) q j) (gap_from f j (drop (i + 1) spokes))) place

  -- what is found at spoke i comes before what is found later
  pub pass : (last : Bool) (next : ℕ) (found : Option NodeGap) → last ≡ ring_ends spokes i d → next ≡ cond last first (i + 1)
      → found ≡ gap_between (get_or spokes i d) (i - first) (get_or spokes next d) (next - first)
      → gap_from (get_or spokes first d) (i - first) (drop i spokes)
      ≡ or_gap found (gap_from (get_or spokes (cond last (i + 1) first) d) (i + 1 - cond last (i + 1) first) (drop (i + 1) spokes))
  pass true next found e n f =
      pass_last (sym e)
      ∙ ap (λ (o : Option NodeGap). or_gap o (gap_from (get_or spokes (i + 1) d) (i + 1 - (i + 1)) (drop (i + 1) spokes)))
      (sym (f ∙ ap (λ (k : ℕ). gap_between (get_or spokes i d) (i - first) (get_or spokes k d) (k - first)) n))
  pass false next found e n f =
      pass_inner (sym e)
      ∙ ap (λ (o : Option NodeGap). or_gap o (gap_from (get_or spokes first d) (i + 1 - first) (drop (i + 1) spokes)))
      (sym (f ∙ ap (λ (k : ℕ). gap_between (get_or spokes i d) (i - first) (get_or spokes k d) (k - first)) n))

  -- the next spoke is one of them
  pub next_inside : (last : Bool) (next : ℕ) → last ≡ ring_ends spokes i d → next ≡ cond last first (i + 1) → next < length spokes
  next_inside true next e n = omega (arith, n, reached, inside)
  next_inside false next e n = let more = follows (sym e) in omega (arith, n, more)

-- what is read of two spokes
pub gap_read : (spokes : List NodeSpoke) (i next m n : ℕ) (d p q : NodeSpoke) (found : Option NodeGap) → i < length spokes → next < length spokes
    → p ≡ get_or spokes i p → q ≡ get_or spokes next q → found ≡ gap_between p m q n → found ≡ gap_between (get_or spokes i d) m (get_or spokes next d) n
gap_read spokes i next m n d p q found lt short e f g =
    g ∙ ap (λ (r : NodeSpoke). gap_between r m q n) (e ∙ get_or_default spokes i p d lt)
    ∙ ap (λ (r : NodeSpoke). gap_between (get_or spokes i d) m r n) (f ∙ get_or_default spokes next q d short)

-- the spoke that stands where there is none
abbrev origin : Point
origin = record { x = pos 0; y = pos 0 }

abbrev unit : Point
unit = record { x = pos 1; y = pos 0 }

pub origin_apart : origin ≢ unit
origin_apart e = let same : pos 0 ≡ pos 1 = ap (λ (p : Point). p.x) e in absurd cc

abbrev pub no_spoke : NodeSpoke
no_spoke = record { node = origin; toward = unit; left = 0; right = 0; near = (refl, refl); apart = origin_apart }

-- ---- rings

-- the first gap of the spokes of one node, of which the first is number i
abbrev pub ring_from : NodeSpoke → ℕ → List NodeSpoke → Option NodeGap
ring_from first i [] = None
ring_from first i (p ∷ []) = gap_between p i first 0
ring_from first i (p ∷ q ∷ spokes) = or_gap (gap_between p i q (i + 1)) (ring_from first (i + 1) (q ∷ spokes))

abbrev pub ring_of : List NodeSpoke → Option NodeGap
ring_of [] = None
ring_of (p ∷ spokes) = ring_from p 0 (p ∷ spokes)

-- the first gap of the rings of these nodes
abbrev pub first_of : (Point → List NodeSpoke) → List Point → Option NodeGap
first_of ring [] = None
first_of ring (v ∷ vs) = or_gap (ring_of (ring v)) (first_of ring vs)

-- the spokes are those of a node, and there is one
pub record IsRing (v : Point) (spokes : List NodeSpoke) : Type 0 where
  pub head : NodeSpoke
  pub tail : List NodeSpoke
  pub is : spokes ≡ head ∷ tail
  pub at : All (λ (p : NodeSpoke). p.node ≡ v) spokes

-- the pass goes through a ring, and then through the rest
through_ring : (v : Point) (first : NodeSpoke) (i : ℕ) (p : NodeSpoke) (ring rest : List NodeSpoke) → All (λ (q : NodeSpoke). q.node ≡ v) (p ∷ ring) → ends_before v rest ≡ true
    → gap_from first i ((p ∷ ring) ++ rest) ≡ or_gap (ring_from first i (p ∷ ring)) (gap_of rest)
through_ring v first i p [] rest at e = ends_here first p i rest (subst (λ (w : Point). ends_before w rest ≡ true) (sym (All-head (λ (q : NodeSpoke). q.node ≡ v) p [] at)) e)
through_ring v first i p (q ∷ ring) rest at e =
    let later = All-tail (λ (r : NodeSpoke). r.node ≡ v) p (q ∷ ring) at in
    let same = All-head (λ (r : NodeSpoke). r.node ≡ v) p (q ∷ ring) at ∙ sym (All-head (λ (r : NodeSpoke). r.node ≡ v) q ring later) in
    goes_on first p q i (ring ++ rest) (subst (λ (w : Point). same_point p.node w ≡ true) same (points.itself p.node))
    ∙ ap (or_gap (gap_between p i q (i + 1))) (through_ring v first (i + 1) q ring rest later e)
    ∙ sym (or_gap-assoc (gap_between p i q (i + 1)) (ring_from first (i + 1) (q ∷ ring)) (gap_of rest))

through : (v : Point) (ring rest : List NodeSpoke) → IsRing v ring → ends_before v rest ≡ true → gap_of (ring ++ rest) ≡ or_gap (ring_of ring) (gap_of rest)
through v ring rest r e =
    ap (λ (spokes : List NodeSpoke). gap_of (spokes ++ rest)) r.is
    ∙ through_ring v r.head 0 r.head r.tail rest (subst (All (λ (q : NodeSpoke). q.node ≡ v)) r.is r.at) e
    ∙ ap (λ (spokes : List NodeSpoke). or_gap (ring_of spokes) (gap_of rest)) (sym r.is)

-- the pass through the rings of nodes in order
pub through_all : (ring : Point → List NodeSpoke) (vs : List Point) → All (λ (v : Point). IsRing v (ring v)) vs → is_sorted_by point_before vs ≡ true → gap_of (flat_map ring vs) ≡ first_of ring vs
through_all ring [] rings s = refl
through_all ring (v ∷ vs) rings s =
    let later = All-tail (λ (w : Point). IsRing w (ring w)) v vs rings in
    through v (ring v) (flat_map ring vs) (All-head (λ (w : Point). IsRing w (ring w)) v vs rings) (next vs later (sorted_next point_before v vs s))
    ∙ ap (or_gap (ring_of (ring v))) (through_all ring vs later (sorted_tail point_before v vs s))
  where
    next : (ws : List Point) → All (λ (w : Point). IsRing w (ring w)) ws → is_before_first point_before v ws ≡ true → ends_before v (flat_map ring ws) ≡ true
    next [] h e = refl
    next (w ∷ ws) h e =
        let r = All-head (λ (u : Point). IsRing u (ring u)) w ws h in
        let node : r.head.node ≡ w = All-head (λ (q : NodeSpoke). q.node ≡ w) r.head r.tail (subst (All (λ (q : NodeSpoke). q.node ≡ w)) r.is r.at) in
        ap (λ (spokes : List NodeSpoke). ends_before v (spokes ++ flat_map ring ws)) r.is ∙ ap not (subst (λ (u : Point). same_point v u ≡ false) (sym node) (other w e))
      where
        other : (w : Point) → point_before v w ≡ true → same_point v w ≡ false
        other w e = false_from_ne_true (same_point v w) (λ f. true≢false (sym (subst (λ (u : Point). point_before v u ≡ true) (sym (points.same v w f)) e) ∙ points.order.itself v tt))

-- faults by node are the gaps of the rings
pub first_fault-first_of : (find : Point → Option MapFault) (ring : Point → List NodeSpoke) → ((v : Point) → find v ≡ option_map disagrees (ring_of (ring v))) → (vs : List Point)
    → first_fault find vs ≡ option_map disagrees (first_of ring vs)
first_fault-first_of find ring same [] = refl
first_fault-first_of find ring same (v ∷ vs) =
    ap (λ (o : Option MapFault). elim o [ None ↦ first_fault find vs | Some fault ↦ Some fault ]) (same v) ∙ by (ring_of (ring v)) (first_fault-first_of find ring same vs)
  where
    by : (o : Option NodeGap) → first_fault find vs ≡ option_map disagrees (first_of ring vs)
        → elim (option_map disagrees o) [ None ↦ first_fault find vs | Some fault ↦ Some fault ] ≡ option_map disagrees (or_gap o (first_of ring vs))
    by None e = e
    by (Some gap) e = refl
