-- What the search for the first node that disagrees shows: two spokes with two faces between them, none before them at the node,
-- and no lesser node.
use Rattle.std.proofs.Common.{◌≡◌, ◌≢◌, ◌⊎◌, inl, inr, ℕ, zero, suc, ◌+◌, ◌<◌, ◌==◌, Bool, true, false, if◌then◌else◌, List, [], ◌∷◌, length, Option, Some, None, refl, sym, ap, ◌∙◌, subst, arith}
use Rattle.std.specs.List.{slice_get}
use Rattle.std.proofs.lemmas.Bool.Decides.{Decides-eqb, not_from_Decides}
use Rattle.std.proofs.lemmas.Option.{slice_get_within}
use Rattle.tgap_model.specs.declared.geometry.Point.{Point}
use Rattle.tgap_model.specs.declared.segment.LabelledSegment.{LabelledSegment}
use Rattle.tgap_model.specs.declared.fault.MapFault.{MapFault}
use Rattle.tgap_model.specs.declared.fault.MapFault.TheVariants.{NodeDisagrees}
use Rattle.tgap_model.specs.Segment.{point_before}
use Rattle.tgap_model.specs.Partition.{Spoke, spokes_at, ring_fault, node_fault, nodes, first_fault}
use Rattle.grid_geo.specs.Evidence.{next_spoke, AgreesAtSpoke, IsFirstNodeGap}
use Rattle.tgap_model.proofs.FirstFault.{first_found}
use Rattle.grid_geo.proofs.PointOrder.{points}
use Rattle.base_check.proofs.Nodes.{nodes_sorted}
use Rattle.base_check.proofs.Faults.{fault_of, at_each_point}

-- ---- round one node

-- the spoke after number k of these, and its number, the first of them being number i: after the last one comes the first of all
record IsNext (first : Spoke) (ps : List Spoke) (i k number : ℕ) (q : Spoke) : Type 0 where
  cases : ((k + 1 ≡ length ps) × (number ≡ 0) × (q ≡ first)) ⊎ ((k + 1 < length ps) × (number ≡ i + k + 1) × (slice_get ps (k + 1) ≡ Some q))

-- two spokes of these with two faces between them, and none before them
record IsDifference (v : Point) (first : Spoke) (i : ℕ) (ps : List Spoke) (fault : MapFault) : Type 0 where
  place : ℕ
  number : ℕ
  here : Spoke
  after : Spoke
  at_here : slice_get ps place ≡ Some here
  next : IsNext first ps i place number after
  fault_is : fault ≡ NodeDisagrees v (i + place) number here.left after.right
  differ : here.left ≢ after.right
  earlier : (k : ℕ) (p q : Spoke) → k < place → slice_get ps k ≡ Some p → slice_get ps (k + 1) ≡ Some q → p.left ≡ q.right

first_difference : (v : Point) (first : Spoke) (i : ℕ) (ps : List Spoke) (fault : MapFault) → ring_fault v first i ps ≡ Some fault → IsDifference v first i ps fault
first_difference v first i [] fault e = absurd cc
first_difference v first i (p ∷ []) fault e = by (p.left == first.right) refl e
  where
    by : (b : Bool) → (p.left == first.right) ≡ b → (if b then None else Some (NodeDisagrees v i 0 p.left first.right)) ≡ Some fault → IsDifference v first i (p ∷ []) fault
    by true t h = absurd cc
    by false t h =
        let same : NodeDisagrees v i 0 p.left first.right ≡ fault = cc in
        record {
          place = 0;
          number = 0;
          here = p;
          after = first;
          at_here = refl;
          next = record { cases = inl (refl, refl, refl) };
          fault_is = sym same ∙ ap (λ (k : ℕ). NodeDisagrees v k 0 p.left first.right) (omega arith);
          differ = not_from_Decides (p.left == first.right) (Decides-eqb p.left first.right) t;
          earlier = λ k x y l. absurd (omega (arith, l));
        }
first_difference v first i (p ∷ q ∷ ps) fault e = by (p.left == q.right) refl e (first_difference v first (i + 1) (q ∷ ps) fault)
  where
    by : (b : Bool) → (p.left == q.right) ≡ b
        → ◌≡◌ {A = Option MapFault} (elim b [ true ↦ ring_fault v first (i + 1) (q ∷ ps) | false ↦ Some (NodeDisagrees v i (i + 1) p.left q.right) ]) (Some fault)
        → (ring_fault v first (i + 1) (q ∷ ps) ≡ Some fault → IsDifference v first (i + 1) (q ∷ ps) fault) → IsDifference v first i (p ∷ q ∷ ps) fault
    by true t h rest =
        let r = rest h in
        record {
          place = suc r.place;
          number = r.number;
          here = r.here;
          after = r.after;
          at_here = r.at_here;
          next = record { cases = next r.place r.number r.after r.next.cases };
          fault_is = r.fault_is ∙ ap (λ (k : ℕ). NodeDisagrees v k r.number r.here.left r.after.right) (omega arith);
          differ = r.differ;
          earlier = earlier r.place r.earlier;
        }
      where
        next : (n number : ℕ) (z : Spoke) → ((n + 1 ≡ length (q ∷ ps)) × (number ≡ 0) × (z ≡ first)) ⊎ ((n + 1 < length (q ∷ ps)) × (number ≡ i + 1 + n + 1) × (slice_get (q ∷ ps) (n + 1) ≡ Some z))
            → ((suc n + 1 ≡ length (p ∷ q ∷ ps)) × (number ≡ 0) × (z ≡ first)) ⊎ ((suc n + 1 < length (p ∷ q ∷ ps)) × (number ≡ i + suc n + 1) × (slice_get (p ∷ q ∷ ps) (suc n + 1) ≡ Some z))
        next n number z (inl c) = inl (omega (arith, c.0), c.1, c.2)
        next n number z (inr c) =
            let e : suc (n + 1) ≡ suc n + 1 = omega arith in
            inr (omega (arith, c.0), c.1 ∙ omega arith, subst (λ (k : ℕ). slice_get (p ∷ q ∷ ps) k ≡ Some z) e c.2)

        earlier : (n : ℕ) → ((k : ℕ) (x y : Spoke) → k < n → slice_get (q ∷ ps) k ≡ Some x → slice_get (q ∷ ps) (k + 1) ≡ Some y → x.left ≡ y.right)
            → (k : ℕ) (x y : Spoke) → k < suc n → slice_get (p ∷ q ∷ ps) k ≡ Some x → slice_get (p ∷ q ∷ ps) (k + 1) ≡ Some y → x.left ≡ y.right
        earlier n h zero x y l a b =
            let first_is : p ≡ x = cc in
            let second_is : q ≡ y = cc in
            ap (λ (z : Spoke). z.left) (sym first_is) ∙ (Decides-eqb p.left q.right).0 t ∙ ap (λ (z : Spoke). z.right) second_is
        earlier n h (suc k) x y l a b =
            let e : suc k + 1 ≡ suc (k + 1) = omega arith in
            h k x y (omega (arith, l)) a (subst (λ (m : ℕ). slice_get (p ∷ q ∷ ps) m ≡ Some y) e b)
    by false t h rest =
        let same : NodeDisagrees v i (i + 1) p.left q.right ≡ fault = cc in
        record {
          place = 0;
          number = i + 1;
          here = p;
          after = q;
          at_here = refl;
          next = record { cases = inr (omega arith, omega arith, refl) };
          fault_is = sym same ∙ ap (λ (k : ℕ). NodeDisagrees v k (i + 1) p.left q.right) (omega arith);
          differ = not_from_Decides (p.left == q.right) (Decides-eqb p.left q.right) t;
          earlier = λ k x y l. absurd (omega (arith, l));
        }

-- where no two are found, each agrees with the next one
no_difference : (v : Point) (first : Spoke) (i : ℕ) (ps : List Spoke) → ring_fault v first i ps ≡ None
    → (k : ℕ) (p q : Spoke) → slice_get ps k ≡ Some p → ((k + 1 ≡ length ps) × (q ≡ first)) ⊎ (slice_get ps (k + 1) ≡ Some q) → p.left ≡ q.right
no_difference v first i [] e k x y a b = absurd cc
no_difference v first i (p ∷ []) e zero x y a b = by (p.left == first.right) refl e b
  where
    by : (b : Bool) → (p.left == first.right) ≡ b → (if b then None else Some (NodeDisagrees v i 0 p.left first.right)) ≡ None
        → ((0 + 1 ≡ length (p ∷ [])) × (y ≡ first)) ⊎ (slice_get (p ∷ []) (0 + 1) ≡ Some y) → x.left ≡ y.right
    by true t h (inl c) =
        let here : p ≡ x = cc in
        ap (λ (z : Spoke). z.left) (sym here) ∙ (Decides-eqb p.left first.right).0 t ∙ ap (λ (z : Spoke). z.right) (sym c.1)
    by true t h (inr c) = absurd cc
    by false t h c = absurd cc
no_difference v first i (p ∷ []) e (suc k) x y a b = absurd cc
no_difference v first i (p ∷ q ∷ ps) e k x y a b = by (p.left == q.right) refl e (λ h. no_difference v first (i + 1) (q ∷ ps) h) k a b
  where
    by : (c : Bool) → (p.left == q.right) ≡ c
        → ◌≡◌ {A = Option MapFault} (elim c [ true ↦ ring_fault v first (i + 1) (q ∷ ps) | false ↦ Some (NodeDisagrees v i (i + 1) p.left q.right) ]) None
        → (ring_fault v first (i + 1) (q ∷ ps) ≡ None → (k : ℕ) (x y : Spoke) → slice_get (q ∷ ps) k ≡ Some x → ((k + 1 ≡ length (q ∷ ps)) × (y ≡ first)) ⊎ (slice_get (q ∷ ps) (k + 1) ≡ Some y) → x.left ≡ y.right)
        → (k : ℕ) → slice_get (p ∷ q ∷ ps) k ≡ Some x → ((k + 1 ≡ length (p ∷ q ∷ ps)) × (y ≡ first)) ⊎ (slice_get (p ∷ q ∷ ps) (k + 1) ≡ Some y) → x.left ≡ y.right
    by true t h rest zero a (inl c) = absurd (omega (arith, c.0))
    by true t h rest zero a (inr c) =
        let here : p ≡ x = cc in
        let there : q ≡ y = cc in
        ap (λ (z : Spoke). z.left) (sym here) ∙ (Decides-eqb p.left q.right).0 t ∙ ap (λ (z : Spoke). z.right) there
    by true t h rest (suc k) a (inl c) = rest h k x y a (inl (omega (arith, c.0), c.1))
    by true t h rest (suc k) a (inr c) =
        let e : suc k + 1 ≡ suc (k + 1) = omega arith in
        rest h k x y a (inr (subst (λ (m : ℕ). slice_get (p ∷ q ∷ ps) m ≡ Some y) e c))
    by false t h rest k a b = absurd cc

-- ---- from node to node

-- without a fault the faces agree at each spoke
agrees : (v : Point) (ps : List Spoke) → fault_of v ps ≡ None → (k : ℕ) → AgreesAtSpoke ps k
agrees v [] e k p q a b = absurd cc
agrees v (first ∷ rest) e k p q a b = by (k + 1 == length (first ∷ rest)) refl b
  where
    by : (t : Bool) → (k + 1 == length (first ∷ rest)) ≡ t → slice_get (first ∷ rest) (if t then 0 else k + 1) ≡ Some q → p.left ≡ q.right
    by true t c =
        let last : q ≡ first = cc in
        no_difference v first 0 (first ∷ rest) e k p q a (inl ((Decides-eqb (k + 1) (length (first ∷ rest))).0 t, last))
    by false t c = no_difference v first 0 (first ∷ rest) e k p q a (inr c)

-- a fault is at two spokes, and the faces agree at each earlier one
record IsGapOf (v : Point) (ps : List Spoke) (i j left right : ℕ) : Type 0 where
  next : j ≡ next_spoke (length ps) i
  spoke : Spoke
  next_one : Spoke
  at_spoke : slice_get ps i ≡ Some spoke
  at_next : slice_get ps j ≡ Some next_one
  left_face : left ≡ spoke.left
  right_face : right ≡ next_one.right
  differ : left ≢ right
  earlier : (k : ℕ) → k < i → AgreesAtSpoke ps k

gap_of_fault : (v u : Point) (ps : List Spoke) (i j left right : ℕ) → fault_of v ps ≡ Some (NodeDisagrees u i j left right) → (v ≡ u) × IsGapOf v ps i j left right
gap_of_fault v u [] i j left right e = absurd cc
gap_of_fault v u (first ∷ rest) i j left right e = (
  node_is,
  record {
    next = number_is ∙ next_is d.next.cases ∙ ap (next_spoke (length ps)) place_is;
    spoke = d.here;
    next_one = d.after;
    at_spoke = subst (λ (k : ℕ). slice_get ps k ≡ Some d.here) place_is d.at_here;
    at_next = subst (λ (k : ℕ). slice_get ps k ≡ Some d.after) (sym number_is) (after_is d.next.cases);
    left_face = left_is;
    right_face = right_is;
    differ = λ same. d.differ (sym left_is ∙ same ∙ right_is);
    earlier = λ k l p q a b. d.earlier k p q (omega (arith, l, place_is)) a (not_last k l b);
  },
)
  where
    ps : List Spoke
    ps = first ∷ rest

    d : IsDifference v first 0 ps (NodeDisagrees u i j left right)
    d = first_difference v first 0 ps (NodeDisagrees u i j left right) e

    node_is : v ≡ u
    node_is = let f = d.fault_is in cc

    place_is : d.place ≡ i
    place_is = let f = d.fault_is in let g : 0 + d.place ≡ i = cc in omega (arith, g)

    number_is : j ≡ d.number
    number_is = let f = d.fault_is in cc

    left_is : left ≡ d.here.left
    left_is = let f = d.fault_is in cc

    right_is : right ≡ d.after.right
    right_is = let f = d.fault_is in cc

    next_is : ((d.place + 1 ≡ length ps) × (d.number ≡ 0) × (d.after ≡ first)) ⊎ ((d.place + 1 < length ps) × (d.number ≡ 0 + d.place + 1) × (slice_get ps (d.place + 1) ≡ Some d.after))
        → d.number ≡ next_spoke (length ps) d.place
    next_is (inl c) = c.1 ∙ by (d.place + 1 == length ps) refl
      where
        by : (t : Bool) → (d.place + 1 == length ps) ≡ t → 0 ≡ (if t then 0 else d.place + 1)
        by true t = refl
        by false t = absurd (not_from_Decides ((d.place + 1) == (length ps)) (Decides-eqb (d.place + 1) (length ps)) t c.0)
    next_is (inr c) = c.1 ∙ by (d.place + 1 == length ps) refl
      where
        by : (t : Bool) → (d.place + 1 == length ps) ≡ t → 0 + d.place + 1 ≡ (if t then 0 else d.place + 1)
        by true t = absurd (omega (arith, c.0, (Decides-eqb (d.place + 1) (length ps)).0 t))
        by false t = omega arith

    after_is : ((d.place + 1 ≡ length ps) × (d.number ≡ 0) × (d.after ≡ first)) ⊎ ((d.place + 1 < length ps) × (d.number ≡ 0 + d.place + 1) × (slice_get ps (d.place + 1) ≡ Some d.after))
        → slice_get ps d.number ≡ Some d.after
    after_is (inl c) = ap (slice_get ps) c.1 ∙ ap Some (sym c.2)
    after_is (inr c) = let e : d.number ≡ d.place + 1 = omega (arith, c.1) in ap (slice_get ps) e ∙ c.2

    not_last : (k : ℕ) {q : Spoke} → k < i → slice_get ps (next_spoke (length ps) k) ≡ Some q → slice_get ps (k + 1) ≡ Some q
    not_last k {q} l b = by (k + 1 == length ps) refl b
      where
        within : d.place < length ps
        within = slice_get_within ps d.place d.here d.at_here

        by : (t : Bool) → (k + 1 == length ps) ≡ t → slice_get ps (if t then 0 else k + 1) ≡ Some q → slice_get ps (k + 1) ≡ Some q
        by true t c = absurd (omega (arith, l, place_is, within, (Decides-eqb (k + 1) (length ps)).0 t))
        by false t c = c

-- the first fault is the first gap
pub first_node_gap_is : (segments : List LabelledSegment) (node : Point) (i j left right : ℕ) → first_fault (node_fault segments) (nodes segments) ≡ Some (NodeDisagrees node i j left right)
    → IsFirstNodeGap segments node i j left right
first_node_gap_is segments node i j left right e =
    let r = first_found (node_fault segments) point_before points.order (nodes segments) (NodeDisagrees node i j left right) (nodes_sorted segments) e in
    let gap = gap_of_fault r.found node (spokes_at r.found segments) i j left right r.here in
    subst (λ (v : Point). IsFirstNodeGap segments v i j left right) gap.0 (record {
      is_node = r.member;
      next = gap.1.next;
      spoke = gap.1.spoke;
      next_one = gap.1.next_one;
      at_spoke = gap.1.at_spoke;
      at_next = gap.1.at_next;
      left_face = gap.1.left_face;
      right_face = gap.1.right_face;
      differ = gap.1.differ;
      earlier = gap.1.earlier;
      lesser = λ v less. agrees v (spokes_at v segments) (at_each_point segments v (λ (ps : List Spoke). fault_of v ps ≡ None) refl (λ c. r.lesser v c less));
    })
