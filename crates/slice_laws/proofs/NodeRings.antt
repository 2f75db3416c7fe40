-- Round a node whose faces agree, as many spokes have a face at the left as have it at the right. So of two links of border
-- arcs that alone start there, each has at its left what the other has at its right.
use Rattle.std.proofs.Common.{◌≡◌, ◌≢◌, ℕ, ◌+◌, Bool, true, false, cond, ◌==◌, List, [], ◌∷◌, refl, sym, ap, ◌∙◌, arith, eq-eqb, ne_eqb, if◌then◌else◌}
use Rattle.std.specs.Prelude.{count_by, flat_map, Option, None, Some}
use Rattle.std.proofs.lemmas.Bool.{eqb-true}
use Rattle.lemmas.proofs.Counts.{count_by-cons}
use Rattle.lemmas.proofs.Sorting.{count_by-sort_by}
use Rattle.tgap_model.specs.declared.geometry.Point.{Point}
use Rattle.tgap_model.specs.declared.fault.MapFault.{MapFault}
use Rattle.tgap_model.specs.Segment.{turns_before}
use Rattle.tgap_model.specs.Partition.{Spoke, spokes_of, spokes_at, ring_fault, node_fault}
use Rattle.tgap_model.specs.declared.segment.LabelledSegment.{LabelledSegment}

-- ---- rings

-- each spoke's left face is the next one's right face, and the last one's is r
abbrev pub IsRing : ℕ → Spoke → List Spoke → Type 0
IsRing r p [] = p.left ≡ r
IsRing r p (q ∷ spokes) = (p.left ≡ q.right) × IsRing r q spokes

-- a choice that finds no fault
no_fault_last : (b : Bool) (fault : MapFault) → (if b then None else Some fault) ≡ None → b ≡ true
no_fault_last true fault e = refl
no_fault_last false fault e = absurd cc

no_fault_next : (b : Bool) (rest : Option MapFault) (fault : MapFault) → ◌≡◌ {A = Option MapFault} (elim b [ true ↦ rest | false ↦ Some fault ]) None
    → (b ≡ true) × (rest ≡ None)
no_fault_next true rest fault e = (refl, e)
no_fault_next false rest fault e = absurd cc

ring_agrees : (v : Point) (first : Spoke) (i : ℕ) (p : Spoke) (spokes : List Spoke) → ring_fault v first i (p ∷ spokes) ≡ None
    → IsRing first.right p spokes
ring_agrees v first i p [] e = eqb-true _ _ (no_fault_last (p.left == first.right) _ e)
ring_agrees v first i p (q ∷ spokes) e =
    let both = no_fault_next (p.left == q.right) (ring_fault v first (i + 1) (q ∷ spokes)) _ e in
    (eqb-true _ _ both.0, ring_agrees v first (i + 1) q spokes both.1)

-- ---- as many at the left as at the right

-- a face that is one has one test
same_test : (f a b : ℕ) → a ≡ b → cond {A = ℕ} (a == f) 1 0 ≡ cond (b == f) 1 0
same_test f a b e = ap (λ (x : ℕ). cond {A = ℕ} (x == f) 1 0) e

module _ (g : ℕ → ℕ) (f : ℕ) where
  ring_counts : (r : ℕ) (p : Spoke) (spokes : List Spoke) → IsRing r p spokes
      → count_by (λ s. g s.left == f) (p ∷ spokes) + cond (g p.right == f) 1 0 ≡ count_by (λ s. g s.right == f) (p ∷ spokes) + cond (g r == f) 1 0
  ring_counts r p [] e =
      omega
      (arith, count_by-cons (λ (s : Spoke). g s.left == f) p [], count_by-cons (λ (s : Spoke). g s.right == f) p [], same_test f (g p.left) (g r) (ap g e))
  ring_counts r p (q ∷ spokes) e = omega (
    arith,
    count_by-cons (λ (s : Spoke). g s.left == f) p (q ∷ spokes),
    count_by-cons (λ (s : Spoke). g s.right == f) p (q ∷ spokes),
    ring_counts r q spokes e.1,
    same_test f (g p.left) (g q.right) (ap g e.0),
  )

  sorted_counts : (v : Point) (spokes : List Spoke)
      → ◌≡◌ {A = Option MapFault} (elim spokes [ [] ↦ None | p ∷ rest ↦ ring_fault v p 0 (p ∷ rest) ]) None
      → count_by (λ s. g s.left == f) spokes ≡ count_by (λ s. g s.right == f) spokes
  sorted_counts v [] e = refl
  sorted_counts v (p ∷ spokes) e = omega (arith, ring_counts p.right p spokes (ring_agrees v p 0 p spokes e))

  -- round a node, whatever other labels the faces have
  pub node_counts : (segments : List LabelledSegment) (v : Point) → node_fault segments v ≡ None
      → count_by (λ s. g s.left == f) (flat_map (spokes_of v) segments) ≡ count_by (λ s. g s.right == f) (flat_map (spokes_of v) segments)
  node_counts segments v e =
      let before : Spoke → Spoke → Bool = λ (p q : Spoke). turns_before v p.toward q.toward in
      sym (count_by-sort_by before (λ (s : Spoke). g s.left == f) (flat_map (spokes_of v) segments))
      ∙ sorted_counts v (spokes_at v segments) e
      ∙ count_by-sort_by before (λ (s : Spoke). g s.right == f) (flat_map (spokes_of v) segments)

-- ---- two links

-- Of two members, which alone have different faces at their sides, each has at its left what the other has at its right.
pub two_opposed : {A : Type 0} (l r : A → ℕ) (x y : A) → l x ≢ r x → l y ≢ r y
    → ((f : ℕ) → count_by (λ z. l z == f) (x ∷ y ∷ []) ≡ count_by (λ z. r z == f) (x ∷ y ∷ [])) → (l x ≡ r y) × (l y ≡ r x)
two_opposed {A} l r x y dx dy h = (first, second)
  where
    counted : (p : A → Bool) → count_by p (x ∷ y ∷ []) ≡ cond (p x) 1 0 + cond (p y) 1 0
    counted p = omega (arith, count_by-cons p x (y ∷ []), count_by-cons p y [])

    by : (a b c d : Bool) → a ≡ true → c ≡ false → cond {A = ℕ} a 1 0 + cond b 1 0 ≡ cond c 1 0 + cond d 1 0 → d ≡ true
    by true b false true e f s = refl
    by true b false false e f s = absurd (more b s)
      where
        more : (b : Bool) → 1 + cond b 1 0 ≡ 0 + 0 → ⊥
        more true s = omega arith
        more false s = omega arith
    by true b true d e f s = absurd cc
    by false b c d e f s = absurd cc

    first : l x ≡ r y
    first = sym (eqb-true _ _ (by (l x == l x) (l y == l x) (r x == l x) (r y == l x) (eq-eqb _ _ refl) (ne_eqb _ _ (λ e. dx (sym e)))
        (sym (counted (λ z. l z == l x)) ∙ h (l x) ∙ counted (λ z. r z == l x))))

    swap_sum : (a b c d : ℕ) → a + b ≡ c + d → b + a ≡ d + c
    swap_sum a b c d e = omega arith

    second : l y ≡ r x
    second = sym (eqb-true _ _ (by (l y == l y) (l x == l y) (r y == l y) (r x == l y) (eq-eqb _ _ refl) (ne_eqb _ _ (λ e. dy (sym e)))
        (swap_sum _ _ _ _ (sym (counted (λ z. l z == l y)) ∙ h (l y) ∙ counted (λ z. r z == l y)))))
