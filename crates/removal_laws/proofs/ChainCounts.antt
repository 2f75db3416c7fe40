-- How often a point stands among the points of chains: as often as among those of their arcs at most, and less at a joint.
use Rattle.std.proofs.Common.{◌≡◌, ◌⊎◌, inl, inr, ℕ, ◌+◌, ◌≤◌, ◌==◌, Bool, true, false, cond, List, [], ◌∷◌, ◌++◌, reverse, drop, length, append_assoc, refl, sym, ap, ◌∙◌, subst, arith}
use Rattle.std.specs.Prelude.{count_by}
use Rattle.std.proofs.lemmas.Bool.{and_parts, eqb-true}
use Rattle.std.proofs.lemmas.List.{reverse-append, reverse-reverse}
use Rattle.std.proofs.lemmas.List.Sums.{sum_by-cons}
use Rattle.std.proofs.lemmas.List.Sorted.{IsPermutation-reverse, sum_by-IsPermutation}
use Rattle.tgap_model.specs.declared.geometry.Point.{Point}
use Rattle.tgap_model.specs.declared.base.BaseArc.{BaseArc}
use Rattle.tgap_model.specs.Base.{same_point}
use Rattle.tgap_model.specs.Partition.{all_but_last}
use Rattle.tgap_model.specs.Merged.{MergedMap}
use Rattle.tgap_model.specs.Chains.{Link, Chain, first_point, last_point, arc_number, link_points, link_start, link_end, chain_points, degree, is_joined}
use Rattle.tgap_model.proofs.Points.{same_point-true, same_point-from}
use Rattle.map_laws.proofs.ChainMembers.{Among, count_passes, count_grows}
use Rattle.map_laws.proofs.JoinSteps.{arc_sum}
use Rattle.removal_laws.specs.StandLaws.{inner_points}
use Rattle.removal_laws.proofs.Less.{times_of_append, inner_between}
use Rattle.removal_laws.proofs.Sound.{split_inner}
use Rattle.removal_laws.proofs.ChainEnds.{AreLong, link_length, link_last, chain_length, chain_first}

-- ---- rows

drop_times : (b : Point) (ps : List Point) → count_by (same_point b) (drop 1 ps) ≤ count_by (same_point b) ps
drop_times b [] = omega arith
drop_times b (p ∷ ps) = count_grows (same_point b) p ps

first_times : (b : Point) (ps : List Point) → 1 ≤ length ps → first_point ps ≡ b → count_by (same_point b) (drop 1 ps) + 1 ≤ count_by (same_point b) ps
first_times b [] l e = absurd (omega arith)
first_times b (p ∷ ps) l e = omega (arith, count_passes (same_point b) p ps (same_point-from b p (sym e)))

inner_of_rest : (b : Point) (ps : List Point) → Among b (all_but_last (drop 1 ps)) → Among b (inner_points ps)
inner_of_rest b [] m = m
inner_of_rest b (p ∷ ps) m = m

-- an early point of two rows, one after the other
early_append : (b : Point) (xs ys : List Point) → 1 ≤ length ys → Among b (all_but_last (xs ++ ys))
    → Among b (all_but_last xs) ⊎ (((1 ≤ length xs) × (last_point xs ≡ b)) ⊎ Among b (all_but_last ys))
early_append b [] ys l m = inr (inr m)
early_append b (x ∷ []) [] l m = absurd (omega arith)
early_append b (x ∷ []) (y ∷ ys) l (inl e) = inr (inl (omega arith, e))
early_append b (x ∷ []) (y ∷ ys) l (inr m) = inr (inr m)
early_append b (x ∷ z ∷ xs) ys l (inl e) = inl (inl e)
early_append b (x ∷ z ∷ xs) ys l (inr m) = elim (early_append b (z ∷ xs) ys l m) [
  | inl n ↦ inl (inr n)
  | inr n ↦ elim n [ inl e ↦ inr (inl (omega arith, e.1)) | inr o ↦ inr (inr o) ]
]

inner_append : (b : Point) (xs ys : List Point) → 2 ≤ length xs → 1 ≤ length ys → Among b (inner_points (xs ++ ys))
    → Among b (inner_points xs) ⊎ ((last_point xs ≡ b) ⊎ Among b (all_but_last ys))
inner_append b [] ys two one m = absurd (omega arith)
inner_append b (x ∷ []) ys two one m = absurd (omega arith)
inner_append b (x ∷ y ∷ xs) ys two one m = elim (early_append b (y ∷ xs) ys one m) [
  | inl n ↦ inl n
  | inr n ↦ elim n [ inl e ↦ inr (inl e.1) | inr o ↦ inr (inr o) ]
]

-- an inner point of a row that is turned round
inner_reversed : (b : Point) (ps : List Point) → Among b (inner_points (reverse ps)) → Among b (inner_points ps)
inner_reversed b ps m =
    let s = split_inner (reverse ps) b m in
    subst (λ qs. Among b (inner_points qs)) (sym (back s.0 s.1 s.2 s.3 s.4)) (inner_between (reverse s.3) s.2 b s.1 (reverse s.0))
  where
    back : (front : List Point) (a c : Point) (rest : List Point) → reverse ps ≡ front ++ a ∷ b ∷ c ∷ rest → ps ≡ reverse rest ++ c ∷ b ∷ a ∷ reverse front
    back front a c rest e =
        sym (reverse-reverse ps) ∙ ap reverse e ∙ reverse-append front (a ∷ b ∷ c ∷ rest)
        ∙ ap (λ (qs : List Point). qs ++ reverse front) (reverse-append (a ∷ b ∷ c ∷ []) rest)
        ∙ append_assoc (reverse rest) (c ∷ b ∷ a ∷ []) (reverse front)

-- ---- chains

module _ (arcs : List BaseArc) (b : Point) where
  -- how often the point stands in an arc
  abbrev pub in_arc : ℕ → ℕ
  in_arc i = count_by (same_point b) (arc_number arcs i).points

  link_times : (d : Link) → count_by (same_point b) (link_points arcs d) ≡ in_arc d.arc
  link_times d = by d.turned
    where
      points : List Point
      points = (arc_number arcs d.arc).points

      by : (t : Bool) → count_by (same_point b) (cond t (reverse points) points) ≡ count_by (same_point b) points
      by true = sum_by-IsPermutation (λ p. cond {A = ℕ} (same_point b p) 1 0) points (reverse points) (IsPermutation-reverse points)
      by false = refl

  pub chain_times : (c : Chain) → count_by (same_point b) (chain_points arcs c) ≤ arc_sum in_arc c
  chain_times [] = omega arith
  chain_times (d ∷ []) = omega (arith, link_times d, sum_by-cons (λ (e : Link). in_arc e.arc) d [])
  chain_times (d ∷ e ∷ c) = omega (
    arith,
    times_of_append b (link_points arcs d) (drop 1 (chain_points arcs (e ∷ c))),
    link_times d,
    drop_times b (chain_points arcs (e ∷ c)),
    chain_times (e ∷ c),
    sum_by-cons (λ (f : Link). in_arc f.arc) d (e ∷ c),
  )

  -- two links of the chain are joined at the point
  abbrev pub IsJoint : Chain → Type 0
  IsJoint [] = ⊥
  IsJoint (d ∷ []) = ⊥
  IsJoint (d ∷ e ∷ c) = (link_start arcs e ≡ b) ⊎ IsJoint (e ∷ c)

  long_rest : (d : Link) (c : Chain) → AreLong arcs (d ∷ c) → AreLong arcs c
  long_rest d c long f m = long f (inr m)

  pub joint_times : (c : Chain) → AreLong arcs c → IsJoint c → count_by (same_point b) (chain_points arcs c) + 1 ≤ arc_sum in_arc c
  joint_times [] long j = absurd j
  joint_times (d ∷ []) long j = absurd j
  joint_times (d ∷ e ∷ c) long (inl s) = omega (
    arith,
    times_of_append b (link_points arcs d) (drop 1 (chain_points arcs (e ∷ c))),
    link_times d,
    first_times b (chain_points arcs (e ∷ c)) (omega (arith, chain_length arcs (e ∷ c) refl (long_rest d (e ∷ c) long))) (chain_first arcs (e ∷ c) refl (long_rest d (e ∷ c) long) ∙ s),
    chain_times (e ∷ c),
    sum_by-cons (λ (f : Link). in_arc f.arc) d (e ∷ c),
  )
  joint_times (d ∷ e ∷ c) long (inr j) = omega (
    arith,
    times_of_append b (link_points arcs d) (drop 1 (chain_points arcs (e ∷ c))),
    link_times d,
    drop_times b (chain_points arcs (e ∷ c)),
    joint_times (e ∷ c) (long_rest d (e ∷ c) long) j,
    sum_by-cons (λ (f : Link). in_arc f.arc) d (e ∷ c),
  )

-- the degree of a joint is two
pub joint_degree : (h : MergedMap) (k : ℕ) (b : Point) (c : Chain) → is_joined h k c ≡ true → IsJoint h.base.arcs b c → degree h k b ≡ 2
joint_degree h k b [] i j = absurd j
joint_degree h k b (d ∷ []) i j = absurd j
joint_degree h k b (d ∷ e ∷ c) i (inl s) =
    let parts = and_parts (same_point (link_end h.base.arcs d) (link_start h.base.arcs e)) (degree h k (link_end h.base.arcs d) == 2) (and_parts _ (is_joined h k (e ∷ c)) i).0 in
    ap (degree h k) (sym s ∙ sym (same_point-true (link_end h.base.arcs d) (link_start h.base.arcs e) parts.0)) ∙ eqb-true (degree h k (link_end h.base.arcs d)) 2 parts.1
joint_degree h k b (d ∷ e ∷ c) i (inr j) = joint_degree h k b (e ∷ c) (and_parts _ (is_joined h k (e ∷ c)) i).1 j

-- an inner point of a link is one of its arc
of_link : (arcs : List BaseArc) (d : Link) (b : Point) → Among b (inner_points (link_points arcs d)) → Among b (inner_points (arc_number arcs d.arc).points)
of_link arcs d b m = by d.turned m
  where
    by : (t : Bool) → Among b (inner_points (cond t (reverse (arc_number arcs d.arc).points) (arc_number arcs d.arc).points)) → Among b (inner_points (arc_number arcs d.arc).points)
    by true n = inner_reversed b (arc_number arcs d.arc).points n
    by false n = n

-- an inner point of a chain is an inner vertex of one of its arcs, or a joint
pub inner_cases : (h : MergedMap) (k : ℕ) (b : Point) (c : Chain) → is_joined h k c ≡ true → AreLong h.base.arcs c → Among b (inner_points (chain_points h.base.arcs c))
    → ((d : Link) × Among d c × Among b (inner_points (arc_number h.base.arcs d.arc).points)) ⊎ IsJoint h.base.arcs b c
inner_cases h k b [] i long m = absurd m
inner_cases h k b (d ∷ []) i long m = inl (d, inl refl, of_link h.base.arcs d b m)
inner_cases h k b (d ∷ e ∷ c) i long m =
    elim (inner_append b (link_points h.base.arcs d) (drop 1 (chain_points h.base.arcs (e ∷ c))) (link_length h.base.arcs d (long d (inl refl)))
    (dropped (chain_points h.base.arcs (e ∷ c)) (chain_length h.base.arcs (e ∷ c) refl (λ f n. long f (inr n)))) m) [
      | inl n ↦ inl (d, inl refl, of_link h.base.arcs d b n)
      | inr n ↦ elim n [
        | inl s ↦ inr (inl (sym (same_point-true (link_end h.base.arcs d) (link_start h.base.arcs e) (and_parts _ _ (and_parts _ (is_joined h k (e ∷ c)) i).0).0)
            ∙ sym (link_last h.base.arcs d) ∙ s))
        | inr o ↦ elim (inner_cases h k b (e ∷ c) (and_parts _ (is_joined h k (e ∷ c)) i).1 (λ f n. long f (inr n)) (inner_of_rest b (chain_points h.base.arcs (e ∷ c)) o)) [
          | inl r ↦ inl (r.0, inr r.1, r.2)
          | inr j ↦ inr (inr j)
        ]
      ]
    ]
  where
    dropped : (ps : List Point) → 2 ≤ length ps → 1 ≤ length (drop 1 ps)
    dropped [] l = absurd (omega arith)
    dropped (p ∷ ps) l = omega arith
