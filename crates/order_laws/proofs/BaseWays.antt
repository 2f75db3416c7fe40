-- The ends of border arcs at a node in the order of the base map are those of single arcs, in the order of their ways.
use Rattle.std.proofs.Common.{◌≡◌, ◌≢◌, inl, inr, ℕ, ◌+◌, Bool, true, false, cond, List, [], ◌∷◌, ◌++◌, map, flat_map, filter, length, refl, sym, ap, ap₂, ◌∙◌, subst}
use Rattle.std.specs.List.{list_all, range_with_len}
use Rattle.std.proofs.lemmas.Bool.{and_parts, leb-true}
use Rattle.std.proofs.lemmas.List.Concat.{flat_map-append}
use Rattle.std.proofs.lemmas.List.Elements.{All-filter, filter-append}
use Rattle.std.proofs.lemmas.List.Kept.{AllPairs-filter}
use Rattle.std.proofs.lemmas.List.Folds.{flat_map-map}
use Rattle.std.proofs.lemmas.List.Sums.{AllPass-from_list_all}
use Rattle.lemmas.specs.Sorting.{sort_by}
use Rattle.lemmas.proofs.Sorting.{filter-sort_by, All-from_sort_by}
use Rattle.tgap_model.specs.declared.geometry.Point.{Point}
use Rattle.tgap_model.specs.declared.base.BaseArc.{BaseArc}
use Rattle.tgap_model.specs.Base.{BaseMap, is_base, same_point}
use Rattle.tgap_model.specs.Merged.{merged, is_border}
use Rattle.tgap_model.specs.Partition.{IsPartition, Spoke, is_proper, spokes_of, path_segments, arc_segments, base_segments}
use Rattle.tgap_model.specs.Chains.{first_point, last_point, arc_number, border_numbers}
use Rattle.tgap_model.proofs.Segments.{proper_segments}
use Rattle.base_check.proofs.Apart.{all_decided}
use Rattle.map_laws.proofs.ChainMembers.{Among}
use Rattle.map_laws.proofs.ChainsExist.{single}
use Rattle.slice_laws.proofs.BaseParts.{has_segment, arcs_have_segments}
use Rattle.slice_laws.proofs.EdgeSums.{without_none}
use Rattle.slice_laws.proofs.NodeLinks.{next_to_last, second_point, AreNumbers, numbers_lead_all}
use Rattle.slice_laws.proofs.SpokeRings.{comes_before, ring_leaves}
use Rattle.order_laws.specs.NodeOrder.{End, Way, ways_of, way_before, is_border_end, base_order}
use Rattle.order_laws.proofs.WayPlaces.{way, end_of, Leaves, AreDecided, order_of_ways}
use Rattle.order_laws.proofs.Ways.{end_at, AreWays, ways_from_spokes}
use Rattle.order_laws.proofs.RowWays.{way_if, row_ways, segment_ways}
use Rattle.order_laws.proofs.ChainWays.{chain_ways, chains_ways}

-- ---- what a filter keeps of the ways

-- a test that has one answer at both ends of a row
row_kept : (p : End → Bool) (b : Bool) (v : Point) (e f : End) (ps : List Point) → p e ≡ b → p f ≡ b
    → filter (λ w. p (end_of w)) (row_ways v e f ps) ≡ cond b (row_ways v e f ps) []
row_kept p b v e f ps x y = by (same_point (first_point ps) v) (same_point (last_point ps) v)
  where
    both : (u w : Way) (c : Bool) → cond c (u ∷ cond c (w ∷ []) []) (cond c (w ∷ []) []) ≡ cond c (u ∷ w ∷ []) []
    both u w true = refl
    both u w false = refl

    none : (c : Bool) → [] ≡ cond {A = List Way} c [] []
    none true = refl
    none false = refl

    by : (s t : Bool) → filter (λ w. p (end_of w)) (way_if s (way e (second_point ps)) ++ way_if t (way f (next_to_last ps)))
        ≡ cond b (way_if s (way e (second_point ps)) ++ way_if t (way f (next_to_last ps))) []
    by true true =
        ap₂ (λ (c d : Bool). cond c (way e (second_point ps) ∷ cond d (way f (next_to_last ps) ∷ []) []) (cond d (way f (next_to_last ps) ∷ []) [])) x y
        ∙ both (way e (second_point ps)) (way f (next_to_last ps)) b
    by true false = ap (λ (c : Bool). cond c (way e (second_point ps) ∷ []) []) x
    by false true = ap (λ (c : Bool). cond c (way f (next_to_last ps) ∷ []) []) y
    by false false = none b

-- rows that are kept whole, or not at all
pub rows_kept : {A : Type 0} (p : End → Bool) (q : A → Bool) (v : Point) (e f : A → End) (points : A → List Point) (xs : List A)
    → ((x : A) → Among x xs → (p (e x) ≡ q x) × (p (f x) ≡ q x))
    → filter (λ w. p (end_of w)) (flat_map (λ x. row_ways v (e x) (f x) (points x)) xs) ≡ flat_map (λ x. row_ways v (e x) (f x) (points x)) (filter q xs)
rows_kept p q v e f points [] same = refl
rows_kept {A} p q v e f points (x ∷ xs) same =
    let here = same x (inl refl) in
    filter-append (λ w. p (end_of w)) (row_ways v (e x) (f x) (points x)) (flat_map (λ x. row_ways v (e x) (f x) (points x)) xs)
    ∙ ap₂ (λ (us ws : List Way). us ++ ws) (row_kept p (q x) v (e x) (f x) (points x) here.0 here.1)
    (rows_kept p q v e f points xs (λ y m. same y (inr m)))
    ∙ by (q x)
  where
    by : (b : Bool) → cond b (row_ways v (e x) (f x) (points x)) [] ++ flat_map (λ x. row_ways v (e x) (f x) (points x)) (filter q xs)
        ≡ flat_map (λ x. row_ways v (e x) (f x) (points x)) (cond b (x ∷ filter q xs) (filter q xs))
    by true = refl
    by false = refl

-- what a filter keeps of what a weaker one keeps
pub kept_twice : {A : Type 0} (p q : A → Bool) → ((x : A) → q x ≡ true → p x ≡ true) → (xs : List A) → filter q (filter p xs) ≡ filter q xs
kept_twice p q weaker [] = refl
kept_twice {A} p q weaker (x ∷ xs) = by (p x) (q x) (weaker x) refl (kept_twice p q weaker xs)
  where
    by : (b c : Bool) → (c ≡ true → b ≡ true) → q x ≡ c → filter q (filter p xs) ≡ filter q xs
        → filter q (cond b (x ∷ filter p xs) (filter p xs)) ≡ cond c (x ∷ filter q xs) (filter q xs)
    by true true f e k = ap (λ (d : Bool). cond d (x ∷ filter q (filter p xs)) (filter q (filter p xs))) e ∙ ap (λ (ys : List A). x ∷ ys) k
    by true false f e k = ap (λ (d : Bool). cond d (x ∷ filter q (filter p xs)) (filter q (filter p xs))) e ∙ k
    by false true f e k = absurd (false_true (f refl))
      where
        false_true : false ≡ true → ⊥
        false_true g = cc
    by false false f e k = k

-- the ends that a filter keeps
ends_kept : (p : End → Bool) (ws : List Way) → filter p (map end_of ws) ≡ map end_of (filter (λ w. p (end_of w)) ws)
ends_kept p [] = refl
ends_kept p (w ∷ ws) = by (p w.end) (ends_kept p ws)
  where
    by : (b : Bool) → filter p (map end_of ws) ≡ map end_of (filter (λ w. p (end_of w)) ws)
        → cond b (w.end ∷ filter p (map end_of ws)) (filter p (map end_of ws)) ≡ map end_of (cond b (w ∷ filter (λ w. p (end_of w)) ws) (filter (λ w. p (end_of w)) ws))
    by true e = ap (λ (es : List End). w.end ∷ es) e
    by false e = e

pub order_kept : (p : End → Bool) (v : Point) (ws : List Way) → AreWays v ws
    → filter p (map end_of (sort_by (way_before v) ws)) ≡ map end_of (sort_by (way_before v) (filter (λ w. p (end_of w)) ws))
order_kept p v ws a =
    ends_kept p (sort_by (way_before v) ws) ∙ ap (map end_of) (filter-sort_by (order_of_ways v) (λ w. p (end_of w)) ws a.leave a.decided)

pub ways_kept : (p : End → Bool) (v : Point) (ws : List Way) → AreWays v ws → AreWays v (filter (λ w. p (end_of w)) ws)
ways_kept p v ws a = record {
  leave = All-filter (λ w. p (end_of w)) (Leaves v) ws a.leave;
  decided = AllPairs-filter (AreDecided v) (λ w. p (end_of w)) ws a.decided;
}

-- ---- the ways of the arcs

-- those of the arcs that are numbered from i on
numbered_ways : (v : Point) (number : ℕ → BaseArc) (i : ℕ) (arcs : List BaseArc) → AreNumbers number i arcs → list_all has_segment arcs ≡ true
    → flat_map (ways_of v) (arc_segments i arcs)
    ≡ flat_map (λ n. row_ways v (end_at n true) (end_at n false) (number n).points) (range_with_len i (length arcs))
numbered_ways v number i [] at h = refl
numbered_ways v number i (a ∷ arcs) at h =
    let parts = and_parts (has_segment a) (list_all has_segment arcs) h in
    flat_map-append (ways_of v) (path_segments i a.left a.right 0 a.points) (arc_segments (i + 1) arcs)
    ∙ ap₂ (λ (us ws : List Way). us ++ ws)
    (segment_ways v i a.left a.right a.points (leb-true 2 (length a.points) parts.0)
    ∙ ap (λ (x : BaseArc). row_ways v (end_at i true) (end_at i false) x.points) (sym at.0))
    (numbered_ways v number (i + 1) arcs at.1 parts.1)

module _ (m : BaseMap) (base : is_base m ≡ true) (k : ℕ) (v : Point) where
  -- the row of arc number n
  abbrev row : ℕ → List Way
  row n = row_ways v (end_at n true) (end_at n false) (arc_number m.arcs n).points

  single_row : (n : ℕ) → row n ≡ chain_ways m.arcs [] v (single (merged m) k n)
  single_row n = ap (row_ways v (end_at n true) (end_at n false)) (sym (without_none (arc_number m.arcs n).points))

  rows_same : (ns : List ℕ) → flat_map row ns ≡ flat_map (λ n. chain_ways m.arcs [] v (single (merged m) k n)) ns
  rows_same [] = refl
  rows_same (n ∷ ns) = ap₂ (λ (us ws : List Way). us ++ ws) (single_row n) (rows_same ns)

  -- those of the border arcs after k steps
  border_ways : filter (λ w. is_border_end m k (end_of w)) (flat_map (ways_of v) (base_segments m))
      ≡ chains_ways m.arcs [] v (map (single (merged m) k) (border_numbers (merged m) k))
  border_ways =
      ap (filter (λ w. is_border_end m k (end_of w))) (numbered_ways v (arc_number m.arcs) 0 m.arcs (numbers_lead_all m.arcs) (arcs_have_segments m base))
      ∙ rows_kept (is_border_end m k) (λ n. is_border (merged m) k (arc_number m.arcs n)) v (λ n. end_at n true) (λ n. end_at n false)
      (λ n. (arc_number m.arcs n).points) (range_with_len 0 (length m.arcs)) (λ n i. (refl, refl))
      ∙ rows_same (border_numbers (merged m) k)
      ∙ sym (flat_map-map (chain_ways m.arcs [] v) (single (merged m) k) (border_numbers (merged m) k))

  module _ (planar : IsPartition (base_segments m)) where
    base_ways : AreWays v (flat_map (ways_of v) (base_segments m))
    base_ways =
        let proper = proper_segments m base in
        ways_from_spokes v (base_segments m)
        (All-from_sort_by (comes_before v) (λ (q : Spoke). v ≢ q.toward) (flat_map (spokes_of v) (base_segments m)) (ring_leaves (base_segments m) proper v))
        (all_decided v (base_segments m) (AllPass-from_list_all is_proper (base_segments m) proper) planar.arcs.apart)

    pub base_order_is : base_order m k v
        ≡ map end_of (sort_by (way_before v) (chains_ways m.arcs [] v (map (single (merged m) k) (border_numbers (merged m) k))))
    base_order_is =
        order_kept (is_border_end m k) v (flat_map (ways_of v) (base_segments m)) base_ways
        ∙ ap (λ ws. map end_of (sort_by (way_before v) ws)) border_ways

    pub single_ways : AreWays v (chains_ways m.arcs [] v (map (single (merged m) k) (border_numbers (merged m) k)))
    single_ways = subst (AreWays v) border_ways (ways_kept (is_border_end m k) v (flat_map (ways_of v) (base_segments m)) base_ways)
