-- The sorted spokes at a node are the sides that leave it, by the definition, and so what stands in front of a spoke is a next side.
use Rattle.std.proofs.Common.{◌≡◌, ℕ, ◌+◌, ◌<◌, Bool, true, false, cond, ◌&&◌, ◌||◌, List, [], ◌∷◌, length, map, filter, get_or, All, Contains, IsPermutation, refl, sym, ap, ap₂, ◌∙◌, subst, subst₂, arith}
use Rattle.std.proofs.lemmas.List.Elements.{All-filter, All-map, filter_passes}
use Rattle.std.proofs.lemmas.List.Sorted.{All-permutation, IsPermutation-sym, Contains-permutation}
use Rattle.lemmas.specs.Sorting.{is_sorted_by, IsStrictOrderOn}
use Rattle.lemmas.proofs.Sorting.{sorted_from_adjacent, filter-is_sorted, map-is_sorted, sort_by-permuted}
use Rattle.lemmas.proofs.Permutations.{IsPermutation-filter}
use Rattle.lemmas.proofs.Members.{filter_agree_on, Contains-from_map}
use Rattle.tgap_model.specs.declared.geometry.Point.{Point}
use Rattle.tgap_model.specs.Base.{same_point}
use Rattle.tgap_model.specs.Segment.{point_before, turns_before}
use Rattle.grid_geo.proofs.PointOrder.{points}
use Rattle.ring_walk.specs.declared.span.Span.{Span}
use Rattle.ring_walk.specs.declared.spoke.Spoke.{Spoke}
use Rattle.ring_walk.specs.declared.side.Side.{Side}
use Rattle.ring_walk.specs.Sides.{turned, side_number, sides, start_of, toward_of, spoke_before, spokes_at}
use Rattle.ring_walk.specs.Rings.{in_front, next_side}
use Rattle.ring_walk.specs.Spans.{IsSpokeOf, before, leaves, sides_in, AreOrdered, IsInFront}
use Rattle.ring_walk.proofs.Order.{then_number, before_strict, before_tied}
use Rattle.ring_walk.proofs.SideNumbers.{side_number-inj, turned-turned}

-- ---- filters of what is mapped

filter_mapped : {A B : Type 0} (q : B → Bool) (f : A → B) (xs : List A) → filter q (map f xs) ≡ map f (filter (λ x. q (f x)) xs)
filter_mapped q f [] = refl
filter_mapped q f (x ∷ xs) = by (q (f x)) (filter_mapped q f xs)
  where
    by : (b : Bool) → filter q (map f xs) ≡ map f (filter (λ x. q (f x)) xs)
        → cond b (f x ∷ filter q (map f xs)) (filter q (map f xs)) ≡ map f (cond b (x ∷ filter (λ x. q (f x)) xs) (filter (λ x. q (f x)) xs))
    by true e = ap (λ ys. f x ∷ ys) e
    by false e = e

-- ---- all at once

module _ (spans : List Span) (spokes : List Spoke) (each : All (IsSpokeOf spans) spokes) (same : IsPermutation (sides (length spans)) (sides_in spokes)) (o : AreOrdered spokes) where
  abbrev pub n : ℕ
  n = length spans

  -- each spoke stands before the next one
  strictly : is_sorted_by before spokes ≡ true
  strictly = sorted_from_adjacent before spokes (λ k d l. by k d l (before (get_or spokes k d) (get_or spokes (k + 1) d)) refl)
    where
      by : (k : ℕ) (d : Spoke) → k + 1 < length spokes → (b : Bool) → before (get_or spokes k d) (get_or spokes (k + 1) d) ≡ b → b ≡ true
      by k d l true e = refl
      by k d l false e = absurd (o.differ k (k + 1) d (omega arith) l
          (side_number-inj (get_or spokes k d).side (get_or spokes (k + 1) d).side (before_tied (get_or spokes k d) (get_or spokes (k + 1) d) e (o.sorted k d (omega arith) l))))

  module _ (v : Point) where
    -- the side leaves the node
    abbrev at : Side → Bool
    at s = same_point (start_of spans s) v

    abbrev AtNode : Spoke → Type 0
    AtNode p = IsSpokeOf spans p × (p.node ≡ v)

    -- round the node the order of spokes is that of their sides
    alike : (x y : Spoke) → AtNode x → AtNode y → spoke_before spans x.side y.side ≡ before x y
    alike x y hx hy = sym (
        ap (λ (b : Bool). b || (same_point x.node y.node && then_number (turns_before x.node x.toward y.toward) (turns_before x.node y.toward x.toward) (side_number x.side) (side_number y.side)))
        (subst₂ (λ (a b : Point). point_before a b ≡ false) (sym hx.1) (sym hy.1) (points.order.itself v tt))
        ∙ ap (λ (b : Bool). b && then_number (turns_before x.node x.toward y.toward) (turns_before x.node y.toward x.toward) (side_number x.side) (side_number y.side))
        (subst₂ (λ (a b : Point). same_point a b ≡ true) (sym hx.1) (sym hy.1) (points.itself v))
        ∙ ap₂ (λ (a b : Point). then_number (turns_before x.node a b) (turns_before x.node b a) (side_number x.side) (side_number y.side)) hx.0.toward hy.0.toward
        ∙ ap (λ (u : Point). then_number (turns_before u (toward_of spans x.side) (toward_of spans y.side)) (turns_before u (toward_of spans y.side) (toward_of spans x.side)) (side_number x.side) (side_number y.side))
        hx.0.node
        )

    abbrev pub ring : List Spoke
    ring = filter (leaves v) spokes

    all_at_node : All AtNode ring
    all_at_node = λ k d l. (All-filter (leaves v) (IsSpokeOf spans) spokes each k d l, points.same (get_or ring k d).node v (filter_passes (leaves v) spokes k d l))

    -- a side of a spoke at the node
    abbrev IsOfSpoke : Side → Type 0
    IsOfSpoke s = (p : Spoke) × AtNode p × (p.side ≡ s)

    order : IsStrictOrderOn IsOfSpoke (spoke_before spans)
    order = record {
      itself = λ s h. subst (λ (t : Side). spoke_before spans t t ≡ false) h.2 (alike h.0 h.0 h.1 h.1 ∙ before_strict.itself h.0 tt);
      passes = λ s t u hs ht hu e f.
          subst₂ (λ (a b : Side). spoke_before spans a b ≡ true) hs.2 hu.2
          (alike hs.0 hu.0 hs.1 hu.1 ∙ before_strict.passes hs.0 ht.0 hu.0 tt tt tt
          (sym (alike hs.0 ht.0 hs.1 ht.1) ∙ subst₂ (λ (a b : Side). spoke_before spans a b ≡ true) (sym hs.2) (sym ht.2) e)
          (sym (alike ht.0 hu.0 ht.1 hu.1) ∙ subst₂ (λ (a b : Side). spoke_before spans a b ≡ true) (sym ht.2) (sym hu.2) f));
    }

    in_order : is_sorted_by (spoke_before spans) (sides_in ring) ≡ true
    in_order = map-is_sorted AtNode before (spoke_before spans) (λ (p : Spoke). p.side) alike ring all_at_node
        ∙ filter-is_sorted before_strict (leaves v) spokes (λ k d l. tt) strictly

    kept : filter at (sides_in spokes) ≡ sides_in ring
    kept = filter_mapped at (λ (p : Spoke). p.side) spokes
        ∙ ap sides_in (filter_agree_on (λ (p : Spoke). at p.side) (leaves v) spokes (λ k d l. ap (λ (u : Point). same_point u v) (sym (each k d l).node)))

    moved : IsPermutation (filter at (sides n)) (sides_in ring)
    moved = subst (IsPermutation (filter at (sides n))) kept (IsPermutation-filter at (sides n) (sides_in spokes) same)

    of_spokes : All IsOfSpoke (filter at (sides n))
    of_spokes = All-permutation IsOfSpoke (sides_in ring) (filter at (sides n)) (IsPermutation-sym (filter at (sides n)) (sides_in ring) moved)
        (All-map IsOfSpoke (λ (p : Spoke). p.side) ring (λ k d l. (get_or ring k d, all_at_node k d l, refl)))

    -- the spokes that leave the node are the sides that do, in their order
    pub node_sides : sides_in ring ≡ spokes_at spans (sides n) v
    unfolding spokes_at
    node_sides = sym (sort_by-permuted order (filter at (sides n)) (sides_in ring) of_spokes in_order moved)

  -- where the side of spoke j stands in front of that of spoke i, it is the next one of that turned
  pub next_of_turned : (i j : ℕ) (d : Spoke) → i < length spokes → IsInFront spokes i j → next_side spans (turned (get_or spokes i d).side) ≡ (get_or spokes j d).side
  next_of_turned i j d l front =
      let p = get_or spokes i d in
      ap (λ (s : Side). in_front s (spokes_at spans (sides n) (start_of spans s))) (turned-turned p.side)
      ∙ ap (λ (u : Point). in_front p.side (spokes_at spans (sides n) u)) (sym (each i d l).node)
      ∙ ap (in_front p.side) (sym (node_sides p.node))
      ∙ sym (front d)

  -- each side is that of a spoke
  pub side_of_spoke : (s : Side) → Contains (sides n) s → (p : Spoke) × Contains spokes p × (p.side ≡ s)
  side_of_spoke s c = Contains-from_map (λ (p : Spoke). p.side) spokes s (Contains-permutation (sides n) (sides_in spokes) s same c)
