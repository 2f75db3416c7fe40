-- The last one of the spokes of a node, found from the one of greatest number on.
use Rattle.std.proofs.Common.{◌≡◌, ◌≢◌, ℕ, zero, suc, ◌+◌, ◌<◌, Bool, true, false, ◌&&◌, ◌||◌, Option, Some, None, List, [], ◌∷◌, length, filter, drop, get_or, All, AllPairs, refl, sym, ap, ap₂, ◌∙◌, subst, length-drop, arith}
use Rattle.std.specs.Prelude.{⊤, cond, IsTrue, IfSome}
use Rattle.std.specs.List.{last_or, list_any}
use Rattle.std.specs.Option.{option_or}
use Rattle.std.proofs.lemmas.List.{drop_more, drop_all, get_or-drop}
use Rattle.std.proofs.lemmas.List.Elements.{All-head, All-tail, All-filter, All-drop, filter_passes}
use Rattle.std.proofs.lemmas.List.Kept.{AllPairs-filter}
use Rattle.lemmas.specs.Sorting.{insert_by, sort_by, is_sorted_by, IsStrictOrderOn}
use Rattle.lemmas.proofs.Sorting.{sorted_tail, sorted_head, All-sort_by, sort_by-is_sorted, list_any-sort_by, filter-sort_by, all_pairs_decided}
use Rattle.tgap_model.specs.declared.geometry.Point.{Point}
use Rattle.tgap_model.specs.Base.{in_limits, same_point}
use Rattle.tgap_model.specs.Segment.{point_before}
use Rattle.grid_geo.proofs.PointOrder.{points}
use Rattle.ring_walk.specs.declared.span.Span.{Span}
use Rattle.ring_walk.specs.declared.side.Side.{Side}
use Rattle.ring_walk.specs.declared.side.Way.{Way}
use Rattle.ring_walk.specs.declared.side.Way.TheVariants.{Along, Against}
use Rattle.ring_walk.specs.declared.spoke.Spoke.{Spoke}
use Rattle.ring_walk.specs.Sides.{start_by, toward_by, start_of, toward_of, span_number, sides, spoke_before, spokes_at}
use Rattle.ring_walk.specs.Spans.{AreSpans, IsSide, before}
use Rattle.ring_walk.proofs.Order.{before_strict, before_tied}
use Rattle.ring_walk.proofs.SideNumbers.{all_sides_within, side_number-inj, sides_differ}
use Rattle.face_cuts.specs.Sectors.{leaves_along, leaves_before, sector_at, spokes}
use Rattle.face_cuts.specs.Spokes.{IsSpoke, later}
use Rattle.face_cuts.specs.Tables.{sides_leaving}
use Rattle.face_cuts.proofs.Cases.{by_test, or_left, or_right}

-- ---- the last one of a sorted list to which one is added

module _ {A : Type 0} where
  -- it is that of what follows, or else the first one
  last_holds : (Q : A → Type 0) (y : A) (ys : List A) → Q y → All Q ys → (m : A) × (last_or (Some y) ys ≡ Some m) × Q m
  last_holds Q y [] q h = (y, refl, q)
  last_holds Q y (z ∷ zs) q h = last_holds Q z zs (All-head Q z zs h) (All-tail Q z zs h)

  pub last_or_else : (o : Option A) (xs : List A) → last_or o xs ≡ option_or (last_or None xs) o
  last_or_else o [] = refl
  last_or_else o (x ∷ xs) = (let h = last_holds (λ y. ⊤) x xs tt (λ k d l. tt) in h.1 ∙ sym (ap (λ (q : Option A). option_or q o) h.1))

module _ {A : Type 0} (P : A → Type 0) (before : A → A → Bool) (order : IsStrictOrderOn P before) where
  -- of a member and the last one of others, the one that comes last
  abbrev latest : A → Option A → A
  latest x None = x
  latest x (Some y) = cond (before x y) y x

  same_last : (x y : A) (ys : List A) → before x y ≡ false → latest x (last_or None ys) ≡ latest x (last_or (Some y) ys)
  same_last x y [] e = sym (ap (λ b. cond b y x) e)
  same_last x y (z ∷ zs) e = refl

  last_insert : (o : Option A) (x : A) (ys : List A) → P x → All P ys → is_sorted_by before ys ≡ true → last_or o (insert_by before x ys) ≡ Some (latest x (last_or None ys))
  last_insert o x [] px ps s = refl
  last_insert o x (y ∷ ys) px ps s =
      by_test (before x y)
      (λ e.
      let py = All-head P y ys ps in
      let rest = All-tail P y ys ps in
      let after = sorted_head before order y ys py rest s in
      let h = last_holds (λ z. before x z ≡ true) y ys e (λ k d l. order.passes x y (get_or ys k d) px py (rest k d l) e (after k d l)) in
      ap (λ b. last_or o (cond b (x ∷ y ∷ ys) (y ∷ insert_by before x ys))) e ∙ h.1
      ∙ ap Some (sym (ap (latest x) h.1 ∙ ap (λ b. cond b h.0 x) h.2)))
      (λ e.
      ap (λ b. last_or o (cond b (x ∷ y ∷ ys) (y ∷ insert_by before x ys))) e
      ∙ last_insert (Some y) x ys px (All-tail P y ys ps) (sorted_tail before y ys s) ∙ ap Some (same_last x y ys e))

-- ---- the order of spokes

module _ (spans : List Span) (h : AreSpans spans) (v : Point) where
  -- the direction in which a side leaves its node
  record Leaves (a b : Point) : Type 0 where
    pub near : IsTrue (in_limits a) × IsTrue (in_limits b)
    pub apart : a ≢ b

  leaves_by : (w : Way) (i : ℕ) → i < length spans → Leaves (start_by w (span_number spans i)) (toward_by w (span_number spans i))
  leaves_by Along i l = record { near = (h.each i _ l).first; apart = (h.each i _ l).leaves_first }
  leaves_by Against i l = record { near = (h.each i _ l).last; apart = (h.each i _ l).leaves_last }

  abbrev spoke : (s : Side) → IsSpoke spans v s → Spoke
  spoke s p =
      let l = leaves_by s.way s.span p.side in
      record { node = start_of spans s; toward = toward_of spans s; side = s; near = l.near; apart = l.apart }

  alike : (s t : Side) (p : IsSpoke spans v s) (q : IsSpoke spans v t) → before (spoke s p) (spoke t q) ≡ spoke_before spans s t
  alike s t p q =
      let node : start_of spans s ≡ start_of spans t = p.node ∙ sym q.node in
      ap₂ (λ (a b : Bool). a || (b && spoke_before spans s t))
      (subst (λ (u : Point). point_before (start_of spans s) u ≡ false) node (points.order.itself (start_of spans s) tt))
      (subst (λ (u : Point). same_point (start_of spans s) u ≡ true) node (points.itself (start_of spans s)))

  pub order : IsStrictOrderOn (IsSpoke spans v) (spoke_before spans)
  order = record {
    itself = λ s p. sym (alike s s p p) ∙ before_strict.itself (spoke s p) tt;
    passes = λ s t u p q r e f.
        sym (alike s u p r) ∙ before_strict.passes (spoke s p) (spoke t q) (spoke u r) tt tt tt (alike s t p q ∙ e) (alike t u q r ∙ f);
  }

  pub decided : (s t : Side) → IsSpoke spans v s → IsSpoke spans v t → spoke_before spans s t ≡ false → spoke_before spans t s ≡ false → s ≡ t
  decided s t p q e f = side_number-inj s t (before_tied (spoke s p) (spoke t q) (alike s t p q ∙ e) (alike t s q p ∙ f))

  -- different spokes of the node
  pub record AreSpokes (xs : List Side) : Type 0 where
    pub each : All (IsSpoke spans v) xs
    pub differ : AllPairs (λ s t. s ≢ t) xs

  pairs : (xs : List Side) → AreSpokes xs → AllPairs (λ s t. (spoke_before spans s t || spoke_before spans t s) ≡ true) xs
  pairs xs a = all_pairs_decided (IsSpoke spans v) (spoke_before spans) decided xs a.each a.differ

  -- the last one of some spokes
  abbrev pub last_of : List Side → Option Side
  last_of xs = last_or None (sort_by (spoke_before spans) xs)

  later_is : (s : Side) (o : Option Side) → latest (IsSpoke spans v) (spoke_before spans) order s o ≡ later spans s o
  later_is s None = refl
  later_is s (Some t) = refl

  pub last_more : (s : Side) (xs : List Side) → IsSpoke spans v s → AreSpokes xs → last_of (s ∷ xs) ≡ Some (later spans s (last_of xs))
  last_more s xs p a =
      last_insert (IsSpoke spans v) (spoke_before spans) order None s (sort_by (spoke_before spans) xs) p (All-sort_by (spoke_before spans) (IsSpoke spans v) xs a.each)
      (sort_by-is_sorted (spoke_before spans) xs (pairs xs a))
      ∙ ap Some (later_is s (last_of xs))

  pub last_filtered : (q : Side → Bool) (xs : List Side) → AreSpokes xs → last_or None (filter q (sort_by (spoke_before spans) xs)) ≡ last_of (filter q xs)
  last_filtered q xs a = ap (last_or None) (filter-sort_by order q xs a.each (pairs xs a))

  pub filtered : (q : Side → Bool) (xs : List Side) → AreSpokes xs → AreSpokes (filter q xs)
  filtered q xs a = record { each = All-filter q (IsSpoke spans v) xs a.each; differ = AllPairs-filter (λ s t. s ≢ t) q xs a.differ }

  pub later_spoke : (s : Side) (o : Option Side) → IsSpoke spans v s → IfSome o (IsSpoke spans v) → IsSpoke spans v (later spans s o)
  later_spoke s None p h = p
  later_spoke s (Some t) p h = by (spoke_before spans s t)
    where
      by : (b : Bool) → IsSpoke spans v (cond b t s)
      by true = h
      by false = p

-- ---- the spokes from a place on, in the order of their numbers

abbrev pub spokes_from : List Span → Point → ℕ → List Side
spokes_from spans v i = drop i (sides_leaving spans v)

module _ (spans : List Span) (v : Point) where
  abbrev at : Side → Bool
  at s = same_point (start_of spans s) v

  abbrev leaving : List Side
  leaving = sides_leaving spans v

  -- none is left
  pub none_from : spokes_from spans v (length leaving) ≡ []
  none_from = drop_all (length leaving) leaving (omega arith)

  pub all_are_spokes : (h : AreSpans spans) → AreSpokes spans h v leaving
  all_are_spokes h =
      let all = sides (length spans) in
      record {
        each = λ k d l. record {
          side = All-filter at (IsSide (length spans)) all (all_sides_within (length spans)) k d l;
          node = points.same (start_of spans (get_or leaving k d)) v (filter_passes at all k d l);
        };
        differ = AllPairs-filter (λ s t. s ≢ t) at all (sides_differ (length spans));
      }

  pub are_spokes : (h : AreSpans spans) (i : ℕ) → AreSpokes spans h v (spokes_from spans v i)
  are_spokes h i =
      let whole = all_are_spokes h in
      record {
        each = All-drop (IsSpoke spans v) i leaving whole.each;
        differ = λ j k d less short e.
            let m = length-drop i leaving in
            whole.differ (i + j) (i + k) d (omega (arith, less)) (omega (arith, short, m)) (sym (get_or-drop i leaving j d) ∙ e ∙ get_or-drop i leaving k d);
      }

  -- what some spoke passes from a place on, some spoke passes
  any_drop : (q : Side → Bool) (i : ℕ) (xs : List Side) → list_any q (drop i xs) ≡ true → list_any q xs ≡ true
  any_drop q zero xs e = e
  any_drop q (suc i) [] e = e
  any_drop q (suc i) (x ∷ xs) e = or_right (q x) (list_any q xs) (any_drop q i xs e)

-- ---- the loop

-- what is known of the spokes from a place on: none leaves along the direction, the last spoke, and the last one before the direction
pub record AreSeen (spans : List Span) (v p : Point) (i : ℕ) (all front : Option Side) : Type 0 where
  pub apart : list_any (leaves_along spans v p) (spokes_from spans v i) ≡ false
  pub last : all ≡ last_or None (sort_by (spoke_before spans) (spokes_from spans v i))
  pub before : front ≡ last_or None (sort_by (spoke_before spans) (filter (leaves_before spans v p) (spokes_from spans v i)))
  pub last_spoke : IfSome all (IsSpoke spans v)
  pub before_spoke : IfSome front (IsSpoke spans v)

module _ (spans : List Span) (h : AreSpans spans) (v p : Point) where
  pub seen_none : AreSeen spans v p (length (sides_leaving spans v)) None None
  seen_none = record {
    apart = ap (list_any (leaves_along spans v p)) (none_from spans v);
    last = sym (ap (last_of spans h v) (none_from spans v));
    before = sym (ap (λ (xs : List Side). last_of spans h v (filter (leaves_before spans v p) xs)) (none_from spans v));
    last_spoke = tt;
    before_spoke = tt;
  }

  module _ (i : ℕ) (s : Side) (l : i < length (sides_leaving spans v)) (here : s ≡ get_or (sides_leaving spans v) i s) (last before : Option Side) (a : AreSeen spans v p (i + 1) last before) where
    more : spokes_from spans v i ≡ s ∷ spokes_from spans v (i + 1)
    more = drop_more (sides_leaving spans v) i s l ∙ ap (λ (t : Side). t ∷ spokes_from spans v (i + 1)) (sym here)

    pub is_spoke : IsSpoke spans v s
    is_spoke = subst (IsSpoke spans v) (sym here) ((all_are_spokes spans v h).each i s l)

    -- a spoke in the direction
    pub seen_along : leaves_along spans v p s ≡ true → None ≡ sector_at spans v p
    unfolding spokes_at
    seen_along f =
        let found : list_any (leaves_along spans v p) (spokes_from spans v i) ≡ true = ap (list_any (leaves_along spans v p)) more ∙ or_left (leaves_along spans v p s) (list_any (leaves_along spans v p) (spokes_from spans v (i + 1))) f in
        let all : list_any (leaves_along spans v p) (spokes spans v) ≡ true =
        list_any-sort_by (spoke_before spans) (leaves_along spans v p) (sides_leaving spans v) ∙ any_drop spans v (leaves_along spans v p) i (sides_leaving spans v) found in
        sym (ap (λ (b : Bool). cond b None (last_or (last_or None (spokes spans v)) (filter (leaves_before spans v p) (spokes spans v)))) all)

    pub seen_spoke : (now : Option Side) → leaves_along spans v p s ≡ false → now ≡ cond (leaves_before spans v p s) (Some (later spans s before)) before → AreSeen spans v p i (Some (later spans s last)) now
    seen_spoke now f is =
        let rest = spokes_from spans v (i + 1) in
        let q = leaves_before spans v p in
        let spoken = are_spokes spans v h (i + 1) in
        record {
          apart = ap (list_any (leaves_along spans v p)) more ∙ ap (λ b. b || list_any (leaves_along spans v p) rest) f ∙ a.apart;
          last = sym (ap (last_of spans h v) more ∙ last_more spans h v s rest is_spoke spoken ∙ ap (λ o. Some (later spans s o)) (sym a.last));
          before = by_test (q s)
              (λ t. is ∙ ap (λ b. cond b (Some (later spans s before)) before) t
              ∙ sym (ap (λ (xs : List Side). last_of spans h v (filter q xs)) more ∙ ap (λ b. last_of spans h v (cond b (s ∷ filter q rest) (filter q rest))) t
              ∙ last_more spans h v s (filter q rest) is_spoke (filtered spans h v q rest spoken) ∙ ap (λ o. Some (later spans s o)) (sym a.before)))
              (λ t. is ∙ ap (λ b. cond b (Some (later spans s before)) before) t ∙ a.before
              ∙ sym (ap (λ (xs : List Side). last_of spans h v (filter q xs)) more ∙ ap (λ b. last_of spans h v (cond b (s ∷ filter q rest) (filter q rest))) t));
          last_spoke = later_spoke spans h v s last is_spoke a.last_spoke;
          before_spoke = by_test (q s)
              (λ t. subst (λ (o : Option Side). IfSome o (IsSpoke spans v)) (sym (is ∙ ap (λ b. cond b (Some (later spans s before)) before) t)) (later_spoke spans h v s before is_spoke a.before_spoke))
              (λ t. subst (λ (o : Option Side). IfSome o (IsSpoke spans v)) (sym (is ∙ ap (λ b. cond b (Some (later spans s before)) before) t)) a.before_spoke);
        }

  -- all spokes are seen
  pub seen_all : (last before : Option Side) → AreSeen spans v p 0 last before → option_or before last ≡ sector_at spans v p
  unfolding spokes_at
  seen_all last before a =
      let all = sides_leaving spans v in
      let q = leaves_before spans v p in
      let sorted = spokes spans v in
      let apart : list_any (leaves_along spans v p) sorted ≡ false = list_any-sort_by (spoke_before spans) (leaves_along spans v p) all ∙ a.apart in
      let front : last_or None (filter q sorted) ≡ before = last_filtered spans h v q all (all_are_spokes spans v h) ∙ sym a.before in
      sym (
      ap (λ (b : Bool). cond b None (last_or (last_or None sorted) (filter q sorted))) apart
      ∙ last_or_else (last_or None sorted) (filter q sorted)
      ∙ ap₂ (λ (o r : Option Side). option_or o r) front (sym a.last)
      )
