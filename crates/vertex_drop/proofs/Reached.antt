-- A sweep that goes over the keys of edges in their order, and finds each edge by its key.
use Rattle.std.proofs.Common.{◌≡◌, ◌⊎◌, inl, inr, ℕ, zero, suc, ◌+◌, ◌-◌, ◌<◌, ◌≤◌, ◌==◌, ◌&&◌, Bool, true, false, List, [], length, get_or, All, AllPairs, Contains, refl, sym, ap, ◌∙◌, subst, arith}
use Rattle.std.specs.List.{list_any}
use Rattle.std.specs.List.Sorted.{IsNonDecreasing}
use Rattle.std.proofs.lemmas.Bool.{eq-eqb, ne_eqb, and_right, cases_lt, cases_order}
use Rattle.std.proofs.lemmas.List.{get_or_default}
use Rattle.std.proofs.lemmas.List.Folds.{list_any_none, list_any-from_Any}
use Rattle.tgap_model.specs.declared.geometry.Point.{Point}
use Rattle.tgap_model.specs.declared.geometry.Seg.{Seg}
use Rattle.tgap_model.specs.declared.slice.Edge.{Edge}
use Rattle.tgap_model.specs.Removals.{has_side}
use Rattle.vertex_drop.specs.declared.removable.Rule.{Rule}
use Rattle.vertex_drop.specs.Left.{is_swept}
use Rattle.vertex_drop.specs.Sweep.{IsEdgeSwept, sweep_chosen}
use Rattle.vertex_drop.proofs.Swept.{IsGoing, edge_passed, edge_swept, all_swept}
use Rattle.vertex_drop.proofs.Unswept.{Ascend, no_edge}

module _ (rule : Rule) (made : ℕ) (keys : List ℕ) (edges : List Edge) where
  -- the key of edge number i, and key number m
  abbrev key_at : ℕ → ℕ
  key_at i = (get_or edges i no_edge).key

  abbrev sought_at : ℕ → ℕ
  sought_at m = get_or keys m 0

  -- edges up to a place
  passed_to : (kept : List Seg) (gone : List Point) (i n : ℕ) → i + n ≤ length edges
      → ((k : ℕ) → i ≤ k → k < i + n → is_swept made keys (get_or edges k no_edge) ≡ false)
      → IsGoing rule (is_swept made keys) edges kept gone i → IsGoing rule (is_swept made keys) edges kept gone (i + n)
  passed_to kept gone i zero l h s = let e : i ≡ i + 0 = omega arith in subst (IsGoing rule (is_swept made keys) edges kept gone) e s
  passed_to kept gone i (suc n) l h s =
      let e : i + n + 1 ≡ i + suc n = omega arith in
      subst (IsGoing rule (is_swept made keys) edges kept gone) e
      (edge_passed rule (is_swept made keys) edges kept gone (i + n) no_edge (omega (arith, l)) (h (i + n) (omega arith) (omega arith))
      (passed_to kept gone i n (omega (arith, l)) (λ k le lt. h k le (omega (arith, lt))) s))

  -- an edge whose key is none of the keys
  not_swept : (i : ℕ) → ((m : ℕ) → m < length keys → (sought_at m < key_at i) ⊎ (key_at i < sought_at m)) → is_swept made keys (get_or edges i no_edge) ≡ false
  not_swept i apart =
      and_right (has_side made (get_or edges i no_edge)) (list_any (λ k. k == key_at i) keys)
      (list_any_none (λ k. k == key_at i) keys (λ m d l. ne_eqb (get_or keys m d) (key_at i) (λ e. differ m (get_or_default keys m d 0 l) e (apart m l))))
    where
      differ : (m : ℕ) {n : ℕ} → n ≡ sought_at m → n ≡ key_at i → (sought_at m < key_at i) ⊎ (key_at i < sought_at m) → ⊥
      differ m e f (inl less) = omega (arith, e, f, less)
      differ m e f (inr more) = omega (arith, e, f, more)

  -- Key number j is to come. The edges before a place were passed or swept: their keys are less than all keys to come,
  -- and those from there on are greater than all keys before.
  pub record IsReached (kept : List Seg) (gone : List Point) (j : ℕ) : Type 0 where
    pub place : ℕ
    pub short : place ≤ length edges
    pub going : IsGoing rule (is_swept made keys) edges kept gone place
    pub below : (i m : ℕ) → i < place → j ≤ m → m < length keys → key_at i < sought_at m
    pub above : (i m : ℕ) → place ≤ i → i < length edges → m < j → m < length keys → sought_at m < key_at i

  pub reach_begins : IsReached [] [] 0
  reach_begins = record {
    place = 0;
    short = omega arith;
    going = going_begins;
    below = λ i m l le s. absurd (omega (arith, l));
    above = λ i m le l s t. absurd (omega (arith, s));
  }
    where
      going_begins : IsGoing rule (is_swept made keys) edges [] [] 0
      going_begins = refl

  module _ (ascend : AllPairs (λ j k. j < k) keys) (up : Ascend edges) (kept all_kept : List Seg) (gone all_gone : List Point) where
    module _ (j i : ℕ) (more : j < length keys) (there : i < length edges) (found : key_at i ≡ sought_at j) (h : IsReached kept gone j) where
      -- the edge is not before the place that was reached
      after : h.place ≤ i
      after = by (cases_lt i h.place)
        where
          by : (i < h.place) ⊎ (h.place ≤ i) → h.place ≤ i
          by (inl l) = absurd (let less = h.below i j l (omega arith) more in omega (arith, less, found))
          by (inr le) = le

      -- edges between are none of those
      between : (k : ℕ) → h.place ≤ k → k < i → is_swept made keys (get_or edges k no_edge) ≡ false
      between k le l = not_swept k (λ m s. by m s (cases_lt m j))
        where
          less : key_at k < key_at i
          less = up k i no_edge l there

          by : (m : ℕ) → m < length keys → (m < j) ⊎ (j ≤ m) → (sought_at m < key_at k) ⊎ (key_at k < sought_at m)
          by m s (inl t) = inl (h.above k m le (omega (arith, l, there)) t s)
          by m s (inr t) = inr (from (cases_order j m))
            where
              from : (j ≡ m) ⊎ ((j < m) ⊎ (m < j)) → key_at k < sought_at m
              from (inl e) = let f = ap sought_at e in omega (arith, less, found, f)
              from (inr (inl u)) = let f = ascend j m 0 u s in omega (arith, less, found, f)
              from (inr (inr u)) = absurd (omega (arith, u, t))

      pub reach_more : has_side made (get_or edges i no_edge) ≡ true
          → IsEdgeSwept rule (is_swept made keys) edges i no_edge kept all_kept gone all_gone → IsReached all_kept all_gone (j + 1)
      reach_more side w =
          let e : h.place + (i - h.place) ≡ i = omega (arith, after) in
          let here : IsGoing rule (is_swept made keys) edges kept gone i =
          subst (IsGoing rule (is_swept made keys) edges kept gone) e
          (passed_to kept gone h.place (i - h.place) (omega (arith, after, there)) (λ k le l. between k le (omega (arith, l, after))) h.going) in
          record {
            place = i + 1;
            short = omega (arith, there);
            going = edge_swept rule (is_swept made keys) edges kept all_kept gone all_gone i no_edge there chosen w here;
            below = λ k m l le s. lower k m l le s;
            above = λ k m le l s t. upper k m le l s t;
          }
        where
          chosen : is_swept made keys (get_or edges i no_edge) ≡ true
          chosen =
              ap (λ (b : Bool). b && list_any (λ k. k == key_at i) keys) side
              ∙ list_any-from_Any (λ k. k == key_at i) keys (j, sought_at j, more, sym (get_or_default keys j 0 (sought_at j) more), eq-eqb (sought_at j) (key_at i) (sym found))

          lower : (k m : ℕ) → k < i + 1 → j + 1 ≤ m → m < length keys → key_at k < sought_at m
          lower k m l le s = by (cases_lt k i)
            where
              later : sought_at j < sought_at m
              later = ascend j m 0 (omega (arith, le)) s

              by : (k < i) ⊎ (i ≤ k) → key_at k < sought_at m
              by (inl t) = let f = up k i no_edge t there in omega (arith, f, found, later)
              by (inr t) = let e : k ≡ i = omega (arith, t, l) in let f = ap key_at e in omega (arith, f, found, later)

          upper : (k m : ℕ) → i + 1 ≤ k → k < length edges → m < j + 1 → m < length keys → sought_at m < key_at k
          upper k m le l s t = by (cases_lt m j)
            where
              later : key_at i < key_at k
              later = up i k no_edge (omega (arith, le)) l

              by : (m < j) ⊎ (j ≤ m) → sought_at m < key_at k
              by (inl u) = let f = ascend m j 0 u more in omega (arith, f, found, later)
              by (inr u) = let e : m ≡ j = omega (arith, u, s) in let f = ap sought_at e in omega (arith, f, found, later)

  -- the edges after the last one
  pub reach_ends : (kept : List Seg) (gone : List Point) (j : ℕ) → length keys ≤ j → IsReached kept gone j
      → gone ≡ sweep_chosen rule.ratio rule.area (is_swept made keys) [] edges
  reach_ends kept gone j le h =
      let e : h.place + (length edges - h.place) ≡ length edges = omega (arith, h.short) in
      all_swept rule (is_swept made keys) edges kept gone (length edges) (omega arith)
      (subst (IsGoing rule (is_swept made keys) edges kept gone) e
      (passed_to kept gone h.place (length edges - h.place) (omega (arith, h.short))
      (λ i s l. not_swept i (λ m t. inl (h.above i m s (omega (arith, l, h.short)) (omega (arith, t, le)) t))) h.going))

-- the edge that has a key of the list, by its place
pub found_edge : (made : ℕ) (live : List Edge) (keys : List ℕ) (j : ℕ) → j < length keys
    → All (λ k. (e : Edge) × Contains live e × (e.key ≡ k) × (has_side made e ≡ true)) keys
    → (i : ℕ) × (i < length live) × ((get_or live i no_edge).key ≡ get_or keys j 0) × (has_side made (get_or live i no_edge) ≡ true)
found_edge made live keys j l there =
    let h = there j 0 l in
    let same : get_or live h.1.0 no_edge ≡ h.0 = get_or_default live h.1.0 no_edge h.0 h.1.1 ∙ h.1.2 in
    (h.1.0, h.1.1, ap (λ (e : Edge). e.key) same ∙ h.2, ap (has_side made) same ∙ h.3)

-- strictly ascending keys do not descend
pub non_decreasing : (keys : List ℕ) → AllPairs (λ j k. j < k) keys → IsNonDecreasing keys
non_decreasing keys ascend i j d le l = by (cases_lt i j)
  where
    by : (i < j) ⊎ (j ≤ i) → get_or keys i d ≤ get_or keys j d
    by (inl less) = let h = ascend i j d less l in omega (arith, h)
    by (inr more) = let e : i ≡ j = omega (arith, le, more) in let f = ap (λ (n : ℕ). get_or keys n d) e in omega (arith, f)
