-- The last one of the spokes of a node that pass a test, and the one in front of a spoke round the node.
use Rattle.std.proofs.Common.{◌≡◌, ◌≢◌, ◌∙◌, ℕ, nat_lt, zero, suc, ◌-◌, ◌<◌, ◌≤◌, Bool, true, false, ◌&&◌, ◌||◌, Option, Some, None, List, length, filter, get_or, All, AllPairs, refl, sym, ap, ap₂, subst, arith}
use Rattle.std.specs.Prelude.{cond, IfSome, unwrap_or}
use Rattle.std.specs.Option.{option_or}
use Rattle.std.proofs.lemmas.Bool.{false≢true, and_from, and_parts, ltb-true, ltb-false}
use Rattle.std.proofs.lemmas.List.{get_or_default}
use Rattle.std.proofs.lemmas.List.Kept.{AllPairs-filter}
use Rattle.lemmas.proofs.Members.{All-from_members}
use Rattle.lemmas.proofs.Sorting.{All-from_sort_by, sort_by-is_sorted, sorted_pairs, all_pairs_decided}
use Rattle.tgap_model.specs.declared.geometry.Point.{Point}
use Rattle.tgap_model.specs.Base.{same_point}
use Rattle.ring_walk.specs.declared.span.Span.{Span}
use Rattle.ring_walk.specs.declared.side.Side.{Side}
use Rattle.ring_walk.specs.Rings.{in_front}
use Rattle.ring_walk.specs.Sides.{start_of, sides, same_side, spoke_before, spokes_at}
use Rattle.ring_walk.specs.Spans.{AreSpans}
use Rattle.ring_walk.proofs.NextSides.{from_round, in_front-at, place_before, round_differs, round_has}
use Rattle.ring_walk.proofs.SideNumbers.{same_side-itself, same_side-true, sides_differ}
use Rattle.face_cuts.specs.Spokes.{IsSpoke, later}
use Rattle.face_cuts.proofs.LastSpokes.{decided, order}
use Rattle.face_cuts.proofs.Cases.{by_test, by_option, not_held, or_left, or_right}
use Rattle.arc_places.specs.declared.front.Front.{Front}
use Rattle.arc_places.specs.SlotTables.{AreLast, IsLastOf}

module _ (spans : List Span) (h : AreSpans spans) (v : Point) where
  -- ---- the order of the spokes

  one_way : (s t : Side) → IsSpoke spans v s → IsSpoke spans v t → spoke_before spans s t ≡ true → spoke_before spans t s ≡ false
  one_way s t p q e = not_held (spoke_before spans t s) (λ f. false≢true (sym ((order spans h v).itself s p) ∙ (order spans h v).passes s t s p q p e f))

  -- a spoke that does not come before another comes before nothing that this does not come before
  not_past : (s t u : Side) → IsSpoke spans v s → IsSpoke spans v t → IsSpoke spans v u → spoke_before spans s t ≡ false → spoke_before spans t u ≡ false → spoke_before spans s u ≡ false
  not_past s t u p q r e f =
      not_held (spoke_before spans s u) (λ g.
      by_test (spoke_before spans t s)
      (λ k. false≢true (sym f ∙ (order spans h v).passes t s u q p r k g))
      (λ k. false≢true (sym f ∙ subst (λ (z : Side). spoke_before spans z u ≡ true) (decided spans h v s t p q e k) g)))

  -- ---- the last one

  abbrev Last : (Side → Bool) → Option Side → Type 0
  Last test o = IsLastOf spans v test o

  -- by another test, which is the same for the spokes
  pub last_alike : (test other : Side → Bool) (o : Option Side) → ((u : Side) → IsSpoke spans v u → test u ≡ other u) → Last test o → Last other o
  last_alike test other None same l = record { is = tt; greatest = λ u p e. l.greatest u p (same u p ∙ e) }
  last_alike test other (Some t) same l = record { is = (l.is.0, sym (same t l.is.0) ∙ l.is.1); greatest = λ u p e. l.greatest u p (same u p ∙ e) }

  pub none_seen : (test : Side → Bool) → ((u : Side) → test u ≡ false) → Last test None
  none_seen test none = record { is = tt; greatest = λ u p e. absurd (false≢true (sym (none u) ∙ e)) }

  abbrev with_one : (Side → Bool) → Side → Side → Bool
  with_one test s u = test u || same_side u s

  -- one of two is it
  by_either : {P : Type 0} (test : Side → Bool) (s u : Side) → with_one test s u ≡ true → (test u ≡ true → P) → (u ≡ s → P) → P
  by_either test s u e old new =
      by_test (test u) old (λ f. new (same_side-true u s (sym (ap (λ (b : Bool). b || same_side u s) f) ∙ e)))

  itself_passes : (test : Side → Bool) (s : Side) → with_one test s s ≡ true
  itself_passes test s = or_right (test s) (same_side s s) (same_side-itself s)

  -- with one spoke more
  pub last_more : (test : Side → Bool) (s : Side) (o : Option Side) → IsSpoke spans v s → Last test o → Last (with_one test s) (Some (later spans s o))
  last_more test s None p l = record {
    is = (p, itself_passes test s);
    greatest = λ u q e. by_either test s u e
        (λ t. absurd (none_some (l.greatest u q t).0 (l.greatest u q t).1))
        (λ same. (s, refl, subst (λ (z : Side). spoke_before spans s z ≡ false) (sym same) ((order spans h v).itself s p)));
  }
    where
      none_some : (t : Side) → None ≡ Some t → ⊥
      none_some t e = cc
  last_more test s (Some t) p l =
      by_test (spoke_before spans s t)
      (λ e. subst (λ (z : Side). Last (with_one test s) (Some z)) (sym (ap (λ (b : Bool). cond b t s) e)) (record {
        is = (l.is.0, or_left (test t) (same_side t s) l.is.1);
        greatest = λ u q f. (
          t,
          refl,
          by_either test s u f
              (λ k. of_last u q k)
              (λ same. subst (λ (z : Side). spoke_before spans t z ≡ false) (sym same) (one_way s t p l.is.0 e)),
        );
      }))
      (λ e. subst (λ (z : Side). Last (with_one test s) (Some z)) (sym (ap (λ (b : Bool). cond b t s) e)) (record {
        is = (p, itself_passes test s);
        greatest = λ u q f. (
          s,
          refl,
          by_either test s u f
              (λ k. not_past s t u p l.is.0 q e (of_last u q k))
              (λ same. subst (λ (z : Side). spoke_before spans s z ≡ false) (sym same) ((order spans h v).itself s p)),
        );
      }))
    where
      of_last : (u : Side) → IsSpoke spans v u → test u ≡ true → spoke_before spans t u ≡ false
      of_last u q k =
          let g = l.greatest u q k in
          subst (λ (z : Side). spoke_before spans z u ≡ false) (same_one t g.0 g.1) g.2
        where
          same_one : (a b : Side) → Some a ≡ Some b → b ≡ a
          same_one a b e = cc

  -- ---- of the spokes that were seen

  abbrev Seen : Side → (Side → Bool) → Front → Type 0
  Seen x seen front = AreLast spans v x seen front

  pub seen_alike : (x : Side) (seen other : Side → Bool) (front : Front) → ((u : Side) → IsSpoke spans v u → seen u ≡ other u) → Seen x seen front → Seen x other front
  seen_alike x seen other front same l = record {
    before = last_alike (λ u. seen u && spoke_before spans u x) (λ u. other u && spoke_before spans u x) front.before (λ u p. ap (λ (b : Bool). b && spoke_before spans u x) (same u p)) l.before;
    last = last_alike seen other front.last same l.last;
  }

  -- with one more, in front of the spoke
  pub seen_in_front : (x s : Side) (seen : Side → Bool) (front : Front) → IsSpoke spans v s → spoke_before spans s x ≡ true → Seen x seen front
      → Seen x (with_one seen s) (record { before = Some (later spans s front.before); last = Some (later spans s front.last) })
  seen_in_front x s seen front p e l = record {
    before = last_alike (with_one (λ u. seen u && spoke_before spans u x) s) (λ u. with_one seen s u && spoke_before spans u x) (Some (later spans s front.before))
        (λ u q. by_test (same_side u s)
        (λ t. ap (λ (b : Bool). (seen u && spoke_before spans u x) || b) t ∙ or_right (seen u && spoke_before spans u x) true refl
        ∙ sym (and_from (with_one seen s u) (spoke_before spans u x) (or_right (seen u) (same_side u s) t) (subst (λ (z : Side). spoke_before spans z x ≡ true) (sym (same_side-true u s t)) e)))
        (λ t. ap (λ (b : Bool). (seen u && spoke_before spans u x) || b) t ∙ no_more (seen u) (spoke_before spans u x) ∙ sym (ap (λ (b : Bool). (seen u || b) && spoke_before spans u x) t)))
        (last_more (λ u. seen u && spoke_before spans u x) s front.before p l.before);
    last = last_more seen s front.last p l.last;
  }
    where
      no_more : (a b : Bool) → ((a && b) || false) ≡ ((a || false) && b)
      no_more true true = refl
      no_more true false = refl
      no_more false true = refl
      no_more false false = refl

  -- with one more that is not
  pub seen_behind : (x s : Side) (seen : Side → Bool) (front : Front) → IsSpoke spans v s → spoke_before spans s x ≡ false → Seen x seen front
      → Seen x (with_one seen s) (record { before = front.before; last = Some (later spans s front.last) })
  seen_behind x s seen front p e l = record {
    before = last_alike (λ u. seen u && spoke_before spans u x) (λ u. with_one seen s u && spoke_before spans u x) front.before
        (λ u q. by_test (same_side u s)
        (λ t.
        let none : spoke_before spans u x ≡ false = subst (λ (z : Side). spoke_before spans z x ≡ false) (sym (same_side-true u s t)) e in
        ap (λ (b : Bool). seen u && b) none ∙ nothing (seen u) (same_side u s) ∙ sym (ap (λ (b : Bool). with_one seen s u && b) none))
        (λ t. sym (ap (λ (b : Bool). (seen u || b) && spoke_before spans u x) t ∙ ap (λ (b : Bool). b && spoke_before spans u x) (or_none (seen u)))))
        l.before;
    last = last_more seen s front.last p l.last;
  }
    where
      nothing : (a b : Bool) → (a && false) ≡ ((a || b) && false)
      nothing true b = refl
      nothing false true = refl
      nothing false false = refl

      or_none : (a : Bool) → (a || false) ≡ a
      or_none true = refl
      or_none false = refl

  -- a side that does not leave the node is no spoke of it
  pub seen_elsewhere : (x s : Side) (seen : Side → Bool) (front : Front) → (start_of spans s ≡ v → ⊥) → Seen x seen front → Seen x (with_one seen s) front
  seen_elsewhere x s seen front other l =
      seen_alike x seen (with_one seen s) front
      (λ u p. by_test (same_side u s)
      (λ t. absurd (other (sym (ap (start_of spans) (same_side-true u s t)) ∙ p.node)))
      (λ f. sym (ap (λ (b : Bool). seen u || b) f ∙ or_none (seen u)))) l
    where
      or_none : (a : Bool) → (a || false) ≡ a
      or_none true = refl
      or_none false = refl

  -- ---- the one in front

  abbrev all : List Side
  all = filter (λ s. same_point (start_of spans s) v) (sides (length spans))

  abbrev round : List Side
  round = spokes_at spans (sides (length spans)) v

  all_spokes : All (IsSpoke spans v) round
  all_spokes = All-from_members (IsSpoke spans v) round (λ s c. let k = from_round spans v s c in record { side = k.0; node = k.1 })

  pairs_rise : AllPairs (λ s t. spoke_before spans s t ≡ true) round
  unfolding spokes_at
  pairs_rise =
      sorted_pairs (order spans h v) round all_spokes
      (sort_by-is_sorted (spoke_before spans) all
      (all_pairs_decided (IsSpoke spans v) (spoke_before spans) (decided spans h v) all
      (All-from_sort_by (spoke_before spans) (IsSpoke spans v) all all_spokes)
      (AllPairs-filter (λ s t. s ≢ t) (λ s. same_point (start_of spans s) v) (sides (length spans)) (sides_differ (length spans)))))

  spoke_at : (i : ℕ) (d : Side) → i < length round → IsSpoke spans v (get_or round i d)
  spoke_at i d l = all_spokes i d l

  -- of a place, those behind it are not before it
  place_of_last : (i j : ℕ) (d : Side) → i < length round → j < length round → spoke_before spans (get_or round j d) (get_or round i d) ≡ true → j < i
  place_of_last i j d l m e =
      by_test (nat_lt j i)
      (λ t. ltb-true j i t)
      (λ f. let past = ltb-false j i f in
      by_test (nat_lt i j)
      (λ t. absurd (false≢true (sym (one_way (get_or round i d) (get_or round j d) (spoke_at i d l) (spoke_at j d m) (pairs_rise i j d (ltb-true i j t) m)) ∙ e)))
      (λ g. let other = ltb-false i j g in let same : i ≡ j = omega arith in
      absurd (false≢true (sym ((order spans h v).itself (get_or round i d) (spoke_at i d l)) ∙ subst (λ (k : ℕ). spoke_before spans (get_or round k d) (get_or round i d) ≡ true) (sym same) e))))

  -- the last place of those up to one, where none of these comes after it
  last_place : (k j : ℕ) (d : Side) → k < length round → j ≤ k → spoke_before spans (get_or round j d) (get_or round k d) ≡ false → j ≡ k
  last_place k j d l m e =
      by_test (nat_lt j k)
      (λ t. absurd (false≢true (sym e ∙ pairs_rise j k d (ltb-true j k t) l)))
      (λ f. let past = ltb-false j k f in omega arith)

  pub front_is : (x : Side) (seen : Side → Bool) (front : Front) → IsSpoke spans v x → ((u : Side) → IsSpoke spans v u → seen u ≡ true) → Seen x seen front
      → unwrap_or (option_or front.before front.last) x ≡ in_front x round
  front_is x seen front p every l =
      let at = round_has spans v x p.side p.node in
      by_place at.0 at.1 at.2
    where
      -- what the last one of some spokes is
      at_last : (test : Side → Bool) (o : Option Side) (t : Side) → Last test o → o ≡ Some t → IsSpoke spans v t × (test t ≡ true)
      at_last test o t k e = subst (λ (q : Option Side). IfSome q (λ s. IsSpoke spans v s × (test s ≡ true))) e k.is

      -- the place of a spoke
      placed : (t : Side) → IsSpoke spans v t → (j : ℕ) × (j < length round) × (get_or round j x ≡ t)
      placed t q = (let c = round_has spans v t q.side q.node in (c.0, c.1, get_or_default round c.0 x t c.1 ∙ c.2))

      -- one that does not come before the spoke at a place is that one, where its place is not behind
      is_at : (k : ℕ) (t : Side) → k < length round → IsSpoke spans v t → spoke_before spans t (get_or round k x) ≡ false → ((j : ℕ) → j < length round → get_or round j x ≡ t → j ≤ k) → t ≡ get_or round k x
      is_at k t m q e near =
          let j = placed t q in
          sym j.2 ∙ ap (λ (i : ℕ). get_or round i x) (last_place k j.0 x m (near j.0 j.1 j.2) (ap (λ (z : Side). spoke_before spans z (get_or round k x)) j.2 ∙ e))

      before_is : (t : Side) → front.before ≡ Some t → unwrap_or (option_or front.before front.last) x ≡ t
      before_is t e = ap (λ (q : Option Side). unwrap_or (option_or q front.last) x) e

      last_is : (t : Side) → front.before ≡ None → front.last ≡ Some t → unwrap_or (option_or front.before front.last) x ≡ t
      last_is t e f = ap₂ (λ (q r : Option Side). unwrap_or (option_or q r) x) e f

      front_at : (i : ℕ) → i < length round → get_or round i x ≡ x → get_or round (place_before (length round) i) x ≡ in_front x round
      front_at i short here = sym (in_front-at round i x (round_differs spans v) short) ∙ ap (λ (s : Side). in_front s round) here

      by_place : (i : ℕ) → i < length round → get_or round i x ≡ x → unwrap_or (option_or front.before front.last) x ≡ in_front x round
      by_place zero short here =
          let k = length round - 1 in
          let m : k < length round = omega (arith, short) in
          let u = get_or round k x in
          let g = l.last.greatest u (spoke_at k x m) (every u (spoke_at k x m)) in
          let none : front.before ≡ None = by_option front.before (λ e. e) (λ t e.
          let h = at_last (λ s. seen s && spoke_before spans s x) front.before t l.before e in
          let j = placed t h.0 in
          absurd (let past = place_of_last 0 j.0 x short j.1 (ap₂ (λ (y z : Side). spoke_before spans y z) j.2 here ∙ (and_parts (seen t) (spoke_before spans t x) h.1).1) in omega arith)) in
          last_is g.0 none g.1 ∙ is_at k g.0 m (at_last seen front.last g.0 l.last g.1).0 g.2 (λ j n e. omega (arith, n)) ∙ front_at 0 short here
      by_place (suc k) short here =
          let m : k < length round = omega (arith, short) in
          let u = get_or round k x in
          let first : spoke_before spans u x ≡ true = subst (λ (z : Side). spoke_before spans u z ≡ true) here (pairs_rise k (suc k) x (omega arith) short) in
          let g = l.before.greatest u (spoke_at k x m) (and_from (seen u) (spoke_before spans u x) (every u (spoke_at k x m)) first) in
          let h = at_last (λ s. seen s && spoke_before spans s x) front.before g.0 l.before g.1 in
          before_is g.0 g.1
          ∙ is_at k g.0 m h.0 g.2 (λ j n e.
          let near = place_of_last (suc k) j x short n (ap₂ (λ (y z : Side). spoke_before spans y z) e here ∙ (and_parts (seen g.0) (spoke_before spans g.0 x) h.1).1) in omega arith)
          ∙ front_at (suc k) short here
