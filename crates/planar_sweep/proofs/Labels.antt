-- Where ends agree, and no two segments have a point in common but ends of both, all segments are apart by the definition.
use Rattle.std.proofs.Common.{◌≡◌, ◌≢◌, inl, inr, ℕ, ◌<◌, Bool, true, false, ◌&&◌, ◌||◌, List, length, map, get_or, AllPairs, ℤ, pos, ◌-ℤ◌, ◌*ℤ◌, ◌<ℤ◌, refl, sym, ◌∙◌, subst, true≢false, arith}
use Rattle.std.proofs.lemmas.Bool.{and_parts, and_from, or_cases, or_left, or_right}
use Rattle.std.proofs.lemmas.List.{get_or-map, length-map, get_or_default}
use Rattle.lemmas.proofs.Signs.{apart_from_lt, same_from_mul_left, same_from_sub}
use Rattle.tgap_model.specs.declared.geometry.Point.{Point}
use Rattle.tgap_model.specs.declared.geometry.Fraction.{Fraction}
use Rattle.tgap_model.specs.declared.geometry.Seg.{Seg}
use Rattle.tgap_model.specs.declared.segment.LabelledSegment.{LabelledSegment}
use Rattle.tgap_model.specs.Base.{same_point}
use Rattle.tgap_model.specs.Segment.{is_at, is_on, is_permitted}
use Rattle.tgap_model.specs.Partition.{AreApart, follows, shared_ends}
use Rattle.tgap_model.proofs.Points.{point_same, same_point-from}
use Rattle.grid_geo.proofs.Places.{at_facts}
use Rattle.planar_sweep.specs.Over.{forward, IsEnd}
use Rattle.planar_sweep.specs.Rows.{no_seg, seg_at}
use Rattle.planar_sweep.specs.Ends.{no_segment, segment_at, swept, first_mark, last_mark, may_share, EndsAgree, HaveCommonEnds}
use Rattle.planar_sweep.proofs.Forward.{on_forward, end_from_forward}

-- one rational point at two grid points
one_place : (p : Fraction) (v w : Point) → pos 0 <ℤ p.d → is_at p v ≡ true → is_at p w ≡ true → v ≡ w
one_place p v w rational e f = point_same v w (coordinate p.nx v.x w.x (at_facts p v e).x (at_facts p w f).x) (coordinate p.ny v.y w.y (at_facts p v e).y (at_facts p w f).y)
  where
    coordinate : (n x y : ℤ) → n -ℤ p.d *ℤ x ≡ pos 0 → n -ℤ p.d *ℤ y ≡ pos 0 → x ≡ y
    coordinate n x y g h = same_from_mul_left p.d (λ z. apart_from_lt rational (sym z)) (same_from_sub (p.d *ℤ x) n g ∙ sym (same_from_sub (p.d *ℤ y) n h))

-- a common end that may be shared is permitted
module _ (segments : List LabelledSegment) (m n : ℕ) (p : Fraction) where
  abbrev s : LabelledSegment
  s = segment_at segments m

  abbrev t : LabelledSegment
  t = segment_at segments n

  abbrev Permitted : Type 0
  Permitted = is_permitted (shared_ends s t) s.segment t.segment p ≡ true

  by_first : (shared_ends s t).aa || (shared_ends s t).ab ≡ true → is_at p s.segment.a ≡ true → Permitted
  by_first e f = or_left (((shared_ends s t).aa || (shared_ends s t).ab) && is_at p s.segment.a) (((shared_ends s t).ba || (shared_ends s t).bb) && is_at p s.segment.b)
      (and_from ((shared_ends s t).aa || (shared_ends s t).ab) (is_at p s.segment.a) e f)

  by_last : (shared_ends s t).ba || (shared_ends s t).bb ≡ true → is_at p s.segment.b ≡ true → Permitted
  by_last e f = or_right (((shared_ends s t).aa || (shared_ends s t).ab) && is_at p s.segment.a) (((shared_ends s t).ba || (shared_ends s t).bb) && is_at p s.segment.b)
      (and_from ((shared_ends s t).ba || (shared_ends s t).bb) (is_at p s.segment.b) e f)

  permitted_aa : s.segment.a ≡ t.segment.a → is_at p s.segment.a ≡ true → may_share segments (first_mark segments m) (first_mark segments n) ≡ true → Permitted
  permitted_aa same here e = elim (or_cases (s.starts && t.starts) (false || false) e) [
    | inl f ↦
        let parts = and_parts s.starts t.starts f in
        by_first (or_left (shared_ends s t).aa (shared_ends s t).ab
        (and_from (same_point s.segment.a t.segment.a && s.starts) t.starts (and_from (same_point s.segment.a t.segment.a) s.starts (same_point-from s.segment.a t.segment.a same) parts.0) parts.1)) here
    | inr f ↦ absurd (true≢false (sym f))
  ]

  permitted_ab : s.segment.a ≡ t.segment.b → is_at p s.segment.a ≡ true → may_share segments (first_mark segments m) (last_mark segments n) ≡ true → Permitted
  permitted_ab same here e =
      by_first (or_right (shared_ends s t).aa (shared_ends s t).ab (and_from (same_point s.segment.a t.segment.b) ((s.starts && t.ends) || follows t s) (same_point-from s.segment.a t.segment.b same) e)) here

  permitted_ba : s.segment.b ≡ t.segment.a → is_at p s.segment.b ≡ true → may_share segments (last_mark segments m) (first_mark segments n) ≡ true → Permitted
  permitted_ba same here e =
      by_last (or_left (shared_ends s t).ba (shared_ends s t).bb (and_from (same_point s.segment.b t.segment.a) ((s.ends && t.starts) || follows s t) (same_point-from s.segment.b t.segment.a same)
      (shorter (s.ends && t.starts) (follows s t) e))) here
    where
      shorter : (x y : Bool) → x || (y || false) ≡ true → x || y ≡ true
      shorter true y h = refl
      shorter false true h = refl
      shorter false false h = h

  permitted_bb : s.segment.b ≡ t.segment.b → is_at p s.segment.b ≡ true → may_share segments (last_mark segments m) (last_mark segments n) ≡ true → Permitted
  permitted_bb same here e = elim (or_cases (s.ends && t.ends) (false || false) e) [
    | inl f ↦
        let parts = and_parts s.ends t.ends f in
        by_last (or_right (shared_ends s t).ba (shared_ends s t).bb
        (and_from (same_point s.segment.b t.segment.b && s.ends) t.ends (and_from (same_point s.segment.b t.segment.b) s.ends (same_point-from s.segment.b t.segment.b same) parts.0) parts.1)) here
    | inr f ↦ absurd (true≢false (sym f))
  ]

module _ (segments : List LabelledSegment) (agree : EndsAgree segments) (common : HaveCommonEnds (map swept segments)) where
  abbrev segs : List Seg
  segs = map swept segments

  swept_at : (k : ℕ) → k < length segments → seg_at segs k ≡ forward (segment_at segments k).segment
  swept_at k short = get_or-map swept segments k no_segment no_seg short

  apart_numbers : (m n : ℕ) → m < length segments → n < length segments → m ≢ n → AreApart (segment_at segments m) (segment_at segments n)
  apart_numbers m n known_m known_n differ p h =
      let ends = common m n (omega (arith, known_m, length-map segments swept)) (omega (arith, known_n, length-map segments swept)) differ p h.rational
      (subst (λ (q : Seg). is_on p q ≡ true) (sym (swept_at m known_m)) (on_forward p (segment_at segments m).segment h.first))
      (subst (λ (q : Seg). is_on p q ≡ true) (sym (swept_at n known_n)) (on_forward p (segment_at segments n).segment h.second)) in
      true≢false (sym (by
      (end_from_forward p (segment_at segments m).segment (subst (λ (q : Seg). IsEnd q p) (swept_at m known_m) ends.0))
      (end_from_forward p (segment_at segments n).segment (subst (λ (q : Seg). IsEnd q p) (swept_at n known_n) ends.1))) ∙ h.forbidden)
    where
      by : IsEnd (segment_at segments m).segment p → IsEnd (segment_at segments n).segment p
          → is_permitted (shared_ends (segment_at segments m) (segment_at segments n)) (segment_at segments m).segment (segment_at segments n).segment p ≡ true
      by (inl e) (inl f) = let same = one_place p (segment_at segments m).segment.a (segment_at segments n).segment.a h.rational e f in permitted_aa segments m n p same e ((agree m n known_m known_n differ).0 same)
      by (inl e) (inr f) = let same = one_place p (segment_at segments m).segment.a (segment_at segments n).segment.b h.rational e f in permitted_ab segments m n p same e ((agree m n known_m known_n differ).1 same)
      by (inr e) (inl f) = let same = one_place p (segment_at segments m).segment.b (segment_at segments n).segment.a h.rational e f in permitted_ba segments m n p same e ((agree m n known_m known_n differ).2 same)
      by (inr e) (inr f) = let same = one_place p (segment_at segments m).segment.b (segment_at segments n).segment.b h.rational e f in permitted_bb segments m n p same e ((agree m n known_m known_n differ).3 same)

  pub all_are_apart : AllPairs AreApart segments
  all_are_apart i j d less short =
      let first : segment_at segments i ≡ get_or segments i d = get_or_default segments i no_segment d (omega (arith, less, short)) in
      let second : segment_at segments j ≡ get_or segments j d = get_or_default segments j no_segment d short in
      subst (λ (t : LabelledSegment). AreApart (get_or segments i d) t) second (subst (λ (s : LabelledSegment). AreApart s (segment_at segments j)) first
      (apart_numbers i j (omega (arith, less, short)) short (λ e. omega (arith, e, less))))
