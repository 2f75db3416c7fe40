-- Where nothing is removed, two segments of a slice meet at permitted points alone: they are segments of the base map, and where
-- two of those may meet, those of the slice may.
use Rattle.std.proofs.Common.{◌≡◌, ◌≢◌, ◌⊎◌, inl, inr, ℕ, suc, ◌+◌, Bool, true, false, cond, ◌==◌, List, length, AllPairs, refl, sym, ap, ◌∙◌, subst, eq-eqb, arith}
use Rattle.std.proofs.lemmas.Bool.{and_parts, and_from, eqb-true}
use Rattle.tgap_model.specs.declared.geometry.Point.{Point}
use Rattle.tgap_model.specs.declared.geometry.Fraction.{Fraction}
use Rattle.tgap_model.specs.declared.geometry.Seg.{Seg}
use Rattle.tgap_model.specs.declared.segment.LabelledSegment.{LabelledSegment}
use Rattle.tgap_model.specs.Base.{BaseMap, is_base}
use Rattle.tgap_model.specs.Segment.{is_on}
use Rattle.tgap_model.specs.Partition.{base_segments, follows, AreApart}
use Rattle.tgap_model.specs.Merged.{merged}
use Rattle.tgap_model.specs.Chains.{Link, Chain, arc_number, first_point, last_point, key, degree, link_start, link_end, are_chains}
use Rattle.map_laws.proofs.ChainMembers.{Among}
use Rattle.map_laws.proofs.ChainEnds.{turn, turn_twice, turn_apart, turn_start, turn_end, turn_border, IsWayOn, IsBorderLink, way_on_only, way_on_back}
use Rattle.slice_laws.proofs.NodeLinks.{numbers_lead_all}
use Rattle.slice_laws.proofs.Paths.{flip}
use Rattle.slice_laws.proofs.Places.{At, at_only, among_at, is_row, next_at, prev_at}
use Rattle.slice_laws.proofs.Blocks.{of_row, starts_at, ends_at_last, block_among}
use Rattle.slice_laws.proofs.Pieces.{IsNextInLink, IsAtSide, Piece, shown, IsFront, IsBack, block, pieces, IsNextPiece}
use Rattle.slice_laws.proofs.ChainPlaces.{piece_same, StandsAt, link_of, base_of, known_of, one_link, one_place, front_once, back_once, front_first, back_last, follows_at}
use Rattle.slice_laws.proofs.Meetings.{on_flip, IsEnd, IsBetween, MayMeet, may_meet_turned, apart_from_meets, members_meet}

-- A segment of a slice: it shows a piece of its chain, has the chain's key, and its place there; the first one starts the edge and
-- the last one ends it.
pub record Shows (m : BaseMap) (n : ℕ) (c : Chain) (p : Piece) (s : LabelledSegment) : Type 0 where
  pub segment : s.segment ≡ shown p
  pub arc : s.arc ≡ key c
  pub place : s.place ≡ n
  pub starts : s.starts ≡ (s.place == 0)
  pub ends : suc n ≡ length (pieces m c) → s.ends ≡ true
  pub last : s.ends ≡ true → suc n ≡ length (pieces m c)

module _ (m : BaseMap) (base : is_base m ≡ true) (k : ℕ) (cs : List Chain) (t : are_chains (merged m) k cs ≡ true) where
  -- a segment of a slice at its place
  pub record IsSegmentAt (i n : ℕ) (c : Chain) (p : Piece) (s : LabelledSegment) : Type 0 where
    pub stands : StandsAt m base k cs t i n c p
    pub shows : Shows m n c p s

  -- ---- an end of an arc is at the front or at the back of a link

  pub end_side : {i n : ℕ} {c : Chain} {p : Piece} → StandsAt m base k cs t i n c p → (v : Point) → IsEnd p.base v
      → IsAtSide m p v
  end_side {p = p} s v e = by p.link.turned (base_of m base k cs t s) e
    where
      points : List Point
      points = (arc_number m.arcs p.link.arc).points

      by : (b : Bool) → Among p.base (block m p.link.arc) → IsEnd p.base v
          → ((cond b p.base.ends p.base.starts ≡ true) × ((cond b (flip p.base.segment) p.base.segment).a ≡ v) × (cond b (last_point (arc_number m.arcs p.link.arc).points) (first_point (arc_number m.arcs p.link.arc).points) ≡ v))
          ⊎ ((cond b p.base.starts p.base.ends ≡ true) × ((cond b (flip p.base.segment) p.base.segment).b ≡ v) × (cond b (first_point (arc_number m.arcs p.link.arc).points) (last_point (arc_number m.arcs p.link.arc).points) ≡ v))
      by true n (inl (x, f)) = inr (x, f, sym (starts_at _ _ _ _ p.base n x) ∙ f)
      by true n (inr (x, f)) = inl (x, f, sym (ends_at_last _ _ _ 0 _ p.base n x) ∙ f)
      by false n (inl (x, f)) = inl (x, f, sym (starts_at _ _ _ _ p.base n x) ∙ f)
      by false n (inr (x, f)) = inr (x, f, sym (ends_at_last _ _ _ 0 _ p.base n x) ∙ f)

  -- ---- it is an end of the edge, or the chain goes on there

  -- before the front of a link: none, or the back of the link before
  pub before_front : {i n : ℕ} {c : Chain} {p : Piece} {s : LabelledSegment} → IsSegmentAt i n c p s → IsFront p
      → (s.starts ≡ true) ⊎ ((o : ℕ) × (q : Piece) × (n ≡ suc o) × StandsAt m base k cs t i o c q × IsWayOn (merged m) k q.link p.link × IsBack q)
  before_front {i} {n} {c} {p} {s} x f =
      elim (prev_at (IsNextPiece m k) (pieces m c) n p (is_row (known_of m base k cs t x.stands).are.row) x.stands.piece) [
        | inl e ↦ inl (x.shows.starts ∙ eq-eqb _ _ (x.shows.place ∙ e))
        | inr (o, q, e, at, inl (g, w)) ↦
            let there : StandsAt m base k cs t i o c q = record { chain = x.stands.chain; piece = at } in
            absurd (front_first m base k cs t q p g (base_of m base k cs t there) (base_of m base k cs t x.stands) f w)
        | inr (o, q, e, at, inr w) ↦ inr (o, q, e, record { chain = x.stands.chain; piece = at }, w.0, w.1)
      ]

  -- after the back of a link: none, or the front of its way on
  pub after_back : {i n : ℕ} {c : Chain} {p : Piece} {s : LabelledSegment} → IsSegmentAt i n c p s → IsBack p
      → (s.ends ≡ true) ⊎ ((q : Piece) × StandsAt m base k cs t i (suc n) c q × IsWayOn (merged m) k p.link q.link × IsFront q)
  after_back {i} {n} {c} {p} {s} x f =
      elim (next_at (IsNextPiece m k) (pieces m c) n p (is_row (known_of m base k cs t x.stands).are.row) x.stands.piece) [
        | inl e ↦ inl (x.shows.ends e)
        | inr (q, at, inl (g, w)) ↦
            let there : StandsAt m base k cs t i (suc n) c q = record { chain = x.stands.chain; piece = at } in
            absurd (back_last m base k cs t p q g (base_of m base k cs t x.stands) (base_of m base k cs t there) f w)
        | inr (q, at, inr w) ↦ inr (q, record { chain = x.stands.chain; piece = at }, w.0, w.2)
      ]

  -- ---- two segments at different places

  module _ {i n j o : ℕ} {c e : Chain} {p q : Piece} {s u : LabelledSegment} (x : IsSegmentAt i n c p s) (y : IsSegmentAt j o e q u)
      (apart : i ≡ j → n ≡ o → ⊥) where
    -- they show different pieces
    differ : p ≡ q → ⊥
    differ f = let same = one_place m base k cs t x.stands y.stands f in apart same.0 same.2

    -- no link of the one is a link of the other turned round
    unturned : turn p.link ≡ q.link → ⊥
    unturned f = turn_apart p.link (f ∙ sym (one_link m base k cs t x.stands y.stands (ap (λ (d : Link). d.arc) f)))

    border_p : IsBorderLink (merged m) k p.link
    border_p = (known_of m base k cs t x.stands).border p.link (link_of m base k cs t x.stands)

    border_q : IsBorderLink (merged m) k q.link
    border_q = (known_of m base k cs t y.stands).border q.link (link_of m base k cs t y.stands)

    -- where the second is at the place after the first, it is the next segment of the edge
    is_next : c ≡ e → o ≡ suc n → follows s u ≡ true
    is_next f g = and_from (s.arc == u.arc) (s.place + 1 == u.place)
        (eq-eqb _ _ (x.shows.arc ∙ ap key f ∙ sym y.shows.arc)) (eq-eqb _ _ (omega (arith, x.shows.place, y.shows.place, g)))

    -- the next segment of an arc is the next one of the edge
    in_link : (v : Point) → p.link ≡ q.link → IsNextInLink p q → (shown p).b ≡ v
        → (shown q).a ≡ v → MayMeet s u v
    in_link v f w a b =
        let there = follows_at m base k cs t x.stands y.stands f w in
        inr (inl (is_next there.0 there.1, ap (λ (g : Seg). g.b) x.shows.segment ∙ a, ap (λ (g : Seg). g.a) y.shows.segment ∙ b))

    -- a chain that goes on after the back of the first goes on to the second
    pub after_first : (v : Point) → IsBack p → (shown p).b ≡ v → link_end m.arcs p.link ≡ v
        → (r : Piece) → StandsAt m base k cs t i (suc n) c r → IsWayOn (merged m) k p.link r.link → IsFront r
        → IsAtSide m q v
        → (c ≡ e) × (o ≡ suc n) × ((shown p).b ≡ v) × ((shown q).a ≡ v)
    after_first v back at end r there way front (inl (fq, aq, sq)) =
        let on : IsWayOn (merged m) k p.link q.link
        = record { from = border_p; to = border_q; meets = end ∙ sym sq; two = way.two; apart = unturned } in
        let same = one_place m base k cs t there y.stands (front_once m base k cs t there y.stands (way_on_only way on) front fq) in
        (same.1, sym same.2, at, aq)
    after_first v back at end r there way front (inr (bq, aq, eq)) =
        let on : IsWayOn (merged m) k p.link (turn q.link) = record {
          from = border_p;
          to = turn_border border_q;
          meets = end ∙ sym eq ∙ sym (turn_start m.arcs q.link);
          two = way.two;
          apart = λ f. differ (back_once m base k cs t x.stands y.stands (sym (turn_twice p.link) ∙ ap turn f ∙ turn_twice q.link) back bq);
        } in
        let turned : r.link ≡ turn q.link = way_on_only way on in
        absurd (turn_apart q.link (sym turned ∙ one_link m base k cs t there y.stands (ap (λ (d : Link). d.arc) turned)))

    -- and before its front it comes from the second
    pub before_first : (v : Point) → IsFront p → (shown p).a ≡ v → link_start m.arcs p.link ≡ v
        → (h : ℕ) (r : Piece) → n ≡ suc h → StandsAt m base k cs t i h c r → IsWayOn (merged m) k r.link p.link → IsBack r
        → IsAtSide m q v
        → (c ≡ e) × (n ≡ suc o) × ((shown q).b ≡ v) × ((shown p).a ≡ v)
    before_first v front at start h r number there way back (inr (bq, aq, eq)) =
        let on : IsWayOn (merged m) k q.link p.link = record {
          from = border_q;
          to = border_p;
          meets = eq ∙ sym start;
          two = ap (degree (merged m) k) (eq ∙ sym start ∙ sym way.meets) ∙ way.two;
          apart = λ f. unturned (sym (ap turn f) ∙ turn_twice q.link);
        } in
        let same = one_place m base k cs t there y.stands (back_once m base k cs t there y.stands (way_on_back way on) back bq) in
        (same.1, omega (arith, number, same.2), aq, at)
    before_first v front at start h r number there way back (inl (fq, aq, sq)) =
        let on : IsWayOn (merged m) k (turn q.link) p.link = record {
          from = turn_border border_q;
          to = border_p;
          meets = turn_end m.arcs q.link ∙ sq ∙ sym start;
          two = ap (degree (merged m) k) (turn_end m.arcs q.link ∙ sq ∙ sym start ∙ sym way.meets) ∙ way.two;
          apart = λ f. differ (front_once m base k cs t x.stands y.stands (sym f ∙ turn_twice q.link) front fq);
        } in
        let turned : r.link ≡ turn q.link = way_on_back way on in
        absurd (turn_apart q.link (sym turned ∙ one_link m base k cs t there y.stands (ap (λ (d : Link). d.arc) turned)))

    -- at an end of both arcs the first is an end of its edge, or meets the second in the chain
    first_end : (v : Point) → IsEnd p.base v → IsEnd q.base v → IsEnd s v ⊎ MayMeet s u v
    first_end v a b = elim (end_side x.stands v a) [
      | inl (f, g, h) ↦ elim (before_front x f) [
        | inl w ↦ inl (inl (w, ap (λ (z : Seg). z.a) x.shows.segment ∙ g))
        | inr (o, r, number, there, way, back) ↦
            let e = before_first v f g h o r number there way back (end_side y.stands v b) in
            inr (inr (inr (
              and_from (u.arc == s.arc) (u.place + 1 == s.place) (eq-eqb _ _ (y.shows.arc ∙ sym (ap key e.0) ∙ sym x.shows.arc))
                  (eq-eqb _ _ (omega (arith, x.shows.place, y.shows.place, e.1))),
              ap (λ (g : Seg). g.b) y.shows.segment ∙ e.2,
              ap (λ (g : Seg). g.a) x.shows.segment ∙ e.3,
            )))
      ]
      | inr (f, g, h) ↦ elim (after_back x f) [
        | inl w ↦ inl (inr (w, ap (λ (z : Seg). z.b) x.shows.segment ∙ g))
        | inr (r, there, way, front) ↦
            let e = after_first v f g h r there way front (end_side y.stands v b) in
            inr (inr (inl (is_next e.0 e.1, ap (λ (g : Seg). g.b) x.shows.segment ∙ e.2, ap (λ (g : Seg). g.a) y.shows.segment ∙ e.3)))
      ]
    ]

  -- between a segment of an arc and the next one
  between : {i n j o : ℕ} {c e : Chain} {p q : Piece} {s u : LabelledSegment} → IsSegmentAt i n c p s → IsSegmentAt j o e q u → (i ≡ j → n ≡ o → ⊥)
      → (v : Point) → IsBetween p.base q.base v → MayMeet s u v
  between {p = p} {q = q} {s = s} {u = u} x y apart v (f, a, b) = by p.link.turned refl
    where
      arcs : p.link.arc ≡ q.link.arc
      arcs =
          sym (of_row _ _ _ 0 _ p.base (base_of m base k cs t x.stands)).arc
          ∙ eqb-true _ _ (and_parts (p.base.arc == q.base.arc) (p.base.place + 1 == q.base.place) f).0
          ∙ (of_row _ _ _ 0 _ q.base (base_of m base k cs t y.stands)).arc

      link : p.link ≡ q.link
      link = one_link m base k cs t x.stands y.stands arcs

      by : (b : Bool) → p.link.turned ≡ b → MayMeet s u v
      by false w =
          in_link x y apart v link (ap (λ (b : Bool). cond b (follows q.base p.base) (follows p.base q.base)) w ∙ f)
          (ap (λ (b : Bool). (cond b (flip p.base.segment) p.base.segment).b) w ∙ a)
          (ap (λ (d : Link). (cond d.turned (flip q.base.segment) q.base.segment).a) (sym link) ∙ ap (λ (b : Bool). (cond b (flip q.base.segment) q.base.segment).a) w ∙ b)
      by true w =
          let z : q.link.turned ≡ true = ap (λ (d : Link). d.turned) (sym link) ∙ w in
          may_meet_turned u s v
          (in_link y x (λ g h. apart (sym g) (sym h)) v (sym link) (ap (λ (b : Bool). cond b (follows p.base q.base) (follows q.base p.base)) z ∙ f)
          (ap (λ (b : Bool). (cond b (flip q.base.segment) q.base.segment).b) z ∙ b)
          (ap (λ (b : Bool). (cond b (flip p.base.segment) p.base.segment).a) w ∙ a))

  -- where two segments of arcs may meet, those of the slice may
  slice_meets : {i n j o : ℕ} {c e : Chain} {p q : Piece} {s u : LabelledSegment} → IsSegmentAt i n c p s → IsSegmentAt j o e q u
      → (i ≡ j → n ≡ o → ⊥)
      → (v : Point) → MayMeet p.base q.base v → MayMeet s u v
  slice_meets {s = s} {u = u} x y apart v (inl (a, b)) =
      elim (first_end x y apart v a b) [
        | inr e ↦ e
        | inl e ↦ elim (first_end y x (λ g h. apart (sym g) (sym h)) v b a) [
          | inr f ↦ may_meet_turned u s v f
          | inl f ↦ inl (e, f)
        ]
      ]
  slice_meets x y apart v (inr (inl w)) = between x y apart v w
  slice_meets {s = s} {u = u} x y apart v (inr (inr w)) = may_meet_turned u s v (between y x (λ g h. apart (sym g) (sym h)) v w)

  -- ---- apart

  -- a segment of the base map at a place
  base_at : {i n : ℕ} {c : Chain} {p : Piece} → StandsAt m base k cs t i n c p → (a : ℕ) × At (base_segments m) a p.base
  base_at {p = p} s =
      let border = (known_of m base k cs t s).border p.link (link_of m base k cs t s) in
      among_at (base_segments m) p.base
      (block_among (arc_number m.arcs) 0 m.arcs (numbers_lead_all m.arcs) p.link.arc (omega arith) (omega (arith, border.within)) p.base (base_of m base k cs t s))

  -- what is on a segment of the slice is on that of the base map
  on_base : {i n : ℕ} {c : Chain} {p : Piece} {s : LabelledSegment} → IsSegmentAt i n c p s → (f : Fraction) → is_on f s.segment ≡ true
      → is_on f p.base.segment ≡ true
  on_base {p = p} x f h = by p.link.turned (ap (is_on f) (sym x.shows.segment) ∙ h)
    where
      by : (b : Bool) → is_on f (cond b (flip p.base.segment) p.base.segment) ≡ true → is_on f p.base.segment ≡ true
      by true e = on_flip f (flip p.base.segment) e
      by false e = e

  -- two segments of the slice at different places are apart
  pub segments_apart : AllPairs AreApart (base_segments m) → {i n j o : ℕ} {c e : Chain} {p q : Piece} {s u : LabelledSegment}
      → IsSegmentAt i n c p s → IsSegmentAt j o e q u → (i ≡ j → n ≡ o → ⊥) → AreApart s u
  segments_apart planar {p = p} {q = q} {s = s} {u = u} x y apart = apart_from_meets s u (λ f d h l.
      let a = base_at x.stands in
      let b = base_at y.stands in
      let meet = members_meet (base_segments m) planar p.base q.base a.0 b.0 a.1 b.1 (other a.0 b.0 a.1 b.1) f d (on_base x f h) (on_base y f l) in
      (meet.0, meet.1, slice_meets x y apart meet.0 meet.2))
    where
      -- they are different segments of the base map
      other : (a b : ℕ) → At (base_segments m) a p.base → At (base_segments m) b q.base → a ≢ b
      other a b g h same =
          let one : p.base ≡ q.base = at_only (base_segments m) b p.base q.base (subst (λ n. At (base_segments m) n p.base) same g) h in
          let arcs : p.link.arc ≡ q.link.arc = sym (of_row _ _ _ 0 _ p.base (base_of m base k cs t x.stands)).arc ∙ ap (λ (z : LabelledSegment). z.arc) one
          ∙ (of_row _ _ _ 0 _ q.base (base_of m base k cs t y.stands)).arc in
          differ x y apart (piece_same p q (one_link m base k cs t x.stands y.stands arcs) one)
