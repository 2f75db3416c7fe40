-- Rows of arcs of which no point is left but the ends: turned round and put together they are so again, and their spans tell it.
use Rattle.std.proofs.Common.{◌≡◌, ℕ, suc, ◌+◌, ◌<◌, ◌≤◌, max, Bool, true, false, not, cond, ◌&&◌, ◌==◌, nat_le, nat_lt, List, All, [], ◌∷◌, ◌++◌, filter, reverse, drop, length, get_or, append_assoc, refl, sym, ap, ap₂, ◌∙◌, subst, arith}
use Rattle.std.proofs.Math.Nat.{le-max_left, le-max_right}
use Rattle.std.proofs.lemmas.Bool.{and_parts, and_from, leb-true, le-leb, ltb-true, lt-ltb, eqb-false}
use Rattle.std.proofs.lemmas.List.{append-nil, reverse-append}
use Rattle.std.proofs.lemmas.List.Elements.{filter-append, All-append}
use Rattle.tgap_model.specs.declared.geometry.Point.{Point}
use Rattle.tgap_model.specs.declared.base.BaseArc.{BaseArc}
use Rattle.tgap_model.specs.Chains.{Link, Chain, first_point, last_point, arc_number, link_points, link_start, link_end, chain_start, chain_end, chain_points, has_links, turned_round}
use Rattle.map_laws.proofs.ChainEnds.{turn_start, turn_end}
use Rattle.map_laws.proofs.JoinPaths.{turned_links, append_links, append_start, append_end, turned_start, turned_end}
use Rattle.edge_forest.specs.declared.span.Span.{Span}
use Rattle.edge_forest.specs.Forest.{never}
use Rattle.edge_forest.specs.Removed.{PointSteps, step_of}
use Rattle.edge_forest.specs.Spent.{is_left, left_points, left_ends, IsBare, gone_step, is_past, turned_span, joined_span, IsSpan}
use Rattle.edge_forest.specs.Walks.{chain_link}
use Rattle.edge_forest.proofs.Alike.{turned_append, turned_twice}
use Rattle.edge_forest.proofs.WalkedArcs.{AreArcs, turned_arcs}

-- ---- rows of points

-- a row begins with its first point, and turned round with its last one
row_starts : (ps : List Point) → 1 ≤ length ps → (qs : List Point) × (ps ≡ first_point ps ∷ qs)
row_starts [] l = absurd (omega arith)
row_starts (p ∷ ps) l = (ps, refl)

back_starts : (ps : List Point) → 1 ≤ length ps → (qs : List Point) × (reverse ps ≡ last_point ps ∷ qs)
back_starts [] l = absurd (omega arith)
back_starts (p ∷ []) l = ([], refl)
back_starts (p ∷ q ∷ ps) l =
    let rest = back_starts (q ∷ ps) (omega arith) in
    (rest.0 ++ p ∷ [], reverse-append (p ∷ []) (q ∷ ps) ∙ ap (λ (qs : List Point). qs ++ p ∷ []) rest.1)

drop_append : (xs ys : List Point) → 1 ≤ length xs → drop 1 (xs ++ ys) ≡ drop 1 xs ++ ys
drop_append [] ys l = absurd (omega arith)
drop_append (x ∷ xs) ys l = refl

module _ (L : Point → Bool) where
  pub filter_reverse : (ps : List Point) → filter L (reverse ps) ≡ reverse (filter L ps)
  filter_reverse [] = refl
  filter_reverse (p ∷ ps) =
      ap (filter L) (reverse-append (p ∷ []) ps) ∙ filter-append L (reverse ps) (p ∷ [])
      ∙ ap (λ (qs : List Point). qs ++ filter L (p ∷ [])) (filter_reverse ps) ∙ by (L p)
    where
      by : (v : Bool) → reverse (filter L ps) ++ cond v (p ∷ []) [] ≡ reverse (cond v (p ∷ filter L ps) (filter L ps))
      by true = sym (reverse-append (p ∷ []) (filter L ps))
      by false = append-nil (reverse (filter L ps))

  -- a first point that is not left need not be dropped
  drop_gone : (s : Point) (ps qs : List Point) → ps ≡ s ∷ qs → L s ≡ false → filter L (drop 1 ps) ≡ filter L ps
  drop_gone s ps qs e f =
      ap (λ (ps : List Point). filter L (drop 1 ps)) e ∙ sym (ap (filter L) e ∙ ap (λ (v : Bool). cond v (s ∷ filter L qs) (filter L qs)) f)

  ends_meet : (a b x y : Point) → L b ≡ false → L x ≡ false → filter L (a ∷ b ∷ []) ++ filter L (x ∷ y ∷ []) ≡ filter L (a ∷ y ∷ [])
  ends_meet a b x y e f = by (L a) (L b) (L x) (L y) e f
    where
      by : (u v w z : Bool) → v ≡ false → w ≡ false
          → cond u (a ∷ cond v (b ∷ []) []) (cond v (b ∷ []) []) ++ cond w (x ∷ cond z (y ∷ []) []) (cond z (y ∷ []) [])
          ≡ cond u (a ∷ cond z (y ∷ []) []) (cond z (y ∷ []) [])
      by u true w z e f = absurd cc
      by u false true z e f = absurd cc
      by true false false z e f = refl
      by false false false z e f = refl

  -- where no point but the ends is left
  last_left : (ps : List Point) → 1 ≤ length ps → ((i : ℕ) (d : Point) → i + 1 < length ps → L (get_or ps i d) ≡ false) → filter L ps ≡ filter L (last_point ps ∷ [])
  last_left [] l h = absurd (omega arith)
  last_left (p ∷ []) l h = refl
  last_left (p ∷ q ∷ ps) l h =
      ap (λ (v : Bool). cond v (p ∷ filter L (q ∷ ps)) (filter L (q ∷ ps))) (h 0 p (omega arith))
      ∙ last_left (q ∷ ps) (omega arith) (λ i d m. h (suc i) d (omega (arith, m)))

  pub ends_left : (ps : List Point) → 2 ≤ length ps → ((i : ℕ) (d : Point) → 0 < i → i + 1 < length ps → L (get_or ps i d) ≡ false)
      → filter L ps ≡ filter L (first_point ps ∷ last_point ps ∷ [])
  ends_left [] l h = absurd (omega arith)
  ends_left (p ∷ []) l h = absurd (omega arith)
  ends_left (p ∷ q ∷ ps) l h =
      ap (λ (rest : List Point). cond (L p) (p ∷ rest) rest)
      (last_left (q ∷ ps) (omega arith) (λ i d m. h (suc i) d (omega arith) (omega (arith, m))))

  pub ends_back : (a b : Point) (ps : List Point) → filter L ps ≡ filter L (a ∷ b ∷ []) → filter L (reverse ps) ≡ filter L (b ∷ a ∷ [])
  ends_back a b ps e = filter_reverse ps ∙ ap reverse e ∙ sym (filter_reverse (a ∷ b ∷ []))

-- ---- steps

-- a step that is no later is past as well
pub past_before : (a b k : ℕ) → a ≤ b → is_past b k ≡ true → is_past a k ≡ true
past_before a b k l h =
    let parts = and_parts (nat_le b k) (nat_lt b never) h in
    let here = leb-true b k parts.0 in
    let below = ltb-true b never parts.1 in
    and_from (nat_le a k) (nat_lt a never) (le-leb a k (omega (arith, l, here))) (lt-ltb a never (omega (arith, l, below)))

past_of_max : (a b c d k : ℕ) → is_past (max (max a b) (max c d)) k ≡ true
    → (is_past a k ≡ true) × (is_past b k ≡ true) × (is_past c k ≡ true) × (is_past d k ≡ true)
past_of_max a b c d k h =
    let ab = le-max_left (max a b) (max c d) in
    let cd = le-max_right (max a b) (max c d) in (
      past_before a (max (max a b) (max c d)) k (omega (arith, ab, le-max_left a b)) h,
      past_before b (max (max a b) (max c d)) k (omega (arith, ab, le-max_right a b)) h,
      past_before c (max (max a b) (max c d)) k (omega (arith, cd, le-max_left c d)) h,
      past_before d (max (max a b) (max c d)) k (omega (arith, cd, le-max_right c d)) h,
    )

-- after the step at which it goes a point is not left
pub gone_is_past : (t : PointSteps) (p : Point) (k : ℕ) → is_past (gone_step t p) k ≡ true → is_left t k p ≡ false
gone_is_past t p k h = by (step_of t p) (step_of t p == 0) refl h
  where
    by : (s : ℕ) (b : Bool) → (s == 0) ≡ b → is_past (cond b never s) k ≡ true → not (nat_le 1 s && nat_le s k) ≡ false
    by s true e h = let below = ltb-true never never (and_parts (nat_le never k) (nat_lt never never) h).1 in absurd (omega (arith, below))
    by s false e h =
        let positive : 1 ≤ s = omega (arith, eqb-false s 0 e) in
        ap not (and_from (nat_le 1 s) (nat_le s k) (le-leb 1 s positive) (and_parts (nat_le s k) (nat_lt s never) h).0)

-- ---- chains

module _ (arcs : List BaseArc) (long : All (λ a. 2 ≤ length a.points) arcs) where
  abbrev no_arc : BaseArc
  no_arc = record { left = 0; right = 0; points = [] }

  pub points_long : (i : ℕ) → i < length arcs → 2 ≤ length (arc_number arcs i).points
  points_long i l = long i no_arc l

  link_starts : (d : Link) → d.arc < length arcs → (ps : List Point) × (link_points arcs d ≡ link_start arcs d ∷ ps)
  link_starts d l = by d.turned
    where
      points : List Point
      points = (arc_number arcs d.arc).points

      by : (b : Bool) → (ps : List Point) × (cond b (reverse points) points ≡ cond b (last_point points) (first_point points) ∷ ps)
      by true = back_starts points (omega (arith, points_long d.arc l))
      by false = row_starts points (omega (arith, points_long d.arc l))

  -- a chain begins with the point at which it starts
  pub chain_starts : (c : Chain) → has_links c ≡ true → AreArcs (length arcs) c → (ps : List Point) × (chain_points arcs c ≡ chain_start arcs c ∷ ps)
  chain_starts [] h known = absurd cc
  chain_starts (d ∷ []) h known = link_starts d (known 0 d (omega arith))
  chain_starts (d ∷ e ∷ c) h known =
      let first = link_starts d (known 0 d (omega arith)) in
      (first.0 ++ drop 1 (chain_points arcs (e ∷ c)), ap (λ (ps : List Point). ps ++ drop 1 (chain_points arcs (e ∷ c))) first.1)

  -- the points of two chains in a row
  pub append_points : (c e : Chain) → has_links c ≡ true → AreArcs (length arcs) c → chain_points arcs (c ++ e) ≡ chain_points arcs c ++ drop 1 (chain_points arcs e)
  append_points [] e h known = absurd cc
  append_points (d ∷ []) [] h known = sym (append-nil (link_points arcs d))
  append_points (d ∷ []) (f ∷ e) h known = refl
  append_points (d ∷ g ∷ c) e h known =
      let rest : AreArcs (length arcs) (g ∷ c) = λ i f l. known (suc i) f (omega (arith, l)) in
      let starts = chain_starts (g ∷ c) refl rest in
      let some : 1 ≤ length (chain_points arcs (g ∷ c)) = omega (arith, ap length starts.1) in
      ap (λ (ps : List Point). link_points arcs d ++ drop 1 ps) (append_points (g ∷ c) e refl rest)
      ∙ ap (λ (ps : List Point). link_points arcs d ++ ps) (drop_append (chain_points arcs (g ∷ c)) (drop 1 (chain_points arcs e)) some)
      ∙ sym (append_assoc (link_points arcs d) (drop 1 (chain_points arcs (g ∷ c))) (drop 1 (chain_points arcs e)))

  -- ---- bare chains

  module _ (t : PointSteps) (k : ℕ) where
    L : Point → Bool
    L = is_left t k

    one_way : (c e : Chain) → has_links c ≡ true → has_links e ≡ true → AreArcs (length arcs) c → AreArcs (length arcs) e
        → left_points arcs t k c ≡ left_ends arcs t k c → left_points arcs t k e ≡ left_ends arcs t k e
        → is_left t k (chain_end arcs c) ≡ false → is_left t k (chain_start arcs e) ≡ false → left_points arcs t k (c ++ e) ≡ left_ends arcs t k (c ++ e)
    one_way c e hc he kc ke bc be gone_end gone_start =
        let starts = chain_starts e he ke in
        ap (filter (is_left t k)) (append_points c e hc kc)
        ∙ filter-append (is_left t k) (chain_points arcs c) (drop 1 (chain_points arcs e))
        ∙ ap₂ (λ (ps qs : List Point). ps ++ qs) bc (drop_gone (is_left t k) (chain_start arcs e) (chain_points arcs e) starts.0 starts.1 gone_start ∙ be)
        ∙ ends_meet (is_left t k) (chain_start arcs c) (chain_end arcs c) (chain_start arcs e) (chain_end arcs e) gone_end gone_start
        ∙ ap₂ (λ (p q : Point). filter (is_left t k) (p ∷ q ∷ [])) (sym (append_start arcs c e hc)) (sym (append_end arcs c e he))

    pub bare_joined : (c e : Chain) → has_links c ≡ true → has_links e ≡ true → AreArcs (length arcs) c → AreArcs (length arcs) e
        → IsBare arcs t k c → IsBare arcs t k e → is_left t k (chain_end arcs c) ≡ false → is_left t k (chain_start arcs e) ≡ false → IsBare arcs t k (c ++ e)
    bare_joined c e hc he kc ke bc be gone_end gone_start = record {
      along = one_way c e hc he kc ke bc.along be.along gone_end gone_start;
      back = subst (λ (r : Chain). left_points arcs t k r ≡ left_ends arcs t k r) (sym (turned_append c e))
          (one_way (turned_round e) (turned_round c) (turned_links e he) (turned_links c hc) (turned_arcs (length arcs) e ke) (turned_arcs (length arcs) c kc) be.back bc.back
          (ap (is_left t k) (turned_end arcs e) ∙ gone_start) (ap (is_left t k) (turned_start arcs c) ∙ gone_end));
    }

    pub bare_turned : (c : Chain) → IsBare arcs t k c → IsBare arcs t k (turned_round c)
    bare_turned c b = record {
      along = b.back;
      back = subst (λ (r : Chain). left_points arcs t k r ≡ left_ends arcs t k r) (sym (turned_twice c)) b.along;
    }

    pub arc_bare : (i : ℕ) → i < length arcs
        → ((j : ℕ) (d : Point) → 0 < j → j + 1 < length (arc_number arcs i).points → is_left t k (get_or (arc_number arcs i).points j d) ≡ false)
        → IsBare arcs t k (record { arc = i; turned = false } ∷ [])
    arc_bare i l h =
        let points = (arc_number arcs i).points in
        let along = ends_left (is_left t k) points (points_long i l) h in
        record { along = along; back = ends_back (is_left t k) (first_point points) (last_point points) points along }

  -- ---- spans

  module _ (t : PointSteps) where
    pub span_turned : (c : Chain) (s : Span) → IsSpan arcs t c s → IsSpan arcs t (turned_round c) (turned_span s)
    span_turned c s w = record {
      links = turned_links c w.links;
      known = turned_arcs (length arcs) c w.known;
      first_arc = w.last_arc;
      last_arc = w.first_arc;
      first = turn_start arcs (chain_link s.last) ∙ w.last ∙ sym (turned_start arcs c);
      last = turn_end arcs (chain_link s.first) ∙ w.first ∙ sym (turned_end arcs c);
      bare = λ k past. bare_turned t k c (w.bare k past);
    }

    pub span_joined : (c e : Chain) (a b : Span) → IsSpan arcs t c a → IsSpan arcs t e b → IsSpan arcs t (c ++ e) (joined_span arcs t a b)
    span_joined c e a b v w = record {
      links = append_links c e v.links;
      known = All-append (λ (d : Link). d.arc < length arcs) c e v.known w.known;
      first_arc = v.first_arc;
      last_arc = w.last_arc;
      first = v.first ∙ sym (append_start arcs c e v.links);
      last = w.last ∙ sym (append_end arcs c e w.links);
      bare = λ k past.
          let each = past_of_max a.step b.step (gone_step t (link_end arcs (chain_link a.last))) (gone_step t (link_start arcs (chain_link b.first))) k past in
          bare_joined t k c e v.links w.links v.known w.known (v.bare k each.0) (w.bare k each.1)
          (ap (is_left t k) (sym v.last) ∙ gone_is_past t (link_end arcs (chain_link a.last)) k each.2)
          (ap (is_left t k) (sym w.first) ∙ gone_is_past t (link_start arcs (chain_link b.first)) k each.3);
    }
