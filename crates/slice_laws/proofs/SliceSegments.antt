-- The segments of a slice by their places: each shows a piece of a chain.
use Rattle.std.proofs.Common.{◌≡◌, ◌⊎◌, inl, inr, ℕ, zero, suc, ◌+◌, true, false, ◌==◌, List, [], ◌∷◌, ◌++◌, map, length, take, AllPairs, refl, sym, ap, ap₂, ◌∙◌, subst, arith}
use Rattle.std.specs.Prelude.{flat_map}
use Rattle.std.proofs.lemmas.List.{length-append}
use Rattle.std.proofs.lemmas.List.Folds.{flat_map-map}
use Rattle.tgap_model.specs.declared.geometry.Point.{Point}
use Rattle.tgap_model.specs.declared.geometry.Seg.{Seg}
use Rattle.tgap_model.specs.declared.segment.LabelledSegment.{LabelledSegment}
use Rattle.tgap_model.specs.Base.{BaseMap, is_base}
use Rattle.tgap_model.specs.Partition.{is_empty, path_segments, base_segments, AreApart}
use Rattle.tgap_model.specs.Merged.{merged}
use Rattle.tgap_model.specs.Removals.{path, edge_of}
use Rattle.tgap_model.specs.Chains.{Chain, key, link_points, chain_points, are_chains}
use Rattle.map_laws.proofs.ChainLinks.{chains_whole}
use Rattle.slice_laws.proofs.Paths.{chain_path}
use Rattle.slice_laws.proofs.EdgeSums.{all_segments, row_of, without_none, chain_has_points, chain_meets}
use Rattle.slice_laws.proofs.Places.{At, at_among, pairs_from_places}
use Rattle.slice_laws.proofs.Pieces.{Piece, shown, pieces, shown_chain}
use Rattle.slice_laws.proofs.SlicesApart.{IsSegmentAt, segments_apart}

-- ---- places in lists put together

pub at_append : {A : Type 0} (xs ys : List A) (n : ℕ) (z : A) → At (xs ++ ys) n z → At xs n z ⊎ ((o : ℕ) × (n ≡ length xs + o) × At ys o z)
at_append [] ys n z a = inr (n, omega arith, a)
at_append (x ∷ xs) ys zero z a = inl a
at_append (x ∷ xs) ys (suc n) z a = elim (at_append xs ys n z a) [
  | inl b ↦ inl b
  | inr (o, e, b) ↦ inr (o, omega arith, b)
]

-- a place in lists put together is a place in one of them
at_flat_map : {A B : Type 0} (f : A → List B) (xs : List A) (n : ℕ) (z : B) → At (flat_map f xs) n z
    → (i : ℕ) × (x : A) × (o : ℕ) × At xs i x × At (f x) o z × (n ≡ length (flat_map f (take i xs)) + o)
at_flat_map f [] n z a = absurd a
at_flat_map f (x ∷ xs) n z a = elim (at_append (f x) (flat_map f xs) n z a) [
  | inl b ↦ (zero, x, n, refl, b, omega arith)
  | inr (o, e, b) ↦
      let r = at_flat_map f xs o z b in
      (suc r.0, r.1, r.2, r.3, r.4, omega (arith, e, r.5, length-append (f x) (flat_map f (take r.0 xs))))
]

-- ---- rows of segments

-- labelled segments of one edge, from a place on
abbrev pub rows : ℕ → ℕ → ℕ → ℕ → List Seg → List LabelledSegment
rows key l r place [] = []
rows key l r place (g ∷ gs) = row_of key l r place g (is_empty gs) ∷ rows key l r (place + 1) gs

path_rows : (key l r place : ℕ) (points : List Point) → path_segments key l r place points ≡ rows key l r place (path points)
path_rows key l r place [] = refl
path_rows key l r place (a ∷ []) = refl
path_rows key l r place (a ∷ b ∷ []) = refl
path_rows key l r place (a ∷ b ∷ c ∷ points) =
    ap (λ ss. row_of key l r place (record { a = a; b = b }) false ∷ ss) (path_rows key l r (place + 1) (b ∷ c ∷ points))

-- what is known of a segment of a row that shows pieces
pub record IsInRow (key l r first : ℕ) (ps : List Piece) (n : ℕ) (p : Piece) (s : LabelledSegment) : Type 0 where
  pub at : At ps n p
  pub segment : s.segment ≡ shown p
  pub left : s.left ≡ l
  pub right : s.right ≡ r
  pub arc : s.arc ≡ key
  pub place : s.place ≡ first + n
  pub starts : s.starts ≡ (s.place == 0)
  pub ends : suc n ≡ length ps → s.ends ≡ true
  pub last : s.ends ≡ true → suc n ≡ length ps

only_one : (p : Piece) (ps : List Piece) → suc zero ≡ length (p ∷ ps) → is_empty (map shown ps) ≡ true
only_one p [] e = refl
only_one p (q ∷ ps) e = absurd (omega arith)

only_last : (p : Piece) (ps : List Piece) → is_empty (map shown ps) ≡ true → suc zero ≡ length (p ∷ ps)
only_last p [] e = refl
only_last p (q ∷ ps) e = absurd cc

pub at_rows : (key l r place : ℕ) (ps : List Piece) (n : ℕ) (s : LabelledSegment) → At (rows key l r place (map shown ps)) n s
    → (p : Piece) × IsInRow key l r place ps n p s
at_rows key l r place [] n s a = absurd a
at_rows key l r place (p ∷ ps) zero s a = (
  p,
  subst (IsInRow key l r place (p ∷ ps) zero p) a (record {
    at = refl;
    segment = refl;
    left = refl;
    right = refl;
    arc = refl;
    place = omega arith;
    starts = refl;
    ends = only_one p ps;
    last = only_last p ps;
  }),
)
at_rows key l r place (p ∷ ps) (suc n) s a =
    let q = at_rows key l r (place + 1) ps n s a in (
      q.0,
      record {
        at = q.1.at;
        segment = q.1.segment;
        left = q.1.left;
        right = q.1.right;
        arc = q.1.arc;
        place = omega (arith, q.1.place);
        starts = q.1.starts;
        ends = λ e. q.1.ends (omega arith);
        last = λ e. ap suc (q.1.last e);
      },
    )

-- and each piece is shown
pub rows_at : (key l r place : ℕ) (ps : List Piece) (n : ℕ) (p : Piece) → At ps n p
    → (s : LabelledSegment) × At (rows key l r place (map shown ps)) n s
rows_at key l r place [] n p a = absurd a
rows_at key l r place (q ∷ ps) zero p a = (row_of key l r place (shown q) (is_empty (map shown ps)), refl)
rows_at key l r place (q ∷ ps) (suc n) p a = rows_at key l r (place + 1) ps n p a

-- ---- the segments of an edge, and those of a slice

-- the segments of the edge of a chain
abbrev pub edge_row : BaseMap → ℕ → Chain → List LabelledSegment
edge_row m k c = rows (key c) (edge_of (merged m) k [] c).left (edge_of (merged m) k [] c).right 0 (map shown (pieces m c))

module _ (m : BaseMap) (base : is_base m ≡ true) (k : ℕ) (cs : List Chain) (t : are_chains (merged m) k cs ≡ true) where
  edge_segments_of : (i : ℕ) (c : Chain) → At cs i c
      → path_segments (edge_of (merged m) k [] c).key (edge_of (merged m) k [] c).left (edge_of (merged m) k [] c).right 0 (edge_of (merged m) k [] c).points
      ≡ edge_row m k c
  edge_segments_of i c a =
      let whole = chains_whole (merged m) k cs t c (at_among cs i c a) in
      let segments : path (chain_points m.arcs c) ≡ flat_map (λ d. path (link_points m.arcs d)) c
      = subst (λ c. path (chain_points m.arcs c) ≡ flat_map (λ d. path (link_points m.arcs d)) c) (sym whole.2)
      (chain_path m.arcs whole.0 whole.1 (chain_meets m k whole.0 whole.1 whole.3) (chain_has_points m base k whole.0 whole.1 whole.3)) in
      path_rows (key c) (edge_of (merged m) k [] c).left (edge_of (merged m) k [] c).right 0 (edge_of (merged m) k [] c).points
      ∙ ap (rows (key c) (edge_of (merged m) k [] c).left (edge_of (merged m) k [] c).right 0)
      (ap path (without_none (chain_points m.arcs c)) ∙ segments ∙ sym (shown_chain m c))

  flat_same : {A B : Type 0} (f g : A → List B) (xs : List A) → ((i : ℕ) (x : A) → At xs i x → f x ≡ g x) → flat_map f xs ≡ flat_map g xs
  flat_same f g [] h = refl
  flat_same f g (x ∷ xs) h = ap₂ (λ ys zs. ys ++ zs) (h zero x refl) (flat_same f g xs (λ i y a. h (suc i) y a))

  -- the segments of the slice
  pub slice_segments : all_segments m k cs ≡ flat_map (edge_row m k) cs
  slice_segments =
      flat_map-map (λ e. path_segments e.key e.left e.right 0 e.points) (edge_of (merged m) k []) cs
      ∙ flat_same _ (edge_row m k) cs edge_segments_of

  -- A segment of the slice at a place of all: the chain at place i, and its piece at place o.
  pub record IsShownAt (n : ℕ) (s : LabelledSegment) : Type 0 where
    pub i : ℕ
    pub o : ℕ
    pub c : Chain
    pub p : Piece
    pub at : IsSegmentAt m base k cs t i o c p s
    pub left : s.left ≡ (edge_of (merged m) k [] c).left
    pub right : s.right ≡ (edge_of (merged m) k [] c).right
    pub sum : n ≡ length (flat_map (edge_row m k) (take i cs)) + o

  pub shown_at : (n : ℕ) (s : LabelledSegment) → At (all_segments m k cs) n s → IsShownAt n s
  shown_at n s a =
      let f = at_flat_map (edge_row m k) cs n s
      (subst (λ ss. At ss n s) slice_segments a) in
      let r = at_rows (key f.1) (edge_of (merged m) k [] f.1).left (edge_of (merged m) k [] f.1).right 0 (pieces m f.1) f.2 s f.4 in
      record {
        i = f.0;
        o = f.2;
        c = f.1;
        p = r.0;
        at = record {
          stands = record { chain = f.3; piece = r.1.at };
          shows =
              record { segment = r.1.segment; arc = r.1.arc; place = omega (arith, r.1.place); starts = r.1.starts; ends = r.1.ends; last = r.1.last };
        };
        left = r.1.left;
        right = r.1.right;
        sum = f.5;
      }

  -- two segments of the slice are apart
  pub slice_apart : AllPairs AreApart (base_segments m) → AllPairs AreApart (all_segments m k cs)
  slice_apart planar = pairs_from_places AreApart (all_segments m k cs) (λ a b s u less x y.
      let f = shown_at a s x in
      let g = shown_at b u y in
      segments_apart m base k cs t planar f.at g.at (λ same e.
      let before : length (flat_map (edge_row m k) (take f.i cs))
      ≡ length (flat_map (edge_row m k) (take g.i cs))
      = ap (λ i. length (flat_map (edge_row m k) (take i cs))) same in
      omega (arith, f.sum, g.sum, less)))

-- a place in one of some lists is a place in all of them together
at_left : {A : Type 0} (xs ys : List A) (n : ℕ) (z : A) → At xs n z → At (xs ++ ys) n z
at_left [] ys n z a = absurd a
at_left (x ∷ xs) ys zero z a = a
at_left (x ∷ xs) ys (suc n) z a = at_left xs ys n z a

at_right : {A : Type 0} (xs ys : List A) (n : ℕ) (z : A) → At ys n z → At (xs ++ ys) (length xs + n) z
at_right [] ys n z a = let e : n ≡ 0 + n = omega arith in subst (λ o. At ys o z) e a
at_right (x ∷ xs) ys n z a = let e : suc (length xs + n) ≡ suc (length xs) + n = omega arith in subst (λ o. At (x ∷ xs ++ ys) o z) e (at_right xs ys n z a)

pub flat_map_at : {A B : Type 0} (f : A → List B) (xs : List A) (i : ℕ) (x : A) (o : ℕ) (z : B) → At xs i x → At (f x) o z
    → At (flat_map f xs) (length (flat_map f (take i xs)) + o) z
flat_map_at f [] i x o z a b = absurd a
flat_map_at f (y ∷ xs) zero x o z a b =
    let e : o ≡ 0 + o = omega arith in
    subst (λ n. At (flat_map f (y ∷ xs)) n z) e (at_left (f y) (flat_map f xs) o z (subst (λ w. At (f w) o z) (sym a) b))
flat_map_at f (y ∷ xs) (suc i) x o z a b =
    let e : length (f y) + (length (flat_map f (take i xs)) + o) ≡ length (f y ++ flat_map f (take i xs)) + o
    = omega (arith, length-append (f y) (flat_map f (take i xs))) in
    subst (λ n. At (flat_map f (y ∷ xs)) n z) e
    (at_right (f y) (flat_map f xs) (length (flat_map f (take i xs)) + o) z (flat_map_at f xs i x o z a b))
