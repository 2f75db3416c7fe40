-- Edges that have the same segments with the same faces: in another order, with an edge turned round, and with two edges joined.
use Rattle.std.proofs.Common.{◌≡◌, ◌≢◌, ◌⊎◌, inl, inr, ℕ, ◌+◌, ◌≤◌, true, List, [], ◌∷◌, ◌++◌, length, reverse, drop, refl, sym, ap, ap₂, ◌∙◌, subst, arith}
use Rattle.std.specs.Prelude.{min, sum_by}
use Rattle.std.proofs.lemmas.List.{append_assoc}
use Rattle.std.proofs.lemmas.List.Sums.{sum_by-cons, sum_by-append}
use Rattle.tgap_model.specs.declared.geometry.Point.{Point}
use Rattle.tgap_model.specs.declared.geometry.Seg.{Seg}
use Rattle.tgap_model.specs.declared.slice.Edge.{Edge}
use Rattle.tgap_model.specs.declared.segment.LabelledSegment.{LabelledSegment}
use Rattle.tgap_model.specs.Partition.{Spoke, path_segments, edge_segments}
use Rattle.tgap_model.specs.Chains.{first_point, last_point}
use Rattle.map_laws.proofs.ChainMembers.{Among, among_left, among_right, append_among}
use Rattle.map_laws.proofs.Lists.{among_flat}
use Rattle.slice_laws.proofs.Paths.{flip, reverse_cons}
use Rattle.slice_laws.proofs.Places.{among_flat_map}
use Rattle.slice_laws.proofs.CountedSums.{sum_by-flat_map}
use Rattle.slice_laws.proofs.Correspondence.{IsMirror}
use Rattle.slice_laws.proofs.EdgeSums.{row_of}
use Rattle.step_laws.proofs.StepEdges.{turned_edge, joined_edge, IsEvenWeight, HasEnd, IsSpoke, SameSpokes, HaveSame}
use Rattle.step_laws.proofs.EndSpokes.{turned_end, end_turned, joined_spokes}

-- ---- one segment

-- the same segment with the same faces, in its direction or turned round
abbrev pub IsSame : LabelledSegment → LabelledSegment → Type 0
IsSame s t = IsMirror (λ n. n) s t

pub same_back : (s t : LabelledSegment) → IsSame s t → IsSame t s
same_back s t (inl (e, f, k)) = inl (sym e, sym f, sym k)
same_back s t (inr (e, f, k)) = inr (sym (ap flip e), sym k, sym f)

same_and_then : (s t u : LabelledSegment) → IsSame s t → IsSame t u → IsSame s u
same_and_then s t u (inl (e, f, k)) (inl (e', f', k')) = inl (e' ∙ e, f' ∙ f, k' ∙ k)
same_and_then s t u (inl (e, f, k)) (inr (e', f', k')) = inr (e' ∙ ap flip e, f' ∙ k, k' ∙ f)
same_and_then s t u (inr (e, f, k)) (inl (e', f', k')) = inr (e' ∙ e, f' ∙ f, k' ∙ k)
same_and_then s t u (inr (e, f, k)) (inr (e', f', k')) = inl (e' ∙ ap flip e, f' ∙ k, k' ∙ f)

-- the weight of a segment with its faces
abbrev weight : (Seg → ℕ → ℕ → ℕ) → LabelledSegment → ℕ
weight w s = w s.segment s.left s.right

same_weight : (w : Seg → ℕ → ℕ → ℕ) → IsEvenWeight w → (s t : LabelledSegment) → IsSame s t → weight w s ≡ weight w t
same_weight w even s t (inl (e, f, k)) =
    ap (λ (x : Seg). w x s.left s.right) (sym e) ∙ ap₂ (λ (l r : ℕ). w t.segment l r) (sym f) (sym k)
same_weight w even s t (inr (e, f, k)) =
    sym (even s.segment s.left s.right) ∙ ap (λ (x : Seg). w x s.right s.left) (sym e) ∙ ap₂ (λ (l r : ℕ). w t.segment l r) (sym f) (sym k)

-- ---- lists of segments

-- each segment of the first list is in the second one, perhaps turned round
abbrev pub AreThere : List LabelledSegment → List LabelledSegment → Type 0
AreThere ss ts = (s : LabelledSegment) → Among s ss → (t : LabelledSegment) × Among t ts × IsSame s t

-- two lists of segments have the same
record SameSegments (ss ts : List LabelledSegment) : Type 0 where
  sums : (w : Seg → ℕ → ℕ → ℕ) → IsEvenWeight w → sum_by (weight w) ss ≡ sum_by (weight w) ts
  there : AreThere ss ts
  back : AreThere ts ss

there_then : (ss ts us : List LabelledSegment) → AreThere ss ts → AreThere ts us → AreThere ss us
there_then ss ts us h k s m =
    let t = h s m in
    let u = k t.0 t.1 in
    (u.0, u.1, same_and_then s t.0 u.0 t.2 u.2)

there_cons : (s t : LabelledSegment) (ss ts : List LabelledSegment) → IsSame s t → AreThere ss ts → AreThere (s ∷ ss) (t ∷ ts)
there_cons s t ss ts i h u (inl e) = (t, inl refl, subst (λ x. IsSame x t) e i)
there_cons s t ss ts i h u (inr m) = let r = h u m in (r.0, inr r.1, r.2)

there_append : (ss ts us vs : List LabelledSegment) → AreThere ss ts → AreThere us vs → AreThere (ss ++ us) (ts ++ vs)
there_append ss ts us vs h k s m = elim (append_among ss us s m) [
  | inl l ↦ (let t = h s l in (t.0, among_left ts vs t.0 t.1, t.2))
  | inr r ↦ (let t = k s r in (t.0, among_right ts vs t.0 t.1, t.2))
]

there_swapped : (ss ts : List LabelledSegment) → AreThere (ss ++ ts) (ts ++ ss)
there_swapped ss ts s m = elim (append_among ss ts s m) [
  | inl l ↦ (s, among_right ts ss s l, inl (refl, refl, refl))
  | inr r ↦ (s, among_left ts ss s r, inl (refl, refl, refl))
]

segments_self : (ss : List LabelledSegment) → SameSegments ss ss
segments_self ss = record {
  sums = λ w even. refl;
  there = λ s m. (s, m, inl (refl, refl, refl));
  back = λ s m. (s, m, inl (refl, refl, refl));
}

segments_back : (ss ts : List LabelledSegment) → SameSegments ss ts → SameSegments ts ss
segments_back ss ts h = record { sums = λ w even. sym (h.sums w even); there = h.back; back = h.there }

segments_then : (ss ts us : List LabelledSegment) → SameSegments ss ts → SameSegments ts us → SameSegments ss us
segments_then ss ts us h k = record {
  sums = λ w even. h.sums w even ∙ k.sums w even;
  there = there_then ss ts us h.there k.there;
  back = there_then us ts ss k.back h.back;
}

segments_cons : (s t : LabelledSegment) (ss ts : List LabelledSegment) → IsSame s t → SameSegments ss ts → SameSegments (s ∷ ss) (t ∷ ts)
segments_cons s t ss ts i h = record {
  sums = λ w even.
      sum_by-cons (weight w) s ss ∙ ap₂ (λ (x y : ℕ). x + y) (same_weight w even s t i) (h.sums w even) ∙ sym (sum_by-cons (weight w) t ts);
  there = there_cons s t ss ts i h.there;
  back = there_cons t s ts ss (same_back s t i) h.back;
}

segments_append : (ss ts us vs : List LabelledSegment) → SameSegments ss ts → SameSegments us vs → SameSegments (ss ++ us) (ts ++ vs)
segments_append ss ts us vs h k = record {
  sums = λ w even.
      sum_by-append (weight w) ss us ∙ ap₂ (λ (x y : ℕ). x + y) (h.sums w even) (k.sums w even) ∙ sym (sum_by-append (weight w) ts vs);
  there = there_append ss ts us vs h.there k.there;
  back = there_append ts ss vs us h.back k.back;
}

segments_swapped : (ss ts : List LabelledSegment) → SameSegments (ss ++ ts) (ts ++ ss)
segments_swapped ss ts = record {
  sums = λ w even. omega (arith, sum_by-append (weight w) ss ts, sum_by-append (weight w) ts ss);
  there = there_swapped ss ts;
  back = there_swapped ts ss;
}

-- ---- rows of points

-- the number of an edge and the places in it do not matter
row_same : (key other l r n m : ℕ) (points : List Point) → SameSegments (path_segments key l r n points) (path_segments other l r m points)
row_same key other l r n m [] = segments_self []
row_same key other l r n m (a ∷ []) = segments_self []
row_same key other l r n m (a ∷ b ∷ points) =
    segments_cons _ _ _ _ (inl (refl, refl, refl)) (row_same key other l r (n + 1) (m + 1) (b ∷ points))

-- one more point
row_after : (key l r n m : ℕ) (ps : List Point) (q p : Point) → SameSegments (path_segments key l r n (ps ++ q ∷ p ∷ []))
    (path_segments key l r n (ps ++ q ∷ []) ++ row_of key l r m (record { a = q; b = p }) true ∷ [])
row_after key l r n m [] q p = segments_cons _ _ _ _ (inl (refl, refl, refl)) (segments_self [])
row_after key l r n m (a ∷ []) q p = segments_cons _ _ _ _ (inl (refl, refl, refl)) (row_after key l r (n + 1) m [] q p)
row_after key l r n m (a ∷ b ∷ ps) q p = segments_cons _ _ _ _ (inl (refl, refl, refl)) (row_after key l r (n + 1) m (b ∷ ps) q p)

-- the other way round
row_turned : (key l r n : ℕ) (points : List Point) → SameSegments (path_segments key l r n points) (path_segments key r l n (reverse points))
row_turned key l r n [] = segments_self []
row_turned key l r n (p ∷ []) = segments_self []
row_turned key l r n (p ∷ q ∷ ps) =
    let back : List LabelledSegment = path_segments key r l n (reverse (q ∷ ps)) in
    let last : LabelledSegment = row_of key r l n (record { a = q; b = p }) true in
    let turned : SameSegments (path_segments key l r n (p ∷ q ∷ ps)) (last ∷ back)
    = segments_cons _ last _ back (inr (refl, refl, refl))
    (segments_then _ (path_segments key r l (n + 1) (reverse (q ∷ ps))) back (row_turned key l r (n + 1) (q ∷ ps))
    (row_same key key r l (n + 1) n (reverse (q ∷ ps)))) in
    let added : SameSegments (path_segments key r l n (reverse ps ++ q ∷ p ∷ [])) (path_segments key r l n (reverse ps ++ q ∷ []) ++ last ∷ [])
    = row_after key r l n n (reverse ps) q p in
    let whole : reverse ps ++ q ∷ p ∷ [] ≡ reverse (p ∷ q ∷ ps)
    = sym (append_assoc (reverse ps) (q ∷ []) (p ∷ [])) ∙ ap (λ (xs : List Point). xs ++ p ∷ []) (sym (reverse_cons q ps))
    ∙ sym (reverse_cons p (q ∷ ps)) in
    segments_then _ (back ++ last ∷ []) _ (segments_then _ (last ∷ back) _ turned (segments_swapped (last ∷ []) back))
    (segments_back _ _
    (subst (λ xs. SameSegments (path_segments key r l n xs) (back ++ last ∷ [])) whole
    (subst (λ xs. SameSegments (path_segments key r l n (reverse ps ++ q ∷ p ∷ [])) (path_segments key r l n xs ++ last ∷ [])) (sym (reverse_cons q ps)) added)))

-- two rows of which the second begins where the first ends
rows_joined : (key other l r n m : ℕ) (ps qs : List Point) → 1 ≤ length ps → 1 ≤ length qs → last_point ps ≡ first_point qs
    → SameSegments (path_segments key l r n ps ++ path_segments other l r m qs) (path_segments key l r n (ps ++ drop 1 qs))
rows_joined key other l r n m [] qs f g e = absurd (omega arith)
rows_joined key other l r n m (p ∷ ps) [] f g e = absurd (omega arith)
rows_joined key other l r n m (p ∷ []) (q ∷ qs) f g e =
    subst (λ x. SameSegments (path_segments other l r m (q ∷ qs)) (path_segments key l r n (x ∷ qs))) (sym e) (row_same other key l r m n (q ∷ qs))
rows_joined key other l r n m (p ∷ o ∷ ps) (q ∷ qs) f g e =
    segments_cons _ _ _ _ (inl (refl, refl, refl)) (rows_joined key other l r (n + 1) m (o ∷ ps) (q ∷ qs) (omega arith) g e)

-- ---- edges

-- at the point they have the same spokes, or the second list has none
abbrev KeepSpokes : List Edge → List Edge → Point → Type 0
KeepSpokes es fs v = SameSpokes es fs v ⊎ ((q : Spoke) → IsSpoke fs v q → ⊥)

from_segments : (es fs : List Edge) → SameSegments (edge_segments es) (edge_segments fs) → ((v : Point) → KeepSpokes es fs v) → HaveSame es fs
from_segments es fs h nodes =
    record { sums = h.sums; there = h.there; back = λ t m. let s = h.back t m in (s.0, s.1, same_back t s.0 s.2); nodes = nodes }

to_segments : (es fs : List Edge) → HaveSame es fs → SameSegments (edge_segments es) (edge_segments fs)
to_segments es fs h = record { sums = h.sums; there = h.there; back = λ t m. let s = h.back t m in (s.0, s.1, same_back s.0 t s.2) }

-- the segments of an edge
abbrev edge_row : Edge → List LabelledSegment
edge_row e = path_segments e.key e.left e.right 0 e.points

pub same_self : (es : List Edge) → HaveSame es es
same_self es = from_segments es es (segments_self (edge_segments es)) (λ v. inl (λ q. (λ s. s, λ s. s)))

pub same_then : (es fs gs : List Edge) → HaveSame es fs → HaveSame fs gs → HaveSame es gs
same_then es fs gs h k =
    from_segments es gs (segments_then _ (edge_segments fs) _ (to_segments es fs h) (to_segments fs gs k)) (λ v. by v (h.nodes v) (k.nodes v))
  where
    by : (v : Point) → KeepSpokes es fs v → KeepSpokes fs gs v → KeepSpokes es gs v
    by v (inl a) (inl b) = inl (λ q. (λ s. (b q).0 ((a q).0 s), λ s. (a q).1 ((b q).1 s)))
    by v (inr a) (inl b) = inr (λ q s. a q ((b q).1 s))
    by v a (inr b) = inr b

-- in another order
pub same_ordered : (es fs : List Edge) → ((w : Edge → ℕ) → sum_by w es ≡ sum_by w fs) → ((e : Edge) → Among e es → Among e fs)
    → ((e : Edge) → Among e fs → Among e es) → HaveSame es fs
same_ordered es fs sums into back = from_segments es fs (record {
  sums = λ w even.
      sum_by-flat_map (weight w) edge_row es ∙ sums (λ e. sum_by (weight w) (edge_row e)) ∙ sym (sum_by-flat_map (weight w) edge_row fs);
  there = moved es fs into;
  back = moved fs es back;
}) (λ v. inl (λ q. ((λ s. (s.0, into s.0 s.1, s.2)), (λ s. (s.0, back s.0 s.1, s.2)))))
  where
    moved : (es fs : List Edge) → ((e : Edge) → Among e es → Among e fs) → AreThere (edge_segments es) (edge_segments fs)
    moved es fs into s m =
        let e = among_flat_map edge_row es s m in
        (s, among_flat edge_row fs e.0 s (into e.0 e.1) e.2, inl (refl, refl, refl))

-- with an edge turned round
pub same_turned : (e : Edge) (es : List Edge) → HaveSame (e ∷ es) (turned_edge e ∷ es)
same_turned e es =
    from_segments (e ∷ es) (turned_edge e ∷ es)
    (segments_append (edge_row e) (edge_row (turned_edge e)) _ _ (row_turned e.key e.left e.right 0 e.points) (segments_self (edge_segments es)))
    (λ v. inl (λ q. (into v q, from v q)))
  where
    into : (v : Point) (q : Spoke) → IsSpoke (e ∷ es) v q → IsSpoke (turned_edge e ∷ es) v q
    into v q (f, inl same, end) = (turned_edge e, inl refl, turned_end e v q (subst (λ (x : Edge). HasEnd x v q) (sym same) end))
    into v q (f, inr m, end) = (f, inr m, end)

    from : (v : Point) (q : Spoke) → IsSpoke (turned_edge e ∷ es) v q → IsSpoke (e ∷ es) v q
    from v q (f, inl same, end) = (e, inl refl, end_turned e v q (subst (λ (x : Edge). HasEnd x v q) (sym same) end))
    from v q (f, inr m, end) = (f, inr m, end)

-- with two edges joined, at a point where neither has another end, nor another edge one
pub same_joined : (c d : Edge) (es : List Edge) → c.left ≡ d.left → c.right ≡ d.right → last_point c.points ≡ first_point d.points
    → 2 ≤ length c.points → 2 ≤ length d.points → first_point c.points ≢ last_point c.points → last_point d.points ≢ last_point c.points
    → ((o : Edge) → Among o es → (first_point o.points ≢ last_point c.points) × (last_point o.points ≢ last_point c.points))
    → HaveSame (c ∷ d ∷ es) (joined_edge c d ∷ es)
same_joined c d es l r e f g c_first d_last away =
    from_segments (c ∷ d ∷ es) (joined_edge c d ∷ es)
    (subst (λ ss. SameSegments ss (edge_segments (joined_edge c d ∷ es))) (append_assoc (edge_row c) (edge_row d) (edge_segments es))
    (segments_append (edge_row c ++ edge_row d) (edge_row (joined_edge c d)) _ _ rows (segments_self (edge_segments es))))
    (joined_spokes c d es l r e f g c_first d_last away)
  where
    key : ℕ
    key = min c.key d.key

    same_faces : SameSegments (edge_row d) (path_segments d.key c.left c.right 0 d.points)
    same_faces = subst (λ x. SameSegments (edge_row d) (path_segments d.key x c.right 0 d.points)) (sym l)
        (subst (λ x. SameSegments (edge_row d) (path_segments d.key d.left x 0 d.points)) (sym r) (segments_self (edge_row d)))

    rows : SameSegments (edge_row c ++ edge_row d) (edge_row (joined_edge c d))
    rows = segments_then _ (path_segments key c.left c.right 0 c.points ++ path_segments d.key c.left c.right 0 d.points) _
        (segments_append (edge_row c) _ (edge_row d) _ (row_same c.key key c.left c.right 0 0 c.points) same_faces)
        (rows_joined key d.key c.left c.right 0 0 c.points d.points (omega (arith, f)) (omega (arith, g)) e)
