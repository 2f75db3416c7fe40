-- What a sweep has not come to: the edges before that are not swept, the rest of the edge that is, and all edges after it.
use Rattle.std.proofs.Common.{◌≡◌, ℕ, zero, suc, ◌+◌, ◌<◌, ◌≤◌, nat_lt, Bool, true, false, cond, ◌&&◌, ◌||◌, List, [], ◌∷◌, ◌++◌, take, drop, length, get_or, if◌then◌else◌, All, AllPairs, refl, sym, ap, ap₂, ◌∙◌, subst, arith}
use Rattle.std.specs.List.{flat_map}
use Rattle.std.proofs.lemmas.Bool.{eq-eqb, ne_eqb}
use Rattle.std.proofs.lemmas.Bool.Decides.{nat_tests}
use Rattle.std.proofs.lemmas.List.{drop_all, append_assoc}
use Rattle.std.proofs.lemmas.List.Elements.{All-head, All-tail}
use Rattle.tgap_model.specs.declared.geometry.Point.{Point}
use Rattle.tgap_model.specs.declared.geometry.Seg.{Seg}
use Rattle.tgap_model.specs.declared.slice.Edge.{Edge}
use Rattle.tgap_model.specs.Removals.{path, live_segments}
use Rattle.lemmas.proofs.Members.{AllPairs-head, AllPairs-tail}
use Rattle.grid_index.specs.declared.live.SegmentPlace.{SegmentPlace}
use Rattle.vertex_drop.specs.declared.near.Stand.{Stand}
use Rattle.vertex_drop.specs.Left.{swept_by, first_left, left_path, left_segments, unswept_path, passes_in, passes_on, passes_at}

-- an edge, for reads of edges
abbrev pub no_edge : Edge
no_edge = record { key = 0; left = 0; right = 0; points = [] }

-- ---- the edge with a key

-- keys ascend from any place to any later one
abbrev pub Ascend : List Edge → Type 0
Ascend edges = AllPairs (λ e f. e.key < f.key) edges

-- ---- the segment with a place

-- a test of the segment with a place is that of the points there
pub passes_in_is : (test : Seg → Bool) (points : List Point) (i : ℕ) (d : Point) → i + 1 < length points
    → passes_in test points i ≡ test (record { a = get_or points i d; b = get_or points (i + 1) d })
passes_in_is test [] i d l = absurd (omega arith)
passes_in_is test (a ∷ []) i d l = absurd (omega arith)
passes_in_is test (a ∷ b ∷ points) zero d l = refl
passes_in_is test (a ∷ b ∷ points) (suc i) d l =
    let e : suc (i + 1) ≡ suc i + 1 = omega arith in
    passes_in_is test (b ∷ points) i d (omega arith)
    ∙ ap (λ (k : ℕ). test (record { a = get_or (b ∷ points) i d; b = get_or (a ∷ b ∷ points) k d })) e

-- a place from the first one that is left on
pub passes_left : (test : Seg → Bool) (at : Stand) (e : Edge) (i : ℕ) (d : Point) → first_left at e ≤ i → i + 1 < length e.points
    → passes_on test at e i ≡ test (record { a = get_or e.points i d; b = get_or e.points (i + 1) d })
passes_left test at e i d le l =
    let t : nat_lt i (first_left at e) ≡ false = grind (arith, nat_tests, le) in
    ap (λ (b : Bool). b || passes_in test e.points i) t ∙ passes_in_is test e.points i d l

-- a place in the edge with its key
pub passes_found : (test : Seg → Bool) (at : Stand) (edges : List Edge) (p : SegmentPlace) (j : ℕ) (d : Edge) → Ascend edges → j < length edges
    → (get_or edges j d).key ≡ p.key → passes_at test at edges p ≡ passes_on test at (get_or edges j d) p.place
passes_found test at [] p j d up short same = absurd (omega (arith, short))
passes_found test at (e ∷ edges) p zero d up short same =
    ap (λ (b : Bool). cond b (passes_on test at e p.place) (passes_at test at edges p)) (eq-eqb e.key p.key same)
passes_found test at (e ∷ edges) p (suc j) d up short same =
    let lt = λ (e f : Edge). e.key < f.key in
    let less = AllPairs-head lt e edges up j d (omega (arith, short)) in
    ap (λ (b : Bool). cond b (passes_on test at e p.place) (passes_at test at edges p)) (ne_eqb e.key p.key (λ h. absurd (omega (arith, h, same, less))))
    ∙ passes_found test at edges p j d (AllPairs-tail lt e edges up) (omega (arith, short)) same

-- ---- all edges

module _ (at : Stand) where
  -- an edge before
  left_before : (e : Edge) → e.key < at.key → left_path at e ≡ unswept_path (swept_by at) e
  left_before e l = ap (λ n. path (drop n e.points)) first ∙ by (swept_by at e)
    where
      below : nat_lt e.key at.key ≡ true
      below = grind (arith, nat_tests, l)

      first : first_left at e ≡ (if swept_by at e then length e.points else 0)
      first =
          ap (λ (b : Bool). cond b (at.place + 1) (cond (nat_lt e.key at.key && swept_by at e) (length e.points) 0)) (ne_eqb e.key at.key (λ h. absurd (omega (arith, h, l))))
          ∙ ap (λ (b : Bool). cond (b && swept_by at e) (length e.points) 0) below

      by : (b : Bool) → path (drop (if b then length e.points else 0) e.points) ≡ (if b then [] else path e.points)
      by true = ap path (drop_all (length e.points) e.points (omega arith))
      by false = refl

  -- an edge after
  left_after : (e : Edge) → at.key < e.key → left_path at e ≡ path e.points
  left_after e l = ap (λ n. path (drop n e.points)) first
    where
      above : nat_lt e.key at.key ≡ false
      above = grind (arith, nat_tests, l)

      first : first_left at e ≡ 0
      first =
          ap (λ (b : Bool). cond b (at.place + 1) (cond (nat_lt e.key at.key && swept_by at e) (length e.points) 0)) (ne_eqb e.key at.key (λ h. absurd (omega (arith, h, l))))
          ∙ ap (λ (b : Bool). cond (b && swept_by at e) (length e.points) 0) above

  -- the edge itself
  left_at : (e : Edge) → e.key ≡ at.key → left_path at e ≡ path (drop (at.place + 1) e.points)
  left_at e same =
      ap (λ (b : Bool). path (drop (cond b (at.place + 1) (cond (nat_lt e.key at.key && swept_by at e) (length e.points) 0)) e.points)) (eq-eqb e.key at.key same)

  all_after : (edges : List Edge) → All (λ e. at.key < e.key) edges → left_segments at edges ≡ live_segments edges
  all_after [] h = refl
  all_after (e ∷ edges) h =
      ap₂ (λ (xs ys : List Seg). xs ++ ys) (left_after e (All-head (λ (f : Edge). at.key < f.key) e edges h))
      (all_after edges (All-tail (λ (f : Edge). at.key < f.key) e edges h))

  -- the segments that are left round the edge with the key
  pub left_around : (edges : List Edge) (i : ℕ) (d : Edge) → Ascend edges → i < length edges → (get_or edges i d).key ≡ at.key
      → left_segments at edges
      ≡ flat_map (unswept_path (swept_by at)) (take i edges) ++ (path (drop (at.place + 1) (get_or edges i d).points) ++ live_segments (drop (i + 1) edges))
  left_around [] i d up short same = absurd (omega (arith, short))
  left_around (e ∷ edges) zero d up short same =
      let lt = λ (e f : Edge). e.key < f.key in
      ap₂ (λ (xs ys : List Seg). xs ++ ys) (left_at e same)
      (all_after edges (λ k f l. subst (λ n. n < (get_or edges k f).key) same (AllPairs-head lt e edges up k f l)))
  left_around (e ∷ edges) (suc i) d up short same =
      let lt = λ (e f : Edge). e.key < f.key in
      let less = AllPairs-head lt e edges up i d (omega (arith, short)) in
      let before = unswept_path (swept_by at) e in
      let more = flat_map (unswept_path (swept_by at)) (take i edges) in
      let rest = path (drop (at.place + 1) (get_or edges i d).points) in
      let next : suc (i + 1) ≡ suc i + 1 = omega arith in
      ap₂ (λ (xs ys : List Seg). xs ++ ys) (left_before e (omega (arith, less, same)))
      (left_around edges i d (AllPairs-tail lt e edges up) (omega (arith, short)) same)
      ∙ sym (append_assoc before more (rest ++ live_segments (drop (i + 1) edges)))
      ∙ ap (λ (k : ℕ). (before ++ more) ++ (rest ++ live_segments (drop k (e ∷ edges)))) next
