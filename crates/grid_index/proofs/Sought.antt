-- The box of a segment of an edge, and what has the key of the edge.
use Rattle.std.proofs.Common.{◌≡◌, ◌≢◌, inl, inr, ℕ, suc, ◌+◌, ◌<◌, ◌≤◌, Bool, true, not, nat_eq, ℤ, pos, ◌≤ℤ◌, List, [], ◌∷◌, length, map, get_or, All, AllPairs, sym, ap, ◌∙◌, arith}
use Rattle.std.specs.Int.{int_min, int_max}
use Rattle.std.specs.Cmp.Derive.{both_true}
use Rattle.std.proofs.lemmas.Bool.{cases_lt}
use Rattle.std.proofs.lemmas.Bool.Decides.{nat_tests}
use Rattle.std.proofs.lemmas.Int.{ints, clamps}
use Rattle.std.proofs.lemmas.List.{get_or-map, length-map, get_or_default}
use Rattle.tgap_model.specs.declared.geometry.Point.{Point}
use Rattle.tgap_model.specs.declared.geometry.Window.{Window}
use Rattle.tgap_model.specs.declared.slice.Edge.{Edge}
use Rattle.lemmas.proofs.Signs.{Decides-int_le}
use Rattle.grid_index.specs.Boxes.{overlap, meets, segment_box}
use Rattle.grid_index.specs.Near.{cons_if, boxes_near}
use Rattle.grid_index.specs.Live.{segment_boxes}
use Rattle.grid_index.specs.declared.segments.Entry.{Entry}
use Rattle.grid_index.specs.Slots.{no_edge, edge_at, entry_of, is_near, AreNear}

-- what is read past the last point
abbrev pub no_point : Point
no_point = record { x = pos 0; y = pos 0 }

-- only one edge has a key
pub only : (edges : List Edge) (i k : ℕ) (d : Edge) → AllPairs (λ e f. e.key < f.key) edges → i < length edges → k < length edges → (edge_at edges i).key ≡ (get_or edges k d).key → get_or edges k d ≡ edge_at edges i
only edges i k d up l m e = elim (cases_lt i k) [
  | inl less ↦ let u = up i k d less m in let f = ap (λ (x : Edge). x.key) (get_or_default edges i d no_edge l) in absurd (omega arith)
  | inr le ↦ elim (cases_lt k i) [
    | inl less ↦ let u = up k i d less l in let f = ap (λ (x : Edge). x.key) (get_or_default edges i d no_edge l) in absurd (omega arith)
    | inr ge ↦ let same : k ≡ i = omega arith in ap (λ n. get_or edges n d) same ∙ get_or_default edges i d no_edge l
  ]
]

-- a segment's box meets itself
itself : (a b : Point) → meets (segment_box a b) (segment_box a b) ≡ true
itself a b = both_true (range a.x b.x) (range a.y b.y)
  where
    in_order : (u v : ℤ) → int_min u v ≤ℤ int_max u v
    in_order u v = omega (arith, ints, clamps)

    range : (u v : ℤ) → overlap (int_min u v) (int_max u v) (int_min u v) (int_max u v) ≡ true
    range u v = let t = (Decides-int_le (int_min u v) (int_max u v)).1 (in_order u v) in both_true t t

pub near_first : (points : List Point) (d : Point) → 2 ≤ length points → not (nat_eq (length (boxes_near (segment_box (get_or points 0 d) (get_or points 1 d)) 0 (segment_boxes points))) 0) ≡ true
near_first [] d l = absurd (omega arith)
near_first (a ∷ []) d l = absurd (omega arith)
near_first (a ∷ b ∷ points) d l =
    let rest = boxes_near (segment_box a b) (0 + 1) (segment_boxes (b ∷ points)) in
    ap (λ (t : Bool). not (nat_eq (length (cons_if t 0 rest)) 0)) (itself a b) ∙ some (length rest)
  where
    some : (n : ℕ) → not (nat_eq (suc n) 0) ≡ true
    some n = grind (arith, nat_tests)

pub near_found : (edges : List Edge) (i key : ℕ) (d : Point) → AllPairs (λ e f. e.key < f.key) edges → i < length edges → (edge_at edges i).key ≡ key → 2 ≤ length (edge_at edges i).points
    → AreNear (segment_box (get_or (edge_at edges i).points 0 d) (get_or (edge_at edges i).points 1 d)) key (map entry_of edges)
near_found edges i key d up l is long k e m same =
    let short : k < length edges = omega (arith, m, length-map edges entry_of) in
    let at = get_or-map entry_of edges k no_edge e short in
    let edge = only edges i k no_edge up l short (is ∙ sym same ∙ ap (λ (x : Entry). x.key) at) in
    ap (λ (x : Entry). is_near area x) (at ∙ ap entry_of edge) ∙ near_first (edge_at edges i).points d long
  where
    area : Window
    area = segment_box (get_or (edge_at edges i).points 0 d) (get_or (edge_at edges i).points 1 d)

pub near_none : (edges : List Edge) (key : ℕ) → All (λ e. e.key ≢ key) edges → (area : Window) → AreNear area key (map entry_of edges)
near_none edges key h area k e m same =
    let short : k < length edges = omega (arith, m, length-map edges entry_of) in
    absurd (h k no_edge short (sym (ap (λ (x : Entry). x.key) (get_or-map entry_of edges k no_edge e short)) ∙ same))
