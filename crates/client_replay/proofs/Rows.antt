-- The rows of the finer slice's edges, and how many segments they have.
use Rattle.std.proofs.Common.{◌≡◌, ℕ, ◌+◌, ◌-◌, ◌^◌, ◌<◌, ◌≤◌, Bool, true, false, ◌&&◌, cond, nat_lt, List, [], ◌∷◌, map, reverse, take, drop, length, All, refl, sym, ap₂, subst, ◌∙◌, true≢false, sum_by, arith}
use Rattle.std.specs.Prelude.{nat_le, ◌==◌}
use Rattle.std.specs.List.{list_all}
use Rattle.std.specs.Cmp.Derive.{both_true}
use Rattle.std.proofs.lemmas.Bool.{and_parts, leb-true, le-leb, ltb-true, lt-ltb, eqb-true, ne_eqb}
use Rattle.std.proofs.lemmas.List.Elements.{All-nil, All-cons, All-head, All-tail}
use Rattle.std.proofs.lemmas.List.Sums.{sum_by-cons, sum_by-le-sum_by}
use Rattle.lemmas.specs.Sorting.{is_sorted_by}
use Rattle.lemmas.proofs.Counts.{sum_by-add}
use Rattle.lemmas.proofs.Sorting.{sorted_tail}
use Rattle.tgap_model.specs.declared.geometry.Point.{Point}
use Rattle.tgap_model.specs.declared.slice.Edge.{Edge}
use Rattle.tgap_model.specs.declared.record.Piece.{Piece}
use Rattle.tgap_model.specs.declared.record.Mend.{Mend}
use Rattle.tgap_model.specs.declared.record.StepRecord.{StepRecord}
use Rattle.tgap_model.specs.Base.{in_limits, no_repeat}
use Rattle.tgap_model.specs.Records.{edge_before, in_place_of, cut_piece, cut_pieces, put_in, puts_fit, ends_with_place, starts_after_zero}
use Rattle.slice_forms.specs.SliceForms.{is_number, is_edge_row, is_piece_row, is_mend_row, is_put_row, segment_count}
use Rattle.client_replay.specs.Coming.{pieces_of, lowered}
use Rattle.client_replay.proofs.Found.{above_first}
use Rattle.client_replay.proofs.Points.{IsWhole, put_in-whole, part_whole, turned_whole}

-- the parts of an edge's row
pub record IsEdgeRow (e : Edge) : Type 0 where
  pub key : is_number e.key ≡ true
  pub left : is_number e.left ≡ true
  pub right : is_number e.right ≡ true
  pub count : is_number (length e.points) ≡ true
  pub long : nat_le 2 (length e.points) ≡ true
  pub limits : list_all in_limits e.points ≡ true
  pub differ : no_repeat e.points ≡ true

pub row_parts : (e : Edge) → is_edge_row e ≡ true → IsEdgeRow e
row_parts e h =
    let p6 = and_parts (is_number e.key && is_number e.left && is_number e.right && is_number (length e.points) && nat_le 2 (length e.points) && list_all in_limits e.points) (no_repeat e.points) h in
    let p5 = and_parts (is_number e.key && is_number e.left && is_number e.right && is_number (length e.points) && nat_le 2 (length e.points)) (list_all in_limits e.points) p6.0 in
    let p4 = and_parts (is_number e.key && is_number e.left && is_number e.right && is_number (length e.points)) (nat_le 2 (length e.points)) p5.0 in
    let p3 = and_parts (is_number e.key && is_number e.left && is_number e.right) (is_number (length e.points)) p4.0 in
    let p2 = and_parts (is_number e.key && is_number e.left) (is_number e.right) p3.0 in
    let p1 = and_parts (is_number e.key) (is_number e.left) p2.0 in
    record { key = p1.0; left = p1.1; right = p2.1; count = p3.1; long = p4.1; limits = p5.1; differ = p6.1 }

pub row_from : (e : Edge) → IsEdgeRow e → is_edge_row e ≡ true
row_from e p = both_true (both_true (both_true (both_true (both_true (both_true p.key p.left) p.right) p.count) p.long) p.limits) p.differ

-- the sides of an edge after the step is undone
side_number : (made side f : ℕ) → is_number side ≡ true → is_number f ≡ true → is_number (in_place_of made side f) ≡ true
side_number made side f h k = by (f == made)
  where
    by : (b : Bool) → is_number (cond b side f) ≡ true
    by true = h
    by false = k

pub lowered_row : (r : StepRecord) (e : Edge) → is_number r.winner ≡ true → is_edge_row e ≡ true → is_edge_row (lowered r e) ≡ true
lowered_row r e w h =
    let p = row_parts e h in
    row_from (lowered r e) (record {
      key = p.key;
      left = side_number r.made r.winner e.left w p.left;
      right = side_number r.made r.winner e.right w p.right;
      count = p.count;
      long = p.long;
      limits = p.limits;
      differ = p.differ;
    })

-- ---- the pieces of an edge

-- the row of a piece, and its segments
record IsPieceOf (e : Edge) (count : ℕ) : Type 0 where
  row : is_edge_row e ≡ true
  segments : length e.points - 1 ≡ count

one_piece : (r : StepRecord) (e : Edge) (points : List Point) (first : ℕ) (p : Piece) → is_number e.left ≡ true → is_number e.right ≡ true → is_piece_row p ≡ true
    → list_all in_limits points ≡ true → no_repeat points ≡ true → is_number (length points) ≡ true → first < p.last → p.last < length points
    → IsPieceOf (cut_piece r e points first p) (p.last - first)
one_piece r e points first p left right row limits differ few l m =
    let cut = take (p.last + 1 - first) (drop first points) in
    let w = part_whole points first p.last limits differ l m in
    let p1 = and_parts (is_number p.key && is_number p.last) (is_number p.side) row in
    let p0 = and_parts (is_number p.key) (is_number p.last) p1.0 in
    let left' = side_number r.made p.side e.left p1.1 left in
    let right' = side_number r.made p.side e.right p1.1 right in
    let fits : (zs : List Point) → IsWhole zs (p.last + 1 - first) → is_number (length zs) ≡ true = λ zs v.
    lt-ltb (length zs) (2 ^ 32) (omega (arith, v.long, ltb-true (length points) (2 ^ 32) few)) in
    by p.turned w fits left' right' p0.0
  where
    by : (b : Bool) → IsWhole (take (p.last + 1 - first) (drop first points)) (p.last + 1 - first)
        → ((zs : List Point) → IsWhole zs (p.last + 1 - first) → is_number (length zs) ≡ true)
        → is_number (in_place_of r.made p.side e.left) ≡ true → is_number (in_place_of r.made p.side e.right) ≡ true → is_number p.key ≡ true
        → IsPieceOf (cond b
        (record { key = p.key; left = in_place_of r.made p.side e.right; right = in_place_of r.made p.side e.left; points = reverse (take (p.last + 1 - first) (drop first points)) })
        (record { key = p.key; left = in_place_of r.made p.side e.left; right = in_place_of r.made p.side e.right; points = take (p.last + 1 - first) (drop first points) }))
        (p.last - first)
    by true w fits left' right' key =
        let cut = take (p.last + 1 - first) (drop first points) in
        let v = turned_whole cut (p.last + 1 - first) w in
        let f : Edge = record { key = p.key; left = in_place_of r.made p.side e.right; right = in_place_of r.made p.side e.left; points = reverse cut } in
        record {
          row = row_from f (record { key = key; left = right'; right = left'; count = fits (reverse cut) v; long = le-leb 2 (length (reverse cut)) (omega (arith, v.long)); limits = v.limits; differ = v.differ });
          segments = omega (arith, v.long);
        }
    by false w fits left' right' key =
        let cut = take (p.last + 1 - first) (drop first points) in
        let f : Edge = record { key = p.key; left = in_place_of r.made p.side e.left; right = in_place_of r.made p.side e.right; points = cut } in
        record {
          row = row_from f (record { key = key; left = left'; right = right'; count = fits cut w; long = le-leb 2 (length cut) (omega (arith, w.long)); limits = w.limits; differ = w.differ });
          segments = omega (arith, w.long);
        }

-- the rows of edges, and their segments
pub record AreRows (edges : List Edge) (count : ℕ) : Type 0 where
  pub rows : All (λ e. is_edge_row e ≡ true) edges
  pub segments : segment_count edges ≡ count

module _ (r : StepRecord) (e : Edge) (points : List Point) (left : is_number e.left ≡ true) (right : is_number e.right ≡ true)
    (limits : list_all in_limits points ≡ true) (differ : no_repeat points ≡ true) (few : is_number (length points) ≡ true) where
  -- the pieces from a place on: what is left of the edge
  pieces_from_place : (first : ℕ) (p : Piece) (pieces : List Piece) → first < p.last → list_all is_piece_row (p ∷ pieces) ≡ true
      → is_sorted_by nat_lt (map (λ q. q.last) (p ∷ pieces)) ≡ true → ends_with_place (length points - 1) (map (λ q. q.last) (p ∷ pieces)) ≡ true
      → AreRows (cut_pieces r e points first (p ∷ pieces)) (length points - 1 - first) × (first < length points - 1)
  pieces_from_place first p [] l rows s ends =
      let at_end = eqb-true p.last (length points - 1) ends in
      let one = one_piece r e points first p left right (and_parts (is_piece_row p) true rows).0 limits differ few l (omega arith) in (
        record {
          rows = All-cons (λ f. is_edge_row f ≡ true) (cut_piece r e points first p) [] one.row (All-nil (λ f. is_edge_row f ≡ true));
          segments = omega (arith, one.segments);
        },
        omega arith,
      )
  pieces_from_place first p (q ∷ pieces) l rows s ends =
      let row = and_parts (is_piece_row p) (list_all is_piece_row (q ∷ pieces)) rows in
      let order = and_parts (nat_lt p.last q.last) (is_sorted_by nat_lt (map (λ u. u.last) (q ∷ pieces))) s in
      let rest = pieces_from_place p.last q pieces (ltb-true p.last q.last order.0) row.1 order.1 ends in
      let one = one_piece r e points first p left right row.0 limits differ few l (omega (arith, rest.1)) in (
        record {
          rows = All-cons (λ f. is_edge_row f ≡ true) (cut_piece r e points first p) (cut_pieces r e points p.last (q ∷ pieces)) one.row rest.0.rows;
          segments = omega (arith, one.segments, rest.0.segments, rest.1, sum_by-cons (λ (f : Edge). length f.points - 1) (cut_piece r e points first p) (cut_pieces r e points p.last (q ∷ pieces)));
        },
        omega (arith, rest.1),
      )

  pub pieces_whole : (pieces : List Piece) → list_all is_piece_row pieces ≡ true → is_sorted_by nat_lt (map (λ q. q.last) pieces) ≡ true
      → starts_after_zero (map (λ q. q.last) pieces) ≡ true → ends_with_place (length points - 1) (map (λ q. q.last) pieces) ≡ true
      → AreRows (cut_pieces r e points 0 pieces) (length points - 1)
  pieces_whole [] rows s starts ends = absurd (true≢false (sym ends))
  pieces_whole (p ∷ pieces) rows s starts ends =
      let all = (pieces_from_place 0 p pieces (omega (arith, leb-true 1 p.last starts)) rows s ends).0 in
      record { rows = all.rows; segments = omega (arith, all.segments) }

-- an edge with its mend
pub pieces_of_rows : (r : StepRecord) (e : Edge) (m : Mend) → is_edge_row e ≡ true → is_mend_row m ≡ true → puts_fit e.points m.puts ≡ true
    → is_sorted_by nat_lt (map (λ q. q.last) m.pieces) ≡ true → starts_after_zero (map (λ q. q.last) m.pieces) ≡ true
    → ends_with_place (length e.points + length m.puts - 1) (map (λ q. q.last) m.pieces) ≡ true → length e.points + length m.puts < 2 ^ 32
    → AreRows (pieces_of r e m) (length e.points - 1 + length m.puts)
pieces_of_rows r e m row mend puts s starts ends few =
    let p = row_parts e row in
    let m3 = and_parts (is_number m.key && is_number (length m.puts) && is_number (length m.pieces) && list_all is_put_row m.puts) (list_all is_piece_row m.pieces) mend in
    let m2 = and_parts (is_number m.key && is_number (length m.puts) && is_number (length m.pieces)) (list_all is_put_row m.puts) m3.0 in
    let all = put_in m.puts e.points in
    let w = put_in-whole m.puts e.points m2.1 puts p.limits p.differ in
    let fits = lt-ltb (length all) (2 ^ 32) (omega (arith, w.long)) in
    let cut = pieces_whole r e all p.left p.right w.limits w.differ fits m.pieces m3.1 s starts (subst (λ n. ends_with_place (n - 1) (map (λ q. q.last) m.pieces) ≡ true) (sym w.long) ends) in
    let long = leb-true 2 (length e.points) p.long in
    record { rows = cut.rows; segments = omega (arith, cut.segments, w.long) }

-- ---- the puts of mends, each in one edge at most

-- the puts of the mend that names this edge
abbrev pub puts_of : List Mend → Edge → ℕ
puts_of [] e = 0
puts_of (m ∷ mends) e = cond (m.key == e.key) (length m.puts) (puts_of mends e)

-- one key stands at one edge at most
counted_once : (k n : ℕ) (edges : List Edge) → is_sorted_by edge_before edges ≡ true → sum_by (λ e. cond (k == e.key) n 0) edges ≤ n
counted_once k n [] s = omega arith
counted_once k n (e ∷ edges) s =
    subst (λ m. m ≤ n) (sym (sum_by-cons (λ f. cond (k == f.key) n 0) e edges)) (by (k == e.key) refl (counted_once k n edges (sorted_tail edge_before e edges s)))
  where
    none : (xs : List Edge) → All (λ f. e.key < f.key) xs → k ≡ e.key → sum_by (λ f. cond (k == f.key) n 0) xs ≡ 0
    none [] h same = refl
    none (f ∷ xs) h same =
        sum_by-cons (λ g. cond (k == g.key) n 0) f xs ∙ ap₂ (λ (b : Bool) m. cond b n 0 + m) (ne_eqb k f.key (λ q. omega (arith, q, same, All-head (λ g. e.key < g.key) f xs h))) (none xs (All-tail (λ g. e.key < g.key) f xs h) same)

    by : (b : Bool) → (k == e.key) ≡ b → sum_by (λ f. cond (k == f.key) n 0) edges ≤ n → cond b n 0 + sum_by (λ f. cond (k == f.key) n 0) edges ≤ n
    by true h rest = omega (arith, none edges (above_first (λ f. f.key) e edges s) (eqb-true k e.key h))
    by false h rest = omega (arith, rest)

pub puts_bounded : (mends : List Mend) (edges : List Edge) → is_sorted_by edge_before edges ≡ true → sum_by (puts_of mends) edges ≤ sum_by (λ m. length m.puts) mends
puts_bounded [] edges s = sum_none edges
  where
    sum_none : (xs : List Edge) → sum_by (puts_of []) xs ≤ 0
    sum_none [] = omega arith
    sum_none (e ∷ xs) = omega (arith, sum_none xs, sum_by-cons (puts_of []) e xs)
puts_bounded (m ∷ mends) edges s =
    let one = counted_once m.key (length m.puts) edges s in
    let rest = puts_bounded mends edges s in
    let less = sum_by-le-sum_by (puts_of (m ∷ mends)) (λ e. cond (m.key == e.key) (length m.puts) 0 + puts_of mends e) edges (λ e. either (m.key == e.key) (length m.puts) (puts_of mends e)) in
    omega (arith, one, rest, less, sum_by-add (λ e. cond (m.key == e.key) (length m.puts) 0) (puts_of mends) edges, sum_by-cons (λ (n : Mend). length n.puts) m mends)
  where
    either : (b : Bool) (x y : ℕ) → cond b x y ≤ cond b x 0 + y
    either true x y = omega arith
    either false x y = omega arith
