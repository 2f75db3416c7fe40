-- Records that fit one after the other bring no more segments than the slice has that they lead to. So there is room for all records
-- of a map.
use Rattle.std.proofs.Common.{◌≡◌, ℕ, ◌+◌, ◌-◌, ◌<◌, ◌≤◌, ◌⊎◌, inl, inr, Bool, true, false, cond, ◌&&◌, nat_lt, nat_le, Option, Some, None, List, [], ◌∷◌, ◌++◌, map, flat_map, reverse, take, drop, length, length-drop, get_or, All, Contains, refl, sym, ap, ◌∙◌, subst, true≢false, arith}
use Rattle.std.specs.Prelude.{sum_by, ◌==◌, ◌||◌, find, fold, insert, is_none, is_some}
use Rattle.std.specs.List.{list_all, list_any}
use Rattle.std.proofs.lemmas.Bool.{and_parts, eq-eqb, eqb-true, ne_eqb, or_cases, leb-true, ltb-true}
use Rattle.std.proofs.lemmas.List.{length-reverse, length-take-le}
use Rattle.std.proofs.lemmas.List.Elements.{All-head, All-tail, All-contains}
use Rattle.std.proofs.lemmas.List.Sorted.{IsPermutation-insert, length_permutation}
use Rattle.std.proofs.lemmas.List.Sums.{sum_by-append, sum_by-cons, sum_by-le-sum_by, AllPass-from_list_all}
use Rattle.lemmas.specs.Sorting.{is_sorted_by}
use Rattle.lemmas.proofs.Counts.{sum_by-add}
use Rattle.lemmas.proofs.Sorting.{sorted_tail, sum_by-sort_by}
use Rattle.lemmas.proofs.Members.{in_head, in_tail}
use Rattle.tgap_model.specs.declared.geometry.Point.{Point}
use Rattle.tgap_model.specs.declared.slice.Edge.{Edge}
use Rattle.tgap_model.specs.declared.slice.Slice.{Slice}
use Rattle.tgap_model.specs.declared.record.Put.{Put}
use Rattle.tgap_model.specs.declared.record.Piece.{Piece}
use Rattle.tgap_model.specs.declared.record.Mend.{Mend}
use Rattle.tgap_model.specs.declared.record.StepRecord.{StepRecord}
use Rattle.tgap_model.specs.Records.{broken_rule, cut_piece, cut_pieces, differs_there, edge_before, edge_with, ends_with_place, fits_keys, in_place_of, keys_ascend, put_in, puts_fit, refined, starts_after_zero, undo, has_one_side}
use Rattle.slice_forms.specs.SliceForms.{record_load, replay_load, segment_count}
use Rattle.client_replay.specs.Coming.{lowered, pieces_of}
use Rattle.client_replay.proofs.Failures.{KeepsSix, broken_seventh, keeps_six, none_before}
use Rattle.client_replay.proofs.Found.{above_first, any_found, ascend_by, find_at}
use Rattle.client_replay.proofs.Rows.{puts_of}
use Rattle.record_laws.specs.PacketLaws.{each_fits}

-- ---- the pieces of an edge

cut_length : (r : StepRecord) (e : Edge) (points : List Point) (first : ℕ) (p : Piece) → first < p.last → p.last < length points
    → length (cut_piece r e points first p).points ≡ p.last + 1 - first
cut_length r e points first p less within = by p.turned
  where
    cut : List Point
    cut = take (p.last + 1 - first) (drop first points)

    whole : length cut ≡ p.last + 1 - first
    whole = length-take-le (p.last + 1 - first) (drop first points) (omega (arith, length-drop first points))

    turned : Edge
    turned = record { key = p.key; left = in_place_of r.made p.side e.right; right = in_place_of r.made p.side e.left; points = reverse cut }

    straight : Edge
    straight = record { key = p.key; left = in_place_of r.made p.side e.left; right = in_place_of r.made p.side e.right; points = cut }

    by : (b : Bool) → length (cond b turned straight).points ≡ p.last + 1 - first
    by true = length-reverse cut ∙ whole
    by false = whole

pieces_segments : (r : StepRecord) (e : Edge) (points : List Point) (first : ℕ) (p : Piece) (pieces : List Piece) → first < p.last
    → is_sorted_by nat_lt (map (λ q. q.last) (p ∷ pieces)) ≡ true → ends_with_place (length points - 1) (map (λ q. q.last) (p ∷ pieces)) ≡ true
    → (segment_count (cut_pieces r e points first (p ∷ pieces)) ≡ length points - 1 - first) × (first < length points - 1)
pieces_segments r e points first p [] less s ends =
    let at_end = eqb-true p.last (length points - 1) ends in
    let one = cut_length r e points first p less (omega (arith, less, at_end)) in
    (omega (arith, one, at_end, less, sum_by-cons (λ (f : Edge). length f.points - 1) (cut_piece r e points first p) []), omega (arith, less, at_end))
pieces_segments r e points first p (q ∷ pieces) less s ends =
    let order = and_parts (nat_lt p.last q.last) (is_sorted_by nat_lt (map (λ u. u.last) (q ∷ pieces))) s in
    let rest = pieces_segments r e points p.last q pieces (ltb-true p.last q.last order.0) order.1 ends in
    let one = cut_length r e points first p less (omega (arith, rest.1)) in (
      omega (arith, one, rest.0, rest.1, less, sum_by-cons (λ (f : Edge). length f.points - 1) (cut_piece r e points first p) (cut_pieces r e points p.last (q ∷ pieces))),
      omega (arith, less, rest.1),
    )

put_length : (puts : List Put) (points : List Point) → puts_fit points puts ≡ true → length (put_in puts points) ≡ length points + length puts
put_length [] points fit = omega arith
put_length (p ∷ puts) points fit =
    let parts = and_parts (nat_le 1 p.at && nat_lt p.at (length points) && differs_there points p) (puts_fit (insert points p.at p.point) puts) fit in
    omega (
      arith,
      put_length puts (insert points p.at p.point) parts.1,
      length_permutation (p.point ∷ points) (insert points p.at p.point) (IsPermutation-insert points p.at p.point),
    )

-- an edge with puts that fit has a point
some_point : (puts : List Put) (points : List Point) → puts_fit points puts ≡ true → (0 < length points) ⊎ (length puts ≡ 0)
some_point [] points fit = inr refl
some_point (p ∷ puts) points fit =
    let parts = and_parts (nat_le 1 p.at && nat_lt p.at (length points) && differs_there points p) (puts_fit (insert points p.at p.point) puts) fit in
    let tests = and_parts (nat_le 1 p.at && nat_lt p.at (length points)) (differs_there points p) parts.0 in
    let within = ltb-true p.at (length points) (and_parts (nat_le 1 p.at) (nat_lt p.at (length points)) tests.0).1 in
    inl (omega (arith, within))

mended_segments : (r : StepRecord) (e : Edge) (m : Mend) → puts_fit e.points m.puts ≡ true → is_sorted_by nat_lt (map (λ q. q.last) m.pieces) ≡ true
    → starts_after_zero (map (λ q. q.last) m.pieces) ≡ true → ends_with_place (length e.points + length m.puts - 1) (map (λ q. q.last) m.pieces) ≡ true
    → segment_count (pieces_of r e m) ≡ length e.points - 1 + length m.puts
mended_segments r e m fit s starts ends = by m.pieces s starts ends
  where
    all : List Point
    all = put_in m.puts e.points

    long : length all ≡ length e.points + length m.puts
    long = put_length m.puts e.points fit

    by : (pieces : List Piece) → is_sorted_by nat_lt (map (λ q. q.last) pieces) ≡ true → starts_after_zero (map (λ q. q.last) pieces) ≡ true
        → ends_with_place (length e.points + length m.puts - 1) (map (λ q. q.last) pieces) ≡ true → segment_count (cut_pieces r e all 0 pieces) ≡ length e.points - 1 + length m.puts
    by [] s starts ends = absurd (true≢false (sym starts))
    by (p ∷ pieces) s starts ends =
        let cut = pieces_segments r e all 0 p pieces (leb-true 1 p.last starts) s
        (subst (λ (n : ℕ). ends_with_place (n - 1) (map (λ q. q.last) (p ∷ pieces)) ≡ true) (sym long) ends) in
        elim (some_point m.puts e.points fit) [
          | inl some ↦ omega (arith, cut.0, cut.1, long, some)
          | inr none ↦ omega (arith, cut.0, cut.1, long, none)
        ]

-- ---- mends, and the edges that they name

found_member : (p : Mend → Bool) (ms : List Mend) (m : Mend) → find p ms ≡ Some m → Contains ms m × (p m ≡ true)
found_member p [] m e = absurd (let clash : None ≡ Some m = e in cc)
found_member p (n ∷ ms) m e = by (p n) refl e (found_member p ms m)
  where
    by : (b : Bool) → p n ≡ b → cond b (Some n) (find p ms) ≡ Some m → (find p ms ≡ Some m → Contains ms m × (p m ≡ true)) → Contains (n ∷ ms) m × (p m ≡ true)
    by true h f rest = let same : n ≡ m = cc in (subst (Contains (n ∷ ms)) same (in_head n ms), ap p (sym same) ∙ h)
    by false h f rest = let r = rest f in (in_tail n ms m r.0, r.1)

-- the puts of the mend that is found
puts_found : (o : Option Mend) → ℕ
puts_found None = 0
puts_found (Some m) = length m.puts

puts_are : (mends : List Mend) (e : Edge) → puts_of mends e ≡ puts_found (find (λ m. m.key == e.key) mends)
unfolding puts_found
puts_are [] e = refl
puts_are (m ∷ mends) e = by (m.key == e.key) (puts_are mends e)
  where
    by : (b : Bool) → puts_of mends e ≡ puts_found (find (λ n. n.key == e.key) mends)
        → cond b (length m.puts) (puts_of mends e) ≡ puts_found (cond b (Some m) (find (λ n. n.key == e.key) mends))
    by true rest = refl
    by false rest = rest

-- among mends with greater keys none names the edge
puts_above : (k : ℕ) (mends : List Mend) (e : Edge) → All (λ m. k < m.key) mends → k ≡ e.key → puts_of mends e ≡ 0
puts_above k [] e above same = refl
puts_above k (m ∷ mends) e above same =
    ap (λ (b : Bool). cond b (length m.puts) (puts_of mends e)) (ne_eqb m.key e.key (λ q. omega (arith, q, same, All-head (λ n. k < n.key) m mends above)))
    ∙ puts_above k mends e (All-tail (λ n. k < n.key) m mends above) same

-- a key that an edge has is counted
counted_some : (k n : ℕ) (edges : List Edge) → list_any (λ e. e.key == k) edges ≡ true → n ≤ sum_by (λ e. cond (k == e.key) n 0) edges
counted_some k n [] h = absurd (true≢false (sym h))
counted_some k n (e ∷ edges) h = elim (or_cases (e.key == k) (list_any (λ f. f.key == k) edges) h) [
  | inl here ↦
      (let same = ap (λ (b : Bool). cond b n 0) (eq-eqb k e.key (sym (eqb-true e.key k here))) in
      omega (arith, same, sum_by-cons (λ (f : Edge). cond (k == f.key) n 0) e edges))
  | inr later ↦ omega (arith, counted_some k n edges later, sum_by-cons (λ (f : Edge). cond (k == f.key) n 0) e edges)
]

-- mends with ascending keys that edges have are all counted
puts_reached : (mends : List Mend) (edges : List Edge) → is_sorted_by (λ (m n : Mend). nat_lt m.key n.key) mends ≡ true
    → All (λ m. list_any (λ e. e.key == m.key) edges ≡ true) mends → sum_by (λ m. length m.puts) mends ≤ sum_by (puts_of mends) edges
puts_reached [] edges s each = omega arith
puts_reached (m ∷ mends) edges s each =
    let one = counted_some m.key (length m.puts) edges (All-head (λ n. list_any (λ e. e.key == n.key) edges ≡ true) m mends each) in
    let rest = puts_reached mends edges (sorted_tail (λ (a b : Mend). nat_lt a.key b.key) m mends s) (All-tail (λ n. list_any (λ e. e.key == n.key) edges ≡ true) m mends each) in
    let above = above_first (λ (n : Mend). n.key) m mends s in
    let more = sum_by-le-sum_by (λ e. cond (m.key == e.key) (length m.puts) 0 + puts_of mends e) (puts_of (m ∷ mends)) edges (λ e.
    either (m.key == e.key) (length m.puts) (puts_of mends e) (λ same. puts_above m.key mends e above (eqb-true m.key e.key same))) in
    omega (arith, one, rest, more, sum_by-add (λ e. cond (m.key == e.key) (length m.puts) 0) (puts_of mends) edges, sum_by-cons (λ (n : Mend). length n.puts) m mends)
  where
    either : (b : Bool) (x y : ℕ) → (b ≡ true → y ≡ 0) → cond b x 0 + y ≤ cond b x y
    either true x y none = omega (arith, none refl)
    either false x y none = omega arith

-- ---- one record

module _ (s : Slice) (r : StepRecord) (order : keys_ascend (map (λ e. e.key) s.edges) ≡ true) (fits : broken_rule s r ≡ None) where
  six : KeepsSix s r
  six = keeps_six s r (none_before s r fits)

  in_order : is_sorted_by (λ (e f : Edge). nat_lt e.key f.key) s.edges ≡ true
  in_order = sym (ascend_by (λ (e : Edge). e.key) s.edges) ∙ order

  -- the edge that a mend names is the one that has its key
  named : (i : ℕ) (d : Edge) (m : Mend) → i < length s.edges → m.key ≡ (get_or s.edges i d).key → edge_with s m.key ≡ Some (get_or s.edges i d)
  named i d m l same = find_at (λ (e : Edge). e.key) m.key s.edges i d in_order l (sym same)

  abbrev puts_test : Mend → Option Edge → Bool
  puts_test m o = elim o [ None ↦ true | Some f ↦ puts_fit f.points m.puts ]

  abbrev end_test : Mend → Option Edge → Bool
  end_test m o = elim o [ None ↦ true | Some f ↦ ends_with_place (length f.points + length m.puts - 1) (map (λ p. p.last) m.pieces) ]

  mended : (i : ℕ) (d : Edge) (m : Mend) → i < length s.edges → find (λ n. n.key == (get_or s.edges i d).key) r.mends ≡ Some m
      → segment_count (pieces_of r (get_or s.edges i d) m) ≡ length (get_or s.edges i d).points - 1 + length m.puts
  mended i d m l found =
      let e = get_or s.edges i d in
      let at = found_member (λ n. n.key == e.key) r.mends m found in
      let is = named i d m l (eqb-true m.key e.key at.1) in
      let puts = and_parts (is_sorted_by nat_lt (map (λ p. p.at) m.puts)) (puts_test m (edge_with s m.key))
      (All-contains (λ n. (is_sorted_by nat_lt (map (λ p. p.at) n.puts) && puts_test n (edge_with s n.key)) ≡ true) r.mends m
      (AllPass-from_list_all (λ n. is_sorted_by nat_lt (map (λ p. p.at) n.puts) && puts_test n (edge_with s n.key)) r.mends six.puts) at.0) in
      let p2 = and_parts (is_sorted_by nat_lt (map (λ p. p.last) m.pieces) && starts_after_zero (map (λ p. p.last) m.pieces) && end_test m (edge_with s m.key))
      (list_all (λ p. (p.side == r.loser) || (p.side == r.winner)) m.pieces)
      (All-contains (λ n. (is_sorted_by nat_lt (map (λ p. p.last) n.pieces) && starts_after_zero (map (λ p. p.last) n.pieces) && end_test n (edge_with s n.key)
      && list_all (λ p. (p.side == r.loser) || (p.side == r.winner)) n.pieces) ≡ true) r.mends m
      (AllPass-from_list_all (λ n. is_sorted_by nat_lt (map (λ p. p.last) n.pieces) && starts_after_zero (map (λ p. p.last) n.pieces) && end_test n (edge_with s n.key)
      && list_all (λ p. (p.side == r.loser) || (p.side == r.winner)) n.pieces) r.mends six.pieces) at.0) in
      let p1 = and_parts (is_sorted_by nat_lt (map (λ p. p.last) m.pieces) && starts_after_zero (map (λ p. p.last) m.pieces)) (end_test m (edge_with s m.key)) p2.0 in
      let p0 = and_parts (is_sorted_by nat_lt (map (λ p. p.last) m.pieces)) (starts_after_zero (map (λ p. p.last) m.pieces)) p1.0 in
      mended_segments r e m (ap (puts_test m) (sym is) ∙ puts.1) p0.0 p0.1 (ap (end_test m) (sym is) ∙ p1.1)

  -- an edge becomes edges with its segments and its puts
  edge_segments : (i : ℕ) (d : Edge) → i < length s.edges → segment_count (refined r (get_or s.edges i d)) ≡ length (get_or s.edges i d).points - 1 + puts_of r.mends (get_or s.edges i d)
  unfolding puts_found
  edge_segments i d l = by (find (λ m. m.key == (get_or s.edges i d).key) r.mends) refl
    where
      by : (o : Option Mend) → find (λ m. m.key == (get_or s.edges i d).key) r.mends ≡ o
          → segment_count (elim o [ None ↦ lowered r (get_or s.edges i d) ∷ [] | Some m ↦ pieces_of r (get_or s.edges i d) m ])
          ≡ length (get_or s.edges i d).points - 1 + puts_of r.mends (get_or s.edges i d)
      by None f =
          omega (
            arith,
            puts_are r.mends (get_or s.edges i d) ∙ ap puts_found f,
            sum_by-cons (λ (e : Edge). length e.points - 1) (lowered r (get_or s.edges i d)) [],
          )
      by (Some m) f = omega (arith, mended i d m l f, puts_are r.mends (get_or s.edges i d) ∙ ap puts_found f)

  all_segments : (edges : List Edge) → All (λ e. segment_count (refined r e) ≡ length e.points - 1 + puts_of r.mends e) edges
      → segment_count (flat_map (refined r) edges) ≡ sum_by (λ e. length e.points - 1 + puts_of r.mends e) edges
  all_segments [] each = refl
  all_segments (e ∷ edges) each =
      omega (
        arith,
        sum_by-append (λ (f : Edge). length f.points - 1) (refined r e) (flat_map (refined r) edges),
        All-head (λ f. segment_count (refined r f) ≡ length f.points - 1 + puts_of r.mends f) e edges each,
        all_segments edges (All-tail (λ f. segment_count (refined r f) ≡ length f.points - 1 + puts_of r.mends f) e edges each),
        sum_by-cons (λ f. length f.points - 1 + puts_of r.mends f) e edges,
      )

  -- each mend names an edge
  abbrev names : Mend → Bool
  names m = elim (edge_with s m.key) [ None ↦ false | Some e ↦ has_one_side r.made e ]

  are_named : All (λ m. list_any (λ e. e.key == m.key) s.edges ≡ true) r.mends
  are_named k d short = by (edge_with s (get_or r.mends k d).key) refl (AllPass-from_list_all names r.mends (and_parts (keys_ascend (map (λ m. m.key) r.mends)) (list_all names r.mends) six.mends).1 k d short)
    where
      by : (o : Option Edge) → edge_with s (get_or r.mends k d).key ≡ o → elim o [ None ↦ false | Some e ↦ has_one_side r.made e ] ≡ true
          → list_any (λ e. e.key == (get_or r.mends k d).key) s.edges ≡ true
      by None f e = absurd (true≢false (sym e))
      by (Some e) f g = any_found (λ e. e.key == (get_or r.mends k d).key) s.edges ∙ ap is_some f

  -- the slice one step back has all of it
  pub undone_segments : segment_count s.edges + record_load r ≤ segment_count (undo s r).edges
  unfolding undo
  undone_segments =
      let mends = and_parts (keys_ascend (map (λ m. m.key) r.mends)) (list_all names r.mends) six.mends in
      let reached = puts_reached r.mends s.edges (sym (ascend_by (λ (m : Mend). m.key) r.mends) ∙ mends.0) are_named in
      omega (
        arith,
        reached,
        all_segments s.edges edge_segments,
        sum_by-add (λ (e : Edge). length e.points - 1) (puts_of r.mends) s.edges,
        sum_by-append (λ (e : Edge). length e.points - 1) (flat_map (refined r) s.edges) r.ended,
        sum_by-sort_by edge_before (λ (e : Edge). length e.points - 1) (flat_map (refined r) s.edges ++ r.ended),
      )

  pub undone_order : keys_ascend (map (λ e. e.key) (undo s r).edges) ≡ true
  undone_order = by (fits_keys s r) (sym (broken_seventh s r (none_before s r fits)) ∙ fits)
    where
      by : (b : Bool) → cond {A = Option ℕ} b None (Some 7) ≡ None → b ≡ true
      by true e = refl
      by false e = cc

-- ---- all records

pub replay_segments : (s : Slice) (records : List StepRecord) → keys_ascend (map (λ e. e.key) s.edges) ≡ true → each_fits s records ≡ true
    → replay_load s records ≤ segment_count (fold undo s records).edges
replay_segments s [] order fits = omega arith
replay_segments s (r ∷ records) order fits =
    let parts = and_parts (is_none (broken_rule s r)) (each_fits (undo s r) records) fits in
    let one : broken_rule s r ≡ None = none (broken_rule s r) parts.0 in
    omega (
      arith,
      undone_segments s r order one,
      replay_segments (undo s r) records (undone_order s r order one) parts.1,
      sum_by-cons record_load r records,
    )
  where
    none : (o : Option ℕ) → is_none o ≡ true → o ≡ None
    none None e = refl
    none (Some k) e = absurd (true≢false (sym e))
