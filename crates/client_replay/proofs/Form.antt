-- A slice has its form after a step is undone, and room for the records that follow.
use Rattle.std.proofs.Common.{◌≡◌, ◌⊎◌, inl, inr, ℕ, ◌+◌, ◌-◌, ◌^◌, ◌<◌, ◌≤◌, Bool, true, false, ◌&&◌, ◌||◌, cond, nat_lt, List, [], ◌∷◌, ◌++◌, map, filter, length, get_or, All, Contains, Option, Some, None, refl, sym, ap, ap₂, subst, ◌∙◌, sum_by, arith}
use Rattle.std.specs.Prelude.{nat_le, ◌==◌, find, flat_map, not}
use Rattle.std.specs.List.{list_all, list_any}
use Rattle.std.specs.Cmp.Derive.{both_true}
use Rattle.std.proofs.lemmas.Bool.{and_parts, or_parts, leb-true, le-leb, ltb-true, lt-ltb, eqb-true, eqb-false, not-true, or_right, cases_order}
use Rattle.std.proofs.lemmas.List.Elements.{All-nil, All-cons, All-head, All-tail, All-append, All-filter, All-contains}
use Rattle.std.proofs.lemmas.List.Sums.{AllPass-from_list_all, list_all-from_AllPass, sum_by-cons, sum_by-append, get_or-le-sum_by}
use Rattle.std.proofs.lemmas.List.Sorted.{All-permutation}
use Rattle.lemmas.specs.Sorting.{is_sorted_by, insert_by, sort_by}
use Rattle.lemmas.proofs.Counts.{sum_by-add}
use Rattle.lemmas.proofs.Members.{in_head, in_tail}
use Rattle.lemmas.proofs.Sorting.{sorted_tail, sorted_next, insert_by-permutation, insert_by-is_sorted, filter-is_sorted, All-sort_by, sum_by-sort_by}
use Rattle.tgap_model.specs.declared.slice.Edge.{Edge}
use Rattle.tgap_model.specs.declared.slice.FaceRow.{FaceRow}
use Rattle.tgap_model.specs.declared.slice.Slice.{Slice}
use Rattle.tgap_model.specs.declared.record.Mend.{Mend}
use Rattle.tgap_model.specs.declared.record.StepRecord.{StepRecord}
use Rattle.tgap_model.specs.Records.{undo, refined, edge_before, face_before, has_face, edge_with, puts_fit, ends_with_place, starts_after_zero, fits_keys, fits_faces}
use Rattle.slice_forms.specs.SliceForms.{is_number, is_slice_row, is_record_row, is_face_row, is_edge_row, is_mend_row, segment_count, record_load, replay_load, has_room}
use Rattle.client_replay.specs.Coming.{faces_before, lowered, pieces_of}
use Rattle.client_replay.specs.Rules.{are_in_order, has_made, mend_puts_fit, mend_pieces_fit, reaches_end}
use Rattle.client_replay.proofs.FaceRows.{face_order}
use Rattle.client_replay.proofs.Found.{ascend_by, find_at}
use Rattle.client_replay.proofs.Failures.{KeepsMends}
use Rattle.client_replay.proofs.Rows.{row_parts, lowered_row, AreRows, pieces_of_rows, puts_of, puts_bounded}

-- ---- the parts of the forms

pub record IsSliceRow (s : Slice) : Type 0 where
  pub step : is_number s.step ≡ true
  pub face_count : is_number (length s.faces) ≡ true
  pub edge_count : is_number (length s.edges) ≡ true
  pub face_rows : list_all is_face_row s.faces ≡ true
  pub face_order : is_sorted_by nat_lt (map (λ f. f.face) s.faces) ≡ true
  pub edge_rows : list_all is_edge_row s.edges ≡ true
  pub edge_order : are_in_order s.edges ≡ true

pub slice_parts : (s : Slice) → is_slice_row s ≡ true → IsSliceRow s
slice_parts s h =
    let p5 = and_parts (is_number s.step && is_number (length s.faces) && is_number (length s.edges) && list_all is_face_row s.faces && is_sorted_by nat_lt (map (λ f. f.face) s.faces) && list_all is_edge_row s.edges) (are_in_order s.edges) h in
    let p4 = and_parts (is_number s.step && is_number (length s.faces) && is_number (length s.edges) && list_all is_face_row s.faces && is_sorted_by nat_lt (map (λ f. f.face) s.faces)) (list_all is_edge_row s.edges) p5.0 in
    let p3 = and_parts (is_number s.step && is_number (length s.faces) && is_number (length s.edges) && list_all is_face_row s.faces) (is_sorted_by nat_lt (map (λ f. f.face) s.faces)) p4.0 in
    let p2 = and_parts (is_number s.step && is_number (length s.faces) && is_number (length s.edges)) (list_all is_face_row s.faces) p3.0 in
    let p1 = and_parts (is_number s.step && is_number (length s.faces)) (is_number (length s.edges)) p2.0 in
    let p0 = and_parts (is_number s.step) (is_number (length s.faces)) p1.0 in
    record { step = p0.0; face_count = p0.1; edge_count = p1.1; face_rows = p2.1; face_order = p3.1; edge_rows = p4.1; edge_order = p5.1 }

pub slice_from : (s : Slice) → IsSliceRow s → is_slice_row s ≡ true
slice_from s p = both_true (both_true (both_true (both_true (both_true (both_true p.step p.face_count) p.edge_count) p.face_rows) p.face_order) p.edge_rows) p.edge_order

-- of a record: the numbers of its faces, its mends and its ended edges
record IsRecordRow (r : StepRecord) : Type 0 where
  loser : is_number r.loser ≡ true
  loser_class : is_number r.loser_class ≡ true
  winner : is_number r.winner ≡ true
  winner_class : is_number r.winner_class ≡ true
  mends : list_all is_mend_row r.mends ≡ true
  ended : list_all is_edge_row r.ended ≡ true

record_parts : (r : StepRecord) → is_record_row r ≡ true → IsRecordRow r
record_parts r h =
    let a8 = is_number r.step && is_number r.loser && is_number r.loser_class && is_number r.winner && is_number r.winner_class && is_number r.made && is_number (length r.mends) && is_number (length r.ended) && list_all is_mend_row r.mends in
    let a7 = is_number r.step && is_number r.loser && is_number r.loser_class && is_number r.winner && is_number r.winner_class && is_number r.made && is_number (length r.mends) && is_number (length r.ended) in
    let a6 = is_number r.step && is_number r.loser && is_number r.loser_class && is_number r.winner && is_number r.winner_class && is_number r.made && is_number (length r.mends) in
    let a5 = is_number r.step && is_number r.loser && is_number r.loser_class && is_number r.winner && is_number r.winner_class && is_number r.made in
    let a4 = is_number r.step && is_number r.loser && is_number r.loser_class && is_number r.winner && is_number r.winner_class in
    let a3 = is_number r.step && is_number r.loser && is_number r.loser_class && is_number r.winner in
    let a2 = is_number r.step && is_number r.loser && is_number r.loser_class in
    let a1 = is_number r.step && is_number r.loser in
    let p8 = and_parts a8 (list_all is_edge_row r.ended) h in
    let p7 = and_parts a7 (list_all is_mend_row r.mends) p8.0 in
    let p6 = and_parts a6 (is_number (length r.ended)) p7.0 in
    let p5 = and_parts a5 (is_number (length r.mends)) p6.0 in
    let p4 = and_parts a4 (is_number r.made) p5.0 in
    let p3 = and_parts a3 (is_number r.winner_class) p4.0 in
    let p2 = and_parts a2 (is_number r.winner) p3.0 in
    let p1 = and_parts a1 (is_number r.loser_class) p2.0 in
    let p0 = and_parts (is_number r.step) (is_number r.loser) p1.0 in
    record { loser = p0.1; loser_class = p1.1; winner = p2.1; winner_class = p3.1; mends = p7.1; ended = p8.1 }

-- all edges of the finer slice
abbrev pub all_edges : Slice → StepRecord → List Edge
all_edges s r = flat_map (refined r) s.edges ++ r.ended

-- ---- the faces

-- faces with ascending numbers below a bound are not more than those
rows_few : (n : ℕ) (f : FaceRow) (faces : List FaceRow) → is_sorted_by face_before (f ∷ faces) ≡ true → All (λ g. g.face < n) (f ∷ faces) → f.face + length (f ∷ faces) ≤ n
rows_few n f [] s h = omega (arith, All-head (λ g. g.face < n) f [] h)
rows_few n f (g ∷ faces) s h =
    omega (arith, rows_few n g faces (sorted_tail face_before f (g ∷ faces) s) (All-tail (λ k. k.face < n) f (g ∷ faces) h), ltb-true f.face g.face (sorted_next face_before f (g ∷ faces) s))

-- what is known of some faces
record AreFaces (faces : List FaceRow) : Type 0 where
  rows : All (λ f. is_face_row f ≡ true) faces
  order : is_sorted_by face_before faces ≡ true

-- a face of which the slice has none is put in
put_face : (f : FaceRow) (faces : List FaceRow) → is_face_row f ≡ true → All (λ g. g.face ≡ f.face → ⊥) faces → AreFaces faces → AreFaces (insert_by face_before f faces)
put_face f faces row apart are = record {
  rows = All-permutation (λ g. is_face_row g ≡ true) (f ∷ faces) (insert_by face_before f faces) (insert_by-permutation face_before f faces) (All-cons (λ g. is_face_row g ≡ true) f faces row are.rows);
  order = insert_by-is_sorted face_before f faces (λ k d l. either f (get_or faces k d) (apart k d l)) are.order;
}
  where
    either : (f g : FaceRow) → (g.face ≡ f.face → ⊥) → (face_before f g || face_before g f) ≡ true
    either f g ne = by (cases_order f.face g.face)
      where
        by : (f.face ≡ g.face) ⊎ ((f.face < g.face) ⊎ (g.face < f.face)) → (face_before f g || face_before g f) ≡ true
        by (inl same) = absurd (ne (sym same))
        by (inr (inl less)) = ap (λ (b : Bool). b || face_before g f) (lt-ltb f.face g.face less)
        by (inr (inr more)) = or_right (face_before f g) (face_before g f) (lt-ltb g.face f.face more)

-- none of these faces has this number
pub none_has : (k : ℕ) (faces : List FaceRow) → list_any (λ f. f.face == k) faces ≡ false → All (λ f. f.face ≡ k → ⊥) faces
none_has k [] h = All-nil (λ f. f.face ≡ k → ⊥)
none_has k (f ∷ faces) h =
    let parts = or_parts (f.face == k) (list_any (λ g. g.face == k) faces) h in All-cons (λ g. g.face ≡ k → ⊥) f faces (eqb-false f.face k parts.0) (none_has k faces parts.1)

-- what an edge that a mend names is tested for
abbrev fits_at : Mend → Option Edge → Bool
fits_at m o = elim o [ None ↦ true | Some f ↦ puts_fit f.points m.puts ]

abbrev ends_at_edge : Mend → Option Edge → Bool
ends_at_edge m o = elim o [ None ↦ true | Some f ↦ ends_with_place (length f.points + length m.puts - 1) (map (λ p. p.last) m.pieces) ]

-- what is found is a member that passes
found_member : {A : Type 0} (p : A → Bool) (xs : List A) (x : A) → find p xs ≡ Some x → Contains xs x × (p x ≡ true)
found_member p [] x e = absurd (never x e)
  where
    never : {A : Type 0} (x : A) → None ≡ Some x → ⊥
    never x e = cc
found_member {A} p (y ∷ xs) x e = by (p y) refl e (found_member p xs x)
  where
    by : (b : Bool) → p y ≡ b → cond b (Some y) (find p xs) ≡ Some x → (find p xs ≡ Some x → Contains xs x × (p x ≡ true)) → Contains (y ∷ xs) x × (p x ≡ true)
    by true h f rest = let same : y ≡ x = cc in (subst (Contains (y ∷ xs)) same (in_head y xs), ap p (sym same) ∙ h)
    by false h f rest = let r = rest f in (in_tail y xs x r.0, r.1)

puts_none : (mends : List Mend) (e : Edge) → find (λ m. m.key == e.key) mends ≡ None → puts_of mends e ≡ 0
puts_none [] e h = refl
puts_none (m ∷ mends) e h = by (m.key == e.key) h (puts_none mends e)
  where
    by : (b : Bool) → cond b (Some m) (find (λ n. n.key == e.key) mends) ≡ None → (find (λ n. n.key == e.key) mends ≡ None → puts_of mends e ≡ 0) → cond b (length m.puts) (puts_of mends e) ≡ 0
    by true f rest = cc
    by false f rest = rest f

puts_some : (mends : List Mend) (e : Edge) (m : Mend) → find (λ n. n.key == e.key) mends ≡ Some m → puts_of mends e ≡ length m.puts
puts_some [] e m h = cc
puts_some (n ∷ mends) e m h = by (n.key == e.key) h (puts_some mends e m)
  where
    by : (b : Bool) → cond b (Some n) (find (λ o. o.key == e.key) mends) ≡ Some m → (find (λ o. o.key == e.key) mends ≡ Some m → puts_of mends e ≡ length m.puts)
        → cond b (length n.puts) (puts_of mends e) ≡ length m.puts
    by true f rest = let same : n ≡ m = cc in ap (λ o. length o.puts) same
    by false f rest = rest f

-- a member's term is in the sum
member-le-sum_by : {A : Type 0} (f : A → ℕ) (xs : List A) (x : A) → Contains xs x → f x ≤ sum_by f xs
member-le-sum_by f xs x (k, l, e) = subst (λ y. f y ≤ sum_by f xs) e (get_or-le-sum_by f xs k x l)

rows_flat_map : (f : Edge → List Edge) (g : Edge → ℕ) (edges : List Edge) → All (λ e. AreRows (f e) (g e)) edges → AreRows (flat_map f edges) (sum_by g edges)
rows_flat_map f g [] h = record { rows = All-nil (λ e. is_edge_row e ≡ true); segments = refl }
rows_flat_map f g (e ∷ edges) h =
    let one = All-head (λ d. AreRows (f d) (g d)) e edges h in
    let rest = rows_flat_map f g edges (All-tail (λ d. AreRows (f d) (g d)) e edges h) in
    record {
      rows = All-append (λ d. is_edge_row d ≡ true) (f e) (flat_map f edges) one.rows rest.rows;
      segments = sum_by-append (λ d. length d.points - 1) (f e) (flat_map f edges) ∙ ap₂ (λ m n. m + n) one.segments rest.segments ∙ sym (sum_by-cons g e edges);
    }

-- each edge has a segment
pub edges_few : (edges : List Edge) → All (λ e. is_edge_row e ≡ true) edges → length edges ≤ segment_count edges
edges_few [] h = omega arith
edges_few (e ∷ edges) h =
    let long = leb-true 2 (length e.points) (row_parts e (All-head (λ d. is_edge_row d ≡ true) e edges h)).long in
    omega (arith, long, edges_few edges (All-tail (λ d. is_edge_row d ≡ true) e edges h), sum_by-cons (λ (d : Edge). length d.points - 1) e edges)

-- faces of different numbers, each at least 1, are fewer than the numbers
pub faces_few : (faces : List FaceRow) → All (λ f. is_face_row f ≡ true) faces → is_sorted_by face_before faces ≡ true → length faces < 2 ^ 32
faces_few [] h s = omega arith
faces_few (f ∷ faces) h s =
    let bound : All (λ g. g.face < 2 ^ 32) (f ∷ faces) = λ k d l. ltb-true (get_or (f ∷ faces) k d).face (2 ^ 32) (number (get_or (f ∷ faces) k d) (h k d l)).1 in
    omega (arith, rows_few (2 ^ 32) f faces s bound, (number f (All-head (λ g. is_face_row g ≡ true) f faces h)).0)
  where
    number : (g : FaceRow) → is_face_row g ≡ true → (1 ≤ g.face) × (is_number g.face ≡ true)
    number g e = let p = and_parts (nat_le 1 g.face) (is_number g.face) (and_parts (nat_le 1 g.face && is_number g.face) (is_number g.class) e).0 in (leb-true 1 g.face p.0, p.1)

-- what rule 2 says of the faces
pub record FaceFacts (s : Slice) (r : StepRecord) : Type 0 where
  pub no_loser : has_face s r.loser ≡ false
  pub no_winner : has_face s r.winner ≡ false
  pub differ : (r.loser == r.winner) ≡ false
  pub loser : (r.loser == 0) ≡ false
  pub winner : (r.winner == 0) ≡ false

pub face_facts : (s : Slice) (r : StepRecord) → fits_faces s r ≡ true → FaceFacts s r
face_facts s r h =
    let a0 = has_made s r in
    let a1 = a0 && not (has_face s r.loser) in
    let a2 = a1 && not (has_face s r.winner) in
    let a3 = a2 && not (r.loser == r.winner) in
    let a4 = a3 && not (r.loser == r.made) in
    let a5 = a4 && not (r.winner == r.made) in
    let a6 = a5 && not (r.loser == 0) in
    let a7 = a6 && not (r.winner == 0) in
    let p8 = and_parts a7 (not (r.made == 0)) h in
    let p7 = and_parts a6 (not (r.winner == 0)) p8.0 in
    let p6 = and_parts a5 (not (r.loser == 0)) p7.0 in
    let p5 = and_parts a4 (not (r.winner == r.made)) p6.0 in
    let p4 = and_parts a3 (not (r.loser == r.made)) p5.0 in
    let p3 = and_parts a2 (not (r.loser == r.winner)) p4.0 in
    let p2 = and_parts a1 (not (has_face s r.winner)) p3.0 in
    let p1 = and_parts a0 (not (has_face s r.loser)) p2.0 in
    record {
      no_loser = not-true (has_face s r.loser) p1.1;
      no_winner = not-true (has_face s r.winner) p2.1;
      differ = not-true (r.loser == r.winner) p3.1;
      loser = not-true (r.loser == 0) p6.1;
      winner = not-true (r.winner == 0) p7.1;
    }

pub above_zero : (n : ℕ) → (n == 0) ≡ false → 1 ≤ n
above_zero n h = let ne = eqb-false n 0 h in omega (arith, ne)

module _ (s : Slice) (r : StepRecord) (row : is_slice_row s ≡ true) (record_row : is_record_row r ≡ true) (keeps : KeepsMends s r) where
  faces_form : fits_faces s r ≡ true → AreFaces (faces_before s.faces r)
  faces_form fits =
      let p = slice_parts s row in
      let q = record_parts r record_row in
      let facts = face_facts s r fits in
      let loser : FaceRow = record { face = r.loser; class = r.loser_class } in
      let winner : FaceRow = record { face = r.winner; class = r.winner_class } in
      let rest = filter (λ f. not (f.face == r.made)) s.faces in
      let rest_are : AreFaces rest = record {
        rows = All-filter (λ f. not (f.face == r.made)) (λ f. is_face_row f ≡ true) s.faces (AllPass-from_list_all is_face_row s.faces p.face_rows);
        order = filter-is_sorted face_order (λ f. not (f.face == r.made)) s.faces (λ k d l. tt) (sym (ascend_by (λ f. f.face) s.faces) ∙ p.face_order);
      } in
      let no_winner = All-filter (λ f. not (f.face == r.made)) (λ f. f.face ≡ r.winner → ⊥) s.faces (none_has r.winner s.faces facts.no_winner) in
      let no_loser = All-filter (λ f. not (f.face == r.made)) (λ f. f.face ≡ r.loser → ⊥) s.faces (none_has r.loser s.faces facts.no_loser) in
      let with_winner = put_face winner rest (both_true (both_true (le-leb 1 r.winner (above_zero r.winner facts.winner)) q.winner) q.winner_class) no_winner rest_are in
      put_face loser (insert_by face_before winner rest) (both_true (both_true (le-leb 1 r.loser (above_zero r.loser facts.loser)) q.loser) q.loser_class)
      (All-permutation (λ f. f.face ≡ r.loser → ⊥) (winner ∷ rest) (insert_by face_before winner rest) (insert_by-permutation face_before winner rest)
      (All-cons (λ f. f.face ≡ r.loser → ⊥) winner rest (λ same. eqb-false r.loser r.winner facts.differ (sym same)) no_loser)) with_winner

  -- ---- the edges

  -- the edge that a mend names is the one that has its key
  edge_named : (i : ℕ) (d : Edge) (m : Mend) → i < length s.edges → m.key ≡ (get_or s.edges i d).key → edge_with s m.key ≡ Some (get_or s.edges i d)
  edge_named i d m l same = find_at (λ e. e.key) m.key s.edges i d (sym (ascend_by (λ e. e.key) s.edges) ∙ (slice_parts s row).edge_order) l (sym same)

  edge_row_at : (i : ℕ) (d : Edge) → i < length s.edges → is_edge_row (get_or s.edges i d) ≡ true
  edge_row_at i d l = AllPass-from_list_all is_edge_row s.edges (slice_parts s row).edge_rows i d l

  -- an edge without a mend
  refined_alone : (e : Edge) → is_edge_row e ≡ true → find (λ m. m.key == e.key) r.mends ≡ None → AreRows (lowered r e ∷ []) (length e.points - 1 + puts_of r.mends e)
  refined_alone e h none = record {
    rows = All-cons (λ f. is_edge_row f ≡ true) (lowered r e) [] (lowered_row r e (record_parts r record_row).winner h) (All-nil (λ f. is_edge_row f ≡ true));
    segments = omega (arith, puts_none r.mends e none);
  }

  -- an edge with a mend
  refined_mended : has_room s (r ∷ []) ≡ true → (i : ℕ) (d : Edge) (m : Mend) → i < length s.edges → find (λ n. n.key == (get_or s.edges i d).key) r.mends ≡ Some m
      → AreRows (pieces_of r (get_or s.edges i d) m) (length (get_or s.edges i d).points - 1 + puts_of r.mends (get_or s.edges i d))
  refined_mended room i d m l found =
      let e = get_or s.edges i d in
      let at = found_member (λ n. n.key == e.key) r.mends m found in
      let same = eqb-true m.key e.key at.1 in
      let named = edge_named i d m l same in
      let puts = and_parts (is_sorted_by nat_lt (map (λ p. p.at) m.puts)) (elim (edge_with s m.key) [ None ↦ true | Some f ↦ puts_fit f.points m.puts ])
      (All-contains (λ n. mend_puts_fit s n ≡ true) r.mends m (AllPass-from_list_all (mend_puts_fit s) r.mends keeps.puts) at.0) in
      let p2 = and_parts (is_sorted_by nat_lt (map (λ p. p.last) m.pieces) && starts_after_zero (map (λ p. p.last) m.pieces) && reaches_end s m) (list_all (λ p. (p.side == r.loser) || (p.side == r.winner)) m.pieces)
      (All-contains (λ n. mend_pieces_fit s r n ≡ true) r.mends m (AllPass-from_list_all (mend_pieces_fit s r) r.mends keeps.pieces) at.0) in
      let p1 = and_parts (is_sorted_by nat_lt (map (λ p. p.last) m.pieces) && starts_after_zero (map (λ p. p.last) m.pieces)) (reaches_end s m) p2.0 in
      let p0 = and_parts (is_sorted_by nat_lt (map (λ p. p.last) m.pieces)) (starts_after_zero (map (λ p. p.last) m.pieces)) p1.0 in
      let fit = ap (fits_at m) (sym named) ∙ puts.1 in
      let ends = ap (ends_at_edge m) (sym named) ∙ p1.1 in
      let mend = All-contains (λ n. is_mend_row n ≡ true) r.mends m (AllPass-from_list_all is_mend_row r.mends (record_parts r record_row).mends) at.0 in
      let load : replay_load s (r ∷ []) < 2 ^ 32 - 1 = ltb-true (replay_load s (r ∷ [])) (2 ^ 32 - 1) room in
      let few : length e.points + length m.puts < 2 ^ 32 = omega (arith, load, sum_by-cons record_load r [], get_or-le-sum_by (λ f. length f.points - 1) s.edges i d l, member-le-sum_by (λ n. length n.puts) r.mends m at.0) in
      let all = pieces_of_rows r e m (edge_row_at i d l) mend fit p0.0 p0.1 ends few in
      record { rows = all.rows; segments = all.segments ∙ ap (λ n. length e.points - 1 + n) (sym (puts_some r.mends e m found)) }

  refined_rows : has_room s (r ∷ []) ≡ true → All (λ e. AreRows (refined r e) (length e.points - 1 + puts_of r.mends e)) s.edges
  refined_rows room i d l = by (find (λ m. m.key == (get_or s.edges i d).key) r.mends) refl
    where
      by : (o : Option Mend) → find (λ m. m.key == (get_or s.edges i d).key) r.mends ≡ o
          → AreRows (elim o [ None ↦ lowered r (get_or s.edges i d) ∷ [] | Some m ↦ pieces_of r (get_or s.edges i d) m ]) (length (get_or s.edges i d).points - 1 + puts_of r.mends (get_or s.edges i d))
      by None found = refined_alone (get_or s.edges i d) (edge_row_at i d l) found
      by (Some m) found = refined_mended room i d m l found

  -- all edges
  pub edges_form : has_room s (r ∷ []) ≡ true → AreRows (all_edges s r) (sum_by (λ e. length e.points - 1 + puts_of r.mends e) s.edges + segment_count r.ended)
  edges_form room =
      let refined_all = rows_flat_map (refined r) (λ e. length e.points - 1 + puts_of r.mends e) s.edges (refined_rows room) in
      record {
        rows = All-append (λ e. is_edge_row e ≡ true) (flat_map (refined r) s.edges) r.ended refined_all.rows (AllPass-from_list_all is_edge_row r.ended (record_parts r record_row).ended);
        segments = sum_by-append (λ e. length e.points - 1) (flat_map (refined r) s.edges) r.ended ∙ ap (λ n. n + segment_count r.ended) refined_all.segments;
      }

  -- the slice one step back has no more segments than there is room for
  pub load_bound : has_room s (r ∷ []) ≡ true → segment_count (all_edges s r) ≤ segment_count s.edges + record_load r
  load_bound room =
      let sum = sum_by-add (λ e. length e.points - 1) (puts_of r.mends) s.edges in
      let bound = puts_bounded r.mends s.edges (sym (ascend_by (λ e. e.key) s.edges) ∙ (slice_parts s row).edge_order) in
      omega (arith, (edges_form room).segments, sum, bound)

  pub undone_room : (records : List StepRecord) → has_room s (r ∷ records) ≡ true → has_room (undo s r) records ≡ true
  unfolding undo
  undone_room records room =
      let load = ltb-true (replay_load s (r ∷ records)) (2 ^ 32 - 1) room in
      let alone : has_room s (r ∷ []) ≡ true = lt-ltb (replay_load s (r ∷ [])) (2 ^ 32 - 1) (omega (arith, load, sum_by-cons record_load r records, sum_by-cons record_load r [])) in
      lt-ltb (segment_count (sort_by edge_before (all_edges s r)) + sum_by record_load records) (2 ^ 32 - 1)
      (omega (arith, load, sum_by-cons record_load r records, load_bound alone, sum_by-sort_by edge_before (λ e. length e.points - 1) (all_edges s r)))

  pub undone_form : has_room s (r ∷ []) ≡ true → fits_faces s r ≡ true → fits_keys s r ≡ true → is_slice_row (undo s r) ≡ true
  unfolding undo
  undone_form room fits keys =
      let p = slice_parts s row in
      let faces = faces_form fits in
      let edges = edges_form room in
      let sorted = sort_by edge_before (all_edges s r) in
      let load = ltb-true (replay_load s (r ∷ [])) (2 ^ 32 - 1) room in
      let edge_rows = All-sort_by edge_before (λ e. is_edge_row e ≡ true) (all_edges s r) edges.rows in
      let count = edges_few sorted edge_rows in
      slice_from (undo s r) (record {
        step = lt-ltb (s.step - 1) (2 ^ 32) (omega (arith, ltb-true s.step (2 ^ 32) p.step));
        face_count = lt-ltb (length (faces_before s.faces r)) (2 ^ 32) (faces_few (faces_before s.faces r) faces.rows faces.order);
        edge_count = lt-ltb (length sorted) (2 ^ 32) (omega (arith, count, load, sum_by-cons record_load r [], load_bound room, sum_by-sort_by edge_before (λ e. length e.points - 1) (all_edges s r)));
        face_rows = list_all-from_AllPass is_face_row (faces_before s.faces r) faces.rows;
        face_order = ascend_by (λ f. f.face) (faces_before s.faces r) ∙ faces.order;
        edge_rows = list_all-from_AllPass is_edge_row sorted edge_rows;
        edge_order = keys;
      })
