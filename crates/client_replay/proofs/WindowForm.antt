-- A window has the form of a slice after a step is undone.
use Rattle.std.proofs.Common.{◌≡◌, ◌-◌, ◌^◌, ◌≤◌, Bool, true, ◌&&◌, List, [], ◌∷◌, ◌++◌, filter, length, get_or, All, Option, Some, None, refl, sym, ap, ◌∙◌, arith}
use Rattle.std.specs.Prelude.{◌==◌, flat_map, not}
use Rattle.std.specs.List.{list_all, list_any}
use Rattle.std.specs.Cmp.Derive.{both_true}
use Rattle.std.proofs.lemmas.Bool.{and_parts, le-leb, lt-ltb, ltb-true, not-true}
use Rattle.std.proofs.lemmas.List.Elements.{All-nil, All-cons, All-head, All-tail, All-append, All-filter}
use Rattle.std.proofs.lemmas.List.Filters.{sum_by-filter_both}
use Rattle.std.proofs.lemmas.List.Sums.{AllPass-from_list_all, list_all-from_AllPass, sum_by-cons, sum_by-append}
use Rattle.lemmas.specs.Sorting.{is_sorted_by, sort_by}
use Rattle.lemmas.proofs.Sorting.{filter-is_sorted, filter-sort_by, sort_by-is_sorted, All-sort_by, sum_by-sort_by}
use Rattle.tgap_model.specs.declared.geometry.Window.{Window}
use Rattle.tgap_model.specs.declared.slice.Edge.{Edge}
use Rattle.tgap_model.specs.declared.slice.FaceRow.{FaceRow}
use Rattle.tgap_model.specs.declared.slice.Slice.{Slice}
use Rattle.tgap_model.specs.declared.record.Mend.{Mend}
use Rattle.tgap_model.specs.declared.window_record.WindowStep.{WindowStep}
use Rattle.tgap_model.specs.Removals.{has_side}
use Rattle.tgap_model.specs.Slice.{meets_window}
use Rattle.tgap_model.specs.Records.{edge_before, face_before, has_face, mend_for, refined}
use Rattle.tgap_model.specs.WindowRecords.{whole_record, refined_in, edges_back, rows_beside, undo_in, fits_keys_in}
use Rattle.slice_forms.specs.SliceForms.{is_number, is_slice_row, is_record_row, is_window_step_row, is_face_row, is_edge_row, is_mend_row, segment_count, record_load, replay_load, has_room}
use Rattle.client_replay.proofs.FaceRows.{face_order}
use Rattle.client_replay.proofs.Form.{slice_parts, slice_from, all_edges, above_zero, edges_few, faces_few, edges_form, load_bound}
use Rattle.client_replay.proofs.Found.{ascend_by}
use Rattle.client_replay.proofs.Seventh.{All-back}
use Rattle.client_replay.proofs.WindowEdges.{kept_by}
use Rattle.client_replay.proofs.WindowFaces.{rows_apart}
use Rattle.client_replay.proofs.WindowRules.{KeepsSixIn, ComesFacts, comes_facts}

-- ---- the form of a record of a window

pub record IsStepRow (r : WindowStep) : Type 0 where
  pub whole : is_record_row (whole_record r) ≡ true
  pub rows : list_all (λ f. is_number f.face && is_number f.class) r.faces ≡ true

pub step_parts : (r : WindowStep) → is_window_step_row r ≡ true → IsStepRow r
step_parts r h =
    let a8 = is_number r.step && is_number r.loser && is_number r.winner && is_number r.made && is_number (length r.faces) && is_number (length r.mends) && is_number (length r.comes) && list_all (λ f. is_number f.face && is_number f.class) r.faces in
    let a9 = a8 && list_all is_mend_row r.mends in
    let a7 = is_number r.step && is_number r.loser && is_number r.winner && is_number r.made && is_number (length r.faces) && is_number (length r.mends) && is_number (length r.comes) in
    let a6 = is_number r.step && is_number r.loser && is_number r.winner && is_number r.made && is_number (length r.faces) && is_number (length r.mends) in
    let a5 = is_number r.step && is_number r.loser && is_number r.winner && is_number r.made && is_number (length r.faces) in
    let a4 = is_number r.step && is_number r.loser && is_number r.winner && is_number r.made in
    let a3 = is_number r.step && is_number r.loser && is_number r.winner in
    let a2 = is_number r.step && is_number r.loser in
    let p9 = and_parts a9 (list_all is_edge_row r.comes) h in
    let p8 = and_parts a8 (list_all is_mend_row r.mends) p9.0 in
    let p7 = and_parts a7 (list_all (λ f. is_number f.face && is_number f.class) r.faces) p8.0 in
    let p6 = and_parts a6 (is_number (length r.comes)) p7.0 in
    let p5 = and_parts a5 (is_number (length r.mends)) p6.0 in
    let p4 = and_parts a4 (is_number (length r.faces)) p5.0 in
    let p3 = and_parts a3 (is_number r.made) p4.0 in
    let p2 = and_parts a2 (is_number r.winner) p3.0 in
    let p1 = and_parts (is_number r.step) (is_number r.loser) p2.0 in
    record {
      whole = both_true (both_true (both_true (both_true (both_true (both_true (both_true (both_true (both_true p1.0 p1.1) refl) p2.1) refl) p3.1) p5.1) p6.1) p8.1) p9.1;
      rows = p7.1;
    }

-- ---- a part of some edges

record IsPart (part all : List Edge) : Type 0 where
  rows : All (λ e. is_edge_row e ≡ true) all → All (λ e. is_edge_row e ≡ true) part
  fewer : segment_count part ≤ segment_count all

whole_part : (edges : List Edge) → IsPart edges edges
whole_part edges = record { rows = λ h. h; fewer = omega arith }

filtered_part : (p : Edge → Bool) (edges : List Edge) → IsPart (filter p edges) edges
filtered_part p edges = record {
  rows = λ h. All-filter p (λ e. is_edge_row e ≡ true) edges h;
  fewer = omega (arith, sum_by-filter_both p (λ e. not (p e)) (λ e. refl) (λ e. length e.points - 1) edges);
}

All-front : {A : Type 0} (P : A → Type 0) (xs ys : List A) → All P (xs ++ ys) → All P xs
All-front P [] ys h = All-nil P
All-front P (x ∷ xs) ys h = All-cons P x xs (All-head P x (xs ++ ys) h) (All-front P xs ys (All-tail P x (xs ++ ys) h))

both_parts : (xs us ys vs : List Edge) → IsPart xs ys → IsPart us vs → IsPart (xs ++ us) (ys ++ vs)
both_parts xs us ys vs p q = record {
  rows = λ h. All-append (λ e. is_edge_row e ≡ true) xs us (p.rows (All-front (λ e. is_edge_row e ≡ true) ys vs h)) (q.rows (All-back (λ e. is_edge_row e ≡ true) ys vs h));
  fewer = omega (arith, p.fewer, q.fewer, sum_by-append (λ (e : Edge). length e.points - 1) xs us, sum_by-append (λ (e : Edge). length e.points - 1) ys vs);
}

parts_of : (f g : Edge → List Edge) → ((e : Edge) → IsPart (f e) (g e)) → (edges : List Edge) → IsPart (flat_map f edges) (flat_map g edges)
parts_of f g each [] = whole_part []
parts_of f g each (e ∷ edges) = both_parts (f e) (flat_map f edges) (g e) (flat_map g edges) (each e) (parts_of f g each edges)

module _ (area : Window) (r : WindowStep) where
  refined_part : (e : Edge) → IsPart (refined_in area r e) (refined (whole_record r) e)
  refined_part e = by (mend_for (whole_record r) e)
    where
      by : (o : Option Mend) → IsPart (kept_by area r o (refined (whole_record r) e)) (refined (whole_record r) e)
      by None = whole_part (refined (whole_record r) e)
      by (Some m) = filtered_part (meets_window area) (refined (whole_record r) e)

  edges_part : (s : Slice) → IsPart (flat_map (refined_in area r) s.edges ++ r.comes) (all_edges s (whole_record r))
  edges_part s =
      both_parts (flat_map (refined_in area r) s.edges) r.comes (flat_map (refined (whole_record r)) s.edges) r.comes
      (parts_of (refined_in area r) (refined (whole_record r)) refined_part s.edges) (whole_part r.comes)

-- ---- the rows of the faces

module _ (s : Slice) (r : WindowStep) (row : is_slice_row s ≡ true) (step_row : is_window_step_row r ≡ true) (facts : ComesFacts s r) where
  new_rows : All (λ f. is_face_row f ≡ true) r.faces
  new_rows k d l =
      let f = get_or r.faces k d in
      let number = and_parts (is_number f.face) (is_number f.class) (AllPass-from_list_all (λ g. is_number g.face && is_number g.class) r.faces (step_parts r step_row).rows k d l) in
      let new = and_parts (not (f.face == 0)) (not (has_face s f.face)) (AllPass-from_list_all (λ g. not (g.face == 0) && not (has_face s g.face)) r.faces facts.new k d l) in
      both_true (both_true (le-leb 1 f.face (above_zero f.face (not-true (f.face == 0) new.0))) number.0) number.1

  all_rows : All (λ f. is_face_row f ≡ true) (s.faces ++ r.faces)
  all_rows = All-append (λ f. is_face_row f ≡ true) s.faces r.faces (AllPass-from_list_all is_face_row s.faces (slice_parts s row).face_rows) new_rows

  beside_rows : (edges : List Edge) → All (λ f. is_face_row f ≡ true) (rows_beside edges (s.faces ++ r.faces))
  beside_rows edges =
      let p : FaceRow → Bool = λ f. list_any (has_side f.face) edges in
      All-sort_by face_before (λ f. is_face_row f ≡ true) (filter p (s.faces ++ r.faces)) (All-filter p (λ f. is_face_row f ≡ true) (s.faces ++ r.faces) all_rows)

  beside_sorted : (edges : List Edge) → is_sorted_by face_before (rows_beside edges (s.faces ++ r.faces)) ≡ true
  beside_sorted edges =
      let p : FaceRow → Bool = λ f. list_any (has_side f.face) edges in
      let apart = rows_apart s r (slice_parts s row).face_order facts in
      ap (is_sorted_by face_before) (sym (filter-sort_by face_order p (s.faces ++ r.faces) (λ k d l. tt) apart))
      ∙ filter-is_sorted face_order p (sort_by face_before (s.faces ++ r.faces)) (λ k d l. tt) (sort_by-is_sorted face_before (s.faces ++ r.faces) apart)

-- ---- the window

pub undone_form_in : (area : Window) (s : Slice) (r : WindowStep) → is_slice_row s ≡ true → is_window_step_row r ≡ true → KeepsSixIn s r → has_room s (whole_record r ∷ []) ≡ true
    → fits_keys_in area s r ≡ true → is_slice_row (undo_in area s r) ≡ true
unfolding undo_in
undone_form_in area s r row step_row six room keys =
    let p = slice_parts s row in
    let w = whole_record r in
    let whole = (step_parts r step_row).whole in
    let facts = comes_facts s r six.comes in
    let part = edges_part area r s in
    let all = flat_map (refined_in area r) s.edges ++ r.comes in
    let sorted = edges_back area s r in
    let rows = rows_beside sorted (s.faces ++ r.faces) in
    let edge_rows = All-sort_by edge_before (λ e. is_edge_row e ≡ true) all (part.rows (edges_form s w row whole six.mends room).rows) in
    let face_rows = beside_rows s r row step_row facts sorted in
    let face_sorted = beside_sorted s r row step_row facts sorted in
    let load = ltb-true (replay_load s (w ∷ [])) (2 ^ 32 - 1) room in
    slice_from (undo_in area s r) (record {
      step = lt-ltb (s.step - 1) (2 ^ 32) (omega (arith, ltb-true s.step (2 ^ 32) p.step));
      face_count = lt-ltb (length rows) (2 ^ 32) (faces_few rows face_rows face_sorted);
      edge_count = lt-ltb (length sorted) (2 ^ 32)
          (omega (arith, edges_few sorted edge_rows, load, sum_by-cons record_load w [], load_bound s w row whole six.mends room, part.fewer, sum_by-sort_by edge_before (λ (e : Edge). length e.points - 1) all));
      face_rows = list_all-from_AllPass is_face_row rows face_rows;
      face_order = ascend_by (λ f. f.face) rows ∙ face_sorted;
      edge_rows = list_all-from_AllPass is_edge_row sorted edge_rows;
      edge_order = keys;
    })
