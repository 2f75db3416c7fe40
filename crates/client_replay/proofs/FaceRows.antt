-- Faces by their numbers, seen as rows in the order of the numbers.
use Rattle.std.proofs.Common.{◌≡◌, ℕ, suc, ◌+◌, ◌<◌, Bool, true, false, ◌&&◌, ◌||◌, cond, nat_lt, nat_cmp, List, [], ◌∷◌, map, filter, length, get_or, take, All, IsPermutation, Option, Some, None, refl, sym, ap, ◌∙◌, arith}
use Rattle.std.specs.Prelude.{⊤, ◌==◌, not, is_some}
use Rattle.std.specs.List.{list_any}
use Rattle.std.specs.Map.{lookup, remove_entry}
use Rattle.std.specs.BTreeMap.{is_at}
use Rattle.std.proofs.lemmas.Bool.{eqb-true, ne_eqb, ltb-true, le-ltb}
use Rattle.std.proofs.lemmas.List.{append-nil, take_more, get_or-take, get_or_default, length-take-le}
use Rattle.std.proofs.lemmas.List.Folds.{list_any_none}
use Rattle.lemmas.specs.Sorting.{is_sorted_by, insert_by, sort_by, IsStrictOrderOn}
use Rattle.lemmas.proofs.Sorting.{sorted_tail, sorted_pairs, insert_by-between, map-is_sorted, sort_by-permuted}
use Rattle.tgap_model.specs.declared.slice.FaceRow.{FaceRow}
use Rattle.tgap_model.specs.Records.{face_before}
use Rattle.client_replay.specs.Working.{row_of, rows_of}
use Rattle.client_replay.proofs.Apart.{key_order}
use Rattle.client_replay.proofs.Found.{above_first, ascend_by}
use Rattle.client_replay.proofs.Tables.{Ascend, at_is, any_lookup, removed, filter-map}

-- the face with a class is what a look-up finds
pub any_row : (k c : ℕ) (es : List (ℕ × ℕ)) → Ascend es
    → elim (lookup (is_at (nat_cmp k)) es) [ None ↦ false | Some v ↦ v == c ] ≡ list_any (λ f. (f.face == k) && (f.class == c)) (rows_of es)
any_row k c [] s = refl
any_row k c (e ∷ es) s =
    ap (λ (b : Bool). elim (cond b (Some e.1) (lookup (is_at (nat_cmp k)) es)) [ None ↦ false | Some v ↦ v == c ]) (at_is k e.0)
    ∙ by (e.0 == k) refl (any_row k c es (sorted_tail (λ p q. nat_lt p.0 q.0) e es s))
  where
    none : (e.0 == k) ≡ true → list_any (λ f. (f.face == k) && (f.class == c)) (rows_of es) ≡ false
    none same = others es (above_first (λ p. p.0) e es s)
      where
        others : (xs : List (ℕ × ℕ)) → All (λ p. e.0 < p.0) xs → list_any (λ f. (f.face == k) && (f.class == c)) (rows_of xs) ≡ false
        others [] h = refl
        others (x ∷ xs) h =
            let less = h 0 x (omega arith) in
            ap (λ (b : Bool). (b && (x.1 == c)) || list_any (λ f. (f.face == k) && (f.class == c)) (rows_of xs)) (ne_eqb x.0 k (λ q. omega (arith, q, less, eqb-true e.0 k same)))
            ∙ others xs (λ i d l. h (suc i) d (omega (arith, l)))

    or_false : (b d : Bool) → d ≡ false → b ≡ (b || d)
    or_false true d h = refl
    or_false false d h = sym h

    by : (b : Bool) → (e.0 == k) ≡ b → elim (lookup (is_at (nat_cmp k)) es) [ None ↦ false | Some v ↦ v == c ] ≡ list_any (λ f. (f.face == k) && (f.class == c)) (rows_of es)
        → elim (cond b (Some e.1) (lookup (is_at (nat_cmp k)) es)) [ None ↦ false | Some v ↦ v == c ] ≡ ((b && (e.1 == c)) || list_any (λ f. (f.face == k) && (f.class == c)) (rows_of es))
    by true same h = or_false (e.1 == c) (list_any (λ f. (f.face == k) && (f.class == c)) (rows_of es)) (none same)
    by false other h = h

pub not_some : {A : Type 0} (o : Option A) → is_some o ≡ false → o ≡ None
not_some None e = refl
not_some (Some x) e = cc

-- a face that none of the rows has is not found
pub not_found : (k : ℕ) (es : List (ℕ × ℕ)) → list_any (λ f. f.face == k) (rows_of es) ≡ false → lookup (is_at (nat_cmp k)) es ≡ None
not_found k es h = not_some (lookup (is_at (nat_cmp k)) es) (any_lookup row_of (λ n f. f.face == n) (λ n p. refl) k es ∙ h)

pub face_order : IsStrictOrderOn (λ (f : FaceRow). ⊤) face_before
face_order = key_order (λ f. f.face)

-- the rows of entries in the order of their keys are so too
pub rows_sorted : (es : List (ℕ × ℕ)) → Ascend es → is_sorted_by face_before (rows_of es) ≡ true
rows_sorted es s = map-is_sorted (λ _. ⊤) (λ p q. nat_lt p.0 q.0) face_before row_of (λ x y p q. refl) es (λ k d l. tt) ∙ s

-- the face that follows some first ones
module _ (rows : List FaceRow) (i : ℕ) (d : FaceRow) (sorted : is_sorted_by nat_lt (map (λ f. f.face) rows) ≡ true) (within : i < length rows) where
  front_below : All (λ g. g.face < (get_or rows i d).face) (take i rows)
  front_below k x l =
      let short : k < i = omega (arith, l, length-take-le i rows (omega (arith, within))) in
      let before = sorted_pairs face_order rows (λ j y m. tt) (sym (ascend_by (λ f. f.face) rows) ∙ sorted) k i d short within in
      let e : get_or (take i rows) k x ≡ get_or rows k d = get_or-take i rows k x short ∙ get_or_default rows k x d (omega (arith, short, within)) in
      let less = ltb-true (get_or rows k d).face (get_or rows i d).face before in
      omega (arith, less, ap (λ (f : FaceRow). f.face) e)

  -- has a number that they do not have
  pub next_new : (es : List (ℕ × ℕ)) → rows_of es ≡ take i rows → lookup (is_at (nat_cmp (get_or rows i d).face)) es ≡ None
  next_new es e =
      let k = (get_or rows i d).face in
      not_found k es (ap (list_any (λ f. f.face == k)) e
      ∙ list_any_none (λ f. f.face == k) (take i rows) (λ j x l. ne_eqb (get_or (take i rows) j x).face k (λ same. let less = front_below j x l in omega (arith, less, same))))

  -- and stands after them
  pub next_last : insert_by face_before (get_or rows i d) (take i rows) ≡ take (i + 1) rows
  next_last =
      let f = get_or rows i d in
      ap (insert_by face_before f) (sym (append-nil (take i rows)))
      ∙ insert_by-between face_before f (take i rows) [] (λ j x l. let less = front_below j x l in le-ltb f.face (get_or (take i rows) j x).face (omega (arith, less))) refl
      ∙ sym (take_more rows i d within)

-- the faces without the new one
pub without_face : (k : ℕ) (es : List (ℕ × ℕ)) → Ascend es → rows_of (remove_entry (is_at (nat_cmp k)) es) ≡ filter (λ f. not (f.face == k)) (rows_of es)
without_face k es s = ap rows_of (removed k es s) ∙ filter-map row_of (λ p. not (p.0 == k)) (λ f. not (f.face == k)) (λ p. refl) es

-- faces in the order of their numbers are those that were put in, sorted
pub rows_put : (all : List FaceRow) (es : List (ℕ × ℕ)) → Ascend es → IsPermutation all (rows_of es) → rows_of es ≡ sort_by face_before all
rows_put all es s moved = sym (sort_by-permuted face_order all (rows_of es) (λ k d l. tt) (rows_sorted es s) moved)

-- those that are among some faces
pub rows_kept : (p : ℕ → Bool) (es : List (ℕ × ℕ)) → rows_of (filter (λ e. p e.0) es) ≡ filter (λ f. p f.face) (rows_of es)
rows_kept p es = filter-map row_of (λ e. p e.0) (λ f. p f.face) (λ e. refl) es
