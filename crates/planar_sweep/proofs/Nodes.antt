-- What stands above and below a place of the row.
use Rattle.std.proofs.Common.{◌≡◌, ◌≢◌, ℕ, zero, suc, ◌+◌, ◌<◌, ◌≤◌, List, [], ◌∷◌, ◌++◌, length, take, drop, get_or, Contains, refl, sym, ap, ◌∙◌, subst, subst₂, arith}
use Rattle.std.proofs.lemmas.List.{length-append, length-take-le, length-drop}
use Rattle.std.proofs.lemmas.List.Elements.{All-cons, All-append, All-take, All-drop, Contains-append_right}
use Rattle.std.specs.List.{All, insert}
use Rattle.lemmas.proofs.Members.{in_head}
use Rattle.tgap_model.specs.declared.geometry.Seg.{Seg}
use Rattle.linked_row.specs.Linked.{Linked, uppers, lowers}
use Rattle.planar_sweep.specs.Rows.{Over, HasCome, HasLeft}
use Rattle.planar_sweep.specs.Line.{CameBelow, GoneOut, MayClose}

-- what stands below place k of a list with one more behind it
pub get_or-append_last : {A : Type 0} (xs : List A) (x d : A) (k : ℕ) → k < length xs → get_or (xs ++ x ∷ []) k d ≡ get_or xs k d
get_or-append_last [] x d k short = absurd (omega (arith, short))
get_or-append_last (y ∷ ys) x d zero short = refl
get_or-append_last (y ∷ ys) x d (suc k) short = get_or-append_last ys x d k (omega (arith, short))

pub get_or-last : {A : Type 0} (xs : List A) (x d : A) → get_or (xs ++ x ∷ []) (length xs) d ≡ x
get_or-last [] x d = refl
get_or-last (y ∷ ys) x d = get_or-last ys x d

-- below a member stands the next one, and above the next one the member
pub lower_of_member : (row : Linked) (k : ℕ) → k < length row.row → get_or (lowers row) k 0 ≡ get_or row.row k 0
lower_of_member row k short = get_or-append_last row.row row.count 0 k short

-- above the place behind a member stands the member
pub upper_of_next : (row : Linked) (k : ℕ) → get_or (uppers row) (k + 1) 0 ≡ get_or row.row k 0
upper_of_next row k = ap (λ (n : ℕ). get_or (uppers row) n 0) next
  where
    next : k + 1 ≡ suc k
    next = omega arith

-- the numbers of a row with one more
pub known_more : (count : ℕ) (xs : List ℕ) (k n : ℕ) → k ≤ length xs → All (λ m. m < count) xs → n < count → All (λ m. m < count) (insert xs k n)
known_more count xs k n le known new =
    All-append (λ m. m < count) (take k xs) (n ∷ drop k xs) (All-take (λ m. m < count) k xs known) (All-cons (λ m. m < count) n (drop k xs) new (All-drop (λ m. m < count) k xs known))

-- ---- what comes in and goes out

-- the number stands at its place, and behind it what stood there
pub insert_at : (xs : List ℕ) (k n : ℕ) → k ≤ length xs → get_or (insert xs k n) k 0 ≡ n
insert_at [] zero n le = refl
insert_at [] (suc k) n le = absurd (omega (arith, le))
insert_at (x ∷ xs) zero n le = refl
insert_at (x ∷ xs) (suc k) n le = insert_at xs k n (omega (arith, le))

behind : (xs : List ℕ) (k n x : ℕ) → k ≤ length xs → get_or (insert xs k n ++ x ∷ []) (suc k) 0 ≡ get_or (xs ++ x ∷ []) k 0
behind [] zero n x le = refl
behind [] (suc k) n x le = absurd (omega (arith, le))
behind (y ∷ ys) zero n x le = refl
behind (y ∷ ys) (suc k) n x le = behind ys k n x (omega (arith, le))

length-insert : (xs : List ℕ) (k n : ℕ) → k ≤ length xs → length (insert xs k n) ≡ length xs + 1
length-insert xs k n le = omega (arith, length-append (take k xs) (n ∷ drop k xs), length-take-le k xs le, length-drop k xs, le)

-- a node is at most the count
pub upper_bound : (count : ℕ) (l : Linked) → l.count ≡ count → All (λ n. n < count) l.row → (k : ℕ) → k ≤ length l.row → get_or (uppers l) k 0 ≤ count
upper_bound count l same known zero le = omega (arith, same)
upper_bound count l same known (suc k) le = let less = known k 0 (omega (arith, le)) in omega (arith, less)

module _ (segs : List Seg) (old new : Linked) (n : ℕ) (count : old.count ≡ length segs) (known : All (λ m. m < length segs) old.row) where
  -- a member is no end
  no_end : (k : ℕ) → k < length old.row → get_or old.row k 0 ≢ length segs
  no_end k short same = let less = known k 0 short in omega (arith, less, same)

  module _ (upper : ℕ) (came : CameBelow segs n upper old new) where
    pub has_come : HasCome segs n old.row new.row
    has_come = record {
      place = came.place;
      within = came.within;
      placed = came.placed;
      fresh = came.fresh;
      above = λ k e.
          let at : get_or old.row k 0 ≡ upper = sym (upper_of_next old k) ∙ ap (λ (i : ℕ). get_or (uppers old) i 0) e ∙ came.there in
          subst (λ (m : ℕ). Over segs m n) (sym at) (came.above (λ same. no_end k (omega (arith, e, came.within)) (at ∙ same)));
      below = λ short.
          let at = lower_of_member old came.place short in
          subst (λ (m : ℕ). Over segs n m) at (came.below (λ same. no_end came.place short (sym at ∙ same)));
    }

    pub member_now : Contains new.row n
    member_now = subst (λ row. Contains row n) (sym came.placed) (Contains-append_right (take came.place old.row) (n ∷ drop came.place old.row) n (in_head n (drop came.place old.row)))

    -- what stands below it now stood at its place
    pub lower_now : new.count ≡ length segs → get_or (lowers new) (came.place + 1) 0 ≡ get_or (lowers old) came.place 0
    lower_now same =
        ap (λ (row : List ℕ). get_or (row ++ new.count ∷ []) (came.place + 1) 0) came.placed
        ∙ ap (λ (x : ℕ). get_or (insert old.row came.place n ++ x ∷ []) (came.place + 1) 0) (same ∙ sym count)
        ∙ ap (λ (i : ℕ). get_or (insert old.row came.place n ++ old.count ∷ []) i 0) next
        ∙ behind old.row came.place n old.count came.within
      where
        next : came.place + 1 ≡ suc came.place
        next = omega arith

    -- it is at its place
    pub upper_now : get_or (uppers new) (came.place + 1) 0 ≡ n
    upper_now = upper_of_next new came.place ∙ ap (λ (row : List ℕ). get_or row came.place 0) came.placed ∙ insert_at old.row came.place n came.within

    pub within_now : came.place + 1 ≤ length new.row
    within_now = omega (arith, came.within, ap length came.placed, length-insert old.row came.place n came.within)

  module _ (gone : GoneOut n old new) (closed : (k : ℕ) → k < length old.row → get_or old.row k 0 ≡ n → MayClose segs old k) where
    pub has_left : HasLeft segs n old.row new.row
    has_left = record {
      place = gone.place;
      within = gone.within;
      there = gone.there;
      without = gone.without ∙ ap (λ (i : ℕ). take gone.place old.row ++ drop i old.row) next;
      joined = λ k e short.
          let above : get_or (uppers old) gone.place 0 ≡ get_or old.row k 0 = ap (λ (i : ℕ). get_or (uppers old) i 0) (sym e) ∙ upper_of_next old k in
          let below = lower_of_member old (gone.place + 1) short in
          subst₂ (λ (i j : ℕ). Over segs i j) above below
          (closed gone.place gone.within gone.there (λ same. no_end k (omega (arith, e, gone.within)) (sym above ∙ same)) (λ same. no_end (gone.place + 1) short (sym below ∙ same)));
    }
      where
        next : suc gone.place ≡ gone.place + 1
        next = omega arith
