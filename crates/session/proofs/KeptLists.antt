-- Lists of which elements go, or move to the end.
use Rattle.std.proofs.Common.{◌≡◌, ◌⊎◌, ℕ, suc, ◌+◌, ◌-◌, ◌<◌, ◌≤◌, List, [], ◌∷◌, ◌++◌, take, drop, length, sum_by, All, refl, sym, ap, ◌∙◌, subst, arith, inl, inr}
use Rattle.std.specs.Prelude.{slice_index_or}
use Rattle.std.specs.List.{remove, Contains, HoldsAt}
use Rattle.std.proofs.Math.Seq.{take-append_seam}
use Rattle.std.proofs.lemmas.List.{length-drop}
use Rattle.std.proofs.lemmas.List.Elements.{All-append, All-push, All-take, All-drop, All-weaker, All-contains, All-contains_itself, Contains-get_or}
use Rattle.std.proofs.lemmas.List.Sums.{sum_by-append, sum_by-remove, sum_by-drop_more}
use Rattle.session.specs.declared.kept_texts.ReplyKey.{ReplyKey}
use Rattle.session.specs.declared.kept_texts.KeptText.{KeptText}
use Rattle.session.specs.KeptTexts.{size_of, IsFor}

-- the element of a place moves to the end
pub all_moved : {X : Type 0} (xs : List X) (i : ℕ) (x : X) → i < length xs → x ≡ slice_index_or xs i x
    → All (Contains xs) (remove xs i ++ x ∷ [])
all_moved xs i x within is =
    let all = All-contains_itself xs in
    let P = Contains xs in
    All-push P (remove xs i) x (All-append P (take i xs) (drop (suc i) xs) (All-take P i xs all) (All-drop P (suc i) xs all))
    (subst P (sym is) (Contains-get_or xs i x within))

-- and the sum over them stays
pub sum_moved : {X : Type 0} (f : X → ℕ) (xs : List X) (i : ℕ) (x : X) → i < length xs → x ≡ slice_index_or xs i x
    → sum_by f (remove xs i ++ x ∷ []) ≡ sum_by f xs
sum_moved f xs i x within is =
    let whole = sum_by-append f (remove xs i) (x ∷ []) in
    let one : f x ≡ f (slice_index_or xs i x) = ap f is in
    let moved = sum_by-remove f xs i x within in
    let single : sum_by f (x ∷ []) ≡ f x = omega arith in
    omega (arith, whole, one, moved, single)

-- what is left of a list whose first elements were put at its end and cut off there
pub take_rotated : {X : Type 0} (n : ℕ) (xs : List X) → take (length xs - n) (drop n xs ++ take n xs) ≡ drop n xs
take_rotated n xs =
    ap (λ k. take k (drop n xs ++ take n xs)) (sym (length-drop n xs)) ∙ take-append_seam (drop n xs) (take n xs)

-- the last elements were there
pub all_dropped : {X : Type 0} (n : ℕ) (xs : List X) → All (Contains xs) (drop n xs)
all_dropped n xs = All-drop (Contains xs) n xs (All-contains_itself xs)

-- what is true of all is true of those that are left
pub all_left : {X : Type 0} (P : X → Type 0) (xs ys : List X) → All (Contains xs) ys → All P xs → All P ys
all_left P xs ys among all = All-weaker (Contains xs) P (λ x there. All-contains P xs x all there) ys among

-- and of one more, of which it is true
pub all_left_and : {X : Type 0} (P : X → Type 0) (xs ys : List X) (x : X) → All (λ y. Contains xs y ⊎ (y ≡ x)) ys → All P xs → P x → All P ys
all_left_and P xs ys x among all one =
    All-weaker (λ y. Contains xs y ⊎ (y ≡ x)) P
    (λ y there. elim there [ inl old ↦ All-contains P xs y all old | inr same ↦ subst P (sym same) one ]) ys among

-- none is there but those that were
pub all_same_or : {X : Type 0} (xs : List X) (x : X) → All (λ y. Contains xs y ⊎ (y ≡ x)) xs
all_same_or xs x = All-weaker (Contains xs) (λ y. Contains xs y ⊎ (y ≡ x)) (λ y there. inl there) xs (All-contains_itself xs)

-- some went, and one more came
pub all_then : {X : Type 0} (old mid new : List X) (x : X) → All (Contains old) mid → All (λ y. Contains mid y ⊎ (y ≡ x)) new
    → All (λ y. Contains old y ⊎ (y ≡ x)) new
all_then old mid new x among more =
    All-weaker (λ y. Contains mid y ⊎ (y ≡ x)) (λ y. Contains old y ⊎ (y ≡ x))
    (λ y there. elim there [ inl m ↦ inl (All-contains (Contains old) mid y among m) | inr same ↦ inr same ]) new more

-- one more came
pub all_pushed : {X : Type 0} (xs : List X) (x : X) → All (λ y. Contains xs y ⊎ (y ≡ x)) (xs ++ x ∷ [])
all_pushed xs x = All-push (λ y. Contains xs y ⊎ (y ≡ x)) xs x (all_same_or xs x) (inr refl)

-- what is found has what was kept with it
pub found_text : (kept : List KeptText) (place : ℕ) (key : ReplyKey) (text : List ℕ) (d : KeptText)
    → place < length kept → HoldsAt (IsFor key) kept place → text ≡ (slice_index_or kept place d).text
    → Contains kept (record { key = key; text = text })
found_text kept place key text d within is same =
    let P = Contains kept in
    let e = slice_index_or kept place d in
    let K : ReplyKey → Type 0 = λ k. P (record { key = k; text = e.text }) in
    let T : List ℕ → Type 0 = λ t. P (record { key = key; text = t }) in
    subst T (sym same) (subst K (is d) (Contains-get_or kept place d within))

-- one text more stays
pub stays_more : (kept : List KeptText) (passed room bytes size : ℕ) (d : KeptText) → passed < length kept
    → room + sum_by size_of (drop (length kept - passed) kept) ≡ bytes
    → size ≡ length (slice_index_or kept (length kept - 1 - passed) d).text → size ≤ room
    → (room - size) + sum_by size_of (drop (length kept - (passed + 1)) kept) ≡ bytes
stays_more kept passed room bytes size d below sum is fits =
    let place = length kept - 1 - passed in
    let this : length kept - passed ≡ place + 1 = omega arith in
    let before : length kept - (passed + 1) ≡ place = omega arith in
    let one = sum_by-drop_more size_of kept place d (omega arith) in
    let old : sum_by size_of (drop (length kept - passed) kept) ≡ sum_by size_of (drop (place + 1) kept) = ap (λ k. sum_by size_of (drop k kept)) this in
    let new : sum_by size_of (drop (length kept - (passed + 1)) kept) ≡ sum_by size_of (drop place kept) = ap (λ k. sum_by size_of (drop k kept)) before in
    omega (arith, one, old, new)

-- so many were passed
pub passed_count : (kept : List KeptText) (passed : ℕ) → passed ≤ length kept → length (drop (length kept - passed) kept) ≡ passed
passed_count kept passed within = length-drop (length kept - passed) kept ∙ omega arith
