-- The row that chunks make, and what a change of one of them means for it.
use Rattle.std.proofs.Common.{Bool, true, false, cond, add-one, ◌≡◌, ℕ, zero, suc, ◌+◌, ◌-◌, ◌<◌, ◌≤◌, List, [], ◌∷◌, ◌++◌, length, take, drop, set, get_or, All, refl, sym, ap, ◌∙◌, subst, append_assoc, arith}
use Rattle.std.specs.List.{concat, insert, remove}
use Rattle.std.proofs.lemmas.List.{take-append-drop, get_or-append-add, get_or_append_left, get_or_default, length-append, length-drop, length-take-le}
use Rattle.std.proofs.lemmas.List.Edits.{insert-append_left, insert-append_right, remove-append_left, remove-append_right}
use Rattle.std.proofs.lemmas.List.Elements.{All-append, All-cons, All-set, All-take, All-drop}
use Rattle.chunked_row.specs.Chunks.{HasSome}

-- ---- one chunk among the others

-- a row with other numbers in the place of those of one chunk
pub joined_set : (xss : List (List ℕ)) (k : ℕ) (ys : List ℕ) → k < length xss → concat (set xss k ys) ≡ concat (take k xss) ++ (ys ++ concat (drop (suc k) xss))
joined_set [] k ys short = absurd (omega arith)
joined_set (x ∷ xss) zero ys short = refl
joined_set (x ∷ xss) (suc k) ys short = ap (λ zs. x ++ zs) (joined_set xss k ys (omega arith)) ∙ sym (append_assoc x (concat (take k xss)) (ys ++ concat (drop (suc k) xss)))

pub joined_at : (xss : List (List ℕ)) (k : ℕ) → k < length xss → concat xss ≡ concat (take k xss) ++ (get_or xss k [] ++ concat (drop (suc k) xss))
joined_at [] k short = absurd (omega arith)
joined_at (x ∷ xss) zero short = refl
joined_at (x ∷ xss) (suc k) short = ap (λ zs. x ++ zs) (joined_at xss k (omega arith)) ∙ sym (append_assoc x (concat (take k xss)) (get_or xss k [] ++ concat (drop (suc k) xss)))

joined_next : (xss : List (List ℕ)) (k : ℕ) → k < length xss → length (concat (take (suc k) xss)) ≡ length (concat (take k xss)) + length (get_or xss k [])
joined_next [] k short = absurd (omega arith)
joined_next (x ∷ xss) zero short = omega (arith, length-append x [])
joined_next (x ∷ xss) (suc k) short = omega (arith, joined_next xss k (omega arith), length-append x (concat (take (suc k) xss)), length-append x (concat (take k xss)))

-- the chunks up to one and that one
pub joined_more : (xss : List (List ℕ)) (k : ℕ) → k < length xss → length (concat (take (k + 1) xss)) ≡ length (concat (take k xss)) + length (get_or xss k [])
joined_more xss k short = ap (λ j. length (concat (take j xss))) (add-one k) ∙ joined_next xss k short

pub joined_within : (xss : List (List ℕ)) (k : ℕ) → k < length xss → length (concat (take k xss)) + length (get_or xss k []) ≤ length (concat xss)
joined_within [] k short = absurd (omega arith)
joined_within (x ∷ xss) zero short = omega (arith, length-append x (concat xss))
joined_within (x ∷ xss) (suc k) short = omega (arith, joined_within xss k (omega arith), length-append x (concat xss), length-append x (concat (take k xss)))

pub joined_before : (xss : List (List ℕ)) (k : ℕ) → length (concat (take k xss)) ≤ length (concat xss)
joined_before [] zero = omega arith
joined_before [] (suc k) = omega arith
joined_before (x ∷ xss) zero = omega arith
joined_before (x ∷ xss) (suc k) = omega (arith, joined_before xss k, length-append x (concat xss), length-append x (concat (take k xss)))

-- a number of a chunk in the row
pub joined_get : (xss : List (List ℕ)) (k i d : ℕ) → k < length xss → i < length (get_or xss k []) → get_or (concat xss) (length (concat (take k xss)) + i) d ≡ get_or (get_or xss k []) i d
joined_get xss k i d short within =
    let before = concat (take k xss) in
    let here = get_or xss k [] in
    let behind = concat (drop (suc k) xss) in
    ap (λ zs. get_or zs (length before + i) d) (joined_at xss k short) ∙ get_or-append-add before (here ++ behind) i d ∙ get_or_append_left here behind d i within

-- what is read of the chunks is a chunk, whatever stands for one that is not there
pub chunk_at : (xss : List (List ℕ)) (k : ℕ) (x : List ℕ) → k < length xss → x ≡ get_or xss k x → x ≡ get_or xss k []
chunk_at xss k x short e = e ∙ get_or_default xss k x [] short

-- ---- changes

insert_between : (before here behind : List ℕ) (i y : ℕ) → i ≤ length here → insert (before ++ (here ++ behind)) (length before + i) y ≡ before ++ (insert here i y ++ behind)
insert_between before here behind i y le =
    let there : (length before + i) - length before ≡ i = omega arith in
    insert-append_right before (here ++ behind) (length before) (length before + i) y refl (omega arith)
    ∙ ap (λ j. before ++ insert (here ++ behind) j y) there
    ∙ ap (λ zs. before ++ zs) (insert-append_left here behind i y le)

pub joined_insert : (xss : List (List ℕ)) (k i y : ℕ) → k < length xss → i ≤ length (get_or xss k []) → concat (set xss k (insert (get_or xss k []) i y)) ≡ insert (concat xss) (length (concat (take k xss)) + i) y
joined_insert xss k i y short le =
    let before = concat (take k xss) in
    let here = get_or xss k [] in
    let behind = concat (drop (suc k) xss) in
    joined_set xss k (insert here i y) short ∙ sym (insert_between before here behind i y le)
    ∙ sym (ap (λ zs. insert zs (length before + i) y) (joined_at xss k short))

remove_between : (before here behind : List ℕ) (i : ℕ) → i < length here → remove (before ++ (here ++ behind)) (length before + i) ≡ before ++ (remove here i ++ behind)
remove_between before here behind i less =
    let there : (length before + i) - length before ≡ i = omega arith in
    remove-append_right before (here ++ behind) (length before) (length before + i) refl (omega arith)
    ∙ ap (λ j. before ++ remove (here ++ behind) j) there
    ∙ ap (λ zs. before ++ zs) (remove-append_left here behind i less)

pub joined_remove : (xss : List (List ℕ)) (k i : ℕ) → k < length xss → i < length (get_or xss k []) → concat (set xss k (remove (get_or xss k []) i)) ≡ remove (concat xss) (length (concat (take k xss)) + i)
joined_remove xss k i short less =
    let before = concat (take k xss) in
    let here = get_or xss k [] in
    let behind = concat (drop (suc k) xss) in
    joined_set xss k (remove here i) short ∙ sym (remove_between before here behind i less)
    ∙ sym (ap (λ zs. remove zs (length before + i)) (joined_at xss k short))

-- the chunk in two halves
joined_split : (xss : List (List ℕ)) (k half : ℕ) → k < length xss → concat (set (insert xss (suc k) (drop half (get_or xss k []))) k (take half (get_or xss k []))) ≡ concat xss
joined_split [] k half short = absurd (omega arith)
joined_split (x ∷ xss) zero half short = sym (append_assoc (take half x) (drop half x) (concat xss)) ∙ ap (λ zs. zs ++ concat xss) (take-append-drop half x)
joined_split (x ∷ xss) (suc k) half short = ap (λ zs. x ++ zs) (joined_split xss k half (omega arith))

-- the chunk that is read after another came in behind it
pub chunk_before : (xss : List (List ℕ)) (k : ℕ) (y d : List ℕ) → k < length xss → get_or (insert xss (suc k) y) k d ≡ get_or xss k d
chunk_before [] k y d short = absurd (omega arith)
chunk_before (x ∷ xss) zero y d short = refl
chunk_before (x ∷ xss) (suc k) y d short = chunk_before xss k y d (omega arith)

-- a chunk is cut in two, or the chunks stay
pub joined_cut_if : (b : Bool) (xss : List (List ℕ)) (k half : ℕ) (new : List (List ℕ)) → k < length xss
    → new ≡ cond b (set (insert xss (k + 1) (drop half (get_or xss k []))) k (take half (get_or xss k []))) xss → concat new ≡ concat xss
joined_cut_if true xss k half new short is =
    ap concat is ∙ ap (λ j. concat (set (insert xss j (drop half (get_or xss k []))) k (take half (get_or xss k [])))) (add-one k) ∙ joined_split xss k half short
joined_cut_if false xss k half new short is = ap concat is

-- a number comes in, or the chunks stay
pub joined_insert_if : (b : Bool) (xss : List (List ℕ)) (k i y : ℕ) (new : List (List ℕ)) → k < length xss → i ≤ length (get_or xss k []) → new ≡ cond b (set xss k (insert (get_or xss k []) i y)) xss
    → concat new ≡ cond b (insert (concat xss) (length (concat (take k xss)) + i) y) (concat xss)
joined_insert_if true xss k i y new short le is = ap concat is ∙ joined_insert xss k i y short le
joined_insert_if false xss k i y new short le is = ap concat is

-- without an empty chunk
pub joined_without : (xss : List (List ℕ)) (k : ℕ) → k < length xss → get_or xss k [] ≡ [] → concat (remove xss k) ≡ concat xss
joined_without [] k short none = absurd (omega arith)
joined_without (x ∷ xss) zero short none = ap (λ zs. zs ++ concat xss) (sym none)
joined_without (x ∷ xss) (suc k) short none = ap (λ zs. x ++ zs) (joined_without xss k (omega arith) none)

-- ---- no chunk is empty

pub full_insert : (xss : List (List ℕ)) (k : ℕ) (y : List ℕ) → HasSome y → All HasSome xss → All HasSome (insert xss k y)
full_insert xss k y some full = All-append HasSome (take k xss) (y ∷ drop k xss) (All-take HasSome k xss full) (All-cons HasSome y (drop k xss) some (All-drop HasSome k xss full))

-- each part has a number
pub full_cut_if : (b : Bool) (xss : List (List ℕ)) (k half : ℕ) (new : List (List ℕ)) → k < length xss → 0 < half → half < length (get_or xss k [])
    → new ≡ cond b (set (insert xss (k + 1) (drop half (get_or xss k []))) k (take half (get_or xss k []))) xss → All HasSome xss → All HasSome new
full_cut_if true xss k half new short lower upper is full =
    let here = get_or xss k [] in
    let some : 0 < length (drop half here) = omega (arith, length-drop half here, upper) in
    let below : 0 < length (take half here) = omega (arith, length-take-le half here (omega (arith, upper)), lower) in
    subst (λ zss. All HasSome zss) (sym is)
    (All-set HasSome (insert xss (k + 1) (drop half here)) k (take half here) below (full_insert xss (k + 1) (drop half here) some full))
full_cut_if false xss k half new short lower upper is full = subst (λ zss. All HasSome zss) (sym is) full

pub full_remove : (xss : List (List ℕ)) (k : ℕ) → All HasSome (take k xss) → All HasSome (drop (k + 1) xss) → All HasSome (remove xss k)
full_remove xss k before behind = All-append HasSome (take k xss) (drop (suc k) xss) before (subst (λ j. All HasSome (drop j xss)) (add-one k) behind)

full_with_next : (xss : List (List ℕ)) (k : ℕ) → k < length xss → All HasSome (take k xss) → All HasSome (drop (suc k) xss) → HasSome (get_or xss k []) → All HasSome xss
full_with_next [] k short before behind some = absurd (omega arith)
full_with_next (x ∷ xss) zero short before behind some = All-cons HasSome x xss some behind
full_with_next (x ∷ xss) (suc k) short before behind some =
    All-cons HasSome x xss (before 0 [] (omega arith)) (full_with_next xss k (omega arith) (λ n d l. before (suc n) d (omega (arith, l))) behind some)

-- the chunks but one are not empty, and that one is not
pub full_with : (xss : List (List ℕ)) (k : ℕ) → k < length xss → All HasSome (take k xss) → All HasSome (drop (k + 1) xss) → HasSome (get_or xss k []) → All HasSome xss
full_with xss k short before behind some = full_with_next xss k short before (subst (λ j. All HasSome (drop j xss)) (add-one k) behind) some

-- a row with a number has a chunk
pub some_chunk : (xss : List (List ℕ)) → 0 < length (concat xss) → 0 < length xss
some_chunk [] some = some
some_chunk (x ∷ xss) some = omega arith

-- and one with a chunk a number
pub some_number : (xss : List (List ℕ)) → All HasSome xss → 0 < length xss → 0 < length (concat xss)
some_number [] full some = some
some_number (x ∷ xss) full some = omega (arith, full 0 [] (omega arith), length-append x (concat xss))
