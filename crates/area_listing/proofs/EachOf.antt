-- Reading each item of a list, as a loop does that puts what it reads into a state.
use Rattle.std.proofs.Common.{◌≡◌, ℕ, suc, Bool, true, false, if◌then◌else◌, subst, ◌+◌, ◌<◌, ◌≤◌, List, [], ◌∷◌, ◌++◌, length, map, drop, get_or, Option, Some, None, option_map, option_and_then, refl, sym, ap, ◌∙◌, append_assoc}
use Rattle.std.specs.List.{fold, concat, list_all}
use Rattle.std.proofs.lemmas.Bool.{and_from}
use Rattle.std.proofs.lemmas.Option.{option_and_then_some}
use Rattle.std.proofs.lemmas.List.{at_drop_more, at_drop_all, append-nil}
use Rattle.line_forms.specs.Json.{each_of}

-- what is made of what is read
pub mapped_some : {A B : Type 0} (f : A → B) (read : Option A) (y : B) → option_map f read ≡ Some y → (x : A) × (read ≡ Some x) × (f x ≡ y)
mapped_some f (Some x) y e = (x, refl, cc)
mapped_some f None y e = absurd cc

-- what is read where a test holds
pub where_some : {B : Type 0} (b : Bool) (read : Option B) (y : B) → (if b then read else None) ≡ Some y → (b ≡ true) × (read ≡ Some y)
where_some true read y e = (refl, e)
where_some false read y e = absurd cc

-- the state that comes of putting what is still read into this one
abbrev pub gathered : {B S : Type 0} → (S → B → S) → S → Option (List B) → Option S
gathered put state read = option_map (λ ys. fold put state ys) read

-- the next of the items that are left
next_left : {V A B : Type 0} (read : A → Option B) (see : V → A) (xs : List V) (i : ℕ) (x : V) → i < length xs → x ≡ get_or xs i x
    → each_of read (map see (drop i xs)) ≡ option_and_then (λ y. option_map (λ ys. y ∷ ys) (each_of read (map see (drop (i + 1) xs)))) (read (see x))
next_left read see xs i x lt is =
    at_drop_more (λ left. each_of read (map see left)) xs i x lt ∙ ap (λ v. each_of read (see v ∷ map see (drop (i + 1) xs))) (sym is)

-- an item that is not read
pub gathers_none : {V A B S : Type 0} (put : S → B → S) (read : A → Option B) (see : V → A) (state : S) (xs : List V) (i : ℕ) (x : V) → i < length xs → x ≡ get_or xs i x → read (see x) ≡ None
    → gathered put state (each_of read (map see (drop i xs))) ≡ None
gathers_none put read see state xs i x lt is e =
    let rest = each_of read (map see (drop (i + 1) xs)) in
    ap (gathered put state) (next_left read see xs i x lt is ∙ ap (option_and_then (λ z. option_map (λ ys. z ∷ ys) rest)) e)

-- all items
pub gathers_all : {V A B S : Type 0} (put : S → B → S) (read : A → Option B) (see : V → A) (state : S) (xs : List V) (i : ℕ) → length xs ≤ i
    → gathered put state (each_of read (map see (drop i xs))) ≡ Some state
gathers_all put read see state xs i le = ap (gathered put state) (at_drop_all (λ left. each_of read (map see left)) xs i le)

-- what is read is something where something is gathered
pub gathered_some : {B S : Type 0} (put : S → B → S) (state all : S) (read : Option (List B)) → gathered put state read ≡ Some all → (ys : List B) × (read ≡ Some ys) × (fold put state ys ≡ all)
gathered_some put state all read e = mapped_some (λ ys. fold put state ys) read all e

-- as many are read as there are items
pub each_of_length : {A B : Type 0} (read : A → Option B) (xs : List A) (ys : List B) → each_of read xs ≡ Some ys → length ys ≡ length xs
each_of_length read [] ys e = let none : [] ≡ ys = cc in ap length (sym none)
each_of_length read (x ∷ xs) ys e =
    option_and_then_some (λ y. option_map (λ zs. y ∷ zs) (each_of read xs)) (read x) ys e (λ y first e1.
    let more = mapped_some (λ zs. y ∷ zs) (each_of read xs) ys e1 in
    ap length (sym more.2) ∙ ap suc (each_of_length read xs more.0 more.1))

-- what holds of what is read of any item holds of all that is read
pub each_of_all : {A B : Type 0} (read : A → Option B) (p : B → Bool) → ((x : A) (y : B) → read x ≡ Some y → p y ≡ true) → (xs : List A) (ys : List B) → each_of read xs ≡ Some ys → list_all p ys ≡ true
each_of_all read p holds [] ys e = let none : [] ≡ ys = cc in ap (list_all p) (sym none)
each_of_all read p holds (x ∷ xs) ys e =
    option_and_then_some (λ y. option_map (λ zs. y ∷ zs) (each_of read xs)) (read x) ys e (λ y first e1.
    let more = mapped_some (λ zs. y ∷ zs) (each_of read xs) ys e1 in
    subst (λ all. list_all p all ≡ true) more.2 (and_from (p y) (list_all p more.0) (holds x y first) (each_of_all read p holds xs more.0 more.1)))

-- ---- states

-- read, and not kept
abbrev pub passed_by : {B : Type 0} → Unit {0} → B → Unit {0}
passed_by seen y = seen

-- put at the end
abbrev pub behind : {B : Type 0} → List B → B → List B
behind front y = front ++ y ∷ []

behind_all : {B : Type 0} (front ys : List B) → fold behind front ys ≡ front ++ ys
behind_all front [] = sym (append-nil front)
behind_all front (y ∷ ys) = behind_all (front ++ y ∷ []) ys ∙ append_assoc front (y ∷ []) ys

-- all that is read is put at the end
pub gathered_behind : {B : Type 0} (front : List B) (read : Option (List B)) → gathered behind front read ≡ option_map (λ ys. front ++ ys) read
gathered_behind front (Some ys) = ap Some (behind_all front ys)
gathered_behind front None = refl

joined_all : (front : List ℕ) (rows : List (List ℕ)) → fold ◌++◌ front rows ≡ front ++ concat rows
joined_all front [] = sym (append-nil front)
joined_all front (row ∷ rows) = joined_all (front ++ row) rows ∙ append_assoc front row (concat rows)

-- row after row
pub gathered_joined : (read : Option (List (List ℕ))) → gathered ◌++◌ [] read ≡ option_map concat read
gathered_joined (Some rows) = ap Some (joined_all [] rows)
gathered_joined None = refl
