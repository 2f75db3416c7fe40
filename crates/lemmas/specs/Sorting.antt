-- Lists in an order that a test gives: `before x y` says that x stands before y.
use Rattle.std.specs.Prelude.{◌≡◌, Bool, true, false, cond, ◌&&◌, List, [], ◌∷◌}

-- x in front of the first member that it stands before
abbrev pub insert_by : {A : Type 0} → (A → A → Bool) → A → List A → List A
insert_by before x [] = x ∷ []
insert_by before x (y ∷ ys) = cond (before x y) (x ∷ y ∷ ys) (y ∷ insert_by before x ys)

-- the members one after the other, from the last on, each put in its place
abbrev pub sort_by : {A : Type 0} → (A → A → Bool) → List A → List A
sort_by before [] = []
sort_by before (x ∷ xs) = insert_by before x (sort_by before xs)

-- x stands before the first member, where there is one
abbrev pub is_before_first : {A : Type 0} → (A → A → Bool) → A → List A → Bool
is_before_first before x [] = true
is_before_first before x (y ∷ ys) = before x y

-- each member stands before the next one
abbrev pub is_sorted_by : {A : Type 0} → (A → A → Bool) → List A → Bool
is_sorted_by before [] = true
is_sorted_by before (x ∷ xs) = is_before_first before x xs && is_sorted_by before xs

-- the test is a strict order of the elements that P holds of: none stands before itself, and the order passes on
pub record IsStrictOrderOn {A : Type 0} (P : A → Type 0) (before : A → A → Bool) : Type 0 where
  pub itself : (x : A) → P x → before x x ≡ false
  pub passes : (x y z : A) → P x → P y → P z → before x y ≡ true → before y z ≡ true → before x z ≡ true
