-- Cases of a test and of an option, the members of lists, and the last point of a row.
use Rattle.std.proofs.Common.{◌≡◌, ℕ, zero, suc, ◌+◌, ◌-◌, ◌<◌, ◌≤◌, Bool, true, false, ◌||◌, ◌&&◌, Option, Some, None, List, [], ◌∷◌, ◌++◌, length, get_or, set, map, filter, take, refl, sym, ap, ◌∙◌, arith}
use Rattle.std.specs.Prelude.{cond}
use Rattle.std.specs.List.{list_any}
use Rattle.std.proofs.lemmas.Bool.{and_parts, false≢true}
use Rattle.std.proofs.lemmas.List.{map-append, append-nil}
use Rattle.std.proofs.lemmas.List.Elements.{filter_more}
use Rattle.tgap_model.specs.declared.geometry.Point.{Point}
use Rattle.tgap_model.specs.Chains.{first_point, last_point}

-- a test holds, or it does not
pub by_test : {P : Type 0} (b : Bool) → (b ≡ true → P) → (b ≡ false → P) → P
by_test true held failed = held refl
by_test false held failed = failed refl

-- there is a value, or there is none
pub by_option : {A P : Type 0} (o : Option A) → (o ≡ None → P) → ((x : A) → o ≡ Some x → P) → P
by_option None none some = none refl
by_option (Some x) none some = some x refl

-- a test that would not hold is false
pub not_held : (b : Bool) → (b ≡ true → ⊥) → b ≡ false
not_held true never = absurd (never refl)
not_held false never = refl

-- one of two tests holds
pub or_left : (a b : Bool) → a ≡ true → (a || b) ≡ true
or_left a b e = ap (λ t. t || b) e

pub or_right : (a b : Bool) → b ≡ true → (a || b) ≡ true
or_right true b e = refl
or_right false b e = e

-- a test that a member in place of another passes as that did
pub any_set : {A : Type 0} (p : A → Bool) (xs : List A) (i : ℕ) (y d : A) → p y ≡ p (get_or xs i d) → list_any p (set xs i y) ≡ list_any p xs
any_set p [] i y d same = refl
any_set p (x ∷ xs) zero y d same = ap (λ b. b || list_any p xs) same
any_set p (x ∷ xs) (suc i) y d same = ap (λ b. p x || b) (any_set p xs i y d same)

-- a member that passes a test, of what a map makes of what a filter keeps
pub any_kept : {A B : Type 0} (p : A → Bool) (f : A → B) (q : B → Bool) (r : A → Bool) (xs : List A) → ((x : A) → r x ≡ true → (p x && q (f x)) ≡ true) → list_any r xs ≡ true
    → list_any q (map f (filter p xs)) ≡ true
any_kept p f q r [] h e = absurd (false≢true e)
any_kept p f q r (x ∷ xs) h e =
    by_test (r x)
    (λ t. let parts = and_parts (p x) (q (f x)) (h x t) in
    ap (λ b. list_any q (map f (cond b (x ∷ filter p xs) (filter p xs)))) parts.0 ∙ or_left (q (f x)) (list_any q (map f (filter p xs))) parts.1)
    (λ t. let later = any_kept p f q r xs h (sym (ap (λ b. b || list_any r xs) t) ∙ e) in
    by_test (p x)
    (λ k. ap (λ b. list_any q (map f (cond b (x ∷ filter p xs) (filter p xs)))) k ∙ or_right (q (f x)) (list_any q (map f (filter p xs))) later)
    (λ k. ap (λ b. list_any q (map f (cond b (x ∷ filter p xs) (filter p xs)))) k ∙ later))

-- one member more of what a filter keeps, or not
pub kept_more : {A B : Type 0} (p : A → Bool) (f : A → B) (xs : List A) (i : ℕ) (x : A) → i < length xs → p (get_or xs i x) ≡ true
    → map f (filter p (take (i + 1) xs)) ≡ map f (filter p (take i xs)) ++ f (get_or xs i x) ∷ []
kept_more p f xs i x l e =
    ap (map f) (filter_more p xs i x l ∙ ap (λ b. filter p (take i xs) ++ cond b (get_or xs i x ∷ []) []) e) ∙ map-append f (filter p (take i xs)) (get_or xs i x ∷ [])

pub left_out : {A B : Type 0} (p : A → Bool) (f : A → B) (xs : List A) (i : ℕ) (x : A) → i < length xs → p (get_or xs i x) ≡ false
    → map f (filter p (take (i + 1) xs)) ≡ map f (filter p (take i xs))
left_out p f xs i x l e =
    ap (map f) (filter_more p xs i x l ∙ ap (λ b. filter p (take i xs) ++ cond b (get_or xs i x ∷ []) []) e ∙ append-nil (filter p (take i xs)))

pub first_is : (points : List Point) (d : Point) → 1 ≤ length points → first_point points ≡ get_or points 0 d
first_is [] d some = absurd (omega arith)
first_is (p ∷ points) d some = refl

pub last_is : (points : List Point) (d : Point) → 1 ≤ length points → last_point points ≡ get_or points (length points - 1) d
last_is [] d some = absurd (omega arith)
last_is (p ∷ []) d some = refl
last_is (p ∷ q ∷ points) d some =
    let e : length (p ∷ q ∷ points) - 1 ≡ suc (length (q ∷ points) - 1) = omega arith in
    last_is (q ∷ points) d (omega arith) ∙ ap (λ (n : ℕ). get_or (p ∷ q ∷ points) n d) (sym e)
