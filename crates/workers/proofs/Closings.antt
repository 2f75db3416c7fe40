-- Doors come back, one after the other.
use Rattle.std.proofs.Common.{◌≡◌, ℕ, zero, suc, ◌-◌, ◌^◌, ◌≤◌, min, List, [], ◌∷◌, ◌++◌, length, Option, Some, None, refl, sym, ap, ◌∙◌, subst, arith, inl, inr, append_assoc, length-append}
use Rattle.std.specs.Prelude.{option_map}
use Rattle.std.proofs.Common.{All, map}
use Rattle.std.proofs.lemmas.List.{append-nil}
use Rattle.std.proofs.lemmas.List.Elements.{All-cons, All-nil}
use Rattle.tgap_model.specs.Faults.{Rises, Rose}
use Rattle.plain_io.specs.Harbours.{Doors, FewerBack, TakesBack, CountsBack}
use Rattle.workers.specs.Closing.{MayTakeBack, TakesAllBack, CountsAllBack, OneFailed, NoneFailed}

none_left : {P : Type 0} (xs : List P) → length xs ≡ 0 → xs ≡ []
none_left [] none = refl
none_left (x ∷ xs) none = absurd (omega (arith, none))

-- ---- the doors

-- one may come back where one more may
pub fewer_back : {D P : Type 0} (told : Option (Doors D)) (x : P) (xs all : List P) → all ≡ x ∷ xs → MayTakeBack (length all) told → FewerBack told
fewer_back None x xs all is room = tt
fewer_back (Some doors) x xs all is room = let n : length all ≡ suc (length xs) = ap length is in omega (arith, room, n)

pub room_less : {D P : Type 0} (told now : Option (Doors D)) (door : D) (x : P) (xs all : List P) → all ≡ x ∷ xs → MayTakeBack (length all) told
    → TakesBack told now door → MayTakeBack (length xs) now
room_less None now door x xs all is room back = subst (λ t. MayTakeBack (length xs) t) (sym back) tt
room_less (Some doors) now door x xs all is room back =
    let n : length all ≡ suc (length xs) = ap length is in
    subst (λ t. MayTakeBack (length xs) t) (sym back) (simp length-append (omega (arith, room, n)))

back_none : {D : Type 0} (told : Option (Doors D)) → TakesAllBack told told []
back_none None = refl
back_none (Some all) = ap (λ xs. Some (record { given = all.given; back = xs })) (sym (append-nil all.back))

back_first : {D : Type 0} (told now new : Option (Doors D)) (door : D) (doors : List D) → TakesBack told now door → TakesAllBack now new doors
    → TakesAllBack told new (door ∷ doors)
back_first {D} None now new door doors back all = all ∙ ap (option_map (λ (a : Doors D). record { given = a.given; back = a.back ++ doors })) back
back_first {D} (Some a) now new door doors back all =
    all ∙ (ap (option_map (λ (a : Doors D). record { given = a.given; back = a.back ++ doors })) back
    ∙ ap (λ xs. Some (record { given = a.given; back = xs })) (append_assoc a.back (door ∷ []) doors))

pub back_step : {D P : Type 0} (door : P → D) (told now new : Option (Doors D)) (x : P) (xs all : List P) → all ≡ x ∷ xs → TakesBack told now (door x)
    → TakesAllBack now new (map door xs) → TakesAllBack told new (map door all)
back_step door told now new x xs all is back rest =
    subst (λ ys. TakesAllBack told new (map door ys)) (sym is) (back_first told now new (door x) (map door xs) back rest)

pub back_end : {D P : Type 0} (door : P → D) (told : Option (Doors D)) (xs : List P) → length xs ≡ 0 → TakesAllBack told told (map door xs)
back_end door told xs none = subst (λ ys. TakesAllBack told told (map door ys)) (sym (none_left xs none)) (back_none told)

-- ---- the seats

pub all_step : {P : Type 0} (x : P) (xs all : List P) → all ≡ x ∷ xs → (G : P → Type 0) → G x → All G xs → All G all
all_step x xs all is G here rest = subst (λ ys. All G ys) (sym is) (All-cons G x xs here rest)

pub all_end : {P : Type 0} (xs : List P) → length xs ≡ 0 → (G : P → Type 0) → All G xs
all_end xs none G = subst (λ ys. All G ys) (sym (none_left xs none)) (All-nil G)

-- ---- the counts

-- the count does not fall, up to the end of its type
one_keeps : (count before now : ℕ) → CountsBack count before now → min before (2 ^ 64 - 1) ≤ now
one_keeps zero before now c = let e = c.1 refl in grind (arith, e)
one_keeps (suc k) before now c = let e = c.0 (omega arith) in grind (arith, e)

keeps : (counts : List ℕ) (before now : ℕ) → CountsAllBack counts before now → min before (2 ^ 64 - 1) ≤ now
keeps [] before now e = grind (arith, e)
keeps (count ∷ counts) before now (middle, one, all) =
    let first = one_keeps count before middle one in
    let rest = keeps counts middle now all in
    grind (arith, first, rest)

rose_first : (before middle now : ℕ) → Rises before middle → min middle (2 ^ 64 - 1) ≤ now → Rose before now
rose_first before middle now rises rest = grind (arith, rises, rest)

rose_later : (before middle now : ℕ) → min before (2 ^ 64 - 1) ≤ middle → Rose middle now → Rose before now
rose_later before middle now first rose = grind (arith, first, rose)

pub failed_rose : (counts : List ℕ) (before now : ℕ) → CountsAllBack counts before now → OneFailed counts → Rose before now
failed_rose [] before now c failed = absurd failed
failed_rose (count ∷ counts) before now (middle, one, all) (inl above) = rose_first before middle now (one.0 above) (keeps counts middle now all)
failed_rose (count ∷ counts) before now (middle, one, all) (inr failed) =
    rose_later before middle now (one_keeps count before middle one) (failed_rose counts middle now all failed)

pub sound_stays : (counts : List ℕ) (before now : ℕ) → CountsAllBack counts before now → NoneFailed counts → now ≡ before
sound_stays [] before now e none = e
sound_stays (count ∷ counts) before now (middle, one, all) (none, rest) = sound_stays counts middle now all rest ∙ one.1 none

pub counts_step : {P : Type 0} (count : P → ℕ) (before middle n : ℕ) (x : P) (xs all : List P) → all ≡ x ∷ xs → CountsBack (count x) before middle
    → CountsAllBack (map count xs) middle n → CountsAllBack (map count all) before n
counts_step count before middle n x xs all is one rest = subst (λ ys. CountsAllBack (map count ys) before n) (sym is) (middle, one, rest)

pub counts_end : {P : Type 0} (count : P → ℕ) (n : ℕ) (xs : List P) → length xs ≡ 0 → CountsAllBack (map count xs) n n
counts_end count n xs none = subst (λ ys. CountsAllBack (map count ys) n n) (sym (none_left xs none)) refl
