-- The first of a list by an order: it is a member, no member stands before it, and one more member is compared with it.
use Rattle.std.proofs.Common.{◌≡◌, ℕ, Bool, false, List, [], ◌∷◌, Some, None, subst, cond}
use Rattle.std.specs.List.{AllByRecursion}
use Rattle.std.proofs.lemmas.Bool.{cond_both}
use Rattle.tgap_model.specs.History.{first_from, first_by}
use Rattle.face_merge.proofs.Order.{IsOrder}

-- what holds of every member holds of the first
pub first_from_member : (before : ℕ → ℕ → Bool) (P : ℕ → Type 0) (best : ℕ) (fs : List ℕ) → P best → AllByRecursion P fs → P (first_from before best fs)
first_from_member before P best [] p ps = p
first_from_member before P best (f ∷ fs) p ps =
    first_from_member before P (cond (before f best) f best) fs (cond_both (before f best) f best P (λ _. ps.0) (λ _. p)) ps.1

-- no member stands before the first
pub first_from_first : (before : ℕ → ℕ → Bool) → IsOrder before → (best : ℕ) (fs : List ℕ)
    → (before best (first_from before best fs) ≡ false) × AllByRecursion (λ x. before x (first_from before best fs) ≡ false) fs
first_from_first before o best [] = (o.itself best, tt)
first_from_first before o best (f ∷ fs) =
    let next : ℕ = cond (before f best) f best in
    let rest = first_from_first before o next fs in
    let old : before best next ≡ false = cond_both (before f best) f best (λ x. before best x ≡ false) (o.one_way f best) (λ _. o.itself best) in
    let new : before f next ≡ false = cond_both (before f best) f best (λ x. before f x ≡ false) (λ _. o.itself f) (λ e. e) in
    (o.passes best next _ old rest.0, (o.passes f next _ new rest.0, rest.1))

-- what holds of every member of a list holds of its first
pub first_by_member : (before : ℕ → ℕ → Bool) (P : ℕ → Type 0) (fs : List ℕ) (b : ℕ) → first_by before fs ≡ Some b → AllByRecursion P fs → P b
first_by_member before P [] b e ps = absurd cc
first_by_member before P (f ∷ fs) b e ps =
    let same : first_from before f fs ≡ b = cc in
    subst P same (first_from_member before P f fs ps.0 ps.1)

-- no member of a list stands before its first
pub first_by_first : (before : ℕ → ℕ → Bool) → IsOrder before → (fs : List ℕ) (b : ℕ) → first_by before fs ≡ Some b → AllByRecursion (λ x. before x b ≡ false) fs
first_by_first before o [] b e = tt
first_by_first before o (f ∷ fs) b e =
    let same : first_from before f fs ≡ b = cc in
    subst (λ (w : ℕ). AllByRecursion (λ x. before x w ≡ false) (f ∷ fs)) same (first_from_first before o f fs)

-- there is none only of the empty list
pub first_by_none : (before : ℕ → ℕ → Bool) (P : ℕ → Type 0) (fs : List ℕ) → first_by before fs ≡ None → AllByRecursion P fs
first_by_none before P [] e = tt
first_by_none before P (f ∷ fs) e = absurd cc
