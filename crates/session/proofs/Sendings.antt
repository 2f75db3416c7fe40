-- Bytes that are put in two calls.
use Rattle.std.proofs.Common.{◌≡◌, ℕ, zero, suc, ◌+◌, List, [], ◌∷◌, ◌++◌, take, length, Option, Some, None, Result, Ok, Err, refl, sym, ap, ◌∙◌, subst, append_assoc}
use Rattle.std.proofs.Math.Seq.{take-append-add}
use Rattle.plain_io.specs.Puts.{Appends, AppendsFront, Puts}

-- so many of the first are a front of all
take_front_first : (n : ℕ) (first rest : List ℕ) → (m : ℕ) × (take n first ≡ take m (first ++ rest))
take_front_first zero first rest = (0, refl)
take_front_first (suc n) [] rest = (0, refl)
take_front_first (suc n) (x ∷ first) rest = (let more = take_front_first n first rest in (suc more.0, ap (λ xs. x ∷ xs) more.1))

-- the first call failed
pub front_of_both : (told now : Option (List ℕ)) (first rest : List ℕ) → AppendsFront told now first → AppendsFront told now (first ++ rest)
front_of_both None now first rest p = tt
front_of_both (Some before) now first rest (n, e) =
    let more = take_front_first n first rest in
    (more.0, e ∙ ap (λ xs. Some (before ++ xs)) more.1)

-- the first bytes were put, and then the others, or a front of them
pub both_put : {T E : Type 0} (told mid now : Option (List ℕ)) (first rest : List ℕ) (r : Result T E)
    → Appends told mid first → Puts mid now rest r → Puts told now (first ++ rest) r
both_put None mid now first rest (Ok x) p q = tt
both_put None mid now first rest (Err e) p q = tt
both_put (Some before) mid now first rest (Ok x) p q =
    let A : Option (List ℕ) → Type 0 = λ o. Appends o now rest in
    subst A p q ∙ ap Some (append_assoc before first rest)
both_put (Some before) mid now first rest (Err e) p q =
    let A : Option (List ℕ) → Type 0 = λ o. AppendsFront o now rest in
    let front = subst A p q in (
      length first + front.0,
      front.1 ∙ ap Some (append_assoc before first (take front.0 rest) ∙ ap (λ xs. before ++ xs) (sym (take-append-add first rest front.0))),
    )
