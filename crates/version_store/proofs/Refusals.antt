-- A refusal that is handed on by a call of another type.
use Rattle.std.proofs.Common.{◌≡◌, ◌∙◌, Result, Ok, Err, IsErrAnd, sym, ap}

abbrev refusal : {T E : Type 0} → E → Result T E
refusal e = Err e

same_cause : {T E : Type 0} (e f : E) → refusal {T = T} e ≡ Err f → e ≡ f
same_cause e f h = cc

-- what tells the cause of the refusal tells it of what is handed on
pub of_refusal : {S T E P : Type 0} (told : Result S E) (r : Result T E) (e f : E) → told ≡ Err e → IsErrAnd r (λ x. x ≡ e)
    → (told ≡ Err f → P) × (P → told ≡ Err f) → (r ≡ Err f → P) × (P → r ≡ Err f)
of_refusal told (Ok x) e f was same both = absurd same
of_refusal {S} {T} told (Err y) e f was same both =
    (λ h. both.0 (was ∙ ap (refusal {T = S}) (sym same ∙ same_cause {T = T} y f h)), λ p. ap (refusal {T = T}) (same ∙ same_cause {T = S} e f (sym was ∙ both.1 p)))
