-- What a take from a link does to the bytes that were taken, to the count of faults and to the flag of the end.
use Rattle.std.specs.Prelude.{◌≡◌, ℕ, ◌==◌, Bool, false, List, [], take, Option, IfSome, Result, Ok, Err}
use Rattle.tgap_model.specs.Faults.{Rises}
use Rattle.plain_io.specs.Puts.{Appends}

-- the front of the buffer, of that length, stands at the end of what was taken before; after a failure nothing was taken
abbrev pub Receives : {E : Type 0} → Option (List ℕ) → Option (List ℕ) → List ℕ → Result ℕ E → Type 0
Receives old new buffer (Ok n) = Appends old new (take n buffer)
Receives old new buffer (Err e) = new ≡ old

-- whether a take answered that the input is at its end
abbrev pub is_end : {E : Type 0} → Result ℕ E → Bool
is_end (Ok n) = n == 0
is_end (Err e) = false

-- the count rises where the take failed, and else it stays
abbrev pub CountsTake : {E : Type 0} → Result ℕ E → ℕ → ℕ → Type 0
CountsTake (Ok n) before now = now ≡ before
CountsTake (Err e) before now = Rises before now

-- no byte yet, where they are told
abbrev pub HasNone : Option (List ℕ) → Type 0
HasNone told = IfSome told (λ bytes. bytes ≡ [])

-- a link of which nothing was taken and to which nothing was put, that has not failed and not ended
abbrev pub IsNew : Option (List ℕ) → Option (List ℕ) → ℕ → ℕ → Bool → Type 0
IsNew taken told take_faults put_faults ended =
    HasNone taken × HasNone told × (take_faults ≡ 0) × (put_faults ≡ 0) × (ended ≡ false)
