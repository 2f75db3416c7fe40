-- Reading one thing after another, as a loop does.
use Rattle.std.proofs.Common.{◌≡◌, ℕ, suc, ◌+◌, ◌-◌, ◌<◌, ◌≤◌, List, [], ◌∷◌, ◌++◌, Option, Some, None, Result, Ok, Err, refl, sym, ap, ◌∙◌, append_assoc, arith}
use Rattle.std.specs.Option.{ok_or}
use Rattle.std.proofs.lemmas.List.{append-nil}
use Rattle.tgap_model.specs.declared.failure.Or.{Or}
use Rattle.tgap_model.specs.declared.failure.Or.TheVariants.{Fault, Memory}
use Rattle.line_forms.specs.Words.{◌>>=◌}
use Rattle.line_forms.specs.Lines.{◌>>=◌ as ◌or>>=◌}
use Rattle.plain_io.specs.Taking.{Takes, Skips, Reads, Refuses}
use Rattle.plain_io.specs.Fronts.{with_front, in_front}

-- ---- what was found, or the fault of a line

-- a step that takes reads, whatever stays
pub reads : {A S : Type 0} (taken : Option A) (before rest : S) (read : Option (A × S)) → Takes taken before rest read → Reads taken rest read
reads (Some x) before rest read h = h
reads None before rest read h = h.0

-- what a step read, behind the fault
pub found : {A S F : Type 0} (taken : Option A) (x : A) (rest : S) (read : Option (A × S)) (bad : F) → Ok x ≡ ok_or taken bad → Reads taken rest read
    → read ≡ Some (x, rest)
found (Some y) x rest read bad e h = let same : y ≡ x = cc in h ∙ ap (λ z. Some (z, rest)) same
found None x rest read bad e h = absurd cc

-- a step that read nothing
pub missing : {A S F : Type 0} (taken : Option A) (f bad : F) (rest : S) (read : Option (A × S)) → Err f ≡ ok_or taken bad → Reads taken rest read
    → (f ≡ bad) × (read ≡ None)
missing (Some y) f bad rest read e h = absurd cc
missing None f bad rest read e h = (cc, h)

-- a step that only leaves, behind the fault
pub passed : {A S F : Type 0} (taken : Option A) (x : A) (before rest : S) (read : Option S) (bad : F) → Ok x ≡ ok_or taken bad → Skips taken before rest read
    → read ≡ Some rest
passed (Some y) x before rest read bad e h = h
passed None x before rest read bad e h = absurd cc

-- the fault of a line where nothing was read
pub refused_at : {X F : Type 0} (f : Or F) (bad : F) (read : Option X) → f ≡ Fault bad → read ≡ None → Refuses f (ok_or read bad)
refused_at f bad read e none = rw (e, none) refl

-- where one is refused, so is what stands on it
pub refused : {X Y F : Type 0} (f : Or F) (read : Result X F) (total : Result Y F) → ((e : F) → read ≡ Err e → total ≡ Err e) → Refuses f read → Refuses f total
refused Memory read total goes h = tt
refused (Fault f) read total goes h = goes f h

-- ---- how many are left

-- there is one more
pub one_left : (n i : ℕ) → i < n → n - i ≡ suc (n - (i + 1))
one_left n i lt = omega arith

-- there is none more
pub none_left : (n i : ℕ) → n ≤ i → n - i ≡ 0
none_left n i le = omega arith

-- ---- what was read before, in front of what is still read

-- one value more in front, or first of what is still read
pub with_front_more : {A S : Type 0} (front : List A) (v : A) (more whole : Option (List A × S)) → whole ≡ (more >>= λ x. Some (v ∷ x.0, x.1))
    → with_front (front ++ v ∷ []) more ≡ with_front front whole
with_front_more front v (Some x) whole e = ap (λ vs. Some (vs, x.1)) (append_assoc front (v ∷ []) x.0) ∙ ap (with_front front) (sym e)
with_front_more front v None whole e = ap (with_front front) (sym e)

-- nothing more where there was to be a value
pub with_front_stop : {A S : Type 0} (front : List A) (whole : Option (List A × S)) → whole ≡ None → with_front front whole ≡ None
with_front_stop front whole e = ap (with_front front) e

-- all values
pub with_front_done : {A S : Type 0} (front : List A) (rest : S) (whole : Option (List A × S)) → whole ≡ Some ([], rest) → with_front front whole ≡ Some (front, rest)
with_front_done front rest whole e = ap (with_front front) e ∙ ap (λ vs. Some (vs, rest)) (append-nil front)

-- the same of what may be a fault
pub in_front_more : {A S F : Type 0} (front : List A) (v : A) (more whole : Result (List A × S) F) → whole ≡ (more or>>= λ x. Ok (v ∷ x.0, x.1))
    → in_front (front ++ v ∷ []) more ≡ in_front front whole
in_front_more front v (Ok x) whole e = ap (λ vs. Ok (vs, x.1)) (append_assoc front (v ∷ []) x.0) ∙ ap (in_front front) (sym e)
in_front_more front v (Err f) whole e = ap (in_front front) (sym e)

pub in_front_stop : {A S F : Type 0} (front : List A) (f : F) (whole : Result (List A × S) F) → whole ≡ Err f → in_front front whole ≡ Err f
in_front_stop front f whole e = ap (in_front front) e

pub in_front_done : {A S F : Type 0} (front : List A) (rest : S) (whole : Result (List A × S) F) → whole ≡ Ok ([], rest) → in_front front whole ≡ Ok (front, rest)
in_front_done front rest whole e = ap (in_front front) e ∙ ap (λ vs. Ok (vs, rest)) (append-nil front)
