-- How a router finds a path that has the form of one of its rows.
use Rattle.std.proofs.Common.{◌≡◌, ℕ, zero, suc, ◌+◌, ◌-◌, ◌<◌, ◌==◌, Bool, true, false, cond, List, [], ◌∷◌, ◌++◌, length, Some, None, refl, ap, arith, ltb, length-append}
use Rattle.std.specs.List.{join_with_byte, slice_split, onto_first}
use Rattle.std.proofs.Math.Seq.{drop-append_seam}
use Rattle.std.proofs.lemmas.Bool.{and_parts}
use Rattle.std.proofs.lemmas.Bool.Decides.{nat_tests}
use Rattle.matchit.specs.Rows.{RowsOf}
use Rattle.matchit.specs.Seek.{seek, step, own, param_step, segment, has_slash, cuts}
use Rattle.matchit.specs.Level.{IsText}
use Rattle.line_forms.specs.Words.{Row}
use Rattle.http_face.specs.Routes.{are_parameters}

-- ---- no rows

param_step-nothing : {K : Type 0} (p : List ℕ) → (param_step {K = K} [] p).1 ≡ []
unfolding param_step
param_step-nothing {K} p =
    elim (has_slash p) as (λ v. (cond {A = ℕ × RowsOf K} v (0, []) (length p, [])).1 ≡ []) [
      | true ↦ refl
      | false ↦ refl
    ]

seek-nothing : {K : Type 0} (k : ℕ) (p : List ℕ) → seek {K = K} k [] p ≡ None
unfolding seek
seek-nothing k [] = refl
seek-nothing (suc k) (b ∷ p) = seek-nothing k p
seek-nothing {K} zero (b ∷ p) = simp (seek-nothing {K = K} 0 p, param_step-nothing {K = K} (b ∷ p), seek-nothing {K = K} ((param_step {K = K} [] (b ∷ p)).0 - 1) p)

-- ---- bytes that stand for themselves

-- what is skipped
seek-skipped : {K : Type 0} (q : List ℕ) (rows : RowsOf K) (path : List ℕ) → seek (length q) rows (q ++ path) ≡ seek 0 rows path
unfolding seek
seek-skipped [] rows path = refl
seek-skipped (b ∷ q) rows path = seek-skipped q rows path

seek-all : {K : Type 0} (q : List ℕ) (rows : RowsOf K) → seek (length q) rows q ≡ own rows
unfolding seek
seek-all [] rows = refl
seek-all (b ∷ q) rows = seek-all q rows

goes_on : {K : Type 0} (b : ℕ) (rows : RowsOf K) (path : List ℕ) (e : K) → seek 0 (step b rows) path ≡ Some e → seek 0 rows (b ∷ path) ≡ Some e
unfolding seek
goes_on b rows path e h = rw h refl

-- the rows after these bytes
abbrev pub after : {K : Type 0} → List ℕ → RowsOf K → RowsOf K
after [] rows = rows
after (b ∷ front) rows = after front (step b rows)

-- what is found after these bytes is found with them
pub found_after : {K : Type 0} (front : List ℕ) (rows : RowsOf K) (path : List ℕ) (e : K) → seek 0 (after front rows) path ≡ Some e → seek 0 rows (front ++ path) ≡ Some e
found_after [] rows path e h = h
found_after (b ∷ front) rows path e h = goes_on b rows (front ++ path) e (found_after front (step b rows) path e h)

-- ---- parameters

-- the last parameter takes the rest of the path
last_parameter : {K : Type 0} (b : ℕ) (p : List ℕ) (e : K) → b < 256 → has_slash (b ∷ p) ≡ false → seek 0 ((256 ∷ [], e) ∷ []) (b ∷ p) ≡ Some e
unfolding seek param_step
last_parameter {K} b p e byte whole =
    let other : (256 == b) ≡ false = grind (arith, nat_tests) in
    let fewer : length (b ∷ p) - 1 ≡ length p = omega arith in
    rw (other, seek-nothing {K = K} 0 p, whole, fewer, seek-all p (([], e) ∷ [])) refl

pub segment_to : (p rest : List ℕ) → has_slash p ≡ false → segment (p ++ 47 ∷ rest) ≡ p ++ 47 ∷ []
segment_to [] rest h = refl
segment_to (b ∷ p) rest h = by (segment_to p rest) (b == 47) refl h
  where
    by : (has_slash p ≡ false → segment (p ++ 47 ∷ rest) ≡ p ++ 47 ∷ []) → (v : Bool) → (b == 47) ≡ v → cond v true (has_slash p) ≡ false
        → segment (b ∷ (p ++ 47 ∷ rest)) ≡ b ∷ (p ++ 47 ∷ [])
    by next true e k = absurd cc
    by next false e k = rw e (ap (λ xs. b ∷ xs) (next k))

-- a slash at the end of a segment leaves the parameter
cuts_slash : (b : ℕ) (p : List ℕ) → cuts ((b ∷ p) ++ 47 ∷ []) (47 ∷ []) ≡ true
cuts_slash b p =
    let long : length ((b ∷ p) ++ 47 ∷ []) ≡ length (b ∷ p) + 1 = length-append (b ∷ p) (47 ∷ []) in
    let some : ltb 1 (length (b ∷ p) + 1) ≡ true = grind (arith, nat_tests) in
    let less : length (b ∷ p) + 1 - 1 ≡ length (b ∷ p) = omega arith in
    rw (long, some, less, drop-append_seam) refl

-- a parameter that a slash follows takes what is before it
inner_parameter : {K : Type 0} (b : ℕ) (p tail rest : List ℕ) (e : K) → b < 256 → has_slash (b ∷ p) ≡ false → seek 0 ((tail, e) ∷ []) rest ≡ Some e
    → seek 0 ((256 ∷ 47 ∷ tail, e) ∷ []) ((b ∷ p) ++ 47 ∷ rest) ≡ Some e
unfolding seek param_step
inner_parameter {K} b p tail rest e byte whole found =
    let other : (256 == b) ≡ false = grind (arith, nat_tests) in
    let size : length ((b ∷ p) ++ 47 ∷ []) - 1 - 1 ≡ length p = omega (arith, length-append (b ∷ p) (47 ∷ [])) in
    let after_slash : seek 0 ((47 ∷ tail, e) ∷ []) (47 ∷ rest) ≡ Some e = goes_on 47 ((47 ∷ tail, e) ∷ []) rest e found in
    rw (other, seek-nothing {K = K} 0 (p ++ 47 ∷ rest), segment_to (b ∷ p) rest whole, cuts_slash b p, size, seek-skipped p ((47 ∷ tail, e) ∷ []) (47 ∷ rest), after_slash) refl

-- ---- the parameters of a path

-- the pattern of so many parameters
abbrev pub slots : Row → List ℕ
slots [] = 256 ∷ []
slots (q ∷ parameters) = 256 ∷ 47 ∷ slots parameters

-- each part is of bytes, and has no slash
abbrev pub AllParts : Row → Type 0
AllParts [] = Unit {0}
AllParts (p ∷ parts) = IsText p × (has_slash p ≡ false) × AllParts parts

-- parameters with slashes between them are found
pub found_parameters : {K : Type 0} (p : List ℕ) (parameters : Row) (e : K) → AllParts (p ∷ parameters) → are_parameters (length (p ∷ parameters)) (p ∷ parameters) ≡ true
    → seek 0 ((slots parameters, e) ∷ []) (join_with_byte 47 (p ∷ parameters)) ≡ Some e
found_parameters [] parameters e parts some = absurd cc
found_parameters (b ∷ p) [] e parts some = last_parameter b p e parts.0.0 parts.1
found_parameters (b ∷ p) (q ∷ parameters) e parts some =
    inner_parameter b p (slots parameters) (join_with_byte 47 (q ∷ parameters)) e parts.0.0 parts.1 (found_parameters q parameters e parts.2 (and_parts _ (are_parameters (length (q ∷ parameters)) (q ∷ parameters)) some).1)

onto_parts : (b : ℕ) (parts : Row) → b < 256 → (b == 47) ≡ false → AllParts parts → AllParts (onto_first b parts)
onto_parts b [] byte other h = ((byte, tt), rw other refl, tt)
onto_parts b (p ∷ parts) byte other h = ((byte, h.0), rw other h.1, h.2)

-- what stands between the slashes has none
pub split_parts : (path : List ℕ) → IsText path → AllParts (slice_split (λ b. b == 47) path)
split_parts [] text = (tt, refl, tt)
split_parts (b ∷ path) text = by (split_parts path text.1) (b == 47) refl
  where
    by : AllParts (slice_split (λ c. c == 47) path) → (v : Bool) → (b == 47) ≡ v
        → AllParts (cond v ([] ∷ slice_split (λ c. c == 47) path) (onto_first b (slice_split (λ c. c == 47) path)))
    by next true e = (tt, refl, next)
    by next false e = onto_parts b (slice_split (λ c. c == 47) path) text.0 e next
