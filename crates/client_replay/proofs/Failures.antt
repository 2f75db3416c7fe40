-- The first test that fails.
use Rattle.std.proofs.Common.{◌≡◌, ℕ, ◌+◌, Bool, true, false, List, [], ◌∷◌, ◌++◌, length, Option, Some, None, refl, sym, ap, ◌∙◌, cond, true≢false, arith}
use Rattle.std.specs.Prelude.{◌==◌, ◌≤◌, nat_le}
use Rattle.std.specs.List.{list_all}
use Rattle.std.proofs.lemmas.Bool.{and_parts, eqb-true, leb-true}
use Rattle.tgap_model.specs.declared.slice.Slice.{Slice}
use Rattle.tgap_model.specs.declared.record.StepRecord.{StepRecord}
use Rattle.tgap_model.specs.Records.{broken_rule, first_failure, fits_step, fits_faces, fits_mends, fits_puts, fits_pieces, fits_ended, fits_keys}
use Rattle.client_replay.specs.Rules.{broken_before}

-- a test that fails is told where those before it pass
pub passed : (i : ℕ) (a : Bool) (tests : List Bool) (r : Option ℕ) → a ≡ true → r ≡ first_failure (i + 1) tests → r ≡ first_failure i (a ∷ tests)
passed i a tests r h e = e ∙ sym (ap (λ (b : Bool). cond b (first_failure (i + 1) tests) (Some i)) h)

pub failed : (i : ℕ) (a : Bool) (tests : List Bool) → a ≡ false → Some i ≡ first_failure i (a ∷ tests)
failed i a tests h = sym (ap (λ (b : Bool). cond b (first_failure (i + 1) tests) (Some i)) h)

-- what fails among the first tests fails among all
pub failure_kept : (i : ℕ) (tests more : List Bool) (k : ℕ) → first_failure i tests ≡ Some k → first_failure i (tests ++ more) ≡ Some k
failure_kept i [] more k e = cc
failure_kept i (true ∷ tests) more k e = failure_kept (i + 1) tests more k e
failure_kept i (false ∷ tests) more k e = e

some_is_not_none : (i : ℕ) → Some i ≡ None → ⊥
some_is_not_none i e = cc

pub failure_later : (i : ℕ) (tests more : List Bool) → first_failure i tests ≡ None → (first_failure i (tests ++ more) ≡ first_failure (i + length tests) more) × (list_all (λ b. b) tests ≡ true)
failure_later i [] more e = (ap (λ n. first_failure n more) (omega arith), refl)
failure_later i (true ∷ tests) more e =
    let rest = failure_later (i + 1) tests more e in (rest.0 ∙ ap (λ n. first_failure n more) (omega arith), rest.1)
failure_later i (false ∷ tests) more e = absurd (some_is_not_none i e)

-- a rule that is broken among the first six is the least
pub broken_first : (s : Slice) (r : StepRecord) (k : ℕ) → broken_before s r ≡ Some k → broken_rule s r ≡ Some k
unfolding broken_before broken_rule
broken_first s r k e =
    failure_kept 1 (fits_step s r ∷ fits_faces s r ∷ fits_mends s r ∷ fits_puts s r ∷ fits_pieces s r ∷ fits_ended s r ∷ []) (fits_keys s r ∷ []) k e

-- the first six rules are kept
pub record KeepsSix (s : Slice) (r : StepRecord) : Type 0 where
  pub step : fits_step s r ≡ true
  pub faces : fits_faces s r ≡ true
  pub mends : fits_mends s r ≡ true
  pub puts : fits_puts s r ≡ true
  pub pieces : fits_pieces s r ≡ true
  pub ended : fits_ended s r ≡ true

-- those of them that speak of mends
pub record KeepsMends (s : Slice) (r : StepRecord) : Type 0 where
  pub mends : fits_mends s r ≡ true
  pub puts : fits_puts s r ≡ true
  pub pieces : fits_pieces s r ≡ true

pub keeps_mends : (s : Slice) (r : StepRecord) → KeepsSix s r → KeepsMends s r
keeps_mends s r six = record { mends = six.mends; puts = six.puts; pieces = six.pieces }

pub six_of : (a b c d e f : Bool) → list_all (λ b. b) (a ∷ b ∷ c ∷ d ∷ e ∷ f ∷ []) ≡ true
    → (a ≡ true) × (b ≡ true) × (c ≡ true) × (d ≡ true) × (e ≡ true) × (f ≡ true)
six_of true true true true true true h = (refl, refl, refl, refl, refl, refl)
six_of true true true true true false h = absurd (true≢false (sym h))
six_of true true true true false f h = absurd (true≢false (sym h))
six_of true true true false e f h = absurd (true≢false (sym h))
six_of true true false d e f h = absurd (true≢false (sym h))
six_of true false c d e f h = absurd (true≢false (sym h))
six_of false b c d e f h = absurd (true≢false (sym h))

pub keeps_six : (s : Slice) (r : StepRecord) → broken_before s r ≡ None → KeepsSix s r
unfolding broken_before
keeps_six s r e =
    let all = failure_later 1 (fits_step s r ∷ fits_faces s r ∷ fits_mends s r ∷ fits_puts s r ∷ fits_pieces s r ∷ fits_ended s r ∷ []) [] e in
    let six = six_of (fits_step s r) (fits_faces s r) (fits_mends s r) (fits_puts s r) (fits_pieces s r) (fits_ended s r) all.1 in
    record { step = six.0; faces = six.1; mends = six.2; puts = six.3; pieces = six.4; ended = six.5 }

-- the seventh decides then
pub broken_seventh : (s : Slice) (r : StepRecord) → broken_before s r ≡ None → broken_rule s r ≡ cond (fits_keys s r) None (Some 7)
unfolding broken_before broken_rule
broken_seventh s r e =
    (failure_later 1 (fits_step s r ∷ fits_faces s r ∷ fits_mends s r ∷ fits_puts s r ∷ fits_pieces s r ∷ fits_ended s r ∷ []) (fits_keys s r ∷ []) e).0

-- what rule 1 says of the slice's step
pub step_at_least_one : (s : Slice) (r : StepRecord) → fits_step s r ≡ true → 1 ≤ s.step
step_at_least_one s r h =
    let p = and_parts (s.step == r.step) (nat_le 1 r.step) h in
    omega (arith, eqb-true s.step r.step p.0, leb-true 1 r.step p.1)

-- where no rule is broken none of the first six is
pub none_before : (s : Slice) (r : StepRecord) → broken_rule s r ≡ None → broken_before s r ≡ None
none_before s r e = by (broken_before s r) refl
  where
    by : (o : Option ℕ) → broken_before s r ≡ o → o ≡ None
    by None f = refl
    by (Some k) f = let told = broken_first s r k f in cc

-- the rule that is told, by the first of six tests that fails
module _ (a b c d e f : Bool) where
  abbrev pub told : Option ℕ
  told = first_failure 1 (a ∷ b ∷ c ∷ d ∷ e ∷ f ∷ [])

  pub first : a ≡ false → Some 1 ≡ told
  first h1 = failed 1 a (b ∷ c ∷ d ∷ e ∷ f ∷ []) h1

  pub second : a ≡ true → b ≡ false → Some 2 ≡ told
  second h1 h2 = passed 1 a (b ∷ c ∷ d ∷ e ∷ f ∷ []) (Some 2) h1 (failed 2 b (c ∷ d ∷ e ∷ f ∷ []) h2)

  pub third : a ≡ true → b ≡ true → c ≡ false → Some 3 ≡ told
  third h1 h2 h3 = passed 1 a (b ∷ c ∷ d ∷ e ∷ f ∷ []) (Some 3) h1 (passed 2 b (c ∷ d ∷ e ∷ f ∷ []) (Some 3) h2 (failed 3 c (d ∷ e ∷ f ∷ []) h3))

  pub fourth : a ≡ true → b ≡ true → c ≡ true → d ≡ false → Some 4 ≡ told
  fourth h1 h2 h3 h4 =
      passed 1 a (b ∷ c ∷ d ∷ e ∷ f ∷ []) (Some 4) h1 (passed 2 b (c ∷ d ∷ e ∷ f ∷ []) (Some 4) h2
      (passed 3 c (d ∷ e ∷ f ∷ []) (Some 4) h3 (failed 4 d (e ∷ f ∷ []) h4)))

  pub fifth : a ≡ true → b ≡ true → c ≡ true → d ≡ true → e ≡ false → Some 5 ≡ told
  fifth h1 h2 h3 h4 h5 =
      passed 1 a (b ∷ c ∷ d ∷ e ∷ f ∷ []) (Some 5) h1 (passed 2 b (c ∷ d ∷ e ∷ f ∷ []) (Some 5) h2
      (passed 3 c (d ∷ e ∷ f ∷ []) (Some 5) h3 (passed 4 d (e ∷ f ∷ []) (Some 5) h4 (failed 5 e (f ∷ []) h5))))

  pub sixth : a ≡ true → b ≡ true → c ≡ true → d ≡ true → e ≡ true → f ≡ false → Some 6 ≡ told
  sixth h1 h2 h3 h4 h5 h6 =
      passed 1 a (b ∷ c ∷ d ∷ e ∷ f ∷ []) (Some 6) h1 (passed 2 b (c ∷ d ∷ e ∷ f ∷ []) (Some 6) h2
      (passed 3 c (d ∷ e ∷ f ∷ []) (Some 6) h3 (passed 4 d (e ∷ f ∷ []) (Some 6) h4 (passed 5 e (f ∷ []) (Some 6) h5 (failed 6 f [] h6)))))

  pub none_fails : a ≡ true → b ≡ true → c ≡ true → d ≡ true → e ≡ true → f ≡ true → None ≡ told
  none_fails h1 h2 h3 h4 h5 h6 =
      passed 1 a (b ∷ c ∷ d ∷ e ∷ f ∷ []) None h1 (passed 2 b (c ∷ d ∷ e ∷ f ∷ []) None h2
      (passed 3 c (d ∷ e ∷ f ∷ []) None h3 (passed 4 d (e ∷ f ∷ []) None h4 (passed 5 e (f ∷ []) None h5 (passed 6 f [] None h6 refl)))))
