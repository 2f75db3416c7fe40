-- Steps above the last one.
use Rattle.std.proofs.Common.{◌≡◌, ℕ, ◌<◌, ◌≤◌, true, false, List, length, Result, Ok, Err, nat_lt, refl, sym, ap, ◌∙◌, ◌↔◌, arith, if◌then◌else◌, inl, inr}
use Rattle.std.proofs.lemmas.Bool.{cases_lt}
use Rattle.std.proofs.lemmas.Bool.Decides.{nat_tests}
use Rattle.slice_read.specs.declared.fail.ReadFail.{ReadFail}
use Rattle.slice_read.specs.declared.fail.ReadFail.TheVariants.{StepTooHigh}
use Rattle.refine_packets.specs.declared.fail.PacketFail.{PacketFail}
use Rattle.refine_packets.specs.declared.fail.PacketFail.TheVariants as fail
use Rattle.tgap_model.specs.Base.{BaseMap}
use Rattle.tgap_model.specs.History.{history_of}
use Rattle.line_forms.specs.Texts.{step_too_high_text}
use Rattle.session.specs.declared.answer.Answer.{Answer}
use Rattle.session.specs.Answers.{plain, said, not_coarser_words, in_history, at_step, to_finer}

nat_lt_no : (n k : ℕ) → k ≤ n → nat_lt n k ≡ false
nat_lt_no n k h = grind (arith, nat_tests)

nat_lt_yes : (n k : ℕ) → n < k → nat_lt n k ≡ true
nat_lt_yes n k h = grind (arith, nat_tests)

-- the answer at a step that the history has
pub in_history_there : (m : BaseMap) (k : ℕ) (answer : Answer) → k ≤ length (history_of m) → in_history m k answer ≡ answer
in_history_there m k answer h =
    ap (λ b. if b then plain 400 (step_too_high_text (length (history_of m))) else answer) (nat_lt_no (length (history_of m)) k h)

-- and at one that it has not
pub in_history_above : (m : BaseMap) (k : ℕ) (answer : Answer) → length (history_of m) < k
    → in_history m k answer ≡ plain 400 (step_too_high_text (length (history_of m)))
in_history_above m k answer h =
    ap (λ b. if b then plain 400 (step_too_high_text (length (history_of m))) else answer) (nat_lt_yes (length (history_of m)) k h)

-- the text of a step that the history has
pub at_step_there : (m : BaseMap) (k : ℕ) (text : List ℕ) → k ≤ length (history_of m) → at_step m k text ≡ plain 200 text
at_step_there m k text h = in_history_there m k (plain 200 text) h

-- the text of one that it has not
pub at_step_above : (m : BaseMap) (k : ℕ) (text : List ℕ) → length (history_of m) < k
    → at_step m k text ≡ plain 400 (step_too_high_text (length (history_of m)))
at_step_above m k text h = in_history_above m k (plain 200 text) h

-- a reader that refuses exactly the steps above the last one, and gave something
pub gave : {A : Type 0} (r : Result A ReadFail) (x : A) (n k : ℕ) → r ≡ Ok x
    → ((steps : ℕ) → (r ≡ Err (StepTooHigh steps)) ↔ ((n < k) × (steps ≡ n))) → k ≤ n
gave r x n k e high = elim (cases_lt n k) [ inl h ↦ absurd (let f : Ok x ≡ Err (StepTooHigh n) = sym e ∙ (high n).1 (h, refl) in cc) | inr h ↦ h ]

-- the same of a maker of packets, which also refuses exactly those that would lead to a coarser slice
pub gave_packet : {A : Type 0} (r : Result A PacketFail) (x : A) (n from to : ℕ) → r ≡ Ok x → (r ≡ Err fail.NotCoarser) ↔ (from < to)
    → ((steps : ℕ) → (r ≡ Err (fail.StepTooHigh steps)) ↔ ((to ≤ from) × (n < from) × (steps ≡ n))) → (to ≤ from) × (from ≤ n)
gave_packet r x n from to e coarser high = elim (cases_lt from to) [
  | inl h ↦ absurd (let f : Ok x ≡ Err fail.NotCoarser = sym e ∙ coarser.1 h in cc)
  | inr h ↦ elim (cases_lt n from) [
    | inl k ↦ absurd (let f : Ok x ≡ Err (fail.StepTooHigh n) = sym e ∙ (high n).1 (h, k, refl) in cc)
    | inr k ↦ (h, k)
  ]
]

-- the answer with a text that leads to no coarser slice
pub finer_answer : (m : BaseMap) (from to : ℕ) (text : List ℕ) → to ≤ from → to_finer m from to text ≡ at_step m from text
finer_answer m from to text h = ap (λ b. if b then said 400 (not_coarser_words from to) else at_step m from text) (nat_lt_no from to h)
