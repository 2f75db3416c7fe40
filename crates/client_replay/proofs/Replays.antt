-- Records undone one after the other.
use Rattle.std.proofs.Common.{◌≡◌, ℕ, Bool, cond, List, [], ◌∷◌, Option, Some, None, sym, ap}
use Rattle.std.specs.Prelude.{fold}
use Rattle.std.proofs.lemmas.Bool.{eq-eqb, ne_eqb}
use Rattle.tgap_model.specs.declared.slice.Slice.{Slice}
use Rattle.tgap_model.specs.declared.record.StepRecord.{StepRecord}
use Rattle.tgap_model.specs.declared.record.Packet.{Packet}
use Rattle.tgap_model.specs.Records.{broken_rule, undo}
use Rattle.client_replay.specs.declared.unfit.Unfit.{Unfit}
use Rattle.client_replay.specs.Replaying.{undone, outcome}

pub some_never_none : {A : Type 0} (x : A) → Some x ≡ None → ⊥
some_never_none x e = cc

-- the packet begins at another step
pub other_step : (s : Slice) (p : Packet) → (s.step ≡ p.from → ⊥) → outcome s p ≡ (s, Some (record { step = p.from; rule = 1 }))
unfolding outcome
other_step s p ne = ap (λ (b : Bool). cond b (undone s p.steps) (s, Some (record { step = p.from; rule = 1 }))) (ne_eqb s.step p.from ne)

pub own_step : (s : Slice) (p : Packet) → s.step ≡ p.from → outcome s p ≡ undone s p.steps
unfolding outcome
own_step s p e = ap (λ (b : Bool). cond b (undone s p.steps) (s, Some (record { step = p.from; rule = 1 }))) (eq-eqb s.step p.from e)

-- what the first record makes
abbrev from_first : Slice → StepRecord → List StepRecord → Option ℕ → Slice × Option Unfit
from_first s r records o = elim o [ None ↦ undone (undo s r) records | Some rule ↦ (s, Some (record { step = r.step; rule = rule })) ]

pub first_fits : (s : Slice) (r : StepRecord) (records : List StepRecord) → broken_rule s r ≡ None → undone s (r ∷ records) ≡ undone (undo s r) records
first_fits s r records e = ap (from_first s r records) e

-- where all are undone, it is by one after the other
pub all_undone : (s : Slice) (records : List StepRecord) (t : Slice) → undone s records ≡ (t, None) → t ≡ fold undo s records
all_undone s [] t e = sym (ap (λ p. p.0) e)
all_undone s (r ∷ records) t e = by (broken_rule s r) e (all_undone (undo s r) records t)
  where
    by : (o : Option ℕ) → from_first s r records o ≡ (t, None) → (undone (undo s r) records ≡ (t, None) → t ≡ fold undo (undo s r) records) → t ≡ fold undo s (r ∷ records)
    by None g rest = rest g
    by (Some k) g rest = absurd (some_never_none (record { step = r.step; rule = k }) (ap (λ p. p.1) g))
