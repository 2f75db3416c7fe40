-- Arcs that are changed one after another, by a list of slots.
use Rattle.std.proofs.Common.{◌≡◌, ◌∙◌, ℕ, zero, suc, ◌≤◌, ◌<◌, eqb, Bool, true, false, List, [], ◌∷◌, length, map, set, refl, sym, ap, subst, arith}
use Rattle.std.proofs.lemmas.Bool.{false≢true, false_from_ne_true, eqb-true, eq-eqb}
use Rattle.tgap_model.specs.declared.base.BaseArc.{BaseArc}
use Rattle.tgap_model.specs.Chains.{arc_number}
use Rattle.edit_laws.proofs.Cases.{by_test}
use Rattle.arc_places.specs.Places.{arc_passes, is_among}
use Rattle.arc_places.proofs.Listed.{passes_past}
use Rattle.map_version.proofs.Listed.{next_same}

pub passes_set_other : (test : BaseArc → Bool) (arcs : List BaseArc) (j i : ℕ) (b : BaseArc) → eqb j i ≡ false → arc_passes test (set arcs j b) i ≡ arc_passes test arcs i
passes_set_other test [] j i b e = refl
passes_set_other test (a ∷ arcs) zero zero b e = absurd (false≢true (sym e ∙ eq-eqb 0 0 refl))
passes_set_other test (a ∷ arcs) zero (suc i) b e = refl
passes_set_other test (a ∷ arcs) (suc j) zero b e = refl
passes_set_other test (a ∷ arcs) (suc j) (suc i) b e = passes_set_other test arcs j i b (sym (next_same j i) ∙ e)

pub passes_set_here : (test : BaseArc → Bool) (arcs : List BaseArc) (j : ℕ) (b : BaseArc) → j < length arcs → arc_passes test (set arcs j b) j ≡ test b
passes_set_here test [] j b lt = absurd (omega arith)
passes_set_here test (a ∷ arcs) zero b lt = refl
passes_set_here test (a ∷ arcs) (suc j) b lt = passes_set_here test arcs j b (omega arith)

-- a change of the arcs that pass a test: made twice it is as made once, afterwards none passes, and the others stay
pub record IsChange (change : BaseArc → BaseArc) (touches : BaseArc → Bool) : Type 0 where
  pub twice : (a : BaseArc) → change (change a) ≡ change a
  pub done : (a : BaseArc) → touches (change a) ≡ false
  pub stays : (a : BaseArc) → touches a ≡ false → change a ≡ a

-- Some arcs are changed. Those that still are to be are listed.
pub record IsChanging (change : BaseArc → BaseArc) (touches : BaseArc → Bool) (from arcs : List BaseArc) (left : List ℕ) : Type 0 where
  pub same : map change arcs ≡ map change from
  pub left_over : (i : ℕ) → arc_passes touches arcs i ≡ true → is_among i left ≡ true

one_changed : (change : BaseArc → BaseArc) → ((a : BaseArc) → change (change a) ≡ change a) → (arcs : List BaseArc) (j : ℕ)
    → map change (set arcs j (change (arc_number arcs j))) ≡ map change arcs
one_changed change twice [] j = refl
one_changed change twice (a ∷ arcs) zero = ap (λ (b : BaseArc). b ∷ map change arcs) (twice a)
one_changed change twice (a ∷ arcs) (suc j) = ap (λ (rest : List BaseArc). change a ∷ rest) (one_changed change twice arcs j)

pub changing_on : {change : BaseArc → BaseArc} {touches : BaseArc → Bool} → IsChange change touches → (from arcs : List BaseArc) (j : ℕ) (left : List ℕ) → j < length arcs
    → IsChanging change touches from arcs (j ∷ left) → IsChanging change touches from (set arcs j (change (arc_number arcs j))) left
changing_on {change} {touches} h from arcs j left lt changing =
    record {
      same = one_changed change h.twice arcs j ∙ changing.same;
      left_over = λ i e. by_test (eqb j i)
          (λ t. absurd (false≢true (
          let here = passes_set_here touches arcs j (change (arc_number arcs j)) lt in
          let at_i = subst (λ (n : ℕ). arc_passes touches (set arcs j (change (arc_number arcs j))) n ≡ true) (sym (eqb-true j i t)) e in
          sym (here ∙ h.done (arc_number arcs j)) ∙ at_i)))
          (λ f. rw f at (changing.left_over i (sym (passes_set_other touches arcs j i (change (arc_number arcs j)) f) ∙ e)));
    }

pub changing_past : {change : BaseArc → BaseArc} {touches : BaseArc → Bool} → (from arcs : List BaseArc) (j : ℕ) (left : List ℕ) → length arcs ≤ j
    → IsChanging change touches from arcs (j ∷ left) → IsChanging change touches from arcs left
changing_past {change} {touches} from arcs j left le changing =
    record {
      same = changing.same;
      left_over = λ i e. by_test (eqb j i)
          (λ t. absurd (false≢true (sym (passes_past touches arcs i (let same = eqb-true j i t in omega arith)) ∙ e)))
          (λ f. rw f at (changing.left_over i e));
    }

all_stay : (change : BaseArc → BaseArc) (touches : BaseArc → Bool) → ((a : BaseArc) → touches a ≡ false → change a ≡ a) → (arcs : List BaseArc)
    → ((i : ℕ) → arc_passes touches arcs i ≡ false) → map change arcs ≡ arcs
all_stay change touches stays [] none = refl
all_stay change touches stays (a ∷ arcs) none =
    ap (λ (b : BaseArc). b ∷ map change arcs) (stays a (none 0))
    ∙ ap (λ (rest : List BaseArc). a ∷ rest) (all_stay change touches stays arcs (λ i. none (suc i)))

pub changing_done : {change : BaseArc → BaseArc} {touches : BaseArc → Bool} → IsChange change touches → (from arcs : List BaseArc)
    → IsChanging change touches from arcs [] → arcs ≡ map change from
changing_done {change} {touches} h from arcs changing =
    sym (all_stay change touches h.stays arcs (λ i. false_from_ne_true (arc_passes touches arcs i) (λ e. false≢true (changing.left_over i e)))) ∙ changing.same
