-- What a step makes of labels: those that become one become the new face, and a face that is not the new one was there before.
use Rattle.std.proofs.Common.{◌≡◌, ◌≢◌, ◌⊎◌, inl, inr, ℕ, suc, ◌+◌, ◌-◌, ◌<◌, ◌==◌, Bool, true, false, not, cond, length, get_or, eq-eqb, ne_eqb, refl, sym, ap, ◌∙◌, arith}
use Rattle.std.proofs.lemmas.Bool.{cases_eq, not-false, eqb-true}
use Rattle.tgap_model.specs.declared.merge.MergeStep.{MergeStep}
use Rattle.tgap_model.specs.History.{relabel}
use Rattle.tgap_model.specs.Merged.{MergedMap, label_at, step_number, is_border}
use Rattle.tgap_model.specs.Chains.{Link, arc_number}
use Rattle.tgap_model.specs.Slice.{left_of, right_of}
use Rattle.tgap_model.specs.Records.{in_place_of}
use Rattle.map_laws.proofs.ChainEnds.{turn}
use Rattle.map_laws.proofs.MergeSteps.{label_next, relabel_loser, relabel_winner, relabel_other}

-- a label that stays, or one that becomes the new face
pub relabel_cases : (s : MergeStep) (x : ℕ) → (relabel s x ≡ x) ⊎ ((relabel s x ≡ s.made) × ((x ≡ s.loser) ⊎ (x ≡ s.winner)))
relabel_cases s x = elim (cases_eq x s.loser) [
  | inl a ↦ inr (relabel_loser s x a, inl a)
  | inr a ↦ elim (cases_eq x s.winner) [
    | inl b ↦ inr (relabel_winner s x b, inr b)
    | inr b ↦ inl (relabel_other s x a b)
  ]
]

-- two labels that become one become the new face
pub merged_label : (s : MergeStep) (x y : ℕ) → x ≢ y → relabel s x ≡ relabel s y → relabel s x ≡ s.made
merged_label s x y ne e = elim (relabel_cases s x) [
  | inr a ↦ a.0
  | inl a ↦ elim (relabel_cases s y) [
    | inr b ↦ e ∙ b.0
    | inl b ↦ absurd (ne (sym a ∙ e ∙ b))
  ]
]

-- a label that does not become the new face stays
pub relabel_stays : (s : MergeStep) (x : ℕ) → relabel s x ≢ s.made → relabel s x ≡ x
relabel_stays s x ne = elim (relabel_cases s x) [ inl a ↦ a | inr a ↦ absurd (ne a.0) ]

-- where the new face is replaced by what a label was, and nothing else is
pub replaced_side : (s : MergeStep) (x y : ℕ) → (relabel s x ≡ s.made → y ≡ x) → in_place_of s.made y (relabel s x) ≡ x
replaced_side s x y same = elim (cases_eq (relabel s x) s.made) [
  | inl e ↦ ap (λ (b : Bool). cond b y (relabel s x)) (eq-eqb (relabel s x) s.made e) ∙ same e
  | inr ne ↦ ap (λ (b : Bool). cond b y (relabel s x)) (ne_eqb (relabel s x) s.made ne) ∙ relabel_stays s x ne
]

-- ---- the sides of a link

-- turned round its faces are exchanged
pub turn_faces : (h : MergedMap) (k : ℕ) (d : Link) → (left_of h k (turn d) ≡ right_of h k d) × (right_of h k (turn d) ≡ left_of h k d)
turn_faces h k d = (
  by d.turned (arc_number h.base.arcs d.arc).right (arc_number h.base.arcs d.arc).left,
  by d.turned (arc_number h.base.arcs d.arc).left (arc_number h.base.arcs d.arc).right,
)
  where
    by : (t : Bool) (m n : ℕ) → label_at h k (cond (not t) m n) ≡ label_at h k (cond t n m)
    by true m n = refl
    by false m n = refl

-- a link whose arc is no border has one face at both sides
pub inside_faces : (h : MergedMap) (k : ℕ) (d : Link) → is_border h k (arc_number h.base.arcs d.arc) ≡ false → left_of h k d ≡ right_of h k d
inside_faces h k d e = by d.turned (eqb-true _ _ (not-false _ e))
  where
    by : (t : Bool) → label_at h k (arc_number h.base.arcs d.arc).left ≡ label_at h k (arc_number h.base.arcs d.arc).right
        → label_at h k (cond t (arc_number h.base.arcs d.arc).right (arc_number h.base.arcs d.arc).left)
        ≡ label_at h k (cond t (arc_number h.base.arcs d.arc).left (arc_number h.base.arcs d.arc).right)
    by true e = sym e
    by false e = e

module _ (h : MergedMap) (k : ℕ) (small : k < length h.steps) where
  -- a label after the step
  pub label_up : (f : ℕ) → label_at h (k + 1) f ≡ relabel (step_number h (k + 1)) (label_at h k f)
  label_up f =
      let next : k + 1 ≡ suc k = omega arith in
      let back : k ≡ k + 1 - 1 = omega arith in
      ap (λ (n : ℕ). label_at h n f) next ∙ label_next h.steps k (record { loser = 0; winner = 0; made = 0 }) f small
      ∙ ap (λ (n : ℕ). relabel (get_or h.steps n (record { loser = 0; winner = 0; made = 0 })) (label_at h k f)) back

  -- and the faces of a link
  pub left_up : (d : Link) → left_of h (k + 1) d ≡ relabel (step_number h (k + 1)) (left_of h k d)
  left_up d = label_up (cond d.turned (arc_number h.base.arcs d.arc).right (arc_number h.base.arcs d.arc).left)

  pub right_up : (d : Link) → right_of h (k + 1) d ≡ relabel (step_number h (k + 1)) (right_of h k d)
  right_up d = label_up (cond d.turned (arc_number h.base.arcs d.arc).left (arc_number h.base.arcs d.arc).right)

-- ---- from the faces of an edge after a step to those of a part of it before it

module _ (s : MergeStep) (x y l r : ℕ) (is_left : l ≡ relabel s x) (is_right : r ≡ relabel s y) (apart : l ≢ r) where
  pub left_back : in_place_of s.made (cond (l == s.made) x y) l ≡ x
  left_back =
      ap (in_place_of s.made (cond (l == s.made) x y)) is_left
      ∙ replaced_side s x (cond (l == s.made) x y) (λ e. ap (λ (b : Bool). cond b x y) (eq-eqb l s.made (is_left ∙ e)))

  pub right_back : in_place_of s.made (cond (l == s.made) x y) r ≡ y
  right_back =
      ap (in_place_of s.made (cond (l == s.made) x y)) is_right
      ∙ replaced_side s y (cond (l == s.made) x y) (λ e. ap (λ (b : Bool). cond b x y) (ne_eqb l s.made (λ f. apart (f ∙ sym e ∙ sym is_right))))
