-- What one step of the history leaves: no new borders, so no greater degrees, and the steps at which degrees became two.
use Rattle.std.proofs.Common.{◌≡◌, inl, inr, ℕ, zero, suc, ◌+◌, ◌<◌, ◌≤◌, ◌==◌, ◌||◌, ◌&&◌, Bool, true, false, cond, nat_lt, length, refl, sym, ap, ◌∙◌, subst, arith}
use Rattle.std.specs.Prelude.{unwrap_or}
use Rattle.std.proofs.lemmas.Bool.{and_from, and_left, or_from, or_right, not-false, not_from_true, ne_eqb, eq-eqb, eqb-true, le-ltb, cases_eq, true≢false}
use Rattle.tgap_model.specs.declared.geometry.Point.{Point}
use Rattle.tgap_model.specs.declared.base.BaseArc.{BaseArc}
use Rattle.tgap_model.specs.declared.merge.MergeStep.{MergeStep}
use Rattle.tgap_model.specs.Segment.{point_before}
use Rattle.tgap_model.specs.History.{relabel}
use Rattle.tgap_model.specs.Merged.{MergedMap, label_at, is_border}
use Rattle.tgap_model.specs.Chains.{ends_at, degree, step_of_two, joins_before}
use Rattle.map_laws.proofs.Lists.{sum_less, find_some, find_longer, find_last}
use Rattle.map_laws.proofs.MergeSteps.{label_next}

module _ (h : MergedMap) where
  no_step : MergeStep
  no_step = record { loser = 0; winner = 0; made = 0 }

  -- labels that are one stay one
  labels_stay : (k f g : ℕ) → k < length h.steps → label_at h k f ≡ label_at h k g → label_at h (suc k) f ≡ label_at h (suc k) g
  labels_stay k f g l e = label_next h.steps k no_step f l ∙ ap (relabel _) e ∙ sym (label_next h.steps k no_step g l)

  -- a border was one before
  border_earlier : (k : ℕ) (a : BaseArc) → k < length h.steps → is_border h (suc k) a ≡ true → is_border h k a ≡ true
  border_earlier k a l e = by (is_border h k a) refl
    where
      by : (b : Bool) → is_border h k a ≡ b → b ≡ true
      by true f = refl
      by false f =
          let one = labels_stay k a.left a.right l (eqb-true _ _ (not-false _ f)) in
          absurd (true≢false (sym e ∙ not_from_true _ (eq-eqb _ _ one)))

  -- so no degree grows
  degree_falls : (k : ℕ) (p : Point) → k < length h.steps → degree h (suc k) p ≤ degree h k p
  degree_falls k p l =
      sum_less (λ a. cond (is_border h (suc k) a) (ends_at p a) 0) (λ a. cond (is_border h k a) (ends_at p a) 0) h.base.arcs
      (λ a m. less (is_border h (suc k) a) (is_border h k a) (ends_at p a) (border_earlier k a l))
    where
      less : (b c : Bool) (n : ℕ) → (b ≡ true → c ≡ true) → cond b n 0 ≤ cond c n 0
      less true true n on = omega arith
      less true false n on = absurd (true≢false (sym (on refl)))
      less false c n on = omega arith

  degree_below : (j k : ℕ) (p : Point) → j ≤ k → k ≤ length h.steps → degree h k p ≤ degree h j p
  degree_below j zero p l u =
      let same : j ≡ 0 = omega arith in
      subst (λ (n : ℕ). degree h zero p ≤ degree h n p) (sym same) (omega arith)
  degree_below j (suc k) p l u =
      elim (cases_eq j (suc k)) [
        | inl e ↦ subst (λ (n : ℕ). degree h (suc k) p ≤ degree h n p) (sym e) (omega arith)
        | inr ne ↦ omega (arith, degree_below j k p (omega arith) (omega arith), degree_falls k p (omega arith))
      ]

  module _ (k : ℕ) (l : k < length h.steps) where
    next : k + 1 ≡ suc k
    next = omega arith

    -- a border after step k + 1 was one before it
    pub border_before : (a : BaseArc) → is_border h (k + 1) a ≡ true → is_border h k a ≡ true
    border_before a e = border_earlier k a l (ap (λ (n : ℕ). is_border h n a) (sym next) ∙ e)

    -- and no degree is greater after the step
    pub degree_less : (p : Point) → degree h (k + 1) p ≤ degree h k p
    degree_less p = degree_below k (k + 1) p (omega arith) (omega arith)

    -- a degree that is two before the step became two by then
    pub two_before : (p : Point) → degree h k p ≡ 2 → (step_of_two h (k + 1) p ≡ step_of_two h k p) × (step_of_two h k p ≤ k)
    two_before p two =
        let test : ℕ → Bool = λ (j : ℕ). degree h j p == 2 in
        let found = find_some test 0 (k + 1) k (omega arith) (omega arith) (eq-eqb (degree h k p) 2 two) in
        let more = find_longer test 0 (k + 1) (k + 1 + 1) found.0 (omega arith) found.1 in
        let here : step_of_two h k p ≡ found.0 = ap (λ o. unwrap_or o k) found.1 in
        let there : step_of_two h (k + 1) p ≡ found.0 = ap (λ o. unwrap_or o (k + 1)) more in
        (there ∙ sym here, omega (arith, here, found.2))

    -- and one that is two only after the step becomes two with it
    pub two_after : (p : Point) → degree h (k + 1) p ≡ 2 → (degree h k p ≡ 2 → ⊥) → step_of_two h (k + 1) p ≡ k + 1
    two_after p two other =
        let test : ℕ → Bool = λ (j : ℕ). degree h j p == 2 in
        let zero_on : 0 + (k + 1) ≡ k + 1 = omega arith in
        let found = find_last test 0 (k + 1) (k + 1 + 1) (omega arith)
        (λ j low high. ne_eqb (degree h j p) 2 (λ e. other (omega (
          arith,
          e,
          two,
          degree_below j k p (omega arith) (omega arith),
          degree_less p,
        ))))
        (ap test zero_on ∙ eq-eqb (degree h (k + 1) p) 2 two) in
        ap (λ o. unwrap_or o (k + 1)) found ∙ zero_on

    -- ---- the order of joining

    -- two nodes of degree two join in the same order after the step
    pub order_stays : (p q : Point) → degree h k p ≡ 2 → degree h k q ≡ 2 → joins_before h (k + 1) p q ≡ joins_before h k p q
    order_stays p q two other =
        ap (λ (n : ℕ). nat_lt n (step_of_two h (k + 1) q) || ((n == step_of_two h (k + 1) q) && point_before p q)) (two_before p two).0
        ∙ ap (λ (n : ℕ). nat_lt (step_of_two h k p) n || ((step_of_two h k p == n) && point_before p q)) (two_before q other).0

    -- a node whose degree becomes two joins before none that had degree two
    pub order_new : (p q : Point) → degree h (k + 1) p ≡ 2 → (degree h k p ≡ 2 → ⊥) → degree h k q ≡ 2 → joins_before h (k + 1) p q ≡ false
    order_new p q two new other =
        let a = two_after p two new in
        let b = two_before q other in
        or_from (nat_lt (step_of_two h (k + 1) p) (step_of_two h (k + 1) q)) _
        (le-ltb (step_of_two h (k + 1) p) (step_of_two h (k + 1) q) (omega (arith, a, b.0, b.1)))
        (and_left (step_of_two h (k + 1) p == step_of_two h (k + 1) q) (point_before p q)
        (ne_eqb (step_of_two h (k + 1) p) (step_of_two h (k + 1) q) (λ e. absurd (omega (arith, e, a, b.0, b.1)))))

    -- two nodes whose degrees become two join in the order of points
    pub order_both : (p q : Point) → degree h (k + 1) p ≡ 2 → (degree h k p ≡ 2 → ⊥) → degree h (k + 1) q ≡ 2 → (degree h k q ≡ 2 → ⊥)
        → point_before p q ≡ true → joins_before h (k + 1) p q ≡ true
    order_both p q two new other also before =
        or_right (nat_lt (step_of_two h (k + 1) p) (step_of_two h (k + 1) q)) _
        (and_from (step_of_two h (k + 1) p == step_of_two h (k + 1) q) (point_before p q)
        (eq-eqb _ _ (two_after p two new ∙ sym (two_after q other also))) before)
