-- The arcs that vanish at a step are those between its loser and its winner.
use Rattle.std.proofs.Common.{◌≡◌, ◌≢◌, ◌⊎◌, inl, inr, ℕ, suc, ◌+◌, ◌-◌, ◌≤◌, ◌==◌, ◌&&◌, ◌||◌, not, Bool, true, false, cond, length, get_or, nat_le, ap, ◌∙◌, subst, arith}
use Rattle.std.proofs.Math.Bool.{and_comm, or_comm}
use Rattle.std.proofs.lemmas.Bool.{cases_eq, and_parts, leb-true}
use Rattle.std.proofs.lemmas.Bool.Decides.{nat_tests}
use Rattle.tgap_model.specs.declared.base.BaseArc.{BaseArc}
use Rattle.tgap_model.specs.declared.merge.MergeStep.{MergeStep}
use Rattle.tgap_model.specs.History.{relabel, AreNumbered, IsNumberedStep}
use Rattle.tgap_model.specs.Merged.{MergedMap, label_at, step_number}
use Rattle.tgap_model.specs.Chains.{Link, arc_number}
use Rattle.tgap_model.specs.Slice.{left_of, right_of}
use Rattle.tgap_model.specs.Records.{is_edge_between}
use Rattle.map_laws.specs.ChainLaws.{EndedEdgesVanish, vanishes, has_base_faces}
use Rattle.map_laws.proofs.MergeSteps.{numbered_at, label_next, label_bounded}

-- two labels of a map that has faces up to n differ, and become one by a step that makes face n + 1, exactly where they are its
-- loser and its winner
becomes_one : (n l w m x y : ℕ) → l ≢ w → m ≡ n + 1 → x ≤ n → y ≤ n
    → (not (x == y) && not (not (cond ((x == l) || (x == w)) m x == cond ((y == l) || (y == w)) m y))) ≡ (((x == l) && (y == w)) || ((x == w) && (y == l)))
becomes_one n l w m x y d e p q =
    elim (cases_eq x l) [
      | inl a ↦ elim (cases_eq y w) [
        | inl b ↦ grind (arith, nat_tests)
        | inr b ↦ elim (cases_eq y l) [ inl c ↦ grind (arith, nat_tests) | inr c ↦ grind (arith, nat_tests) ]
      ]
      | inr a ↦ elim (cases_eq x w) [
        | inl b ↦ elim (cases_eq y l) [ inl c ↦ grind (arith, nat_tests) | inr c ↦ grind (arith, nat_tests) ]
        | inr b ↦ elim (cases_eq y l) [
          | inl c ↦ grind (arith, nat_tests)
          | inr c ↦ elim (cases_eq y w) [ inl f ↦ grind (arith, nat_tests) | inr f ↦ grind (arith, nat_tests) ]
        ]
      ]
    ]

-- an arc whose labels before the step are those of an edge, in one order or the other
vanishes_by : (h : MergedMap) (j : ℕ) (a : BaseArc) (left right : ℕ) → AreNumbered (length h.base.classes) h.steps → 1 ≤ j → j ≤ length h.steps → has_base_faces h a ≡ true
    → ((label_at h (j - 1) a.left ≡ left) × (label_at h (j - 1) a.right ≡ right)) ⊎ ((label_at h (j - 1) a.left ≡ right) × (label_at h (j - 1) a.right ≡ left))
    → vanishes h j a ≡ (((left == (step_number h j).loser) && (right == (step_number h j).winner)) || ((left == (step_number h j).winner) && (right == (step_number h j).loser)))
vanishes_by h j a left right numbered some within faces labels =
    rw (after a.left, after a.right) (order labels)
  where
    n : ℕ
    n = length h.base.classes

    s : MergeStep
    s = step_number h j

    no_step : MergeStep
    no_step = record { loser = 0; winner = 0; made = 0 }

    is : IsNumberedStep (n + (j - 1)) s
    is = numbered_at n h.steps (j - 1) no_step numbered (omega (arith, some, within))

    before : j ≡ suc (j - 1)
    before = omega (arith, some)

    after : (f : ℕ) → label_at h j f ≡ relabel s (label_at h (j - 1) f)
    after f = ap (λ (k : ℕ). label_at h k f) before ∙ label_next h.steps (j - 1) no_step f (omega (arith, some, within))

    bounded : (f : ℕ) → f ≤ n → label_at h (j - 1) f ≤ n + (j - 1)
    bounded f le = label_bounded n h.steps (j - 1) f numbered (omega (arith, some, within)) le

    x : ℕ
    x = label_at h (j - 1) a.left

    y : ℕ
    y = label_at h (j - 1) a.right

    one : (not (x == y) && not (not (relabel s x == relabel s y))) ≡ (((x == s.loser) && (y == s.winner)) || ((x == s.winner) && (y == s.loser)))
    one = becomes_one (n + (j - 1)) s.loser s.winner s.made x y is.differ is.made
        (bounded a.left (leb-true a.left n (and_parts (nat_le a.left n) (nat_le a.right n) faces).0))
        (bounded a.right (leb-true a.right n (and_parts (nat_le a.left n) (nat_le a.right n) faces).1))

    exchange : (p q r t : Bool) → ((p && q) || (r && t)) ≡ ((t && r) || (q && p))
    exchange p q r t = or_comm (p && q) (r && t) ∙ ap (λ (b : Bool). b || (p && q)) (and_comm r t) ∙ ap (λ (b : Bool). (t && r) || b) (and_comm p q)

    order : ((x ≡ left) × (y ≡ right)) ⊎ ((x ≡ right) × (y ≡ left)) → (not (x == y) && not (not (relabel s x == relabel s y))) ≡ (((left == s.loser) && (right == s.winner)) || ((left == s.winner) && (right == s.loser)))
    order (inl e) = subst (λ (u : ℕ). (not (x == y) && not (not (relabel s x == relabel s y))) ≡ (((u == s.loser) && (right == s.winner)) || ((u == s.winner) && (right == s.loser)))) e.0
        (subst (λ (v : ℕ). (not (x == y) && not (not (relabel s x == relabel s y))) ≡ (((x == s.loser) && (v == s.winner)) || ((x == s.winner) && (v == s.loser)))) e.1 one)
    order (inr e) =
        subst (λ (u : ℕ). (not (x == y) && not (not (relabel s x == relabel s y))) ≡ (((left == s.loser) && (u == s.winner)) || ((left == s.winner) && (u == s.loser)))) e.0
        (subst (λ (v : ℕ). (not (x == y) && not (not (relabel s x == relabel s y))) ≡ (((v == s.loser) && (x == s.winner)) || ((v == s.winner) && (x == s.loser)))) e.1
        (one ∙ exchange (x == s.loser) (y == s.winner) (x == s.winner) (y == s.loser)))

pub ended_edges_vanish : EndedEdgesVanish
ended_edges_vanish h j removals c e numbered some within faces edge i d lt = at_link (get_or c i d) (faces i d lt) (edge.left i d lt) (edge.right i d lt)
  where
    at_link : (l : Link) → has_base_faces h (arc_number h.base.arcs l.arc) ≡ true → left_of h (j - 1) l ≡ e.left → right_of h (j - 1) l ≡ e.right
        → vanishes h j (arc_number h.base.arcs l.arc) ≡ is_edge_between (step_number h j).loser (step_number h j).winner e
    at_link l f p q = vanishes_by h j (arc_number h.base.arcs l.arc) e.left e.right numbered some within f (sides_of l.turned p q)
      where
        a : BaseArc
        a = arc_number h.base.arcs l.arc

        sides_of : (b : Bool) → label_at h (j - 1) (cond b a.right a.left) ≡ e.left → label_at h (j - 1) (cond b a.left a.right) ≡ e.right
            → ((label_at h (j - 1) a.left ≡ e.left) × (label_at h (j - 1) a.right ≡ e.right)) ⊎ ((label_at h (j - 1) a.left ≡ e.right) × (label_at h (j - 1) a.right ≡ e.left))
        sides_of true u v = inr (v, u)
        sides_of false u v = inl (u, v)
