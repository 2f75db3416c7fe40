-- The segments that a line crosses, from top to bottom, row by row: in each row at most one level segment, and between two rows at most
-- the two halves of one upright arc. The line is one half beyond v, with n whole abscissas from 0 on at its left, of which the last 16
-- or fewer begin at column i. Which segments it crosses follows from which nodes and bends of this column stand at its left.
use Rattle.std.proofs.Common.{◌≡◌, ◌⊎◌, inl, inr, ℕ, zero, suc, ◌+◌, ◌-◌, ◌*◌, ◌<◌, ◌≤◌, List, [], ◌∷◌, Option, Some, None, refl, sym, ap, ◌∙◌, subst, arith}
use Rattle.std.proofs.lemmas.Int.{ints}
use Rattle.std.proofs.lemmas.Bool.{cases_lt}
use Rattle.tgap_model.specs.declared.segment.LabelledSegment.{LabelledSegment}
use Rattle.tgap_model.specs.Partition.{sides}
use Rattle.generator.proofs.Rungs.{Rung, IsStep, AreSteps}
use Rattle.generator.proofs.Layouts.{Layout, IsLayout, level_first, level_second, upright_first, upright_second}
use Rattle.generator.proofs.Strips.{sides_rightward, sides_leftward}

-- the faces above and below a segment
abbrev pub upper_face : LabelledSegment → ℕ
upper_face s = (sides s).upper

abbrev pub lower_face : LabelledSegment → ℕ
lower_face s = (sides s).lower

module _ (l : Layout) (n i : ℕ) where
  -- an abscissa is at the left of the line, or at its right
  abbrev pub Side : ℕ → Type 0
  Side x = (x < n) ⊎ (n ≤ x)

  -- ---- the level segment of row j: behind the node of the column, or before it

  abbrev pub behind_node : ℕ → (i < l.size) ⊎ (l.size ≤ i) → Side (16 * i + 8) → Option LabelledSegment
  behind_node j (inl p) (inl q) = Some (level_second l i j)
  behind_node j (inl p) (inr q) = Some (level_first l i j)
  behind_node j (inr p) q = None

  abbrev pub before_node : ℕ → (0 < i) ⊎ (i ≤ 0) → (l.size < i) ⊎ (i ≤ l.size) → Option LabelledSegment
  before_node j (inl p) (inl q) = None
  before_node j (inl p) (inr q) = Some (level_second l (i - 1) j)
  before_node j (inr p) q = None

  abbrev pub level_at : (j : ℕ) → Side (l.node_x i j) → Option LabelledSegment
  level_at j (inl p) = behind_node j (cases_lt i l.size) (cases_lt (16 * i + 8) n)
  level_at j (inr p) = before_node j (cases_lt 0 i) (cases_lt l.size i)

  -- ---- the halves of upright arc j of the column: the upper one, and the lower one

  abbrev pub upper_at : (j : ℕ) → Side (l.bend_x i j) → Side (l.node_x i (j + 1)) → (l.size < i) ⊎ (i ≤ l.size) → Option LabelledSegment
  upper_at j (inl p) (inl q) r = None
  upper_at j (inl p) (inr q) (inl r) = None
  upper_at j (inl p) (inr q) (inr r) = Some (upright_second l i j)
  upper_at j (inr p) (inl q) (inl r) = None
  upper_at j (inr p) (inl q) (inr r) = Some (upright_second l i j)
  upper_at j (inr p) (inr q) r = None

  abbrev pub lower_at : (j : ℕ) → Side (l.node_x i j) → Side (l.bend_x i j) → (l.size < i) ⊎ (i ≤ l.size) → Option LabelledSegment
  lower_at j (inl p) (inl q) r = None
  lower_at j (inl p) (inr q) (inl r) = None
  lower_at j (inl p) (inr q) (inr r) = Some (upright_first l i j)
  lower_at j (inr p) (inl q) (inl r) = None
  lower_at j (inr p) (inl q) (inr r) = Some (upright_first l i j)
  lower_at j (inr p) (inr q) r = None

  -- ---- all of them, with the faces between them

  -- the region in which the line is, beside a node or a bend of the column
  abbrev pub beside : {x : ℕ} → Side x → ℕ
  beside (inl p) = i + 1
  beside (inr p) = i

  abbrev pub node_side : (j : ℕ) → Side (l.node_x i j)
  node_side j = cases_lt (l.node_x i j) n

  abbrev pub bend_side : (j : ℕ) → Side (l.bend_x i j)
  bend_side j = cases_lt (l.bend_x i j) n

  abbrev pub level_rung : ℕ → Rung LabelledSegment
  level_rung j = record { member = level_at j (node_side j); under = l.region (beside (node_side j)) j }

  abbrev pub upper_rung : ℕ → Rung LabelledSegment
  upper_rung j = record { member = upper_at j (bend_side j) (node_side (j + 1)) (cases_lt l.size i); under = l.region (beside (bend_side j)) (j + 1) }

  abbrev pub lower_rung : ℕ → Rung LabelledSegment
  lower_rung j = record { member = lower_at j (node_side j) (bend_side j) (cases_lt l.size i); under = l.region (beside (node_side j)) (j + 1) }

  -- from row j down
  abbrev pub rungs : ℕ → List (Rung LabelledSegment)
  rungs zero = level_rung 0 ∷ []
  rungs (suc j) = level_rung (j + 1) ∷ upper_rung j ∷ lower_rung j ∷ rungs j

  -- ---- each leads from the face above it to the one below

  module _ (is : IsLayout l) where
    behind_step : (j : ℕ) (p : (i < l.size) ⊎ (l.size ≤ i)) (q : Side (16 * i + 8)) → IsStep upper_face lower_face (l.region (i + 1) (j + 1)) (behind_node j p q) (l.region (i + 1) j)
    behind_step j (inl p) (inl q) = let x = is.node_x (i + 1) j in sides_rightward (level_second l i j) (omega (arith, ints))
    behind_step j (inl p) (inr q) = let x = is.node_x i j in sides_rightward (level_first l i j) (omega (arith, ints))
    behind_step j (inr p) q = is.behind_all (i + 1) (j + 1) (omega arith) ∙ sym (is.behind_all (i + 1) j (omega arith))

    before_step : (j : ℕ) (p : (0 < i) ⊎ (i ≤ 0)) (q : (l.size < i) ⊎ (i ≤ l.size)) → IsStep upper_face lower_face (l.region i (j + 1)) (before_node j p q) (l.region i j)
    before_step j (inl p) (inl q) = is.behind_all i (j + 1) q ∙ sym (is.behind_all i j q)
    before_step j (inl p) (inr q) =
        let x = is.node_x (i - 1 + 1) j in
        let same : i - 1 + 1 ≡ i = omega arith in
        let faces = sides_rightward (level_second l (i - 1) j) (omega (arith, ints)) in
        (faces.0 ∙ ap (λ (a : ℕ). l.region a (j + 1)) same, faces.1 ∙ ap (λ (a : ℕ). l.region a j) same)
    before_step j (inr p) q =
        let none : i ≡ 0 = omega arith in
        subst (λ (a : ℕ). l.region a (j + 1) ≡ l.region a j) (sym none) (is.before_all (j + 1) ∙ sym (is.before_all j))

    level_step : (j : ℕ) (d : Side (l.node_x i j)) → IsStep upper_face lower_face (l.region (beside d) (j + 1)) (level_at j d) (l.region (beside d) j)
    level_step j (inl p) = behind_step j (cases_lt i l.size) (cases_lt (16 * i + 8) n)
    level_step j (inr p) = before_step j (cases_lt 0 i) (cases_lt l.size i)

    -- beyond the last column all is outside
    outside : (b : ℕ) → l.size < i → l.region i b ≡ l.region (i + 1) b
    outside b h = is.behind_all i b h ∙ sym (is.behind_all (i + 1) b (omega arith))

    upper_step : (j : ℕ) (d : Side (l.bend_x i j)) (e : Side (l.node_x i (j + 1))) (r : (l.size < i) ⊎ (i ≤ l.size))
        → IsStep upper_face lower_face (l.region (beside e) (j + 1)) (upper_at j d e r) (l.region (beside d) (j + 1))
    upper_step j (inl p) (inl q) r = refl
    upper_step j (inl p) (inr q) (inl r) = outside (j + 1) r
    upper_step j (inl p) (inr q) (inr r) = sides_rightward (upright_second l i j) (omega (arith, ints))
    upper_step j (inr p) (inl q) (inl r) = sym (outside (j + 1) r)
    upper_step j (inr p) (inl q) (inr r) = sides_leftward (upright_second l i j) (omega (arith, ints))
    upper_step j (inr p) (inr q) r = refl

    lower_step : (j : ℕ) (d : Side (l.node_x i j)) (e : Side (l.bend_x i j)) (r : (l.size < i) ⊎ (i ≤ l.size))
        → IsStep upper_face lower_face (l.region (beside e) (j + 1)) (lower_at j d e r) (l.region (beside d) (j + 1))
    lower_step j (inl p) (inl q) r = refl
    lower_step j (inl p) (inr q) (inl r) = outside (j + 1) r
    lower_step j (inl p) (inr q) (inr r) = sides_rightward (upright_first l i j) (omega (arith, ints))
    lower_step j (inr p) (inl q) (inl r) = sym (outside (j + 1) r)
    lower_step j (inr p) (inl q) (inr r) = sides_leftward (upright_first l i j) (omega (arith, ints))
    lower_step j (inr p) (inr q) r = refl

    -- from the face above row j
    abbrev face_over : ℕ → ℕ
    face_over j = l.region (beside (node_side j)) (j + 1)

    steps_from : (j : ℕ) → AreSteps upper_face lower_face (face_over j) (rungs j) 0
    steps_from zero = (level_step 0 (node_side 0), is.below_all (beside (node_side 0)))
    steps_from (suc j) =
        let one : j + 1 ≡ suc j = omega arith in
        subst (λ (m : ℕ). AreSteps upper_face lower_face (face_over m) (rungs (suc j)) 0) one (
          level_step (j + 1) (node_side (j + 1)),
          (upper_step j (bend_side j) (node_side (j + 1)) (cases_lt l.size i), (lower_step j (node_side j) (bend_side j) (cases_lt l.size i), steps_from j)),
        )

    -- and outside above all
    pub all_steps : AreSteps upper_face lower_face 0 (rungs l.size) 0
    all_steps = subst (λ (u : ℕ). AreSteps upper_face lower_face u (rungs l.size) 0) (is.above_all (beside (node_side l.size)) (l.size + 1) (omega arith)) (steps_from l.size)
