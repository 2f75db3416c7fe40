-- The jumps, from the greatest face down: that of a face is its parent, or leads on from it by two jumps.
use Rattle.std.proofs.Common.{◌≡◌, ◌≢◌, ◌<◌, ◌≤◌, ◌⊎◌, inl, inr, ℕ, ◌+◌, ◌-◌, List, length, get_or, set, Option, Some, None, sym, ap, ◌∙◌, subst, arith}
use Rattle.std.specs.List.{All}
use Rattle.std.proofs.lemmas.Bool.{cases_eq}
use Rattle.std.proofs.lemmas.List.{get_or-set_same, get_or-set_other, length-set}
use Rattle.std.proofs.lemmas.List.Elements.{All-set, All-get_or}
use Rattle.tgap_model.specs.History.{AreNumbered}
use Rattle.face_tree.specs.Tree.{FaceHistory, last_face, parent_of, AreParents, IsJump}
use Rattle.face_tree.proofs.Ways.{parent_above, label_parent}

-- the parent is a jump
jump_parent : (t : FaceHistory) (f p : ℕ) → AreNumbered t.faces t.steps → parent_of t f ≡ Some p → IsJump t f p
jump_parent t f p h e =
    let above = parent_above t.faces t.steps f p h e in
    record {
      below = above.2;
      above = omega (arith, above.0);
      up = λ q r. let same : p ≡ q = cc in omega arith;
      leads = λ k near. label_parent t.faces t.steps k f p h e near;
    }

-- a jump and one that follows it are a jump
jump_on : (t : FaceHistory) (f u v : ℕ) → IsJump t f u → IsJump t u v → IsJump t f v
jump_on t f u v first second = record {
  below = second.below;
  above = omega (arith, first.above, second.above);
  up = λ p e. omega (arith, first.up p e, second.above);
  leads = λ k near. first.leads k (omega (arith, second.above, near)) ∙ second.leads k near;
}

-- the jump of a face, by those of the faces above it
jump_of : (t : FaceHistory) (jumps : List ℕ) (f p u : ℕ) → AreNumbered t.faces t.steps → parent_of t f ≡ Some p
    → ((g : ℕ) → f + 1 ≤ g → g ≤ last_face t → IsJump t g (get_or jumps g 0))
    → (u ≡ p) ⊎ (u ≡ get_or jumps (get_or jumps p 0) 0) → IsJump t f u
jump_of t jumps f p u h e known (inl same) = subst (IsJump t f) (sym same) (jump_parent t f p h e)
jump_of t jumps f p u h e known (inr same) =
    let above = parent_above t.faces t.steps f p h e in
    let near = known p (omega (arith, above.0)) above.2 in
    let far = known (get_or jumps p 0) (omega (arith, above.0, near.above)) near.below in
    subst (IsJump t f) (sym same) (jump_on t f p _ (jump_parent t f p h e) (jump_on t p (get_or jumps p 0) _ near far))

-- with that, the faces from one face earlier on have their jumps
pub jumps_before : (t : FaceHistory) (parents : List (Option ℕ)) (jumps : List ℕ) (i p u : ℕ) → AreNumbered t.faces t.steps → AreParents t parents → 0 < i
    → i ≤ length parents → length jumps ≡ length parents → get_or parents (i - 1) None ≡ Some p
    → ((g : ℕ) → i ≤ g → g ≤ last_face t → IsJump t g (get_or jumps g 0)) → (u ≡ p) ⊎ (u ≡ get_or jumps (get_or jumps p 0) 0)
    → (f : ℕ) → i - 1 ≤ f → f ≤ last_face t → IsJump t f (get_or (set jumps (i - 1) u) f 0)
jumps_before t parents jumps i p u h stored some inside count e known jump f low high = elim (cases_eq f (i - 1)) [
  | inl same ↦
      let parent : parent_of t f ≡ Some p = sym (stored.value f high) ∙ (ap (λ (g : ℕ). get_or parents g None) same ∙ e) in
      let own = jump_of t jumps f p u h parent (λ g above below. known g (omega arith) below) jump in
      rw (same, get_or-set_same jumps (i - 1) u 0 (omega arith)) (subst (λ (g : ℕ). IsJump t g u) same own)
  | inr other ↦ rw (get_or-set_other jumps (i - 1) f u 0 other) (known f (omega arith) high)
]

-- a face is less deep than there are faces from it on, one deeper than its parent
pub shallow_before : (depths : List ℕ) (n i p d : ℕ) → length depths ≡ n → 0 < i → i ≤ n → i - 1 < p → p < n
    → ((f : ℕ) → f < n → get_or depths f 0 + f ≤ n) → d ≡ get_or depths p 0
    → (f : ℕ) → f < n → get_or (set depths (i - 1) (d + 1)) f 0 + f ≤ n
shallow_before depths n i p d count some inside above below known e f lt = elim (cases_eq f (i - 1)) [
  | inl same ↦ rw (same, get_or-set_same depths (i - 1) (d + 1) 0 (omega arith)) (omega (arith, known p below))
  | inr other ↦ rw (get_or-set_other depths (i - 1) f (d + 1) 0 other) (known f lt)
]

-- a face before it has itself
pub own_before : (jumps : List ℕ) (i u : ℕ) → 0 < i → ((f : ℕ) → f < i → get_or jumps f 0 ≡ f)
    → (f : ℕ) → f < i - 1 → get_or (set jumps (i - 1) u) f 0 ≡ f
own_before jumps i u some known f lt =
    let other : f ≢ i - 1 = omega arith in
    rw (get_or-set_other jumps (i - 1) f u 0 other) (known f (omega arith))

-- each jump leads to a face
pub jumps_inside : (jumps : List ℕ) (i p u : ℕ) → p < length jumps → All (λ j. j < length jumps) jumps → (u ≡ p) ⊎ (u ≡ get_or jumps (get_or jumps p 0) 0)
    → All (λ j. j < length (set jumps i u)) (set jumps i u)
jumps_inside jumps i p u inside known jump =
    let near : get_or jumps p 0 < length jumps = All-get_or (λ j. j < length jumps) jumps p 0 inside known in
    let far : get_or jumps (get_or jumps p 0) 0 < length jumps = All-get_or (λ j. j < length jumps) jumps (get_or jumps p 0) 0 near known in
    let here : u < length jumps = elim jump [ inl e ↦ omega (arith, e) | inr e ↦ omega (arith, e) ] in
    subst (λ (n : ℕ). All (λ j. j < n) (set jumps i u)) (sym (length-set jumps i u)) (All-set (λ j. j < length jumps) jumps i u here known)
