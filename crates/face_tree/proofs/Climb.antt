-- The way up by parents and jumps, from face to face.
use Rattle.std.proofs.Common.{◌≡◌, ◌<◌, ◌≤◌, ℕ, ◌+◌, List, length, get_or, Option, Some, None, sym, ◌∙◌, subst, arith}
use Rattle.std.proofs.lemmas.List.{get_or_read}
use Rattle.face_tree.specs.Tree.{FaceHistory, last_face, parent_of, IsJump, IsUp, IsTop, IsTree}
use Rattle.face_tree.proofs.Ways.{parent_above, label_parent, label_itself}
use Rattle.face_tree.proofs.Live.{top_live}

-- what is read at a face
pub read_parent : (t : FaceHistory) (parents : List (Option ℕ)) (jumps tops : List ℕ) (f : ℕ) (o : Option ℕ) → IsTree t parents jumps tops → f ≤ last_face t
    → o ≡ get_or parents f o → o ≡ parent_of t f
read_parent t parents jumps tops f o h inside read =
    get_or_read parents f o (omega (arith, h.are_parents.count)) read None ∙ h.are_parents.value f inside

pub read_jump : (t : FaceHistory) (parents : List (Option ℕ)) (jumps tops : List ℕ) (f u : ℕ) → IsTree t parents jumps tops → f ≤ last_face t → u ≡ get_or jumps f u → IsJump t f u
read_jump t parents jumps tops f u h inside read =
    let same = get_or_read jumps f u (omega (arith, h.are_jumps.count)) read 0 in
    subst (IsJump t f) (sym same) (h.are_jumps.value f inside)

-- by a jump that is none too far
pub up_jump : (t : FaceHistory) (parents : List (Option ℕ)) (jumps tops : List ℕ) (k f p u : ℕ) → IsTree t parents jumps tops → Some p ≡ parent_of t f → IsJump t f u
    → u ≤ t.faces + k → IsUp t k f u
up_jump t parents jumps tops k f p u h parent jump near =
    let above = parent_above t.faces t.steps f p h.numbered (sym parent) in
    record { above = omega (arith, above.0, jump.up p (sym parent)); below = near; label = jump.leads k near }

-- by the parent
pub up_parent : (t : FaceHistory) (parents : List (Option ℕ)) (jumps tops : List ℕ) (k f p : ℕ) → IsTree t parents jumps tops → Some p ≡ parent_of t f
    → p ≤ t.faces + k → IsUp t k f p
up_parent t parents jumps tops k f p h parent near =
    let above = parent_above t.faces t.steps f p h.numbered (sym parent) in
    record { above = above.0; below = near; label = label_parent t.faces t.steps k f p h.numbered (sym parent) near }

-- at a root there is no way up
pub up_root : (t : FaceHistory) (parents : List (Option ℕ)) (jumps tops : List ℕ) (k f : ℕ) → IsTree t parents jumps tops → k ≤ length t.steps → f ≤ t.faces + k
    → None ≡ parent_of t f → IsTop t k f
up_root t parents jumps tops k f h inside made root =
    let own = label_itself t.faces t.steps k f h.numbered (λ p e. absurd cc) in
    record { label = own; live = top_live t k f h.numbered h.live inside made own }

-- nor is there one at a face whose parent is made later
pub up_late : (t : FaceHistory) (parents : List (Option ℕ)) (jumps tops : List ℕ) (k f p : ℕ) → IsTree t parents jumps tops → k ≤ length t.steps → f ≤ t.faces + k
    → Some p ≡ parent_of t f → t.faces + k < p → IsTop t k f
up_late t parents jumps tops k f p h inside made parent late =
    let own = label_itself t.faces t.steps k f h.numbered (λ q e. let same : p ≡ q = cc in omega arith) in
    record { label = own; live = top_live t k f h.numbered h.live inside made own }
