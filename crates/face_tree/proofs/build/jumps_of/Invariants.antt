-- The faces from this one on have their jumps, and each face before it has itself; a face is no deeper than there are faces
-- above it.
use Rattle.std.proofs.Common.{◌≡◌, ◌<◌, ◌≤◌, ◌+◌, ℕ, length, slice_index}
use Rattle.std.specs.List.{All}
use Rattle.tgap_model.specs.History.{AreNumbered}
use Rattle.face_tree.specs.Tree.{FaceHistory, AreParents, IsJump, last_face}
use Rattle.face_tree.proofs.build.jumps_of.Given as goal

abbrev pub invariant-loop-face : goal.invariant-loop-face
invariant-loop-face l = record {
  count : length l.jumps.items ≡ length l.parents;
  depths : length l.depths.items ≡ length l.parents;
  inside : All (λ jump. jump < length l.jumps.items) l.jumps.items;
  shallow : (f : ℕ) → f < length l.parents → slice_index l.depths.items f + f ≤ length l.parents;
  own : (f : ℕ) → f < l.face → slice_index l.jumps.items f ≡ f;
  jumps : (t : FaceHistory) → AreNumbered t.faces t.steps → AreParents t l.parents → (f : ℕ) → l.face ≤ f → f ≤ last_face t
      → IsJump t f (slice_index l.jumps.items f);
}
