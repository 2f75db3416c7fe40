-- One more face has its jump.
use Rattle.std.proofs.Common.{arith, ◌≡◌, ◌<◌, ◌⊎◌, ℕ, ◌-◌, ◌+◌, ◌∙◌, subst, ◌≤◌, List, length, Some, None, slice_index, slice_index_or}
use Rattle.std.proofs.lemmas.List.{length-set, get_or_read}
use Rattle.face_tree.proofs.Jumps.{jumps_before, jumps_inside, shallow_before, own_before}
use Rattle.face_tree.proofs.build.jumps_of.Goals as goal

pub loop-face-preserved-in-Some : goal.loop-face-preserved-in-Some
loop-face-preserved-in-Some c =
    let parents = c.args.parents.now in
    let i = c.loop-face.face in
    let p = c.in-Some.parent in
    let u = c.jump_over.result in
    let known = c.loop-face.invariant in
    let jumps = c.loop-face.jumps.items in
    let depths = c.loop-face.depths.items in
    let first : 0 < i = omega arith in
    let last : i ≤ length parents = omega arith in
    let e : slice_index_or parents (i - 1) None ≡ Some p = c.in-Some.is in
    let above : i - 1 < p = c.requires.ascending.above (i - 1) p (omega arith) e in
    let below : p < length parents = c.requires.ascending.below (i - 1) p (omega arith) e in
    let jump : (u ≡ p) ⊎ (u ≡ slice_index jumps (slice_index jumps p)) =
    subst (λ (js : List ℕ). (u ≡ p) ⊎ (u ≡ slice_index js (slice_index js p))) c.deref.ensures.value c.jump_over.ensures in
    let deep = get_or_read depths p c.index.result.now (omega (arith, known.depths)) c.index.ensures 0 in
    record {
      count = length-set jumps (i - 1) u ∙ known.count;
      depths = length-set depths (i - 1) (c.index.result.now + 1) ∙ known.depths;
      inside = jumps_inside jumps (i - 1) p u (omega (arith, known.count)) known.inside jump;
      shallow = shallow_before depths (length parents) i p c.index.result.now known.depths first last above below known.shallow deep;
      own = own_before jumps i u first known.own;
      jumps = λ t h stored. jumps_before t parents jumps i p u h stored first last known.count e (known.jumps t h stored) jump;
    }
