-- The loser and the winner of a step are faces.
use Rattle.std.proofs.Common.{◌≡◌, ◌<◌, ◌≤◌, ℕ, true, length, arith}
use Rattle.tgap_model.specs.Base.{BaseMap, is_base}
use Rattle.tgap_model.specs.Partition.{IsPartition, base_segments}
use Rattle.tgap_model.specs.History.{history_of}
use Rattle.tgap_model.specs.Merged.{merged, step_number}
use Rattle.record_laws.proofs.StepFacts.{step_numbered}
use Rattle.face_tree.specs.Tree.{IsFace, face_history}

pub step_faces : (m : BaseMap) → is_base m ≡ true → IsPartition (base_segments m) → (k : ℕ) → 0 < k → k ≤ length (history_of m)
    → IsFace (face_history (merged m)) (step_number (merged m) k).loser × IsFace (face_history (merged m)) (step_number (merged m) k).winner
step_faces m base planar k some within =
    let s = step_numbered m base planar k (omega (arith, some)) within in (
      record { above = s.loser.0; below = omega (arith, s.loser.1, within) },
      record { above = s.winner.0; below = omega (arith, s.winner.1, within) },
    )
