-- The areas told so far are those of the losers of the steps so far, none of them is too large, and each face of the map after them has its area.
use Rattle.std.proofs.Common.{◌≡◌, ◌≤◌, drop, unsigned_abs, All}
use Rattle.tgap_model.specs.Bounds.{max_area}
use Rattle.tgap_model.specs.Merged.{MergedMap}
use Rattle.face_merge.specs.Areas.{first_lost_areas}
use Rattle.face_merge.proofs.Reached.{IsReached, state_at}
use Rattle.face_merge.proofs.areas.lost_areas.Given as goal

abbrev pub invariant-loop-step : goal.invariant-loop-step
invariant-loop-step l =
    let h : MergedMap = record { base = l.base; steps = l.steps } in
    record {
      told : l.lost ≡ first_lost_areas h l.step-index;
      small : All (λ area. unsigned_abs area ≤ max_area) l.lost;
      reached : IsReached (state_at h l.step-index) l.areas.items (drop l.step-index l.steps);
    }
