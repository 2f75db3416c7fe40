-- The trace of a worked map: a square with a spike, of which a step takes out the spike and then a vertex on a straight line.
use Rattle.std.proofs.Common.{◌≡◌, [], ◌∷◌, refl}
use Rattle.tgap_model.specs.Chains.{chains_at}
use Rattle.tgap_model.specs.Clear.{is_clear}
use Rattle.tgap_model.specs.History.{next_step, history_of}
use Rattle.tgap_model.specs.Merged.{merged}
use Rattle.tgap_model.specs.Removals.{is_removable, sweep, removals_to}
use Rattle.map_laws.proofs.Examples.{points_of}
use Rattle.map_laws.proofs.SliceExamples.{point, edge, spike}
use Rattle.removal_laws.specs.Trace.{trace_to, edges_after_sweep}

spike_trace : trace_to (merged spike) 1 ≡
    record {
      step = 1;
      before = [];
      edge = edge 0 3 0 (40 ∷ 40 ∷ 0 ∷ 40 ∷ 4 ∷ 20 ∷ 0 ∷ 0 ∷ 40 ∷ 0 ∷ 60 ∷ 0 ∷ 60 ∷ 40 ∷ 40 ∷ 40 ∷ []);
      after = [];
      front = points_of (40 ∷ 40 ∷ []);
      a = point 0 40;
      b = point 4 20;
      c = point 0 0;
      rest = points_of (40 ∷ 0 ∷ 60 ∷ 0 ∷ 60 ∷ 40 ∷ 40 ∷ 40 ∷ []);
    }
    ∷ record {
      step = 1;
      before = [];
      edge = edge 0 3 0 (40 ∷ 40 ∷ 0 ∷ 40 ∷ 0 ∷ 0 ∷ 40 ∷ 0 ∷ 60 ∷ 0 ∷ 60 ∷ 40 ∷ 40 ∷ 40 ∷ []);
      after = [];
      front = points_of (40 ∷ 40 ∷ 0 ∷ 40 ∷ []);
      a = point 0 0;
      b = point 40 0;
      c = point 60 0;
      rest = points_of (60 ∷ 40 ∷ 40 ∷ 40 ∷ []);
    } ∷ []
unfolding removals_to sweep is_removable is_clear chains_at history_of next_step
spike_trace = refl

-- what is left after the sweep
spike_swept : edges_after_sweep (merged spike) 1 ≡ edge 0 3 0 (40 ∷ 40 ∷ 0 ∷ 40 ∷ 0 ∷ 0 ∷ 60 ∷ 0 ∷ 60 ∷ 40 ∷ 40 ∷ 40 ∷ []) ∷ []
unfolding removals_to sweep is_removable is_clear chains_at history_of next_step
spike_swept = refl
