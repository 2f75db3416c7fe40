-- Runs, pieces and packets of four squares round one node, computed from the words of the laws.
use Rattle.std.proofs.Common.{◌≡◌, ◌==◌, true, false, nat_lt, [], ◌∷◌, map, refl}
use Rattle.std.specs.Prelude.{count_by}
use Rattle.lemmas.specs.Sorting.{sort_by}
use Rattle.tgap_model.specs.Clear.{is_clear}
use Rattle.tgap_model.specs.Chains.{key, chains_at}
use Rattle.tgap_model.specs.Removals.{is_removable, sweep, removals_to}
use Rattle.tgap_model.specs.Slice.{slice_at}
use Rattle.tgap_model.specs.Records.{packet_of, pieces_from, undo, broken_rule}
use Rattle.map_laws.specs.ChainLaws.{chains_left}
use Rattle.map_laws.proofs.SliceExamples.{four_squares_merged, ahead, back, point}
use Rattle.record_laws.specs.RunLaws.{chain_of_run, is_turned_run, all_runs}
use Rattle.record_laws.specs.PieceLaws.{cut_points}
use Rattle.record_laws.specs.PacketLaws.{each_fits}

-- ---- the second step: of five chains before it one is turned round

runs_2 : all_runs four_squares_merged 2 ≡ (ahead 0 ∷ ahead 1 ∷ []) ∷ (ahead 2 ∷ []) ∷ (ahead 3 ∷ []) ∷ (ahead 5 ∷ []) ∷ (back 7 ∷ []) ∷ []
unfolding chains_at
runs_2 = refl

turned_2 : map (is_turned_run (chains_at four_squares_merged 1)) (all_runs four_squares_merged 2) ≡ false ∷ false ∷ false ∷ false ∷ true ∷ []
unfolding chains_at
turned_2 = refl

-- the chains of the runs are those that the step leaves: not the one with arc 6, which ends
left_2 : sort_by (λ c d. nat_lt (key c) (key d)) (map (chain_of_run (chains_at four_squares_merged 1)) (all_runs four_squares_merged 2))
    ≡ chains_left four_squares_merged 1
unfolding chains_at
left_2 = refl

ended_2 : count_by (λ r. key (chain_of_run (chains_at four_squares_merged 1) r) == 6) (all_runs four_squares_merged 2) ≡ 0
unfolding chains_at
ended_2 = refl

-- the points of the chain through the middle are cut there, and the second piece is turned back
cut_2 : cut_points (point 20 10 ∷ point 10 10 ∷ point 0 10 ∷ []) 0
    (pieces_from four_squares_merged 2 true (chains_at four_squares_merged 1) [] 0 ((ahead 5 ∷ []) ∷ (back 7 ∷ []) ∷ []))
    ≡ (point 20 10 ∷ point 10 10 ∷ []) ∷ (point 0 10 ∷ point 10 10 ∷ []) ∷ []
unfolding chains_at
cut_2 = refl

-- ---- the last step: a ring that starts at its anchor, at the end of a run

runs_3 : all_runs four_squares_merged 3 ≡ (ahead 2 ∷ ahead 3 ∷ []) ∷ (ahead 0 ∷ ahead 1 ∷ []) ∷ []
unfolding chains_at
runs_3 = refl

-- ---- all steps

all_fit : each_fits (slice_at four_squares_merged 3) (packet_of four_squares_merged 3 0).steps ≡ true
unfolding broken_rule undo packet_of removals_to sweep is_removable is_clear chains_at
all_fit = refl
