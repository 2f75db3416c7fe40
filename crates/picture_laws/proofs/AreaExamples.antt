-- Computed from the definitions: the areas of a worked map, a square with a spike that the vertex removal takes out; and how often
-- a square goes round a point.
use Rattle.std.proofs.Common.{◌≡◌, ℕ, pos, negsuc, List, [], ◌∷◌, refl}
use Rattle.std.specs.Prelude.{sum_by}
use Rattle.tgap_model.specs.declared.geometry.Fraction.{Fraction}
use Rattle.tgap_model.specs.declared.geometry.Seg.{Seg}
use Rattle.tgap_model.specs.Point.{area2}
use Rattle.tgap_model.specs.Segment.{is_above}
use Rattle.tgap_model.specs.Clear.{is_clear}
use Rattle.tgap_model.specs.History.{next_step, history_of}
use Rattle.tgap_model.specs.Merged.{merged}
use Rattle.tgap_model.specs.Chains.{chains_at}
use Rattle.tgap_model.specs.Removals.{is_removable, sweep, removals_to}
use Rattle.tgap_model.specs.Slice.{slice}
use Rattle.map_laws.proofs.SliceExamples.{spike, point}
use Rattle.removal_laws.specs.Trace.{Taken, trace_to}
use Rattle.picture_laws.specs.Areas.{area_in, base_faces, base_area, lost_by, removed_along}
use Rattle.picture_laws.specs.FaceRings.{winding}

-- ---- a spike

-- the two faces make one of 60 by 40, less the spike
spike_base : base_area (merged spike) (base_faces (merged spike) 1 3) ≡ pos 4640
unfolding history_of next_step
spike_base = refl

-- of which the spike is taken out
spike_area : area_in (slice spike 1).edges 3 ≡ pos 4800
unfolding slice removals_to sweep is_removable is_clear chains_at history_of next_step
spike_area = refl

-- so the face got its triangle
spike_lost : lost_by (merged spike) 1 3 (trace_to (merged spike) 1) ≡ negsuc 159
unfolding removals_to sweep is_removable is_clear chains_at history_of next_step
spike_lost = refl

-- and the outside lost it
outside_lost : lost_by (merged spike) 1 0 (trace_to (merged spike) 1) ≡ pos 160
unfolding removals_to sweep is_removable is_clear chains_at history_of next_step
outside_lost = refl

spike_bound : sum_by (λ (t : Taken). area2 t.a t.b t.c) (removed_along (merged spike) 1 3) ≡ 160
unfolding removals_to sweep is_removable is_clear chains_at history_of next_step
spike_bound = refl

-- ---- a square

abbrev segment : ℕ → ℕ → ℕ → ℕ → Seg
segment x y u v = record { a = point x y; b = point u v }

abbrev half : ℕ → ℕ → Fraction
half x y = record { nx = pos x; ny = pos y; d = pos 2 }

-- counter-clockwise, and clockwise
abbrev square : List Seg
square = segment 0 0 10 0 ∷ segment 10 0 10 10 ∷ segment 10 10 0 10 ∷ segment 0 10 0 0 ∷ []

abbrev turned_square : List Seg
turned_square = segment 0 0 0 10 ∷ segment 0 10 10 10 ∷ segment 10 10 10 0 ∷ segment 10 0 0 0 ∷ []

round_inside : winding (half 11 10) square ≡ pos 1
unfolding is_above
round_inside = refl

turned_round_inside : winding (half 11 10) turned_square ≡ negsuc 0
unfolding is_above
turned_round_inside = refl

-- below it two of its segments are over the point, one each way
below_it : winding (record { nx = pos 11; ny = negsuc 9; d = pos 2 }) square ≡ pos 0
unfolding is_above
below_it = refl

-- beside it none is
beside_it : winding (half 21 10) square ≡ pos 0
unfolding is_above
beside_it = refl
