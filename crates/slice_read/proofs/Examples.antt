-- The ends of the edges of worked maps, computed from the definition.
use Rattle.std.proofs.Common.{◌≡◌, ℕ, [], ◌∷◌, refl}
use Rattle.tgap_model.specs.Chains.{chains_at}
use Rattle.tgap_model.specs.History.{history_of, next_step}
use Rattle.map_laws.proofs.Examples.{two_squares, four_squares, hole_with_face}
use Rattle.map_laws.proofs.SliceExamples.{point, spike}
use Rattle.ring_walk.specs.declared.span.EdgeEnds.{EdgeEnds}
use Rattle.slice_read.specs.Ends.{slice_ends}

abbrev ends : ℕ → ℕ → ℕ → ℕ → EdgeEnds
ends x y z w = record { after_first = point x y; before_last = point z w }

two_squares_ends : slice_ends two_squares 0 ≡ ends 0 10 0 0 ∷ ends 20 0 20 10 ∷ ends 10 10 10 0 ∷ []
unfolding slice_ends chains_at history_of next_step
two_squares_ends = refl

-- the last edge runs along an arc and then against another one
four_squares_ends : slice_ends four_squares 2 ≡ ends 0 0 20 0 ∷ ends 20 20 0 20 ∷ ends 10 10 10 10 ∷ []
unfolding slice_ends chains_at history_of next_step
four_squares_ends = refl

hole_ends : slice_ends hole_with_face 0 ≡ ends 30 0 0 30 ∷ ends 20 10 10 20 ∷ []
unfolding slice_ends chains_at history_of next_step
hole_ends = refl

-- an edge leaves its node by its first arc and comes back to it by its last one
spike_ends : slice_ends spike 1 ≡ ends 0 40 60 40 ∷ []
unfolding slice_ends chains_at history_of next_step
spike_ends = refl
