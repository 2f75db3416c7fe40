-- The rules of a record against a slice, one after the other.
use Rattle.std.specs.Prelude.{ℕ, Bool, true, false, ◌&&◌, ◌||◌, not, nat_lt, ◌==◌, List, [], ◌∷◌, map, length, ◌+◌, ◌-◌, Option, Some, None}
use Rattle.std.specs.List.{list_all, list_any}
use Rattle.lemmas.specs.Sorting.{is_sorted_by}
use Rattle.tgap_model.specs.declared.slice.Slice.{Slice}
use Rattle.tgap_model.specs.declared.slice.Edge.{Edge}
use Rattle.tgap_model.specs.declared.record.Mend.{Mend}
use Rattle.tgap_model.specs.declared.record.StepRecord.{StepRecord}
use Rattle.tgap_model.specs.Records.{fits_step, fits_faces, fits_mends, fits_puts, fits_pieces, fits_ended, first_failure, has_face, has_one_side, edge_with, puts_fit, starts_after_zero, ends_with_place}

-- the number of the first of the first six rules that is broken; the seventh speaks of the edges after the change
unfoldable pub broken_before : Slice → StepRecord → Option ℕ
broken_before s r =
    first_failure 1
    (fits_step s r ∷ fits_faces s r ∷ fits_mends s r ∷ fits_puts s r ∷ fits_pieces s r ∷ fits_ended s r ∷ [])

-- rule 2: the slice has the new face with the winner's class, and neither loser nor winner
abbrev pub has_made : Slice → StepRecord → Bool
has_made s r = list_any (λ f. (f.face == r.made) && (f.class == r.winner_class)) s.faces

abbrev pub has_faces : Slice → StepRecord → Bool
has_faces s r = has_made s r && not (has_face s r.loser) && not (has_face s r.winner)

-- rule 2: the three faces differ
abbrev pub are_apart : ℕ → ℕ → ℕ → Bool
are_apart loser winner made = not (loser == winner) && not (loser == made) && not (winner == made)

-- rule 2: none is the outside
abbrev pub are_faces : ℕ → ℕ → ℕ → Bool
are_faces loser winner made = not (loser == 0) && not (winner == 0) && not (made == 0)

-- rule 3 for one mend
abbrev pub names_edge : Slice → StepRecord → Mend → Bool
names_edge s r m = elim (edge_with s m.key) [ None ↦ false | Some e ↦ has_one_side r.made e ]

-- rule 4 for one mend
abbrev pub mend_puts_fit : Slice → Mend → Bool
mend_puts_fit s m =
    is_sorted_by nat_lt (map (λ p. p.at) m.puts) && elim (edge_with s m.key) [ None ↦ true | Some e ↦ puts_fit e.points m.puts ]

-- rule 5 for one mend: the last piece ends where the edge ends, after its puts
abbrev pub reaches_end : Slice → Mend → Bool
reaches_end s m =
    elim (edge_with s m.key) [ None ↦ true | Some e ↦ ends_with_place (length e.points + length m.puts - 1) (map (λ p. p.last) m.pieces) ]

abbrev pub mend_pieces_fit : Slice → StepRecord → Mend → Bool
mend_pieces_fit s r m =
    is_sorted_by nat_lt (map (λ p. p.last) m.pieces) && starts_after_zero (map (λ p. p.last) m.pieces) && reaches_end s m
    && list_all (λ p. (p.side == r.loser) || (p.side == r.winner)) m.pieces

-- what of a slice and a record is needed to read them: that the edges stand in the order of their keys
abbrev pub are_in_order : List Edge → Bool
are_in_order edges = is_sorted_by nat_lt (map (λ e. e.key) edges)

abbrev pub mends_in_order : List Mend → Bool
mends_in_order mends = is_sorted_by nat_lt (map (λ m. m.key) mends)
