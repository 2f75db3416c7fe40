-- Journals over two squares, and what each comes to, computed from the definitions.
use Rattle.std.proofs.Common.{◌≡◌, ℕ, pos, List, [], ◌∷◌, refl, Some, None, Ok, Err, codes}
use Rattle.std.specs.Fmt.{digits}
use Rattle.tgap_model.specs.declared.geometry.Point.{Point}
use Rattle.tgap_model.specs.declared.base.BaseArc.{BaseArc}
use Rattle.tgap_model.specs.Base.{BaseMap}
use Rattle.tgap_model.specs.Segment.{any_common, common_point, turns_before, is_higher}
use Rattle.tgap_model.specs.Partition.{arc_fault, map_fault}
use Rattle.tgap_model.specs.Keeping.{KeptEntry}
use Rattle.line_forms.specs.Texts.{number_of}
use Rattle.edit_laws.specs.Edits.{move_point}
use Rattle.journal_fold.specs.declared.fail.FoldFail.TheVariants.{Entry, Long}
use Rattle.journal_fold.specs.JournalFolds.{map_after, maps_from, places_of, journal_maps}

abbrev points_of : List ℕ → List Point
points_of [] = []
points_of (x ∷ []) = []
points_of (x ∷ y ∷ more) = record { x = pos x; y = pos y } ∷ points_of more

abbrev arc : ℕ → ℕ → List ℕ → BaseArc
arc left right coordinates = record { left = left; right = right; points = points_of coordinates }

-- two squares side by side, the upper right corner at some point
abbrev squares : ℕ → ℕ → BaseMap
squares x y = record {
  transform = record { sx = pos 1; sy = pos 1; tx = pos 0; ty = pos 0 };
  rules = record { ratio = 0; weights = 1 ∷ 1 ∷ []; compat = 1 ∷ 1 ∷ 1 ∷ 1 ∷ [] };
  classes = 0 ∷ 1 ∷ [];
  arcs =
      arc 1 0 (10 ∷ 10 ∷ 0 ∷ 10 ∷ 0 ∷ 0 ∷ 10 ∷ 0 ∷ []) ∷ arc 2 0 (10 ∷ 0 ∷ 20 ∷ 0 ∷ x ∷ y ∷ 10 ∷ 10 ∷ [])
      ∷ arc 1 2 (10 ∷ 0 ∷ 10 ∷ 10 ∷ []) ∷ [];
}

abbrev entry : ℕ → List ℕ → KeptEntry
entry number batch = record { number = number; batch = batch }

-- batches that move the corner, one after the other, and one that moves it to another point
abbrev moved : List ℕ
moved = codes "move 20 10 24 10\n"

abbrev again : List ℕ
again = codes "move 24 10 25 11\n"

abbrev elsewhere : List ℕ
elsewhere = codes "move 20 10 22 12\n"

-- a batch with a line at fault, and one whose map is no planar partition
abbrev at_fault : List ℕ
at_fault = codes "move 5 5 6 6\n"

abbrev crossing : List ℕ
crossing = codes "move 20 0 0 5\n"

-- ---- one batch

makes_a_map : map_after (squares 20 10) moved ≡ Some (squares 24 10)
unfolding map_after move_point number_of digits map_fault arc_fault common_point any_common turns_before is_higher
makes_a_map = refl

line_at_fault : map_after (squares 20 10) at_fault ≡ None
unfolding map_after move_point number_of digits
line_at_fault = refl

map_with_a_fault : map_after (squares 20 10) crossing ≡ None
unfolding map_after move_point number_of digits map_fault arc_fault common_point any_common turns_before is_higher
map_with_a_fault = refl

-- ---- batches, one after the other

two_maps : maps_from 0 (squares 20 10) (moved ∷ again ∷ []) ≡ Ok (squares 24 10 ∷ squares 25 11 ∷ [])
unfolding map_after move_point number_of digits map_fault arc_fault common_point any_common turns_before is_higher
two_maps = refl

second_makes_none : maps_from 0 (squares 20 10) (moved ∷ moved ∷ again ∷ []) ≡ Err 1
unfolding map_after move_point number_of digits map_fault arc_fault common_point any_common turns_before is_higher
second_makes_none = refl

-- ---- which entries are left

later_ones_count : places_of (entry 1 moved ∷ entry 2 again ∷ entry 2 at_fault ∷ entry 1 elsewhere ∷ []) ≡ 3 ∷ []
later_ones_count = refl

one_is_replaced : places_of (entry 1 at_fault ∷ entry 1 moved ∷ entry 2 again ∷ []) ≡ 1 ∷ 2 ∷ []
one_is_replaced = refl

-- ---- what a journal gives

no_entry : journal_maps 1 (squares 20 10) [] ≡ Ok []
no_entry = refl

each_entry_a_map : journal_maps 3 (squares 20 10) (entry 1 moved ∷ entry 2 again ∷ []) ≡ Ok (squares 24 10 ∷ squares 25 11 ∷ [])
unfolding map_after move_point number_of digits map_fault arc_fault common_point any_common turns_before is_higher
each_entry_a_map = refl

replaced_entries : journal_maps 2 (squares 20 10) (entry 1 moved ∷ entry 2 at_fault ∷ entry 1 elsewhere ∷ []) ≡ Ok (squares 22 12 ∷ [])
unfolding map_after move_point number_of digits map_fault arc_fault common_point any_common turns_before is_higher
replaced_entries = refl

number_that_leaves_one_out : journal_maps 64 (squares 20 10) (entry 2 moved ∷ []) ≡ Err (Entry 0)
number_that_leaves_one_out = refl

number_of_the_first_version : journal_maps 64 (squares 20 10) (entry 1 at_fault ∷ entry 0 moved ∷ []) ≡ Err (Entry 1)
number_of_the_first_version = refl

-- the place is that of the entry, where others were replaced
batch_that_makes_none : journal_maps 64 (squares 20 10) (entry 1 at_fault ∷ entry 1 moved ∷ entry 2 moved ∷ []) ≡ Err (Entry 2)
unfolding map_after move_point number_of digits map_fault arc_fault common_point any_common turns_before is_higher
batch_that_makes_none = refl

too_many : journal_maps 1 (squares 20 10) (entry 1 moved ∷ []) ≡ Err (Long 1)
unfolding map_after move_point number_of digits map_fault arc_fault common_point any_common turns_before is_higher
too_many = refl

-- it is told before too many
map_that_has_a_fault : journal_maps 1 (squares 20 10) (entry 1 moved ∷ entry 2 crossing ∷ []) ≡ Err (Entry 1)
unfolding map_after move_point number_of digits map_fault arc_fault common_point any_common turns_before is_higher
map_that_has_a_fault = refl
