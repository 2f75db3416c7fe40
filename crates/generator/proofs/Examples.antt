-- The generated maps of one cell and of four cells, computed from the definitions: the smallest one by hand, and both without a fault.
use Rattle.std.proofs.Common.{◌≡◌, ℕ, true, [], ◌∷◌, refl, None}
use Rattle.tgap_model.specs.declared.base.BaseArc.{BaseArc}
use Rattle.tgap_model.specs.Base.{is_base, is_transform, is_rules, is_arc}
use Rattle.tgap_model.specs.Segment.{common_point, any_common, turns_before, is_higher}
use Rattle.tgap_model.specs.Partition.{arc_fault, map_fault}
use Rattle.generator.specs.GridMap.{grid_base, grid_point, mix, cell_face, cell_class}

-- 73 * 3 + 151 * 2 + 29 + 17 * 6 is 652, ten times 64 and 12
mix_of_place : mix 3 2 1 ≡ 12
mix_of_place = refl

face_of_cell : cell_face 40 39 39 ≡ 1600
face_of_cell = refl

class_of_cell : cell_class 3 2 ≡ 3
class_of_cell = refl

abbrev bent : ℕ → ℕ → ℕ → ℕ → ℕ → ℕ → ℕ → ℕ → BaseArc
bent left right x y u v z w = record { left = left; right = right; points = grid_point x y ∷ grid_point u v ∷ grid_point z w ∷ [] }

-- below, above, at the left and at the right of the one cell
one_cell_arcs : (grid_base 1).arcs ≡ bent 1 0 0 0 8 1 17 2 ∷ bent 0 1 3 17 8 16 17 16 ∷ bent 0 1 0 0 2 8 3 17 ∷ bent 1 0 17 2 19 8 17 16 ∷ []
unfolding grid_base
one_cell_arcs = refl

one_cell_classes : (grid_base 1).classes ≡ 0 ∷ []
unfolding grid_base
one_cell_classes = refl

four_cells_classes : (grid_base 2).classes ≡ 0 ∷ 1 ∷ 3 ∷ 1 ∷ []
unfolding grid_base
four_cells_classes = refl

one_cell_sound : map_fault (grid_base 1) ≡ None
unfolding grid_base map_fault arc_fault common_point any_common turns_before is_higher
one_cell_sound = refl

four_cells_sound : map_fault (grid_base 2) ≡ None
unfolding grid_base map_fault arc_fault common_point any_common turns_before is_higher
four_cells_sound = refl

four_cells_base : is_base (grid_base 2) ≡ true
unfolding grid_base is_base is_transform is_rules is_arc
four_cells_base = refl
