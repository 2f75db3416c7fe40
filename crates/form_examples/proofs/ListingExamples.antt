-- Listings that are read, and the first faults of others, computed from the definitions.
use Rattle.std.proofs.Common.{◌≡◌, ℕ, pos, [], ◌∷◌, refl, Ok, Err, codes}
use Rattle.std.specs.Prelude.{ℤ, neg_ℤ}
use Rattle.std.specs.Fmt.{digits}
use Rattle.tgap_model.specs.declared.geometry.Point.{Point}
use Rattle.tgap_model.specs.Base.{BaseMap}
use Rattle.tgap_model.specs.declared.fault.LimitKind.TheVariants.{Classes, Faces, Arcs, Points}
use Rattle.tgap_model.specs.declared.fault.MapFault.TheVariants.{BadLine, Limit}
use Rattle.line_forms.specs.Texts.{number_of}
use Rattle.line_forms.specs.ListingLines.{read_transform, read_count, read_class, read_face, naturals_at, points_at, head_at, read_points}
use Rattle.map_forms.specs.Version.{read_heading}
use Rattle.map_forms.specs.Listing.{listing, map_at, rules_at, count_line, classes_at, all_faces_at, faces_at, all_arcs_at, arcs_at, arc_at, end_at}
use Rattle.map_laws.proofs.Examples.{plain_map, two_squares}

-- two squares
two_squares_read : listing (codes "tgap 1\ntransform 1 1 0 0\nratio 16\nclasses 1\nclass 0 1 1\nfaces 2\nface 1 0\nface 2 0\narcs 3\narc 1 0 4 10 10 0 10 0 0 10 0\narc 2 0 4 10 0 20 0 20 10 10 10\narc 1 2 2 10 0 10 10\nend\n") ≡ Ok two_squares
unfolding listing map_at read_heading rules_at count_line classes_at all_faces_at faces_at all_arcs_at arcs_at arc_at end_at read_transform read_count read_class read_face head_at read_points points_at naturals_at number_of digits
two_squares_read = refl

-- the two squares without their last line
two_squares_cut : listing (codes "tgap 1\ntransform 1 1 0 0\nratio 16\nclasses 1\nclass 0 1 1\nfaces 2\nface 1 0\nface 2 0\narcs 3\narc 1 0 4 10 10 0 10 0 0 10 0\narc 2 0 4 10 0 20 0 20 10 10 10\narc 1 2 2 10 0 10 10\n") ≡ Err (BadLine 13)
unfolding listing map_at read_heading rules_at count_line classes_at all_faces_at faces_at all_arcs_at arcs_at arc_at end_at read_transform read_count read_class read_face head_at read_points points_at naturals_at number_of digits
two_squares_cut = refl

-- without their last line feed
no_last_feed : listing (codes "tgap 1\ntransform 1 1 0 0\nratio 16\nclasses 1\nclass 0 1 1\nfaces 2\nface 1 0\nface 2 0\narcs 3\narc 1 0 4 10 10 0 10 0 0 10 0\narc 2 0 4 10 0 20 0 20 10 10 10\narc 1 2 2 10 0 10 10\nend") ≡ Err (BadLine 13)
unfolding listing map_at read_heading rules_at count_line classes_at all_faces_at faces_at all_arcs_at arcs_at arc_at end_at read_transform read_count read_class read_face head_at read_points points_at naturals_at number_of digits
no_last_feed = refl

-- with bytes after the last line
after_end : listing (codes "tgap 1\ntransform 1 1 0 0\nratio 16\nclasses 1\nclass 0 1 1\nfaces 2\nface 1 0\nface 2 0\narcs 3\narc 1 0 4 10 10 0 10 0 0 10 0\narc 2 0 4 10 0 20 0 20 10 10 10\narc 1 2 2 10 0 10 10\nend\nx") ≡ Err (BadLine 14)
unfolding listing map_at read_heading rules_at count_line classes_at all_faces_at faces_at all_arcs_at arcs_at arc_at end_at read_transform read_count read_class read_face head_at read_points points_at naturals_at number_of digits
after_end = refl

-- with an empty line after the last one
line_after_end : listing (codes "tgap 1\ntransform 1 1 0 0\nratio 16\nclasses 1\nclass 0 1 1\nfaces 2\nface 1 0\nface 2 0\narcs 3\narc 1 0 4 10 10 0 10 0 0 10 0\narc 2 0 4 10 0 20 0 20 10 10 10\narc 1 2 2 10 0 10 10\nend\n\n") ≡ Err (BadLine 14)
unfolding listing map_at read_heading rules_at count_line classes_at all_faces_at faces_at all_arcs_at arcs_at arc_at end_at read_transform read_count read_class read_face head_at read_points points_at naturals_at number_of digits
line_after_end = refl

-- the empty text
empty_text : listing (codes "") ≡ Err (BadLine 1)
unfolding listing map_at read_heading rules_at count_line classes_at all_faces_at faces_at all_arcs_at arcs_at arc_at end_at read_transform read_count read_class read_face head_at read_points points_at naturals_at number_of digits
empty_text = refl

-- a face of a class that there is not
no_such_class : listing (codes "tgap 1\ntransform 1 1 0 0\nratio 16\nclasses 1\nclass 0 1 1\nfaces 2\nface 1 0\nface 2 1\narcs 3\narc 1 0 4 10 10 0 10 0 0 10 0\narc 2 0 4 10 0 20 0 20 10 10 10\narc 1 2 2 10 0 10 10\nend\n") ≡ Err (BadLine 8)
unfolding listing map_at read_heading rules_at count_line classes_at all_faces_at faces_at all_arcs_at arcs_at arc_at end_at read_transform read_count read_class read_face head_at read_points points_at naturals_at number_of digits
no_such_class = refl

-- a carriage return before the line feed
carriage_return : listing (codes "tgap 1\ntransform 1 1 0 0\nratio 16\r\nclasses 1\nclass 0 1 1\nfaces 2\nface 1 0\nface 2 0\narcs 3\narc 1 0 4 10 10 0 10 0 0 10 0\narc 2 0 4 10 0 20 0 20 10 10 10\narc 1 2 2 10 0 10 10\nend\n") ≡ Err (BadLine 3)
unfolding listing map_at read_heading rules_at count_line classes_at all_faces_at faces_at all_arcs_at arcs_at arc_at end_at read_transform read_count read_class read_face head_at read_points points_at naturals_at number_of digits
carriage_return = refl

-- two spaces between two words
two_spaces : listing (codes "tgap 1\ntransform 1 1 0 0\nratio  16\nclasses 1\nclass 0 1 1\nfaces 2\nface 1 0\nface 2 0\narcs 3\narc 1 0 4 10 10 0 10 0 0 10 0\narc 2 0 4 10 0 20 0 20 10 10 10\narc 1 2 2 10 0 10 10\nend\n") ≡ Err (BadLine 3)
unfolding listing map_at read_heading rules_at count_line classes_at all_faces_at faces_at all_arcs_at arcs_at arc_at end_at read_transform read_count read_class read_face head_at read_points points_at naturals_at number_of digits
two_spaces = refl

-- no class at all
no_class : listing (codes "tgap 1\ntransform 1 1 0 0\nratio 16\nclasses 0\nclass 0 1 1\nfaces 2\nface 1 0\nface 2 0\narcs 3\narc 1 0 4 10 10 0 10 0 0 10 0\narc 2 0 4 10 0 20 0 20 10 10 10\narc 1 2 2 10 0 10 10\nend\n") ≡ Err (BadLine 4)
unfolding listing map_at read_heading rules_at count_line classes_at all_faces_at faces_at all_arcs_at arcs_at arc_at end_at read_transform read_count read_class read_face head_at read_points points_at naturals_at number_of digits
no_class = refl

-- two points in a row that are equal
same_point : listing (codes "tgap 1\ntransform 1 1 0 0\nratio 16\nclasses 1\nclass 0 1 1\nfaces 2\nface 1 0\nface 2 0\narcs 3\narc 1 0 4 10 10 0 10 0 0 10 0\narc 2 0 3 10 0 20 0 20 0\narc 1 2 2 10 0 10 10\nend\n") ≡ Err (BadLine 11)
unfolding listing map_at read_heading rules_at count_line classes_at all_faces_at faces_at all_arcs_at arcs_at arc_at end_at read_transform read_count read_class read_face head_at read_points points_at naturals_at number_of digits
same_point = refl

-- one face at both sides
same_face : listing (codes "tgap 1\ntransform 1 1 0 0\nratio 16\nclasses 1\nclass 0 1 1\nfaces 2\nface 1 0\nface 2 0\narcs 3\narc 1 0 4 10 10 0 10 0 0 10 0\narc 2 0 4 10 0 20 0 20 10 10 10\narc 2 2 2 10 0 10 10\nend\n") ≡ Err (BadLine 12)
unfolding listing map_at read_heading rules_at count_line classes_at all_faces_at faces_at all_arcs_at arcs_at arc_at end_at read_transform read_count read_class read_face head_at read_points points_at naturals_at number_of digits
same_face = refl

-- more classes than the limit
many_classes : listing (codes "tgap 1\ntransform 1 1 0 0\nratio 16\nclasses 257\nclass 0 1 1\nfaces 2\nface 1 0\nface 2 0\narcs 3\narc 1 0 4 10 10 0 10 0 0 10 0\narc 2 0 4 10 0 20 0 20 10 10 10\narc 1 2 2 10 0 10 10\nend\n") ≡ Err (Limit Classes 257)
unfolding listing map_at read_heading rules_at count_line classes_at all_faces_at faces_at all_arcs_at arcs_at arc_at end_at read_transform read_count read_class read_face head_at read_points points_at naturals_at number_of digits
many_classes = refl

-- more classes than the limit, in a line without its line feed
many_classes_cut : listing (codes "tgap 1\ntransform 1 1 0 0\nratio 16\nclasses 257") ≡ Err (BadLine 4)
unfolding listing map_at read_heading rules_at count_line classes_at all_faces_at faces_at all_arcs_at arcs_at arc_at end_at read_transform read_count read_class read_face head_at read_points points_at naturals_at number_of digits
many_classes_cut = refl

-- more faces than the limit
many_faces : listing (codes "tgap 1\ntransform 1 1 0 0\nratio 16\nclasses 1\nclass 0 1 1\nfaces 32769\nface 1 0\nface 2 0\narcs 3\narc 1 0 4 10 10 0 10 0 0 10 0\narc 2 0 4 10 0 20 0 20 10 10 10\narc 1 2 2 10 0 10 10\nend\n") ≡ Err (Limit Faces 32769)
unfolding listing map_at read_heading rules_at count_line classes_at all_faces_at faces_at all_arcs_at arcs_at arc_at end_at read_transform read_count read_class read_face head_at read_points points_at naturals_at number_of digits
many_faces = refl

-- more arcs than the limit
many_arcs : listing (codes "tgap 1\ntransform 1 1 0 0\nratio 16\nclasses 1\nclass 0 1 1\nfaces 2\nface 1 0\nface 2 0\narcs 65537\narc 1 0 4 10 10 0 10 0 0 10 0\narc 2 0 4 10 0 20 0 20 10 10 10\narc 1 2 2 10 0 10 10\nend\n") ≡ Err (Limit Arcs 65537)
unfolding listing map_at read_heading rules_at count_line classes_at all_faces_at faces_at all_arcs_at arcs_at arc_at end_at read_transform read_count read_class read_face head_at read_points points_at naturals_at number_of digits
many_arcs = refl

-- a count of more than 32 bits
beyond_count : listing (codes "tgap 1\ntransform 1 1 0 0\nratio 16\nclasses 1\nclass 0 1 1\nfaces 2\nface 1 0\nface 2 0\narcs 4294967296\narc 1 0 4 10 10 0 10 0 0 10 0\narc 2 0 4 10 0 20 0 20 10 10 10\narc 1 2 2 10 0 10 10\nend\n") ≡ Err (BadLine 9)
unfolding listing map_at read_heading rules_at count_line classes_at all_faces_at faces_at all_arcs_at arcs_at arc_at end_at read_transform read_count read_class read_face head_at read_points points_at naturals_at number_of digits
beyond_count = refl

-- more points than the limit, told before the points themselves
many_points : listing (codes "tgap 1\ntransform 1 1 0 0\nratio 16\nclasses 1\nclass 0 1 1\nfaces 2\nface 1 0\nface 2 0\narcs 3\narc 1 0 131073\n") ≡ Err (Limit Points 131073)
unfolding listing map_at read_heading rules_at count_line classes_at all_faces_at faces_at all_arcs_at arcs_at arc_at end_at read_transform read_count read_class read_face head_at read_points points_at naturals_at number_of digits
many_points = refl

-- more points than the limit, in a line without its line feed
many_points_cut : listing (codes "tgap 1\ntransform 1 1 0 0\nratio 16\nclasses 1\nclass 0 1 1\nfaces 2\nface 1 0\nface 2 0\narcs 3\narc 1 0 131073") ≡ Err (BadLine 10)
unfolding listing map_at read_heading rules_at count_line classes_at all_faces_at faces_at all_arcs_at arcs_at arc_at end_at read_transform read_count read_class read_face head_at read_points points_at naturals_at number_of digits
many_points_cut = refl

-- more points than the limit, in an arc beside a face that is out of range
many_points_of_no_face : listing (codes "tgap 1\ntransform 1 1 0 0\nratio 16\nclasses 1\nclass 0 1 1\nfaces 2\nface 1 0\nface 2 0\narcs 3\narc 1 3 131073\n") ≡ Err (BadLine 10)
unfolding listing map_at read_heading rules_at count_line classes_at all_faces_at faces_at all_arcs_at arcs_at arc_at end_at read_transform read_count read_class read_face head_at read_points points_at naturals_at number_of digits
many_points_of_no_face = refl

-- more points than the limit in two arcs together
many_points_in_all : listing (codes "tgap 1\ntransform 1 1 0 0\nratio 16\nclasses 1\nclass 0 1 1\nfaces 2\nface 1 0\nface 2 0\narcs 3\narc 1 0 4 10 10 0 10 0 0 10 0\narc 2 0 131069\n") ≡ Err (Limit Points 131073)
unfolding listing map_at read_heading rules_at count_line classes_at all_faces_at faces_at all_arcs_at arcs_at arc_at end_at read_transform read_count read_class read_face head_at read_points points_at naturals_at number_of digits
many_points_in_all = refl

-- a face that has no border
lonely_face : listing (codes "tgap 1\ntransform 1 1 0 0\nratio 0\nclasses 1\nclass 0 1 1\nfaces 1\nface 1 0\narcs 0\nend\n") ≡ Err (BadLine 9)
unfolding listing map_at read_heading rules_at count_line classes_at all_faces_at faces_at all_arcs_at arcs_at arc_at end_at read_transform read_count read_class read_face head_at read_points points_at naturals_at number_of digits
lonely_face = refl

-- ---- version 2

-- two squares
two_squares_in_version_2 : listing (codes "tgap 2\ntransform 1 1 0 0\nratio 16\nclasses 1\nclass 0 1 1\nfaces 2\nface 1 0\nface 2 0\narcs 3\narc 1 0 4 10 10 0 10 0 0 10 0\narc 2 0 4 10 0 20 0 20 10 10 10\narc 1 2 2 10 0 10 10\nend\n") ≡ Ok two_squares
unfolding listing map_at read_heading rules_at count_line classes_at all_faces_at faces_at all_arcs_at arcs_at arc_at end_at read_transform read_count read_class read_face head_at read_points points_at naturals_at number_of digits
two_squares_in_version_2 = refl

-- a version that there is not
no_such_version : listing (codes "tgap 3\ntransform 1 1 0 0\nratio 16\nclasses 1\nclass 0 1 1\nfaces 2\nface 1 0\nface 2 0\narcs 3\narc 1 0 4 10 10 0 10 0 0 10 0\narc 2 0 4 10 0 20 0 20 10 10 10\narc 1 2 2 10 0 10 10\nend\n") ≡ Err (BadLine 1)
unfolding listing map_at read_heading rules_at count_line classes_at all_faces_at faces_at all_arcs_at arcs_at arc_at end_at read_transform read_count read_class read_face head_at read_points points_at naturals_at number_of digits
no_such_version = refl

-- no version
without_version : listing (codes "tgap\ntransform 1 1 0 0\nratio 16\nclasses 1\nclass 0 1 1\nfaces 2\nface 1 0\nface 2 0\narcs 3\narc 1 0 4 10 10 0 10 0 0 10 0\narc 2 0 4 10 0 20 0 20 10 10 10\narc 1 2 2 10 0 10 10\nend\n") ≡ Err (BadLine 1)
unfolding listing map_at read_heading rules_at count_line classes_at all_faces_at faces_at all_arcs_at arcs_at arc_at end_at read_transform read_count read_class read_face head_at read_points points_at naturals_at number_of digits
without_version = refl

-- two versions
with_two_versions : listing (codes "tgap 1 2\ntransform 1 1 0 0\nratio 16\nclasses 1\nclass 0 1 1\nfaces 2\nface 1 0\nface 2 0\narcs 3\narc 1 0 4 10 10 0 10 0 0 10 0\narc 2 0 4 10 0 20 0 20 10 10 10\narc 1 2 2 10 0 10 10\nend\n") ≡ Err (BadLine 1)
unfolding listing map_at read_heading rules_at count_line classes_at all_faces_at faces_at all_arcs_at arcs_at arc_at end_at read_transform read_count read_class read_face head_at read_points points_at naturals_at number_of digits
with_two_versions = refl

abbrev point : ℤ → ℤ → Point
point x y = record { x = x; y = y }

-- a triangle that is as wide as coordinates up to this one allow
abbrev triangle : ℕ → BaseMap
triangle most =
    let corner : Point = point (neg_ℤ (pos most)) (neg_ℤ (pos most)) in
    plain_map 16 (0 ∷ []) (record { left = 1; right = 0; points = corner ∷ point (pos most) (neg_ℤ (pos most)) ∷ point (pos 0) (pos most) ∷ corner ∷ [] } ∷ [])

-- the greatest coordinates of each version
widest : listing (codes "tgap 2\ntransform 1 1 0 0\nratio 16\nclasses 1\nclass 0 1 1\nfaces 1\nface 1 0\narcs 1\narc 1 0 4 -2147483648 -2147483648 2147483648 -2147483648 0 2147483648 -2147483648 -2147483648\nend\n") ≡ Ok (triangle 2147483648)
unfolding listing map_at read_heading rules_at count_line classes_at all_faces_at faces_at all_arcs_at arcs_at arc_at end_at read_transform read_count read_class read_face head_at read_points points_at naturals_at number_of digits
widest = refl

widest_of_version_1 : listing (codes "tgap 1\ntransform 1 1 0 0\nratio 16\nclasses 1\nclass 0 1 1\nfaces 1\nface 1 0\narcs 1\narc 1 0 4 -268435456 -268435456 268435456 -268435456 0 268435456 -268435456 -268435456\nend\n") ≡ Ok (triangle 268435456)
unfolding listing map_at read_heading rules_at count_line classes_at all_faces_at faces_at all_arcs_at arcs_at arc_at end_at read_transform read_count read_class read_face head_at read_points points_at naturals_at number_of digits
widest_of_version_1 = refl

-- and coordinates beyond them
too_wide : listing (codes "tgap 2\ntransform 1 1 0 0\nratio 16\nclasses 1\nclass 0 1 1\nfaces 1\nface 1 0\narcs 1\narc 1 0 4 -2147483648 -2147483648 2147483649 -2147483648 0 2147483648 -2147483648 -2147483648\nend\n") ≡ Err (BadLine 9)
unfolding listing map_at read_heading rules_at count_line classes_at all_faces_at faces_at all_arcs_at arcs_at arc_at end_at read_transform read_count read_class read_face head_at read_points points_at naturals_at number_of digits
too_wide = refl

too_wide_for_version_1 : listing (codes "tgap 1\ntransform 1 1 0 0\nratio 16\nclasses 1\nclass 0 1 1\nfaces 1\nface 1 0\narcs 1\narc 1 0 4 -2147483648 -2147483648 2147483648 -2147483648 0 2147483648 -2147483648 -2147483648\nend\n") ≡ Err (BadLine 9)
unfolding listing map_at read_heading rules_at count_line classes_at all_faces_at faces_at all_arcs_at arcs_at arc_at end_at read_transform read_count read_class read_face head_at read_points points_at naturals_at number_of digits
too_wide_for_version_1 = refl

-- more points than the limit of version 2
many_points_of_version_2 : listing (codes "tgap 2\ntransform 1 1 0 0\nratio 16\nclasses 1\nclass 0 1 1\nfaces 2\nface 1 0\nface 2 0\narcs 3\narc 1 0 524289\n") ≡ Err (Limit Points 524289)
unfolding listing map_at read_heading rules_at count_line classes_at all_faces_at faces_at all_arcs_at arcs_at arc_at end_at read_transform read_count read_class read_face head_at read_points points_at naturals_at number_of digits
many_points_of_version_2 = refl

-- no more than that, though too many for version 1
points_for_version_2 : listing (codes "tgap 2\ntransform 1 1 0 0\nratio 16\nclasses 1\nclass 0 1 1\nfaces 2\nface 1 0\nface 2 0\narcs 3\narc 1 0 131073\n") ≡ Err (BadLine 10)
unfolding listing map_at read_heading rules_at count_line classes_at all_faces_at faces_at all_arcs_at arcs_at arc_at end_at read_transform read_count read_class read_face head_at read_points points_at naturals_at number_of digits
points_for_version_2 = refl
