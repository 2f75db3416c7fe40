-- Worked maps spelled as texts: borders and their texts, a listing, words of numbers, a slice and a packet.
use Rattle.std.proofs.Common.{◌≡◌, ℕ, pos, negsuc, [], ◌∷◌, refl, Some, None, codes}
use Rattle.std.specs.Fmt.{digits}
use Rattle.tgap_model.specs.declared.border.BorderRow.{BorderRow}
use Rattle.tgap_model.specs.History.{next_step, history_of}
use Rattle.tgap_model.specs.Merged.{merged}
use Rattle.tgap_model.specs.Chains.{chains_at}
use Rattle.tgap_model.specs.Clear.{is_clear}
use Rattle.tgap_model.specs.Removals.{is_removable, sweep, removals_to}
use Rattle.tgap_model.specs.Slice.{slice}
use Rattle.tgap_model.specs.Records.{packet_of}
use Rattle.line_forms.specs.Texts.{number_of, borders_text}
use Rattle.map_forms.specs.Listing.{listing_text}
use Rattle.wire_text.specs.SliceTexts.{slice_text, packet_text}
use Rattle.commands.specs.Border.{border}
use Rattle.map_laws.proofs.Examples.{two_squares, four_squares, two_roots, hole_with_face}

abbrev row : ℕ → ℕ → ℕ → BorderRow
row n left right = record { arc = n; left = left; right = right }

-- ---- two squares

two_squares_border_0 : border two_squares 0 ≡ row 0 1 0 ∷ row 1 2 0 ∷ row 2 1 2 ∷ []
two_squares_border_0 = refl

two_squares_border_1 : border two_squares 1 ≡ row 0 3 0 ∷ row 1 3 0 ∷ []
unfolding history_of next_step
two_squares_border_1 = refl

two_squares_text : borders_text 1 (row 0 3 0 ∷ row 1 3 0 ∷ []) ≡ codes "borders 1\nborder 0 3 0\nborder 1 3 0\nend\n"
unfolding digits
two_squares_text = refl

two_squares_listing : listing_text two_squares ≡ codes "tgap 2\ntransform 1 1 0 0\nratio 16\nclasses 1\nclass 0 1 1\nfaces 2\nface 1 0\nface 2 0\narcs 3\narc 1 0 4 10 10 0 10 0 0 10 0\narc 2 0 4 10 0 20 0 20 10 10 10\narc 1 2 2 10 0 10 10\nend\n"
unfolding digits
two_squares_listing = refl

-- ---- four squares round one node

four_squares_border_2 : border four_squares 2 ≡ row 0 5 0 ∷ row 1 5 0 ∷ row 2 6 0 ∷ row 3 6 0 ∷ row 5 5 6 ∷ row 7 6 5 ∷ []
unfolding history_of next_step
four_squares_border_2 = refl

four_squares_border_3 : border four_squares 3 ≡ row 0 7 0 ∷ row 1 7 0 ∷ row 2 7 0 ∷ row 3 7 0 ∷ []
unfolding history_of next_step
four_squares_border_3 = refl

-- four squares of two classes, of which neither suits the other: two faces stay
two_roots_border_2 : border two_roots 2 ≡ row 0 5 0 ∷ row 1 6 0 ∷ row 2 6 0 ∷ row 3 5 0 ∷ row 4 5 6 ∷ row 6 6 5 ∷ []
unfolding history_of next_step
two_roots_border_2 = refl

-- ---- a square with a hole, and a face in it

hole_with_face_border_1 : border hole_with_face 1 ≡ row 0 3 0 ∷ []
unfolding history_of next_step
hole_with_face_border_1 = refl

-- ---- words of numbers

least_number : number_of (negsuc 9) (pos 9) (codes "-10") ≡ Some (negsuc 9)
unfolding number_of digits
least_number = refl

no_leading_zero : number_of (negsuc 9) (pos 9) (codes "07") ≡ None
unfolding number_of digits
no_leading_zero = refl

no_negative_zero : number_of (negsuc 9) (pos 9) (codes "-0") ≡ None
unfolding number_of digits
no_negative_zero = refl

no_plus : number_of (negsuc 9) (pos 9) (codes "+7") ≡ None
unfolding number_of digits
no_plus = refl

beyond : number_of (negsuc 9) (pos 9) (codes "10") ≡ None
unfolding number_of digits
beyond = refl

-- ---- slices and packets

slice_spelled : slice_text (slice two_squares 0) ≡ codes "slice 0\nfaces 2\nface 1 0\nface 2 0\nedges 3\nedge 0 1 0 4 10 10 0 10 0 0 10 0\nedge 1 2 0 4 10 0 20 0 20 10 10 10\nedge 2 1 2 2 10 0 10 10\nend\n"
unfolding digits slice removals_to sweep is_removable is_clear chains_at history_of next_step
slice_spelled = refl

packet_spelled : packet_text (packet_of (merged two_squares) 1 0) ≡ codes "packet 1 0\nstep 1 1 0 2 0 3 1 1\nmend 0 1 2\nput 3 10 0\npiece 0 3 1 0\npiece 1 6 2 0\nedge 2 1 2 2 10 0 10 10\nend\n"
unfolding digits packet_of removals_to sweep is_removable is_clear chains_at history_of next_step
packet_spelled = refl
