use Rattle.slice_read_tests.proofs.looks.the_last_slice_of_four_squares.Given as goal

abbrev pub ghosts-has_one_edge_from_zero : goal.ghosts-has_one_edge_from_zero
ghosts-has_one_edge_from_zero g a = record { name = a.blank.name; parts = a.blank.parts }
