-- The generated map is a planar partition, for n from 1 to 147.
use Rattle.std.proofs.Common.{◌≡◌, ℕ, ◌≤◌, ◌==◌, true, false, List, All, sym, subst}
use Rattle.std.proofs.lemmas.List.Sums.{AllPass-from_list_all}
use Rattle.tgap_model.specs.declared.segment.LabelledSegment.{LabelledSegment}
use Rattle.tgap_model.specs.Base.{is_base}
use Rattle.tgap_model.specs.Partition.{IsPartition, is_proper, base_segments}
use Rattle.tgap_model.proofs.Segments.{proper_segments}
use Rattle.base_check.proofs.Agreement.{two_faces}
use Rattle.generator.specs.GridMap.{grid_base}
use Rattle.generator.proofs.Layouts.{all_halves}
use Rattle.generator.proofs.Apart.{halves_apart}
use Rattle.generator.proofs.Rings.{nodes_agree}
use Rattle.generator.proofs.Stacks.{faces_agree}
use Rattle.generator.proofs.GridLayout.{grid_layout, grid_is_layout, segments_are_halves}
use Rattle.generator.proofs.GridBase.{grid_is_base}

pub grid_is_partition : (n : ℕ) → 1 ≤ n → n ≤ 147 → IsPartition (base_segments (grid_base n))
grid_is_partition n some few =
    subst IsPartition (sym segments) (record {
      arcs = record {
        apart = halves_apart (grid_layout n) (grid_is_layout n);
        two_faces = subst (λ (ss : List LabelledSegment). All (λ s. (s.left == s.right) ≡ false) ss) segments (two_faces (grid_base n) base);
        nodes = nodes_agree (grid_layout n) (grid_is_layout n) proper;
      };
      stacks = faces_agree (grid_layout n) (grid_is_layout n);
    })
  where
    base : is_base (grid_base n) ≡ true
    base = grid_is_base n some few

    segments : base_segments (grid_base n) ≡ all_halves (grid_layout n)
    segments = segments_are_halves n

    proper : All (λ (s : LabelledSegment). is_proper s ≡ true) (all_halves (grid_layout n))
    proper = subst (λ (ss : List LabelledSegment). All (λ s. is_proper s ≡ true) ss) segments
        (AllPass-from_list_all is_proper (base_segments (grid_base n)) (proper_segments (grid_base n) base))
