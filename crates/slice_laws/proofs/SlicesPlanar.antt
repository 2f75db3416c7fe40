-- Where nothing is removed, the slice of a planar partition is a planar partition.
use Rattle.std.proofs.Common.{◌≡◌, ℕ, true, false, ◌==◌, List, sym, subst, ne_eqb}
use Rattle.tgap_model.specs.declared.slice.Removal.{Removal}
use Rattle.tgap_model.specs.declared.segment.LabelledSegment.{LabelledSegment}
use Rattle.tgap_model.specs.Base.{BaseMap, is_base}
use Rattle.tgap_model.specs.Partition.{base_segments, edge_segments, IsPartition}
use Rattle.tgap_model.specs.Merged.{merged}
use Rattle.tgap_model.specs.Chains.{Chain, are_chains, chains_at}
use Rattle.tgap_model.specs.Removals.{edges_of}
use Rattle.tgap_model.specs.Slice.{slice}
use Rattle.map_laws.proofs.ChainsExist.{chains_exist}
use Rattle.slice_laws.specs.SliceLaws.{SlicesArePartitions}
use Rattle.slice_laws.proofs.Places.{among_at}
use Rattle.slice_laws.proofs.SliceSegments.{shown_at, slice_apart}
use Rattle.slice_laws.proofs.Correspondence.{faces_differ}
use Rattle.slice_laws.proofs.SliceStacks.{slice_agrees}
use Rattle.slice_laws.proofs.SliceNodes.{slice_nodes}
use Rattle.slice_laws.proofs.Unions.{nothing_removed}
use Rattle.map_laws.proofs.Lists.{all_members}
use Rattle.slice_laws.proofs.EdgeSums.{all_segments}

edges_planar : (m : BaseMap) → is_base m ≡ true → IsPartition (base_segments m) → (k : ℕ) (cs : List Chain) → are_chains (merged m) k cs ≡ true
    → IsPartition (all_segments m k cs)
edges_planar m base planar k cs t = record {
  arcs = record {
    apart = slice_apart m base k cs t planar.arcs.apart;
    two_faces = all_members (λ (s : LabelledSegment). (s.left == s.right) ≡ false) (all_segments m k cs) (λ s n.
        let a = among_at (all_segments m k cs) s n in
        ne_eqb s.left s.right (faces_differ m base planar.arcs.nodes k cs t a.0 s (shown_at m base k cs t a.0 s a.1)));
    nodes = slice_nodes m base planar k cs t;
  };
  stacks = λ l between. slice_agrees m base planar k cs t l between.rational between;
}

pub slices_are_partitions : SlicesArePartitions
unfolding slice
slices_are_partitions m base planar ratio k =
    subst (λ (rs : List Removal). IsPartition (edge_segments (edges_of (merged m) k rs (chains_at (merged m) k))))
    (sym (nothing_removed (merged m) k ratio))
    (edges_planar m base planar k (chains_at (merged m) k) (chains_exist (merged m) k))
