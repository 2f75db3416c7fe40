-- A base map without a fault is a planar partition.
use Rattle.std.proofs.Common.{◌≡◌, true, Option, Some, None, AllPairs, refl}
use Rattle.tgap_model.specs.declared.fault.MapFault.{MapFault}
use Rattle.tgap_model.specs.Base.{BaseMap, is_base}
use Rattle.tgap_model.specs.Partition.{base_segments, AreApart, meeting_fault, ring_fault_of, stack_fault_of, or_else, arc_fault, map_fault, IsPartition}
use Rattle.tgap_model.proofs.Segments.{proper_segments}
use Rattle.planar_apart.proofs.Pairs.{all_apart}
use Rattle.planar_stack.proofs.Slabs.{agree_from_faults}
use Rattle.base_check.proofs.Agreement.{two_faces}
use Rattle.base_check.proofs.Faults.{no_fault}

no_fault_of : (first second : Option MapFault) → or_else first second ≡ None → (first ≡ None) × (second ≡ None)
no_fault_of None second e = (refl, e)
no_fault_of (Some fault) second e = absurd cc

pub partition_from_no_fault : (m : BaseMap) → is_base m ≡ true → map_fault m ≡ None → IsPartition (base_segments m)
unfolding map_fault arc_fault
partition_from_no_fault m base none =
    let both = no_fault_of (arc_fault m) (stack_fault_of m) none in
    let arcs = no_fault_of (meeting_fault m) (ring_fault_of m) both.0 in
    let apart : AllPairs AreApart (base_segments m) = all_apart (base_segments m) (proper_segments m base) arcs.0 in
    record {
      arcs = record {
        apart = apart;
        two_faces = two_faces m base;
        nodes = no_fault (base_segments m) arcs.1;
      };
      stacks = agree_from_faults (base_segments m) apart both.1;
    }
