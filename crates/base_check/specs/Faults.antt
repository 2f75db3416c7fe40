-- The first faults of labelled segments.
use Rattle.std.specs.Prelude.{List, Option}
use Rattle.tgap_model.specs.declared.segment.LabelledSegment.{LabelledSegment}
use Rattle.tgap_model.specs.declared.fault.MapFault.{MapFault}
use Rattle.tgap_model.specs.Partition.{first_fault, meeting_from, node_fault, nodes, or_else}

-- the first node at which the faces disagree
abbrev pub first_node_fault : List LabelledSegment → Option MapFault
first_node_fault segments = first_fault (node_fault segments) (nodes segments)

-- the first meeting, or else that node
abbrev pub first_arc_fault : List LabelledSegment → Option MapFault
first_arc_fault segments = or_else (meeting_from 0 segments) (first_node_fault segments)
