-- A base map is a planar partition exactly where it has no fault.
use Rattle.std.proofs.Common.{◌≡◌, ℕ, ◌+◌, ◌==◌, true, false, List, [], ◌∷◌, All, Option, Some, None, get_or, AllPairs, sym, ap, ◌∙◌, subst, subst₂}
use Rattle.std.specs.List.{list_all}
use Rattle.std.proofs.lemmas.Bool.{and_parts}
use Rattle.std.proofs.lemmas.List.Elements.{All-nil, All-cons, All-append}
use Rattle.tgap_model.specs.declared.geometry.Point.{Point}
use Rattle.tgap_model.specs.declared.base.BaseArc.{BaseArc}
use Rattle.tgap_model.specs.declared.segment.LabelledSegment.{LabelledSegment}
use Rattle.tgap_model.specs.declared.fault.MapFault.{MapFault}
use Rattle.tgap_model.specs.Base.{BaseMap, is_arc, is_base}
use Rattle.tgap_model.specs.Partition.{AreApart, AgreesAtNodes, path_segments, arc_segments, base_segments, node_fault, nodes, or_else, meeting_from, stack_fault_of, arc_fault, map_fault}
use Rattle.tgap_model.specs.declared.geometry.Fraction.{Fraction}
use Rattle.grid_geo.specs.Evidence.{IsFirstMeeting}
use Rattle.std.proofs.lemmas.Option.{slice_get_within, get_or_from_slice_get}
use Rattle.tgap_model.proofs.BaseFacts.{arc_facts, base_facts}
use Rattle.tgap_model.proofs.Proper.{no_segment}
use Rattle.tgap_model.proofs.FirstFault.{none_from_faults}
use Rattle.planar_apart.specs.declared.meeting.Meeting.{Meeting}
use Rattle.planar_apart.specs.Meetings.{meets}
use Rattle.base_check.specs.declared.ring.NodeGap.{NodeGap}
use Rattle.base_check.specs.Faults.{first_node_fault, first_arc_fault}
use Rattle.base_check.specs.Spokes.{disagrees}

-- ---- the two faces of a segment

abbrev HasTwoFaces : LabelledSegment → Type 0
HasTwoFaces s = (s.left == s.right) ≡ false

path_faces : (arc left right place : ℕ) (points : List Point) → (left == right) ≡ false → All HasTwoFaces (path_segments arc left right place points)
path_faces arc left right place [] e = All-nil HasTwoFaces
path_faces arc left right place (p ∷ []) e = All-nil HasTwoFaces
path_faces arc left right place (p ∷ q ∷ points) e = All-cons HasTwoFaces _ _ e (path_faces arc left right (place + 1) (q ∷ points) e)

arc_faces : (n i : ℕ) (arcs : List BaseArc) → list_all (is_arc n) arcs ≡ true → All HasTwoFaces (arc_segments i arcs)
arc_faces n i [] h = All-nil HasTwoFaces
arc_faces n i (a ∷ arcs) h =
    let both = and_parts (is_arc n a) (list_all (is_arc n) arcs) h in
    All-append HasTwoFaces (path_segments i a.left a.right 0 a.points) (arc_segments (i + 1) arcs) (path_faces i a.left a.right 0 a.points (arc_facts n a both.0).differ) (arc_faces n (i + 1) arcs both.1)

pub two_faces : (m : BaseMap) → is_base m ≡ true → All HasTwoFaces (base_segments m)
two_faces m h = arc_faces _ 0 m.arcs (base_facts m h).arcs

-- ---- the first fault

pub meeting_is_fault : (segments : List LabelledSegment) (found : Meeting) → meeting_from 0 segments ≡ Some (meets found) → first_arc_fault segments ≡ Some (meets found)
meeting_is_fault segments found e = ap (λ (o : Option MapFault). or_else o (first_node_fault segments)) e

pub node_is_fault : (segments : List LabelledSegment) (o : Option MapFault) → meeting_from 0 segments ≡ None → first_node_fault segments ≡ o → first_arc_fault segments ≡ o
node_is_fault segments o e f = ap (λ (p : Option MapFault). or_else p (first_node_fault segments)) e ∙ f

-- ---- maps that agree have none

pub no_meeting : (segments : List LabelledSegment) (i j : ℕ) (at : Fraction) → AgreesAtNodes segments → IsFirstMeeting segments i j at → ⊥
no_meeting segments i j at agrees h =
    let apart = agrees.apart i j no_segment h.order (slice_get_within segments j h.second h.at_second) in
    let first : get_or segments i no_segment ≡ h.first = get_or_from_slice_get segments i h.first no_segment h.at_first in
    let second : get_or segments j no_segment ≡ h.second = get_or_from_slice_get segments j h.second no_segment h.at_second in
    subst₂ AreApart first second apart at h.common

pub no_node_gap : (segments : List LabelledSegment) (gap : NodeGap) → AgreesAtNodes segments → Some (disagrees gap) ≡ first_node_fault segments → ⊥
no_node_gap segments gap agrees e =
    let none = e ∙ none_from_faults (node_fault segments) (nodes segments) (λ k d l. agrees.nodes (get_or (nodes segments) k d)) in
    absurd cc

-- ---- a base map, by the list of its segments

module _ (m : BaseMap) (segments : List LabelledSegment) (listed : segments ≡ base_segments m) where
  pub agrees_at_nodes : is_base m ≡ true → AllPairs AreApart segments → ((v : Point) → node_fault segments v ≡ None) → AgreesAtNodes (base_segments m)
  agrees_at_nodes holds apart nodes_agree = record {
    apart = subst (λ (ss : List LabelledSegment). AllPairs AreApart ss) listed apart;
    two_faces = two_faces m holds;
    nodes = subst (λ (ss : List LabelledSegment). (v : Point) → node_fault ss v ≡ None) listed nodes_agree;
  }

  -- stacks after arcs
  pub map_fault-sound : (o : Option MapFault) → first_arc_fault segments ≡ None → stack_fault_of m ≡ o → map_fault m ≡ o
  unfolding arc_fault map_fault
  map_fault-sound o e f = ap (λ (p : Option MapFault). or_else p (stack_fault_of m)) (ap first_arc_fault (sym listed) ∙ e) ∙ f

  pub map_fault-arcs : (fault : MapFault) → first_arc_fault segments ≡ Some fault → map_fault m ≡ Some fault
  unfolding arc_fault map_fault
  map_fault-arcs fault e = ap (λ (p : Option MapFault). or_else p (stack_fault_of m)) (ap first_arc_fault (sym listed) ∙ e)
