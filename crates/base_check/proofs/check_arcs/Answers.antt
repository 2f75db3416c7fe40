use Rattle.std.proofs.Common.{◌≡◌, Ok, Some, None, option_map, sym, ap, ◌∙◌, subst}
use Rattle.tgap_model.specs.Partition.{meeting_from}
use Rattle.grid_geo.specs.Evidence.{IsShownBy}
use Rattle.planar_apart.specs.Meetings.{meets}
use Rattle.base_check.specs.Faults.{first_node_fault}
use Rattle.base_check.specs.Spokes.{disagrees}
use Rattle.base_check.proofs.Agreement.{meeting_is_fault, node_is_fault, no_meeting, no_node_gap}
use Rattle.base_check.proofs.check_arcs.Goals as goal

pub returns-in-Some-clause-fault : goal.returns-in-Some-clause-fault
returns-in-Some-clause-fault c = λ f e.
    let same : meets c.in-Some.field-0 ≡ f = cc in
    meeting_is_fault c.args.segments.now c.in-Some.field-0 (sym c.in_ok-known.ensures.exact ∙ ap (option_map meets) c.in-Some.is) ∙ ap Some same

pub returns-in-Some-clause-agrees : goal.returns-in-Some-clause-agrees
returns-in-Some-clause-agrees c = λ agrees f e.
    let m = c.in-Some.field-0 in
    no_meeting c.args.segments.now m.i m.j m.at agrees (c.in_ok-known.ensures.found m c.in-Some.is)

pub returns-in-Some-clause-shown : goal.returns-in-Some-clause-shown
returns-in-Some-clause-shown c = λ f e.
    let m = c.in-Some.field-0 in
    let same : meets m ≡ f = cc in
    subst (IsShownBy c.args.segments.now) same (c.in_ok-known.ensures.found m c.in-Some.is)

pub returns-in-Some-2-clause-fault : goal.returns-in-Some-2-clause-fault
returns-in-Some-2-clause-fault c = λ f e.
    let same : c.fault.result ≡ f = cc in
    let none : c.in_ok-known.known.meeting ≡ None = c.in_default.is in
    let meeting : meeting_from 0 c.args.segments.now ≡ None = sym c.in_ok-known.ensures.exact ∙ ap (option_map meets) none in
    let gap : first_node_fault c.args.segments.now ≡ Some (disagrees c.in-Some-2.gap) = sym c.in_ok-gap.ensures.exact ∙ ap (option_map disagrees) c.in-Some-2.is in
    node_is_fault c.args.segments.now (Some (disagrees c.in-Some-2.gap)) meeting gap ∙ ap Some (sym c.fault.ensures ∙ same)

pub returns-in-Some-2-clause-shown : goal.returns-in-Some-2-clause-shown
returns-in-Some-2-clause-shown c = λ f e.
    let none : c.in_ok-known.known.meeting ≡ None = c.in_default.is in
    let same : c.fault.result ≡ f = cc in
    subst (IsShownBy c.args.segments.now) (sym c.fault.ensures ∙ same)
    (c.in_ok-known.ensures.apart none, c.in_ok-gap.ensures.found c.in-Some-2.gap (ap Ok c.in-Some-2.is))

pub returns-in-Some-2-clause-agrees : goal.returns-in-Some-2-clause-agrees
returns-in-Some-2-clause-agrees c = λ agrees f e. no_node_gap c.args.segments.now c.in-Some-2.gap agrees (sym (ap (option_map disagrees) c.in-Some-2.is) ∙ c.in_ok-gap.ensures.exact)

pub returns-clause-apart : goal.returns-clause-apart
returns-clause-apart c = let none : c.in_ok-known.known.meeting ≡ None = c.in_default.is in c.in_ok-known.ensures.apart none

pub returns-clause-nodes : goal.returns-clause-nodes
returns-clause-nodes c = let no_gap : c.in_ok-gap.field-0 ≡ None = c.in_default-2.is in c.in_ok-gap.ensures.agree (ap Ok no_gap)

pub returns-clause-sound : goal.returns-clause-sound
returns-clause-sound c =
    let none : c.in_ok-known.known.meeting ≡ None = c.in_default.is in
    let no_gap : c.in_ok-gap.field-0 ≡ None = c.in_default-2.is in
    let meeting : meeting_from 0 c.args.segments.now ≡ None = sym c.in_ok-known.ensures.exact ∙ ap (option_map meets) none in
    node_is_fault c.args.segments.now None meeting (sym c.in_ok-gap.ensures.exact ∙ ap (option_map disagrees) no_gap)
