-- What is told of the list of the segments holds of the base map.
use Rattle.std.proofs.Common.{◌≡◌, Ok, Err, List, Some, None, option_map, sym, ap, ◌∙◌, subst}
use Rattle.tgap_model.specs.declared.failure.Or.TheVariants.{Fault}
use Rattle.tgap_model.specs.declared.segment.LabelledSegment.{LabelledSegment}
use Rattle.tgap_model.specs.Partition.{AgreesAtNodes, base_segments, stack_fault_of}
use Rattle.grid_geo.specs.Evidence.{IsFirstStackGap, IsShownBy}
use Rattle.planar_stack.specs.Sweep.{FacesAgree, disagrees, first_stack_fault}
use Rattle.base_check.proofs.Agreement.{agrees_at_nodes, map_fault-sound, map_fault-arcs}
use Rattle.base_check.proofs.check.Goals as goal

pub returns-in_err-agree-clause-fault : goal.returns-in_err-agree-clause-fault
returns-in_err-agree-clause-fault g c = λ f e.
    let listed = c.as_slice.ensures ∙ c.in_ok-segments.ensures.listed in
    let same : Fault f ≡ c.in_err-agree.field-0.0 = rw e at c.from_residual-in_err-agree.ensures.1 in
    map_fault-arcs c.args.base c.as_slice.result.now listed f (c.check_arcs.ensures.fault f (c.in_err-agree.was ∙ ap Err (sym same)))

pub returns-in_err-agree-clause-shown : goal.returns-in_err-agree-clause-shown
returns-in_err-agree-clause-shown g c = λ f e.
    let listed = c.as_slice.ensures ∙ c.in_ok-segments.ensures.listed in
    let same : Fault f ≡ c.in_err-agree.field-0.0 = rw e at c.from_residual-in_err-agree.ensures.1 in
    subst (λ (ss : List LabelledSegment). IsShownBy ss f) listed (c.check_arcs.ensures.shown f (c.in_err-agree.was ∙ ap Err (sym same)))

pub returns-in_err-agree-clause-refused : goal.returns-in_err-agree-clause-refused
returns-in_err-agree-clause-refused g c = λ f e partition.
    let listed = c.as_slice.ensures ∙ c.in_ok-segments.ensures.listed in
    let same : Fault f ≡ c.in_err-agree.field-0.0 = rw e at c.from_residual-in_err-agree.ensures.1 in
    c.check_arcs.ensures.agrees (subst AgreesAtNodes (sym listed) partition.arcs) f (c.in_err-agree.was ∙ ap Err (sym same))

pub returns-in-Some-clause-fault : goal.returns-in-Some-clause-fault
returns-in-Some-clause-fault g c = λ f e.
    let listed = c.in_ok-segments.ensures.listed in
    let same : c.fault.result ≡ f = cc in
    let stack : stack_fault_of c.args.base ≡ Some (disagrees c.in-Some.disagreement) = sym (c.in_ok-disagreement.ensures.exact ∙ ap first_stack_fault listed) ∙ ap (option_map disagrees) c.in-Some.is in
    map_fault-sound c.args.base c.as_slice.result.now (c.as_slice.ensures ∙ listed) (Some (disagrees c.in-Some.disagreement)) c.in_ok-agree.ensures.sound stack ∙ ap Some (sym c.fault.ensures ∙ same)

pub returns-in-Some-clause-shown : goal.returns-in-Some-clause-shown
returns-in-Some-clause-shown g c = λ f e.
    let listed = c.in_ok-segments.ensures.listed in
    let same : c.fault.result ≡ f = cc in
    let d = c.in-Some.disagreement in
    let arcs = agrees_at_nodes c.args.base c.as_slice.result.now (c.as_slice.ensures ∙ listed) (rw c.base.view_is at c.base.invariant) c.in_ok-agree.ensures.apart c.in_ok-agree.ensures.nodes in
    subst (IsShownBy (base_segments c.args.base)) (sym c.fault.ensures ∙ same)
    (arcs, subst (λ (ss : List LabelledSegment). IsFirstStackGap ss d.line d.place d.upper d.lower) listed (c.in_ok-disagreement.ensures.found d (ap Ok c.in-Some.is)))

pub returns-in-Some-clause-refused : goal.returns-in-Some-clause-refused
returns-in-Some-clause-refused g c = λ f e partition.
    let none = c.in_ok-disagreement.ensures.only (subst FacesAgree (sym c.in_ok-segments.ensures.listed) partition.stacks) in
    absurd (let some = c.in-Some.is in cc)

pub of-requires : goal.of-requires
of-requires g c =
    let listed = c.in_ok-segments.ensures.listed in
    let none : c.in_ok-disagreement.field-0 ≡ None = c.in_default.is in
    record {
      partition = record {
        arcs = agrees_at_nodes c.args.base c.as_slice.result.now (c.as_slice.ensures ∙ listed) (rw c.base.view_is at c.base.invariant) c.in_ok-agree.ensures.apart c.in_ok-agree.ensures.nodes;
        stacks = subst FacesAgree listed (c.in_ok-disagreement.ensures.agree (ap Ok none));
      };
    }

pub returns-clause-sound : goal.returns-clause-sound
returns-clause-sound g c =
    let listed = c.in_ok-segments.ensures.listed in
    let none : c.in_ok-disagreement.field-0 ≡ None = c.in_default.is in
    (c.of.ensures, map_fault-sound c.args.base c.as_slice.result.now (c.as_slice.ensures ∙ listed) None c.in_ok-agree.ensures.sound (sym (c.in_ok-disagreement.ensures.exact ∙ ap first_stack_fault listed) ∙ ap (option_map disagrees) none))
