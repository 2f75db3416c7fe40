use Rattle.std.proofs.Common.{◌<◌, ◌∙◌, length, All, sym, ap, subst, arith}
use Rattle.std.proofs.lemmas.List.{length-map}
use Rattle.ring_walk.specs.Rings.{ring_face}
use Rattle.topo_write.proofs.FaceGroups.{group_is, groups_small, groups_within}
use Rattle.topo_write.proofs.measured.by_face.Goals as goal

pub returns-clause-value : goal.returns-clause-value
returns-clause-value c =
    let faces = c.deref-2.result.now in
    group_is c.args.spans.now c.args.rings.now faces c.in_ok-groups.groups.items c.end_of-end.result (c.deref-2.ensures.value ∙ c.in_ok-faces.ensures)
    (subst (All (λ k. k < c.end_of-end.result)) (c.deref.ensures.value ∙ sym c.deref-2.ensures.value) c.end_of-end.ensures)
    c.in_ok-groups.ensures.count c.in_ok-groups.ensures.groups

pub returns-clause-within : goal.returns-clause-within
returns-clause-within c =
    let long = ap length (c.deref-2.ensures.value ∙ c.in_ok-faces.ensures) ∙ length-map c.args.rings.now (ring_face c.args.spans.now) in
    groups_within (length c.args.rings.now) c.deref-2.result.now c.in_ok-groups.groups.items long c.in_ok-groups.ensures.groups

pub returns-clause-small : goal.returns-clause-small
returns-clause-small c =
    let long = ap length (c.deref-2.ensures.value ∙ c.in_ok-faces.ensures) ∙ length-map c.args.rings.now (ring_face c.args.spans.now) in
    groups_small _ c.deref-2.result.now c.in_ok-groups.groups.items (omega (arith, long, c.requires.few)) c.in_ok-groups.ensures.groups
