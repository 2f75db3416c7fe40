-- One more arc adds to the links of the faces at its sides.
use Rattle.std.proofs.Common.{◌+◌, ◌^◌, ◌<◌, ◌∙◌, ap, sym, subst, ℕ, Option, take, get_or, unwrap_or, pos, List}
use Rattle.std.proofs.lemmas.List.{take_all}
use Rattle.tgap_model.specs.declared.merge.LabelledArc.{LabelledArc}
use Rattle.face_merge.specs.Links.{with_arc}
use Rattle.face_merge.specs.Linking.{link_of}
use Rattle.face_merge.proofs.Linking.{link_turned, link_itself, link_more, room_for_arc, no_links}
use Rattle.face_merge.proofs.links.Links.between.Goals as goal

no_arc : LabelledArc
no_arc = record { left = 0; right = 0; area = pos 0; extent = 0 }

pub add_arc-requires-clause-paired : goal.add_arc-requires-clause-paired
add_arc-requires-clause-paired c =
    let seen = take c.loop-arc.arc-index c.args.arcs.now in
    let is = c.loop-arc.invariant in
    record { turned = λ s t. is s t ∙ (link_turned seen s t ∙ sym (is t s)); itself = λ s. is s s ∙ link_itself seen s }

pub add_arc-requires-clause-room : goal.add_arc-requires-clause-room
unfolding no_arc
add_arc-requires-clause-room c =
    let arcs = c.args.arcs.now in
    let i = c.loop-arc.arc-index in
    let a = get_or arcs i no_arc in
    subst (λ (o : Option ℕ). unwrap_or o 0 + a.extent < 2 ^ 64) (sym (c.loop-arc.invariant a.left a.right))
    (room_for_arc arcs i no_arc a.left a.right c.requires c.loop-arc-test.true)

pub loop-arc-init : goal.loop-arc-init
loop-arc-init c = λ f g. c.new-links.ensures f g ∙ sym (no_links f g)

pub loop-arc-preserved : goal.loop-arc-preserved
unfolding no_arc
loop-arc-preserved c = λ f g.
    let arcs = c.args.arcs.now in
    let i = c.loop-arc.arc-index in
    c.in_ok-add_arc.ensures f g ∙ (ap (λ (o : Option ℕ). with_arc (λ _ _. o) (get_or arcs i no_arc) f g) (c.loop-arc.invariant f g) ∙ sym (link_more arcs i no_arc f g c.loop-arc-test.true))

pub returns : goal.returns
returns c = λ f g. c.loop-arc.invariant f g ∙ ap (λ (xs : List LabelledArc). link_of xs f g) (take_all c.loop-arc.arc-index c.args.arcs.now c.loop-arc-test.false)
