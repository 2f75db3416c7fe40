use Rattle.std.proofs.Common.{◌≤◌, ◌+◌, pos, sym, ap₂, ◌∙◌, subst, arith}
use Rattle.tgap_model.specs.declared.geometry.Point.{Point}
use Rattle.tgap_model.specs.Clear.{is_clear}
use Rattle.point_rope.specs.Held.{IsNearPoint}
use Rattle.vertex_drop.specs.Left.{first_left}
use Rattle.vertex_drop.proofs.Unswept.{passes_left}
use Rattle.vertex_drop.proofs.near.is_clear_on.Goals as goal

pub clear_of-requires-clause-s : goal.clear_of-requires-clause-s
clear_of-requires-clause-s c =
    let e = c.args.edge.now in
    let i = c.args.place in
    let o : Point = record { x = pos 0; y = pos 0 } in (
      subst IsNearPoint (sym (c.at.ensures o)) (c.requires.edge.limits i o (omega (arith, c.requires.place))),
      subst IsNearPoint (sym (c.at-2.ensures o)) (c.requires.edge.limits (i + 1) o c.requires.place),
    )

pub returns : goal.returns
returns c =
    let t = c.args.t.now in
    let e = c.args.edge.now in
    let i = c.args.place in
    let o : Point = record { x = pos 0; y = pos 0 } in
    let le : first_left c.args.at e ≤ i = omega (arith, c.if-place-first_left.false, c.first_left.ensures) in
    c.clear_of.ensures
    ∙ ap₂ (λ (p q : Point). is_clear t.a t.b t.c (record { a = p; b = q })) (c.at.ensures o) (c.at-2.ensures o)
    ∙ sym (passes_left (is_clear t.a t.b t.c) c.args.at e i o le c.requires.place)
