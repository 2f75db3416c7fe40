use Rattle.std.proofs.Common.{Bool, List, length, not, All, sym, ap, subst, arith}
use Rattle.std.proofs.lemmas.List.{length-append}
use Rattle.std.proofs.lemmas.List.Elements.{All-filter}
use Rattle.tgap_model.specs.declared.geometry.Point.{Point}
use Rattle.point_rope.specs.Held.{IsNearPoint}
use Rattle.point_rope.specs.Runs.{joined}
use Rattle.point_rope.proofs.Joined.{filter_few}
use Rattle.point_rope.proofs.rope.Rope.remove.Goals as goal

pub settle-requires : goal.settle-requires
settle-requires g c =
    subst (λ (ps : List Point). All IsNearPoint ps) (sym c.take_out.ensures)
    (All-filter (λ (p : Point). not (g.T.PointTest.passes c.args.test.now p)) IsNearPoint c.self.inside.last.items c.self.invariant.near)

pub invariant_of-self : goal.invariant_of-self
invariant_of-self g c =
    let left : Point → Bool = λ (p : Point). not (g.T.PointTest.passes c.args.test.now p) in
    let full = joined c.self.inside.full in
    let last = c.self.inside.last.items in
    let new = joined c.settle.new.full in
    record {
      near = c.settle.ensures.near;
      end = c.settle.ensures.end;
      few =
          omega (
            arith,
            ap (λ (ps : List Point). length ps) c.settle.ensures.same,
            length-append new c.settle.new.last.items,
            length-append (joined c.remove.new.self) c.take_out.new.points.items,
            ap (λ (ps : List Point). length ps) c.remove.ensures,
            ap (λ (ps : List Point). length ps) c.take_out.ensures,
            filter_few left full,
            filter_few left last,
            c.self.invariant.few,
          );
    }
