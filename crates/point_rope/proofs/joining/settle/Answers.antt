use Rattle.std.proofs.Common.{◌++◌, List, All, sym, ap, ◌∙◌, subst, arith}
use Rattle.std.proofs.lemmas.Bool.{eqb-true}
use Rattle.std.proofs.lemmas.List.{append-nil, nil_from_length}
use Rattle.tgap_model.specs.declared.geometry.Point.{Point}
use Rattle.point_rope.specs.Held.{IsNearPoint}
use Rattle.point_rope.specs.Runs.{joined}
use Rattle.point_rope.proofs.Joined.{joined_push}
use Rattle.point_rope.proofs.joining.settle.Goals as goal

pub loop-full-preserved : goal.loop-full-preserved
loop-full-preserved c =
    let full = c.loop-full.full in
    let last = c.loop-full.last.items in
    let run = c.in-Some.run' in
    let rest = joined c.pop.new.self in
    let empty = eqb-true c.loop-full.last.len 0 (sym c.is_empty.ensures ∙ c.loop-full-test.true) in
    let none = nil_from_length last (omega (arith, empty, c.loop-full.last.ok.0)) in
    record {
      same =
          ap (λ (ps : List Point). rest ++ ps) c.into_points.ensures.points ∙ sym (ap joined c.in-Some.ensures ∙ joined_push c.pop.new.self run)
          ∙ sym (append-nil (joined full)) ∙ ap (λ (ps : List Point). joined full ++ ps) (sym none) ∙ c.loop-full.invariant.same;
      near = subst (λ (ps : List Point). All IsNearPoint ps) (sym c.into_points.ensures.points) c.into_points.ensures.near;
    }
