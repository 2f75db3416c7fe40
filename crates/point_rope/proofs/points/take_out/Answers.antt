-- What is kept are the points that fail the test.
use Rattle.std.proofs.Common.{rules, not}
use Rattle.std.proofs.lemmas.Fn.{filter_same}
use Rattle.tgap_model.specs.declared.geometry.Point.{Point}
use Rattle.point_rope.proofs.points.take_out.Goals as goal

pub returns : goal.returns
returns g c = filter_same _ (λ (p : Point). not (g.T.PointTest.passes c.args.test.now p)) _ (λ x b f' k. search rules) _ _ c.retain.ensures.filtered
