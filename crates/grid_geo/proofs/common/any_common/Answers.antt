-- The cross product of the directions is the turn, and its bits are 0 where it is.
use Rattle.std.proofs.Common.{◌≡◌, ℤ, sym, ap, ◌∙◌, of_z}
use Rattle.std.specs.Int.{w128}
use Rattle.tgap_model.specs.Segment.{turn}
use Rattle.grid_geo.proofs.Sizes.{zero_from_bits}
use Rattle.grid_geo.proofs.CommonPoint.{any_parallel, any_turning}
use Rattle.grid_geo.proofs.common.any_common.Goals as goal

pub returns-then-cross-eq0-clause-value : goal.returns-then-cross-eq0-clause-value
returns-then-cross-eq0-clause-value c =
    let turns : c.cross-cross.result ≡ turn c.args.s c.args.t = cc in
    let zero = zero_from_bits c.cross-cross.result c.cross-cross.ensures.size c.if-cross-eq0.true in
    c.overlap.ensures.value ∙ sym (any_parallel c.args.s c.args.t (sym turns ∙ zero))

pub returns-else-cross-eq0-clause-value : goal.returns-else-cross-eq0-clause-value
returns-else-cross-eq0-clause-value c =
    let turns : c.cross-cross.result ≡ turn c.args.s c.args.t = cc in
    c.intersection.ensures.value ∙ sym (any_turning c.args.s c.args.t (λ e. c.if-cross-eq0.false (ap (λ (z : ℤ). of_z w128 z) (turns ∙ e))))
