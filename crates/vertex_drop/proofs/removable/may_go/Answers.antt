use Rattle.std.proofs.Common.{◌*◌, ◌||◌, pos, int_le, Bool, sym, ap, ◌∙◌}
use Rattle.std.specs.Int.{w128}
use Rattle.std.proofs.lemmas.Bool.{ne_eqb}
use Rattle.std.proofs.lemmas.Int.{to_z-of_z}
use Rattle.vertex_drop.proofs.Small.{not_zero}
use Rattle.vertex_drop.proofs.removable.may_go.Goals as goal

pub returns-else-area-eq0 : goal.returns-else-area-eq0
returns-else-area-eq0 c n e =
    let rule = c.args.rule in
    c.is_small.ensures n (to_z-of_z w128 c.args.area c.ranges.area ∙ e)
    ∙ ap (λ (b : Bool). b || int_le (pos (rule.ratio * n)) rule.area) (sym (ne_eqb n 0 (not_zero c.args.area n e c.if-area-eq0.false)))
