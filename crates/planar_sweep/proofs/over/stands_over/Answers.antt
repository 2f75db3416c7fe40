-- What the coordinates alone say.
use Rattle.std.proofs.Common.{sym, ◌∙◌}
use Rattle.planar_sweep.proofs.Strict.{far_over, higher_over}
use Rattle.planar_sweep.proofs.over.stands_over.Goals as goal

pub returns-then-not-shares_line : goal.returns-then-not-shares_line
returns-then-not-shares_line c = λ h. far_over c.args.s c.args.t c.requires.s.forward c.requires.t.forward
    (sym c.shares_line.ensures ∙ c.if-not-shares_line.true) (sym c.is_over.ensures ∙ h)

pub returns-then-is_higher : goal.returns-then-is_higher
returns-then-is_higher c = λ _.
    let less = c.is_higher.ensures c.if-is_higher.true in
    higher_over c.args.s c.args.t c.requires.s.forward c.requires.t.forward (sym c.shares_line.ensures ∙ c.if-not-shares_line.false) less.0 less.1 less.2 less.3
