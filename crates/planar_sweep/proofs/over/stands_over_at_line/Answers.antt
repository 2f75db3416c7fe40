-- What the tests say where a segment is upright.
use Rattle.std.proofs.Common.{sym, ◌∙◌, arith}
use Rattle.std.proofs.lemmas.Int.{ints}
use Rattle.planar_sweep.proofs.Strict.{over_upright, upright_over, uprights_over}
use Rattle.planar_sweep.proofs.over.stands_over_at_line.Goals as goal

pub returns-in-true-false : goal.returns-in-true-false
returns-in-true-false c = λ h. over_upright c.args.s c.args.t c.requires.t.forward (sym c.in-true-false.ensures) (sym c.in-true-false.ensures') (sym c.is_end_or_right.ensures ∙ h)

pub returns-in-false-true : goal.returns-in-false-true
returns-in-false-true c = λ h. upright_over c.args.s c.args.t c.requires.s.forward (sym c.in-false-true.ensures) (sym c.in-false-true.ensures') (sym c.is_end_or_left.ensures ∙ h)

pub returns-in-false-false : goal.returns-in-false-false
returns-in-false-false c = λ h. uprights_over c.args.s c.args.t c.requires.s.forward c.requires.t.forward (sym c.in-false-false.ensures) (sym c.in-false-false.ensures') (omega (arith, ints, h))
