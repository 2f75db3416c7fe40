use Rattle.std.proofs.Common.{◌≤ℤ◌, sym, ◌∙◌, ap, Some, ℤ, w64}
use Rattle.std.proofs.lemmas.Bool.{false≢true}
use Rattle.std.proofs.lemmas.Int.{to_z-of_z}
use Rattle.plain_io.proofs.Numbers.{fits_between, read_in_range, none_in_range, number_of_none}
use Rattle.plain_io.proofs.text.number.read_number.Goals as goal
use Rattle.plain_io.proofs.text.number.read_number.Goals.{Else-is_between}

pub returns-in_err-number-clause-exact : goal.returns-in_err-number-clause-exact
returns-in_err-number-clause-exact c =
    c.from_residual.ensures ∙ sym (number_of_none c.args.least c.args.most c.args.word.now
    (λ z low high. c.in_err-number.ensures.none z (fits_between c.args.least c.args.most z c.ranges.least c.ranges.most low high)))

pub returns-then-is_between-clause-exact : goal.returns-then-is_between-clause-exact
returns-then-is_between-clause-exact c =
    let spelled = c.in_ok-number.ensures.spelled in
    let number = to_z-of_z w64 c.in_ok-number.number spelled.1 in
    let range = rw (to_z-of_z w64 c.args.least c.ranges.least, number, to_z-of_z w64 c.args.most c.ranges.most) at (c.is_between.ensures.0 c.if-is_between.true) in
    ap (λ (z : ℤ). Some z) number ∙ sym (read_in_range c.args.least c.args.most c.in_ok-number.number c.args.word.now spelled range)

out_of_range : (c : Else-is_between) → (c.args.least ≤ℤ c.in_ok-number.number) × (c.in_ok-number.number ≤ℤ c.args.most) → ⊥
out_of_range c =
    let number = to_z-of_z w64 c.in_ok-number.number c.in_ok-number.ensures.spelled.1 in
    let inside = rw (to_z-of_z w64 c.args.least c.ranges.least, number, to_z-of_z w64 c.args.most c.ranges.most) at c.is_between.ensures.1 in
    λ range. false≢true (sym c.if-is_between.false ∙ inside range)

pub returns-else-is_between-clause-none : goal.returns-else-is_between-clause-none
returns-else-is_between-clause-none c =
    none_in_range c.args.least c.args.most c.in_ok-number.number c.args.word.now c.ranges.least c.ranges.most c.in_ok-number.ensures.spelled
    (out_of_range (goal.at.returns-else-is_between-clause-none c).Else-is_between)

pub returns-else-is_between-clause-exact : goal.returns-else-is_between-clause-exact
returns-else-is_between-clause-exact c =
    sym (number_of_none c.args.least c.args.most c.args.word.now
    (none_in_range c.args.least c.args.most c.in_ok-number.number c.args.word.now c.ranges.least c.ranges.most c.in_ok-number.ensures.spelled
    (out_of_range (goal.at.returns-else-is_between-clause-exact c).Else-is_between)))
