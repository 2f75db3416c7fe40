-- A plain word of few bytes is told by the value of its digits, which a minus stands before or not.
use Rattle.std.proofs.Common.{◌≡◌, sym, ◌∙◌, subst, ℤ, pos, neg_ℤ, ◌-ℤ◌, FitsSigned, w64, to_z, of_z, arith}
use Rattle.std.specs.Fmt.{signed_decimal}
use Rattle.std.proofs.lemmas.Int.{ints, to_z_pos}
use Rattle.std.proofs.lemmas.List.{take_rest}
use Rattle.plain_io.proofs.Numbers.{digits_spelled, minus_digits_spelled, no_numeral, no_numeral_behind}
use Rattle.plain_io.proofs.text.number.short_number.Goals as goal

pub returns-in_err-size-clause-none : goal.returns-in_err-size-clause-none
returns-in_err-size-clause-none c =
    rw c.from_residual.ensures (no_numeral_behind c.args.word.now (sym c.byte_at.ensures ∙ c.if-byte_at-eq45.true) (rw (take_rest c.args.word.now 1) at c.in_err-size.ensures.none))

pub returns-in_err-size-2-clause-none : goal.returns-in_err-size-2-clause-none
returns-in_err-size-2-clause-none c =
    rw c.from_residual-in_err-size-2.ensures (no_numeral c.args.word.now (λ e. c.if-byte_at-eq45.false (c.byte_at.ensures ∙ e)) c.in_err-size-2.ensures.none)

pub returns-in_ok-size-clause-spelled : goal.returns-in_ok-size-clause-spelled
returns-in_ok-size-clause-spelled c =
    let size = c.in_ok-size.size in
    let number : to_z w64 (of_z w64 (pos 0 -ℤ to_z w64 size)) ≡ neg_ℤ (pos size) = omega (arith, ints, c.in_ok-size.ensures.size) in
    subst (λ (z : ℤ). (c.args.word.now ≡ signed_decimal z) × FitsSigned w64 z) (sym number)
    (minus_digits_spelled c.args.word.now size c.requires.plain (sym c.byte_at.ensures ∙ c.if-byte_at-eq45.true) (rw (take_rest c.args.word.now 1) at c.in_ok-size.ensures.value) c.in_ok-size.ensures.size)

pub returns-in_ok-size-2-clause-spelled : goal.returns-in_ok-size-2-clause-spelled
returns-in_ok-size-2-clause-spelled c =
    let size = c.in_ok-size-2.size in
    let number : to_z w64 size ≡ pos size = to_z_pos w64 size (omega (arith, c.in_ok-size-2.ensures.size)) in
    subst (λ (z : ℤ). (c.args.word.now ≡ signed_decimal z) × FitsSigned w64 z) (sym number)
    (digits_spelled c.args.word.now size c.requires.plain c.in_ok-size-2.ensures.value c.in_ok-size-2.ensures.size)
