-- A word that does not begin plainly is no number in canonical decimal, and one of many bytes that does is the number that it is parsed as.
use Rattle.std.proofs.Common.{◌≡◌, sym, ◌∙◌, subst, ℤ, FitsSigned, w64}
use Rattle.std.specs.Fmt.{signed_decimal}
use Rattle.std.proofs.lemmas.Bool.{false≢true}
use Rattle.plain_io.specs.Canonical.{IsPlain}
use Rattle.plain_io.proofs.Numbers.{on_condition, unread, written_plainly}
use Rattle.plain_io.proofs.text.number.canonical_number.Goals as goal

pub returns-then-not-is_plain-clause-none : goal.returns-then-not-is_plain-clause-none
returns-then-not-is_plain-clause-none c =
    λ n fits e. absurd (false≢true (sym c.if-not-is_plain.true ∙ c.is_plain.ensures.1 (subst IsPlain (sym e) (written_plainly n fits))))

pub returns-else-word-le-MOST_DIGITS-clause-spelled : goal.returns-else-word-le-MOST_DIGITS-clause-spelled
returns-else-word-le-MOST_DIGITS-clause-spelled c =
    on_condition (λ (n : ℤ). c.args.word.now ≡ signed_decimal n) (FitsSigned w64) c.parse.result
    (c.is_plain.ensures.0 c.if-not-is_plain.false) c.parse.ensures.plain c.parse.ensures.fits

pub returns-else-word-le-MOST_DIGITS-clause-none : goal.returns-else-word-le-MOST_DIGITS-clause-none
returns-else-word-le-MOST_DIGITS-clause-none c = unread c.args.word.now c.parse.result c.parse.ensures.complete
