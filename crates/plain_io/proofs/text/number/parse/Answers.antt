use Rattle.std.proofs.Common.{◌≡◌, sym, ap, ◌∙◌, subst, ℤ, List, ℕ, Option, IfSome, IsUtf8}
use Rattle.std.specs.Fmt.{signed_decimal}
use Rattle.std.specs.Result.{result_ok}
use Rattle.plain_io.proofs.Numbers.{no_text, parsed, plainly_parsed, err_says, ok_says}
use Rattle.plain_io.specs.Canonical.{IsPlain}
use Rattle.plain_io.proofs.text.number.parse.Goals as goal

pub returns-in_err-text-clause-complete : goal.returns-in_err-text-clause-complete
returns-in_err-text-clause-complete c =
    let none = sym c.ok.ensures.value ∙ c.in_err-text.was in
    let no_utf8 = err_says _ (¬ (IsUtf8 c.args.word.now)) _ c.from_utf8.result c.from_utf8.ensures.cases none in
    λ n fits e. absurd (no_text c.args.word.now no_utf8 n fits e)

pub returns-clause-complete : goal.returns-clause-complete
returns-clause-complete c =
    let some = sym c.ok.ensures.value ∙ c.in_ok-text.was in
    let same = ok_says _ _ c.from_utf8.result c.in_ok-text.text c.from_utf8.ensures.cases some in
    λ n fits e. c.ok-2.ensures.value ∙ ap result_ok (parsed c.in_ok-text.text.now c.parse.result c.parse.ensures.value.0 n fits (same.0 ∙ e))

pub returns-clause-plain : goal.returns-clause-plain
returns-clause-plain c =
    let some = sym c.ok.ensures.value ∙ c.in_ok-text.was in
    let same = ok_says _ _ c.from_utf8.result c.in_ok-text.text c.from_utf8.ensures.cases some in
    subst (λ (o : Option ℤ). IfSome o (λ n. IsPlain c.args.word.now → c.args.word.now ≡ signed_decimal n)) (sym c.ok-2.ensures.value)
    (subst (λ (w : List ℕ). IfSome (result_ok c.parse.result) (λ n. IsPlain w → w ≡ signed_decimal n)) same.0
    (plainly_parsed c.in_ok-text.text.now c.parse.result c.parse.ensures.value.0))
