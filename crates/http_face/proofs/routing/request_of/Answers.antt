-- The method is that of the row.
use Rattle.std.proofs.Common.{◌≡◌, ◌∙◌, sym, ap, true, subst}
use Rattle.std.specs.Option.{unwrap_or}
use Rattle.std.specs.Prelude.{bytes_eq}
use Rattle.http_face.specs.declared.request.Route.TheVariants as route
use Rattle.http_face.specs.Routes.{method_word}
use Rattle.http_face.proofs.Paths.{not_false, asked_of_row}
use Rattle.http_face.proofs.routing.request_of.Goals as goal

pub returns : goal.returns
returns c =
    let word = c.as_bytes.ensures.value ∙ c.word.ensures ∙ ap method_word c.method.ensures in
    let same = subst (λ w. bytes_eq c.args.method.now w ≡ true) word (not_false _ c.if-ne.ensures) in
    c.unwrap_or.ensures ∙ ap (λ o. unwrap_or o route.BadNumber) c.read_parameters.ensures
    ∙ sym (asked_of_row c.args.method.now c.args.resource c.args.parameters same)
