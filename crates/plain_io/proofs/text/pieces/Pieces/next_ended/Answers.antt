use Rattle.std.proofs.Common.{◌∷◌, sym, ap, ◌∙◌}
use Rattle.plain_io.specs.Rest.{split_rest}
use Rattle.plain_io.proofs.LineEnds.{some_piece}
use Rattle.plain_io.proofs.text.pieces.Pieces.next_ended.Goals as goal

pub returns : goal.returns
returns c =
    let separator = c.self.inside.separator in
    let left = sym c.self.view_is ∙ ap (split_rest separator) c.in_ok-self.was ∙ c.first_piece.ensures in
    (left ∙ ap (λ rest. c.first_piece.result.0.now ∷ split_rest separator rest) c.in_ok-rest.was, λ none. some_piece separator c.in_ok-rest.field-0.now none)
