use Rattle.std.proofs.Common.{◌∙◌, sym, ap}
use Rattle.plain_io.specs.Rest.{split_rest}
use Rattle.plain_io.proofs.LineEnds.{one_empty_tested}
use Rattle.plain_io.proofs.text.pieces.Pieces.is_one_empty.Goals as goal

pub returns-in-Some : goal.returns-in-Some
returns-in-Some c =
    let view = sym (ap (split_rest c.self.inside.separator) c.in-Some.is) ∙ c.self.view_is in
    one_empty_tested c.self.inside.separator c.in-Some.rest.now c.args.self.now c.is_empty.result view c.is_empty.ensures
