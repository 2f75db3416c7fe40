use Rattle.std.proofs.Common.{◌∙◌, ap}
use Rattle.line_forms.specs.Lines.{Lines, is_over}
use Rattle.plain_io.proofs.LineEnds.{over_tested}
use Rattle.plain_io.proofs.text.lines.Lines.is_over.Goals as goal

pub returns : goal.returns
returns c = over_tested c.is_one_empty.result c.self.inside.pieces c.is_one_empty.ensures ∙ ap (λ (l : Lines). is_over l.rows) c.self.view_is
