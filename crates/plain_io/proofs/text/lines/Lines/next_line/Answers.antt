use Rattle.plain_io.proofs.LineEnds.{next_line_taken}
use Rattle.plain_io.proofs.text.lines.Lines.next_line.Goals as goal

pub returns : goal.returns
returns c =
    next_line_taken c.args.self.now c.self.inside.number c.saturating_add-self-inside.result c.self.inside.pieces c.next_ended.new.self c.in_ok-line.line.now c.words.result
    c.self.view_is c.in_ok-line.ensures c.words.ensures c.saturating_add-self-inside.ensures
