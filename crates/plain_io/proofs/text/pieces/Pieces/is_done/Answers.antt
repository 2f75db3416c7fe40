use Rattle.plain_io.proofs.LineEnds.{done_tested}
use Rattle.plain_io.proofs.text.pieces.Pieces.is_done.Goals as goal

pub returns : goal.returns
returns c = done_tested c.self.inside.separator c.self.inside.rest c.args.self.now c.is_none.result c.self.view_is c.is_none.ensures
