use Rattle.topo_laws.proofs.ReadText.{texts_are_read}
use Rattle.topo_laws.proofs.reading.texts_are_read.Goals as goal

pub returns : goal.returns
returns c = texts_are_read
