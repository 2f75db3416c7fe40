use Rattle.topo_laws.proofs.ReadBack.{exports_are_read_back}
use Rattle.topo_laws.proofs.reading.exports_are_read_back.Goals as goal

pub returns : goal.returns
returns c = exports_are_read_back
