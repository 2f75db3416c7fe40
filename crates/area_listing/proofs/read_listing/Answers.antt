use Rattle.area_listing.proofs.Laws.{base_read, base_spelled, base_fault}
use Rattle.area_listing.proofs.read_listing.Goals as goal

pub returns-clause-read : goal.returns-clause-read
returns-clause-read c = base_read c.args.bytes.now c.read_checked.result c.read_checked.ensures

pub returns-clause-spelled : goal.returns-clause-spelled
returns-clause-spelled c = λ m is. base_spelled c.args.bytes.now c.read_checked.result m is c.read_checked.ensures

pub returns-clause-fault : goal.returns-clause-fault
returns-clause-fault c = λ f is m. base_fault c.args.bytes.now c.read_checked.result f m is c.read_checked.ensures
