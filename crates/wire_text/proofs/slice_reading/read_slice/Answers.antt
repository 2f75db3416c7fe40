use Rattle.wire_text.proofs.SliceLaws.{slice_read, slice_found, slice_fault}
use Rattle.wire_text.proofs.Room.{slice_room}
use Rattle.wire_text.proofs.slice_reading.read_slice.Goals as goal

pub returns-clause-read : goal.returns-clause-read
returns-clause-read c = slice_read c.args.bytes.now c.read_checked.result c.read_checked.ensures

pub returns-clause-spelled : goal.returns-clause-spelled
returns-clause-spelled c = λ s is. slice_found c.args.bytes.now c.read_checked.result s is c.read_checked.ensures

pub returns-clause-fault : goal.returns-clause-fault
returns-clause-fault c = λ f is s. slice_fault c.args.bytes.now c.read_checked.result f s is c.read_checked.ensures

pub returns-clause-room : goal.returns-clause-room
returns-clause-room c = slice_room c.args.bytes.now c.read_checked.result (slice_read c.args.bytes.now c.read_checked.result c.read_checked.ensures)
