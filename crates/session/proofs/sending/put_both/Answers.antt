-- What is put in two calls is the whole, or a front of it.
use Rattle.session.proofs.Sendings.{both_put, front_of_both}
use Rattle.session.proofs.sending.put_both.Goals as goal

pub returns-in-Ok-clause-bytes : goal.returns-in-Ok-clause-bytes
returns-in-Ok-clause-bytes g c =
    both_put (g.L.Link.told c.args.link.now) (g.L.Link.told c.put.new.self) (g.L.Link.told c.put-in-Ok.new.self) c.args.first.now c.args.rest.now
    c.put-in-Ok.result c.in-Ok.ensures.bytes c.put-in-Ok.ensures.bytes

pub returns-in-Err-clause-bytes : goal.returns-in-Err-clause-bytes
returns-in-Err-clause-bytes g c =
    front_of_both (g.L.Link.told c.args.link.now) (g.L.Link.told c.put.new.self) c.args.first.now c.args.rest.now c.in-Err.ensures.bytes
