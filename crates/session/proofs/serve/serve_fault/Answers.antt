-- A head at fault is answered.
use Rattle.std.proofs.Common.{refl}
use Rattle.session.specs.Items.{Fault}
use Rattle.session.proofs.Edits.{if_ok}
use Rattle.session.proofs.Exchanges.{exchange_of, reads_nothing, kept_nothing, tells_nothing, goes_nowhere}
use Rattle.session.proofs.serve.serve_fault.Goals as goal

pub returns-clause-exchange : goal.returns-clause-exchange
returns-clause-exchange g c seen held holds begins =
    exchange_of seen seen c.args.talk.now.pin c.args.talk.now.pin held held c.args.talk.now.log c.respond.new.log (g.L.Link.told c.args.link.now) (g.L.Link.told c.respond.new.link)
    (Fault c.args.status) _ c.refuse_head-turned.result c.respond.result refl begins.fault
    (if_ok c.refuse_head-turned.result _ _ (λ t is. is seen holds) c.refuse_head-turned.ensures.turned)
    (kept_nothing c.args.talk.now.pin c.refuse_head-turned.result)
    c.respond.ensures.put c.respond.ensures.numbers c.respond.ensures.rows holds (goes_nowhere seen)
    (reads_nothing seen c.refuse_head-turned.result c.refuse_head-turned.ensures.row) (tells_nothing seen c.refuse_head-turned.result c.refuse_head-turned.ensures.row)
