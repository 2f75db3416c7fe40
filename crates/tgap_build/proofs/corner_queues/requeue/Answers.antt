-- The edges of before are told of as they were, and the others are put in.
use Rattle.std.proofs.Common.{length, sym, ◌∙◌, subst}
use Rattle.tgap_build.specs.Queues.{IsCornered}
use Rattle.tgap_build.proofs.CornerLists.{kept_but_queued}
use Rattle.tgap_build.proofs.corner_queues.requeue.Goals as goal

pub returns : goal.returns
returns c = λ before h kept.
    let t = c.args.edges.now in
    let one = c.in_ok-put_all.ensures in
    let old = subst (IsCornered (length t.beside.items) before) (sym c.take.ensures.value ∙ c.in-Some.is) h in (
      one.room ∙ old.0,
      kept_but_queued t.places.items c.requires.table.keyed before c.args.keys.now c.in-Some.queues.queues.items c.put_all.new.self.queues.items old.1 one.others one.edges kept,
    )
