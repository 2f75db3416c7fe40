-- The two spokes that come are those of the definition.
use Rattle.base_check.proofs.Spokes.{adds_both, adds_last}
use Rattle.base_check.proofs.sorted.push_spokes.Goals as goal
use Rattle.base_check.proofs.sorted.push_spokes.Goals.{then-s+in_ok-push, else-s}

pub returns-in_ok-push-2-clause-added : goal.returns-in_ok-push-2-clause-added
returns-in_ok-push-2-clause-added c =
    let old = c.args.spokes.now.items in
    let q = c.spoke_between-then-s-2.result in
    let new = c.push-then-s-2.new.self.items in
    elim c.if-s.branch [
      | then-s+in_ok-push w ↦ adds_both c.args.s.now old c.if-s.spokes.items new w.spoke_between.result q w.if-s.true c.if-s-2.true (cc (w.spokes-is, w.in_ok-push.ensures.items)) c.in_ok-push-2.ensures.items
          w.spoke_between.ensures.node w.spoke_between.ensures.spoke c.spoke_between-then-s-2.ensures.node c.spoke_between-then-s-2.ensures.spoke
      | else-s w ↦ adds_last c.args.s.now old new q w.if-s.false c.if-s-2.true (cc (w.spokes-is, c.in_ok-push-2.ensures.items))
          c.spoke_between-then-s-2.ensures.node c.spoke_between-then-s-2.ensures.spoke
    ]
