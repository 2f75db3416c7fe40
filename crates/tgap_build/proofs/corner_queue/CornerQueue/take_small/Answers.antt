-- The keys in order are those that were taken.
use Rattle.std.proofs.Common.{◌≡◌, inl, inr, true, List, subst, sym}
use Rattle.std.specs.declared.cmp.Reverse.{Reverse}
use Rattle.tgap_build.specs.declared.corner_queue.Entry.{Entry}
use Rattle.tgap_build.specs.Queue.{is_queued}
use Rattle.tgap_build.proofs.corner_queue.CornerQueue.take_small.Goals as goal

pub returns-clause-small : goal.returns-clause-small
returns-clause-small c = λ k n le h.
    (c.in_order.ensures.same k).1 (c.in_ok-keys.ensures.small k n le (subst (λ (q : List (Reverse Entry)). is_queued q k n ≡ true) (sym c.self.view_is) h))

pub returns-clause-others : goal.returns-clause-others
returns-clause-others c = λ k n h. elim (c.in_ok-keys.ensures.others k n (subst (λ (q : List (Reverse Entry)). is_queued q k n ≡ true) (sym c.self.view_is) h)) [
  | inl told ↦ inl ((c.in_order.ensures.same k).1 told)
  | inr left ↦ inr left
]
