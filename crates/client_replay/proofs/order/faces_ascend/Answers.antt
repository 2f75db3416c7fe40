use Rattle.std.proofs.Common.{rules, nat_lt}
use Rattle.std.proofs.lemmas.Fn.{always_returns_same}
use Rattle.client_replay.proofs.Walks.{keys_answer}
use Rattle.client_replay.proofs.order.faces_ascend.Goals as goal

pub returns : goal.returns
returns c =
    keys_answer (λ x. x.face) c.args.rows.now c.is_sorted_by.result
    (c.is_sorted_by.ensures.cases (λ x y. nat_lt x.face y.face) (always_returns_same _ _ _ (λ a r f k. search rules)))
