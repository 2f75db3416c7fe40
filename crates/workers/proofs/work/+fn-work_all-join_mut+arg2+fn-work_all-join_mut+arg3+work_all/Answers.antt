-- What became of the workers is what became of the first half and of the second.
use Rattle.std.proofs.Common.{rules, ◌≡◌, ◌↔◌, ◌++◌, inl, inr, sym, subst}
use Rattle.workers.specs.declared.end.ServeEnd.TheVariants.{DoorFailed}
use Rattle.workers.specs.Each.{EachBecame, OneBecame}
use Rattle.workers.proofs.Parts.{each_of_parts, one_from_parts, one_of_parts}
use Rattle.workers.proofs.work.+fn-work_all-join_mut+arg2+fn-work_all-join_mut+arg3+work_all.Goals as goal

pub returns-in_default-clause-done : goal.returns-in_default-clause-done
returns-in_default-clause-done g t c =
    let s = c.split_at_mut-front in
    let front : EachBecame g.P.Work.done s.result.0.now c.front-1.given.0 = search rules in
    let back : EachBecame g.P.Work.done s.result.1.now c.back-1.given.0 = search rules in
    subst (λ xs. EachBecame g.P.Work.done xs (c.front-1.given.0 ++ c.back-1.given.0)) (sym s.ensures.value)
    (each_of_parts g.P.Work.done _ _ _ _ front back)

pub returns-in_default-clause-end : goal.returns-in_default-clause-end
returns-in_default-clause-end g t c =
    let s = c.split_at_mut-front in
    let done : EachBecame g.P.Work.done s.result.0.now c.front-1.given.0 = search rules in
    let front : (c.join_mut-first.result.0 ≡ DoorFailed) ↔ OneBecame g.P.Work.failed s.result.0.now c.front-1.given.0 = search rules in
    let back : (c.join_mut-first.result.1 ≡ DoorFailed) ↔ OneBecame g.P.Work.failed s.result.1.now c.back-1.given.0 = search rules in
    let both = c.both.ensures in
    subst (λ xs. (c.both.result ≡ DoorFailed) ↔ OneBecame g.P.Work.failed xs (c.front-1.given.0 ++ c.back-1.given.0)) (sym s.ensures.value) (
      λ e. one_from_parts g.P.Work.done g.P.Work.failed _ _ _ _ done (elim (both.0 e) [ inl a ↦ inl (front.0 a) | inr b ↦ inr (back.0 b) ]),
      λ o. both.1 (elim (one_of_parts g.P.Work.done g.P.Work.failed _ _ _ _ done o) [ inl a ↦ inl (front.1 a) | inr b ↦ inr (back.1 b) ]),
    )
