-- It is refused for the cause that was told.
use Rattle.std.proofs.Common.{rules, ◌+◌}
use Rattle.std.specs.Arc.{arc_value}
use Rattle.tgap_model.specs.Keeping.{KeptEntry}
use Rattle.version_store.proofs.Refusals.{of_refusal}
use Rattle.version_store.proofs.Publishing.{listed_keeps, wanting_keeps}
use Rattle.version_store.proofs.press.publish.PressOf+V+N+K+Growing.publish.Goals as goal

pub returns-in_err-ready-clause-stale : goal.returns-in_err-ready-clause-stale
returns-in_err-ready-clause-stale g c =
    λ n. of_refusal c.ready.result c.from_residual.result c.in_err-ready.field-0.0 _ c.in_err-ready.was c.from_residual.ensures.1 (c.ready.ensures.stale n)

pub returns-in_err-ready-clause-full : goal.returns-in_err-ready-clause-full
returns-in_err-ready-clause-full g c =
    λ n. of_refusal c.ready.result c.from_residual.result c.in_err-ready.field-0.0 _ c.in_err-ready.was c.from_residual.ensures.1 (c.ready.ensures.full n)

pub returns-in_err-ready-clause-batch : goal.returns-in_err-ready-clause-batch
returns-in_err-ready-clause-batch g c =
    let e : KeptEntry = record { number = c.args.named + 1; batch = g.V.Holds.batched (arc_value c.args.next) } in
    rw c.ready.ensures.keeper
    (listed_keeps (g.K.Keep.limit c.args.self.now.keeper) e (g.K.Keep.told c.args.self.now.keeper) c.ready.result c.from_residual.result c.in_err-ready.field-0.0
    c.in_err-ready.was c.from_residual.ensures.1 c.ready.ensures.cause)

pub returns-in_err-owners-clause-batch : goal.returns-in_err-owners-clause-batch
returns-in_err-owners-clause-batch g c =
    let e : KeptEntry = record { number = c.args.named + 1; batch = g.V.Holds.batched (arc_value c.args.next) } in
    rw c.ready.ensures.keeper
    (wanting_keeps (g.K.Keep.limit c.args.self.now.keeper) e (g.K.Keep.told c.args.self.now.keeper) c.from_residual-in_err-owners.result (search rules))
