use Rattle.std.proofs.Common.{List, subst, sym, ap, ◌∙◌}
use Rattle.version_store.specs.declared.event.Outcome.{Outcome}
use Rattle.version_store.specs.Machine.{Versions}
use Rattle.version_store.specs.Versions.{AreVersions}
use Rattle.version_store.proofs.Laws.{run_done, run_tells, run_grows, sound, all_published, all_read, pins_kept}
use Rattle.version_store.proofs.machine.Machine.run.Goals as goal

pub returns-in_err-outcomes-clause-published : goal.returns-in_err-outcomes-clause-published
returns-in_err-outcomes-clause-published c = all_published c.args.self.now c.args.events (sound c.args.self.now (subst AreVersions c.self.view_is c.self.invariant.0))

pub returns-in_err-outcomes-clause-read : goal.returns-in_err-outcomes-clause-read
returns-in_err-outcomes-clause-read c = all_read c.args.self.now c.args.events

pub returns-in_err-outcomes-clause-pins : goal.returns-in_err-outcomes-clause-pins
returns-in_err-outcomes-clause-pins c = pins_kept c.args.self.now c.args.events (sound c.args.self.now (subst AreVersions c.self.view_is c.self.invariant.0))

pub returns-clause-published : goal.returns-clause-published
returns-clause-published c = all_published c.args.self.now c.args.events (sound c.args.self.now (subst AreVersions c.self.view_is c.self.invariant.0))

pub returns-clause-read : goal.returns-clause-read
returns-clause-read c = all_read c.args.self.now c.args.events

pub returns-clause-pins : goal.returns-clause-pins
returns-clause-pins c = pins_kept c.args.self.now c.args.events (sound c.args.self.now (subst AreVersions c.self.view_is c.self.invariant.0))

pub returns-clause-exact : goal.returns-clause-exact
returns-clause-exact c =
    rw c.from.ensures
    (run_done c.args.self.now c.loop-event.self c.args.events c.loop-event.event-iterator.rest.items c.loop-event.outcomes.items (sym c.loop-event.event-iterator.rest.ok.0 ∙ c.in-None.ensures.steps.0) c.loop-event.invariant.0)

pub returns-clause-told : goal.returns-clause-told
returns-clause-told c = ap (λ (r : Versions × List Outcome). r.1) (returns-clause-exact c) ∙ run_tells c.args.self.now c.args.events

pub returns-clause-grows : goal.returns-clause-grows
returns-clause-grows c = ap (λ (r : Versions × List Outcome). r.0.history) (returns-clause-exact c) ∙ run_grows c.args.self.now c.args.events
