-- The segments of the event are some of the segments.
use Rattle.std.proofs.Common.{◌<◌, length, All, subst, arith}
use Rattle.planar_sweep.specs.declared.events.Event.{Event}
use Rattle.planar_sweep.specs.Rows.{changes, leaving}
use Rattle.planar_sweep.proofs.aside.pass.Goals as goal

pub leave_and_close-requires-clause-number : goal.leave_and_close-requires-clause-number
leave_and_close-requires-clause-number c = subst (λ (e : Event). All (λ f. f.number < length c.args.segs.now) (changes e)) c.in-Leaves.is c.requires.known 0 (leaving 0) (omega arith)

pub come_or_aside-requires-clause-number : goal.come_or_aside-requires-clause-number
come_or_aside-requires-clause-number c = subst (λ (e : Event). All (λ f. f.number < length c.args.segs.now) (changes e)) c.in-Comes.is c.requires.known 0 (leaving 0) (omega arith)

pub leave_and_close-requires-in-Passes-clause-number : goal.leave_and_close-requires-in-Passes-clause-number
leave_and_close-requires-in-Passes-clause-number c = subst (λ (e : Event). All (λ f. f.number < length c.args.segs.now) (changes e)) c.in-Passes.is c.requires.known 1 (leaving 0) (omega arith)

pub come_or_aside-requires-in-Passes-clause-number : goal.come_or_aside-requires-in-Passes-clause-number
come_or_aside-requires-in-Passes-clause-number c = subst (λ (e : Event). All (λ f. f.number < length c.args.segs.now) (changes e)) c.in-Passes.is c.requires.known 0 (leaving 0) (omega arith)
