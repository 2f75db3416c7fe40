use Rattle.std.proofs.Common.{Option, sym, ap₂, ◌∙◌}
use Rattle.tgap_model.specs.declared.slice.Slice.{Slice}
use Rattle.client_replay.specs.declared.unfit.Unfit.{Unfit}
use Rattle.client_replay.specs.Replaying.{undone}
use Rattle.client_replay.proofs.Replays.{other_step, own_step, all_undone}
use Rattle.client_replay.proofs.packet.replay.Goals as goal

pub returns-then-slice-packet-clause-exact : goal.returns-then-slice-packet-clause-exact
returns-then-slice-packet-clause-exact c = other_step c.args.slice.now c.args.packet.now c.if-slice-packet.true

pub returns-in-Some-clause-exact : goal.returns-in-Some-clause-exact
returns-in-Some-clause-exact c =
    own_step c.args.slice.now c.args.packet.now c.if-slice-packet.false
    ∙ ap₂ undone (sym c.in_ok-working.ensures.same) (sym c.as_slice.ensures) ∙ c.in_ok-unfit.ensures.done
    ∙ ap₂ (λ (t : Slice) (o : Option Unfit). (t, o)) (sym c.in_ok-slice.ensures) c.in-Some.is

pub returns-in-None-clause-exact : goal.returns-in-None-clause-exact
returns-in-None-clause-exact c =
    own_step c.args.slice.now c.args.packet.now c.if-slice-packet.false
    ∙ ap₂ undone (sym c.in_ok-working.ensures.same) (sym c.as_slice.ensures) ∙ c.in_ok-unfit.ensures.done
    ∙ ap₂ (λ (t : Slice) (o : Option Unfit). (t, o)) (sym c.in_ok-slice.ensures) c.in-None.is

pub returns-in-None-clause-done : goal.returns-in-None-clause-done
returns-in-None-clause-done c =
    all_undone c.args.slice.now c.args.packet.now.steps c.in_ok-slice.field-0
    (ap₂ undone (sym c.in_ok-working.ensures.same) (sym c.as_slice.ensures) ∙ c.in_ok-unfit.ensures.done
    ∙ ap₂ (λ (t : Slice) (o : Option Unfit). (t, o)) (sym c.in_ok-slice.ensures) c.in-None.is)
