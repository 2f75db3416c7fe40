-- There is room for the replay, and the line tells what is reached.
use Rattle.std.proofs.Common.{◌≡◌, ◌∙◌, None, ap, sym, subst, arith, length, sum_by}
use Rattle.tgap_model.specs.History.{history_of}
use Rattle.std.proofs.lemmas.Result.{IfOk-weaker}
use Rattle.tgap_model.specs.declared.slice.Slice.{Slice}
use Rattle.tgap_model.specs.Records.{replayed}
use Rattle.slice_forms.specs.SliceForms.{has_room, is_slice_row}
use Rattle.client_replay.specs.Replaying.{outcome}
use Rattle.commands.specs.Grid.{IsLineOf, point_count, put_count}
use Rattle.commands.proofs.GridLine.{slice_points, last_form, back_form, back_room, back_fits, back_puts, line_made}
use Rattle.commands.proofs.grid.line_of.Goals as goal

pub of-last-requires : goal.of-last-requires
of-last-requires c =
    let m = c.args.built.now in
    omega (
      arith,
      ap point_count c.as_slice.ensures,
      ap (λ (s : Slice). point_count s.edges) c.in_ok-slice.ensures.exact,
      slice_points m c.base-base.ensures.base (length (history_of m)),
    )

pub replay_all-requires-clause-slice : goal.replay_all-requires-clause-slice
replay_all-requires-clause-slice c =
    let a = c.base-base.ensures in
    ap is_slice_row c.in_ok-slice.ensures.exact ∙ last_form c.args.built.now a.base a.partition c.in_ok-packet.packet c.in_ok-packet.ensures

pub replay_all-requires-clause-packet : goal.replay_all-requires-clause-packet
replay_all-requires-clause-packet c =
    let a = c.base-base.ensures in
    back_form c.args.built.now a.base a.partition c.in_ok-packet.packet c.in_ok-packet.ensures

pub replay_all-requires-clause-room : goal.replay_all-requires-clause-room
replay_all-requires-clause-room c =
    let a = c.base-base.ensures in
    ap (λ (s : Slice). has_room s c.in_ok-packet.packet.steps) c.in_ok-slice.ensures.exact
    ∙ back_room c.args.built.now a.base a.partition c.in_ok-packet.packet c.in_ok-packet.ensures

pub replay_all-requires-clause-fits : goal.replay_all-requires-clause-fits
replay_all-requires-clause-fits c =
    let a = c.base-base.ensures in
    let p = c.in_ok-packet.packet in
    subst (λ (s : Slice). outcome s p ≡ (replayed s p, None)) (sym c.in_ok-slice.ensures.exact) (back_fits c.args.built.now a.base a.partition p c.in_ok-packet.ensures)

pub of-requires : goal.of-requires
of-requires c =
    let m = c.args.built.now in
    let p = c.in_ok-packet.packet in
    let reached = c.in_ok-replay_all.ensures ∙ ap (λ (s : Slice). replayed s p) c.in_ok-slice.ensures.exact ∙ c.in_ok-packet.ensures.leads in
    omega (arith, ap point_count c.as_slice-3.ensures, ap (λ (s : Slice). point_count s.edges) reached, slice_points m c.base-base.ensures.base 0)

pub count_puts-requires : goal.count_puts-requires
count_puts-requires c =
    let a = c.base-base.ensures in
    omega (arith, ap (sum_by put_count) c.as_slice-2.ensures, back_puts c.args.built.now a.base a.partition c.in_ok-packet.packet c.in_ok-packet.ensures)

pub returns : goal.returns
returns c =
    let a = c.base-base.ensures in
    let last = c.in_ok-slice.slice in
    let p = c.in_ok-packet.packet in
    IfOk-weaker c.counts_text.result _ (IsLineOf c.args.rows c.args.built.now) (λ text told.
    line_made c.args.rows c.args.built.now a.base a.partition last p c.in_ok-slice.ensures c.in_ok-packet.ensures _ _ _ _ _ _ _ text
    a.value
    c.steps.ensures
    (c.count_puts.ensures ∙ ap (sum_by put_count) c.as_slice-2.ensures)
    (c.of-last.ensures.edges ∙ ap length c.as_slice.ensures)
    (c.of-last.ensures.points ∙ ap point_count c.as_slice.ensures)
    (c.of.ensures.edges ∙ ap length c.as_slice-3.ensures ∙ ap (λ (s : Slice). length s.edges) c.in_ok-replay_all.ensures)
    (c.of.ensures.points ∙ ap point_count c.as_slice-3.ensures ∙ ap (λ (s : Slice). point_count s.edges) c.in_ok-replay_all.ensures)
    told)
    c.counts_text.ensures
