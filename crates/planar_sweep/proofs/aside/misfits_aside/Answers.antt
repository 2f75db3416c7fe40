-- The segments of an event are some of the segments.
use Rattle.std.proofs.Common.{◌<◌, length, sym, ap, ◌∙◌, arith}
use Rattle.std.proofs.lemmas.List.{get_or_default}
use Rattle.planar_sweep.specs.Rows.{event_of}
use Rattle.planar_sweep.proofs.EventSteps.{changes_known}
use Rattle.planar_sweep.proofs.aside.misfits_aside.Goals as goal

pub pass-requires-clause-known : goal.pass-requires-clause-known
pass-requires-clause-known c =
    let keys = c.in_ok-keys.keys.items in
    let key = c.index.result.now in
    let short : c.loop-k.k < length keys = omega (arith, c.loop-k-test.true, c.len-k-end.ensures, c.in_ok-keys.keys.ok.0) in
    changes_known c.args.segs.now keys c.in_ok-keys.ensures.events c.loop-k.k short c.event_of.result
    (ap event_of (get_or_default keys c.loop-k.k 0 key short ∙ sym c.index.ensures) ∙ sym c.event_of.ensures)
