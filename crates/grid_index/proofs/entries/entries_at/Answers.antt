use Rattle.std.proofs.Common.{ap, ◌∙◌}
use Rattle.grid_index.specs.Slots.{held}
use Rattle.grid_index.proofs.Living.{entries_at_more}
use Rattle.grid_index.proofs.entries.entries_at.Goals as goal

pub loop-place-preserved : goal.loop-place-preserved
loop-place-preserved c =
    let edges = c.args.edges.now in
    let places = c.args.places.now in
    let i = c.loop-place.place-index in
    let more = c.loop-place-test.true in
    ap held c.in_ok-push.ensures.items
    ∙ entries_at_more c.loop-place.entries.items edges places i c.index-edges-place.result c.in_ok-of.field-0 more (c.requires.places i 0 more) c.index-edges-place.is c.in_ok-of.ensures c.loop-place.invariant
