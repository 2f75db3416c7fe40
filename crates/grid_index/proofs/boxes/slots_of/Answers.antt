use Rattle.std.proofs.Common.{◌<◌, length, get_or, ◌∙◌, arith}
use Rattle.std.proofs.lemmas.List.{length-set}
use Rattle.grid_index.proofs.Inverses.{one_below, placed_more}
use Rattle.grid_index.proofs.boxes.slots_of.Goals as goal

pub index_mut-requires : goal.index_mut-requires
index_mut-requires c =
    let keys = c.args.keys.now in
    let within : c.loop-i.i < length keys = omega (arith, c.loop-i-test.true, c.loop-i.auto.i-end) in
    omega (arith, one_below (length keys) keys c.requires.order c.loop-i.i within, c.loop-i.invariant.0)

pub loop-i-preserved : goal.loop-i-preserved
loop-i-preserved c =
    let keys = c.args.keys.now in
    let within : c.loop-i.i < length keys = omega (arith, c.loop-i-test.true, c.loop-i.auto.i-end) in (
      length-set c.loop-i.slots.items (get_or keys c.loop-i.i 0) c.loop-i.i ∙ c.loop-i.invariant.0,
      placed_more (length keys) keys c.requires.order c.loop-i.slots.items c.loop-i.i c.loop-i.invariant.0 within c.loop-i.invariant.1,
    )
