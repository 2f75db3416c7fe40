use Rattle.std.proofs.Common.{rules, arith}
use Rattle.version_store.proofs.RuleKept.{lifts_kept}
use Rattle.version_store.proofs.Holders.{slot_filled, lays_slot, slot_laid}
use Rattle.version_store.proofs.shelf.fill.Goals as goal

pub load-requires : goal.load-requires
load-requires g c = (search rules, search rules, lifts_kept _ _ _ _ _ c.requires.press.0 c.requires.press.1 (search rules))

pub load-requires-2 : goal.load-requires-2
load-requires-2 g c =
    let same = c.requires.slot.0 in
    let e = slot_filled c.args.place.now.me.0 _ _ c.args.slot c.args.owner _ _ c.load.ensures.2.1 c.requires.press.2 c.exchange.ensures.3 same in
    (search rules, search rules, lays_slot _ _ _ _ c.args.place.now.me.0 c.args.owner _ e c.requires.press.0 (search rules) (λ l. c.requires.next (omega arith)))

pub returns-clause-filled : goal.returns-clause-filled
returns-clause-filled g c =
    let same = c.requires.slot.0 in
    let e = slot_filled c.args.place.now.me.0 _ _ c.args.slot c.args.owner _ _ c.load.ensures.2.1 c.requires.press.2 c.exchange.ensures.3 same in
    let t = c.load-2.ensures.2 in
    slot_laid c.args.place.now.me.0 _ _ c.args.owner t.0 c.args.slot e c.requires.press.1 same t.1 t.2
