use Rattle.std.proofs.Common.{inl, inr, Err, sym}
use Rattle.grid_index.proofs.KeyLists.{is_found}
use Rattle.grid_index.proofs.Placing.{none_next}
use Rattle.grid_index.proofs.changes.is_next.Goals.{then-next-keys-via-then-next-keys, then-next-keys-via-else-next-keys+then-key-keys}
use Rattle.grid_index.proofs.changes.is_next.Goals as goal

pub returns-then-next-keys-clause-is : goal.returns-then-next-keys-clause-is
returns-then-next-keys-clause-is c =
    elim c.then-next-keys.branch [
      | then-next-keys-via-then-next-keys w ↦ sym (none_next c.args.keys.now c.args.next.now c.args.key 0 c.requires.ascending c.requires.below (inl w.if-next-keys.true))
      | then-next-keys-via-else-next-keys+then-key-keys w ↦ sym (none_next c.args.keys.now c.args.next.now c.args.key _ c.requires.ascending c.requires.below (inr w.if-key-keys.true))
    ]

pub returns-in-Err-clause-is : goal.returns-in-Err-clause-is
returns-in-Err-clause-is c = is_found c.args.keys.now c.args.key (Err c.in-Err.place) c.requires.ascending c.in-Err.ensures.position
