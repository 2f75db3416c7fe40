use Rattle.std.proofs.Common.{rules}
use Rattle.version_store.proofs.RuleKept.{raises_kept}
use Rattle.version_store.proofs.Holders.{raised_once}
use Rattle.version_store.proofs.shelf.raise.Goals as goal

pub store-requires : goal.store-requires
store-requires g c =
    let p = c.requires.press in
    let f = c.requires.filled in
    let n = c.requires.count in
    (search rules, search rules, raises_kept _ _ _ _ _ c.args.version.now _ p.0 p.1 c.requires.next f.0 f.1 n.0 n.1 c.requires.number)

pub returns-clause-published : goal.returns-clause-published
returns-clause-published g c = raised_once c.args.place.now.me _ c.args.version.now c.args.count c.store.ensures.2.0 c.requires.next c.requires.press.2
