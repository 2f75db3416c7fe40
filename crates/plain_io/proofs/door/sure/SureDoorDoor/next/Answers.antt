use Rattle.std.proofs.Common.{drop}
use Rattle.std.proofs.lemmas.List.Elements.{All-same, All-drop}
use Rattle.plain_io.specs.Links.{IsNew}
use Rattle.plain_io.proofs.door.sure.SureDoorDoor.next.Goals as goal

-- the links that are left are new ones
pub invariant_of-self-clause-unused : goal.invariant_of-self-clause-unused
invariant_of-self-clause-unused g c =
    let P : g.row.L.Denot → Type 0 = λ link. IsNew (g.L.Link.taken link) (g.L.Link.told link) (g.L.Link.take_faults link) (g.L.Link.put_faults link) (g.L.Link.ended link) in
    All-same P _ (drop 1 c.args.self.now.links.items) c.pop_front.ensures.rest (All-drop P 1 c.args.self.now.links.items c.args.self.now.unused)
