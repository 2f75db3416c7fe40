-- Parts that are arcs of the map or earlier edges give arcs of the map.
use Rattle.std.proofs.Common.{◌<◌, length, All, sym, subst}
use Rattle.edge_forest.specs.declared.walk.Link.{Link}
use Rattle.edge_forest.proofs.WalkedArcs.{made_of_earlier, walked_arcs}
use Rattle.edge_forest.proofs.walk.points_of.Goals as goal

pub links_from_last-requires-clause-parts : goal.links_from_last-requires-clause-parts
links_from_last-requires-clause-parts c = made_of_earlier (length c.args.arcs.now) c.args.edges.now c.requires.parts

pub points_along-requires : goal.points_along-requires
points_along-requires c =
    let links = c.in_ok-links.links.items in
    record {
      arcs = subst (All (λ (link : Link). link.arc < length c.args.arcs.now)) (sym c.deref.ensures.value)
          (walked_arcs (length c.args.arcs.now) c.args.edges.now c.requires.parts c.args.id links c.requires.id c.in_ok-links.ensures);
    }
