use Rattle.std.proofs.Common.{◌-◌, List, length, get_or, reverse, sym, ap, ◌∙◌}
use Rattle.tgap_model.specs.declared.geometry.Point.{Point}
use Rattle.edge_forest.specs.Walks.{chain_link}
use Rattle.ring_walk.specs.Sides.{origin}
use Rattle.slice_read.specs.Ends.{second_point}
use Rattle.slice_read.proofs.EndsOfChains.{second_back, points_along, two_points}
use Rattle.slice_read.proofs.ends.before_last.Goals as goal

pub returns-else-link : goal.returns-else-link
returns-else-link c =
    let e = c.index-arcs-link.result in
    let arcs = c.args.arcs.now in
    let d = chain_link c.args.link.now in
    ap (λ (ps : List Point). get_or ps (length ps - 2) origin) c.as_slice-points.ensures
    ∙ second_back (get_or arcs d.arc e).points origin (two_points arcs d e c.requires.link c.requires.arcs)
    ∙ sym (ap (λ (ps : List Point). second_point (reverse ps)) (points_along arcs d e c.requires.link c.if-link.false))
