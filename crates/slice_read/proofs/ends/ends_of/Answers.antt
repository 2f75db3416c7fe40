use Rattle.std.proofs.Common.{◌-◌, length, arith}
use Rattle.slice_read.proofs.EndsOfChains.{link_within, some_link, ends_are}
use Rattle.slice_read.proofs.ends.ends_of.Goals as goal

pub after_first-requires-clause-link : goal.after_first-requires-clause-link
after_first-requires-clause-link c = link_within c.args.arcs.now c.args.links.now 0 _ c.requires.links (some_link c.args.arcs.now c.args.links.now c.requires.links)

pub before_last-requires-clause-link : goal.before_last-requires-clause-link
before_last-requires-clause-link c =
    let some = some_link c.args.arcs.now c.args.links.now c.requires.links in
    link_within c.args.arcs.now c.args.links.now (length c.args.links.now - 1) _ c.requires.links (omega (arith, some))

pub returns : goal.returns
returns c = ends_are c.args.arcs.now c.args.links.now _ c.after_first.result c.before_last.result (some_link c.args.arcs.now c.args.links.now c.requires.links) c.after_first.ensures c.before_last.ensures
