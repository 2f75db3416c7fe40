use Rattle.std.proofs.Common.{◌∙◌, List, subst, arith}
use Rattle.ring_walk.specs.declared.side.Side.{Side}
use Rattle.topo_write.specs.Building.{AreHeld}
use Rattle.topo_write.specs.Polygons.{lines_of}
use Rattle.topo_write.proofs.FaceParts.{held_from, homes_below}
use Rattle.topo_write.proofs.parts.held_by.Goals as goal

pub grouped-requires-clause-below : goal.grouped-requires-clause-below
grouped-requires-clause-below c =
    homes_below (lines_of c.args.edges.now) c.as_slice-all.result.now c.args.outer.now c.args.inner.now c.deref.result.now (c.deref.ensures.value ∙ c.in_ok-homes.ensures) c.max.result (omega (arith, c.max.ensures)) (omega (arith, c.max.ensures))

pub returns : goal.returns
returns c =
    subst (λ (rs : List (List Side)). AreHeld (lines_of c.args.edges.now) rs c.args.outer.now c.args.inner.now c.in_ok-held.held.items) c.as_slice-all.ensures
    (held_from (lines_of c.args.edges.now) c.as_slice-all.result.now c.args.outer.now c.args.inner.now c.deref.result.now c.in_ok-held.held.items (c.deref.ensures.value ∙ c.in_ok-homes.ensures)
    (omega (arith, c.max.ensures, c.in_ok-held.ensures.count)) c.in_ok-held.ensures.groups)
