-- What is read is the slice; the looks are those of the forest, whether memory was wanting or not.
use Rattle.std.proofs.Common.{◌∙◌, ap, map, arith}
use Rattle.edge_forest.specs.Edges.{chain_of}
use Rattle.slice_read.proofs.Slices.{edges_are, is_slice, relation, planar_edges, partition, adjacent, unions, looks_most, looks_least}
use Rattle.slice_read.proofs.slice_at.Goals as goal

pub returns-clause-exact : goal.returns-clause-exact
returns-clause-exact g c =
    let m = c.args.built.now in
    let k = c.args.k in
    let forest = c.forest-forest.result.now in
    is_slice m c.tree-tree.result.now c.tree-tree.ensures k _ _ c.in_ok-faces_at.ensures
    (edges_are forest m k c.as_slice.result.now c.in_ok-edges_of.field-0 c.forest-forest.ensures.base
    (omega (arith, c.steps-made.ensures, c.if-k-made.false)) c.forest-forest.ensures.removed c.in_ok-edges_of.ensures
    (ap (map (chain_of forest.edges)) c.as_slice.ensures ∙ c.in_ok-ids.ensures.chains))

pub returns-clause-slice : goal.returns-clause-slice
returns-clause-slice g c = relation c.args.built.now c.base.ensures.base c.base.ensures.partition c.args.k (omega (arith, c.steps-made.ensures, c.if-k-made.false)) _ (returns-clause-exact g c)

pub returns-clause-planar : goal.returns-clause-planar
returns-clause-planar g c = planar_edges c.args.built.now c.base.ensures.base c.base.ensures.partition c.args.k (omega (arith, c.steps-made.ensures, c.if-k-made.false)) _ (returns-clause-exact g c)

pub returns-clause-partition : goal.returns-clause-partition
returns-clause-partition g c = partition c.args.built.now c.base.ensures.base c.base.ensures.partition c.args.k (omega (arith, c.steps-made.ensures, c.if-k-made.false)) _ (returns-clause-exact g c)

pub returns-clause-adjacent : goal.returns-clause-adjacent
returns-clause-adjacent g c = adjacent c.args.built.now c.base.ensures.base c.base.ensures.partition c.args.k (omega (arith, c.steps-made.ensures, c.if-k-made.false)) _ (returns-clause-exact g c)

pub returns-clause-unions : goal.returns-clause-unions
returns-clause-unions g c = unions c.args.built.now c.base.ensures.base c.base.ensures.partition c.args.k (omega (arith, c.steps-made.ensures, c.if-k-made.false)) _ (returns-clause-exact g c)

pub returns-in_err-ids-clause-looks_most : goal.returns-in_err-ids-clause-looks_most
returns-in_err-ids-clause-looks_most g c d h =
    looks_most c.forest-forest.result.now c.args.built.now c.args.k c.args.steps.now c.alive.new.steps d c.forest-forest.ensures.base (c.alive.ensures.looks_most d) h

pub returns-in_err-faces_at-clause-looks_most : goal.returns-in_err-faces_at-clause-looks_most
returns-in_err-faces_at-clause-looks_most g c d h =
    looks_most c.forest-forest.result.now c.args.built.now c.args.k c.args.steps.now c.alive.new.steps d c.forest-forest.ensures.base (c.alive.ensures.looks_most d) h

pub returns-in_err-edges_of-clause-looks_most : goal.returns-in_err-edges_of-clause-looks_most
returns-in_err-edges_of-clause-looks_most g c d h =
    looks_most c.forest-forest.result.now c.args.built.now c.args.k c.args.steps.now c.alive.new.steps d c.forest-forest.ensures.base (c.alive.ensures.looks_most d) h

pub returns-clause-looks_most : goal.returns-clause-looks_most
returns-clause-looks_most g c d h =
    looks_most c.forest-forest.result.now c.args.built.now c.args.k c.args.steps.now c.alive.new.steps d c.forest-forest.ensures.base (c.alive.ensures.looks_most d) h

pub returns-clause-looks_least : goal.returns-clause-looks_least
returns-clause-looks_least g c =
    looks_least c.forest-forest.result.now c.args.built.now c.args.k c.args.steps.now c.alive.new.steps c.forest-forest.ensures.base c.in_ok-ids.ensures.looks_least
