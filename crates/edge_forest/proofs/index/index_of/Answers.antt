-- One more edge is listed at its nodes, and at last all are.
use Rattle.std.proofs.Common.{◌≡◌, suc, ◌+◌, ◌≤◌, ◌^◌, ◌*◌, map, sym, ◌∙◌, subst, [], arith}
use Rattle.std.proofs.Math.Nat.{pow-succ'}
use Rattle.std.proofs.lemmas.List.{get_or_read}
use Rattle.edge_forest.specs.declared.edge.ForestEdge.{ForestEdge}
use Rattle.edge_forest.specs.Index.{IsListed}
use Rattle.edge_forest.specs.Kept.{closed_edge}
use Rattle.edge_forest.proofs.Listing.{AreListed, closed_high_is, closed_nodes, one_more_listed, all_listed}
use Rattle.edge_forest.proofs.index.index_of.Goals as goal

abbrev no_edge : ForestEdge
no_edge = record { key = 0; low = 0; high = 0; left = 0; right = 0; parts = [] }

pub list_range-requires : goal.list_range-requires
list_range-requires c =
    let edges = c.args.edges.now in
    let id = c.loop-id.id in
    let read = get_or_read edges id c.index-edges-id.result c.loop-id-test.true c.index-edges-id.is no_edge in
    let same = closed_high_is edges (c.args.last + 1) id c.index-edges-id.result c.closed_high-high.result c.loop-id-test.true read c.closed_high-high.ensures in
    omega (arith, same, c.requires.ranges id c.loop-id-test.true, c.levels_over-depth.ensures.wide, c.loop-id.invariant.count)

pub loop-id-preserved : goal.loop-id-preserved
loop-id-preserved c =
    let edges = c.args.edges.now in
    let last = c.args.last + 1 in
    let id = c.loop-id.id in
    let depth = c.levels_over-depth.result.0 in
    let leaves = c.levels_over-depth.result.1 in
    let read = get_or_read edges id c.index-edges-id.result c.loop-id-test.true c.index-edges-id.is no_edge in
    let same = closed_high_is edges last id c.index-edges-id.result c.closed_high-high.result c.loop-id-test.true read c.closed_high-high.ensures in
    let double : 2 ^ suc depth ≡ 2 * 2 ^ depth = pow-succ' 2 depth in
    let power = c.levels_over-depth.ensures.leaves in
    let lows : 2 ^ suc depth ≤ 2 * (leaves + c.index-edges-id.result.low) = omega arith in
    let highs : leaves + c.closed_high-high.result ≤ 2 ^ suc depth = omega (arith, same, c.requires.ranges id c.loop-id-test.true, c.levels_over-depth.ensures.wide) in
    one_more_listed (map (closed_edge last) edges) depth (2 * leaves) id c.loop-id.nodes.items c.list_range.new.nodes.items c.loop-id.invariant
    (subst (IsListed c.loop-id.nodes.items c.list_range.new.nodes.items id)
    (closed_nodes edges last id c.index-edges-id.result c.closed_high-high.result c.loop-id-test.true read c.closed_high-high.ensures depth leaves power)
    (c.in_ok-list_range.ensures (suc depth) lows highs))

pub returns : goal.returns
returns c =
    let edges = c.args.edges.now in
    let depth = c.levels_over-depth.result.0 in
    let leaves = c.levels_over-depth.result.1 in
    let flat = c.in_ok-of.ensures ∙ c.as_slice.ensures.value in
    all_listed edges c.args.last c.loop-id.id (record { depth = depth; leaves = leaves; nodes = c.in_ok-of.field-0 })
    c.levels_over-depth.ensures.leaves c.levels_over-depth.ensures.wide c.levels_over-depth.ensures.least (omega (arith, c.loop-id-test.false, c.loop-id.auto.id-end))
    (subst (AreListed (map (closed_edge (c.args.last + 1)) edges) depth (2 * leaves) c.loop-id.id) (sym flat) c.loop-id.invariant)
