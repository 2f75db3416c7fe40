-- There are few levels; node by node the listed edges are read, and at the root they are those that hold the step.
use Rattle.std.proofs.Common.{rules, Bool, ◌≡◌, ◌<◌, ◌≤◌, ◌+◌, ◌^◌, ◌∙◌, ◌++◌, ℕ, List, [], map, filter, length, get_or, IsPermutation, refl, sym, ap, subst, All, arith}
use Rattle.std.proofs.Math.Pow.{pow_mono}
use Rattle.std.proofs.lemmas.List.{map-append}
use Rattle.std.proofs.lemmas.List.Sorted.{IsNonDecreasingBy-from_sort_by_key}
use Rattle.std.proofs.lemmas.Result.{IfOk-weaker}
use Rattle.edge_forest.specs.declared.alive.KeyedEdge.{KeyedEdge}
use Rattle.edge_forest.specs.declared.edge.ForestEdge.{ForestEdge}
use Rattle.edge_forest.specs.Edges.{edge_at, is_alive}
use Rattle.edge_forest.specs.Index.{keyed}
use Rattle.edge_forest.proofs.AliveNumbers.{keyed_sorted}
use Rattle.edge_forest.proofs.OnWay.{listed_are_edges, way_up_begins, way_up_goes_on, looks_so_far, node_of_tree, way_up_ends}
use Rattle.edge_forest.proofs.alive.alive_at.Goals as goal

-- the edges that are put behind others
put_behind : (edges : List ForestEdge) (test : ℕ → Bool) (found new : List KeyedEdge) (ids listed : List ℕ) → found ≡ map (keyed edges) ids
    → new ≡ found ++ map (keyed edges) (filter test listed) → new ≡ map (keyed edges) (ids ++ filter test listed)
put_behind edges test found new ids listed are put =
    put ∙ ap (λ (es : List KeyedEdge). es ++ map (keyed edges) (filter test listed)) are ∙ sym (map-append (keyed edges) ids (filter test listed))

pub overflow_add-end : goal.overflow_add-end
overflow_add-end g c = let few : c.args.index.now.depth ≤ 32 = c.requires.index.is.least 32 c.requires.index.few in omega arith

pub overflow_add-node : goal.overflow_add-node
overflow_add-node g c =
    let is = c.requires.index.is in
    let most : 2 ^ c.args.index.now.depth ≤ 2 ^ 32 = pow_mono (is.least 32 c.requires.index.few) in
    omega (arith, most, is.leaves, is.wide, c.requires.index.within)

pub loop-init : goal.loop-init
loop-init g c = ([], c.new-found.ensures.items, way_up_begins c.args.edges.now c.args.index.now c.args.k c.args.looks.now)

pub read_ranges-requires : goal.read_ranges-requires
read_ranges-requires g c =
    let need = c.requires.index in
    let edges = c.args.edges.now in
    let index = c.args.index.now in
    let node = c.loop.node in
    let short : node < length index.nodes
    = node_of_tree edges index c.args.k need.last need.is need.within need.ranges c.loop.counter node c.loop.invariant.0 c.args.looks.now c.loop.looks c.loop.invariant.2 in
    subst (All (λ (i : ℕ). i < length edges)) (sym c.look_list-listed.ensures.value) (listed_are_edges need.last edges index need.is node short)

pub returns-in_err-read_ranges-clause-most : goal.returns-in_err-read_ranges-clause-most
returns-in_err-read_ranges-clause-most g c =
    let need = c.requires.index in
    let edges = c.args.edges.now in
    let index = c.args.index.now in
    let node = c.loop.node in
    let short : node < length index.nodes
    = node_of_tree edges index c.args.k need.last need.is need.within need.ranges c.loop.counter node c.loop.invariant.0 c.args.looks.now c.loop.looks c.loop.invariant.2 in
    let so_far = looks_so_far edges index c.args.k need.last need.is need.within need.ranges c.loop.counter node c.loop.invariant.0 c.args.looks.now c.loop.looks c.loop-test.true
    c.loop.invariant.2 in
    omega (arith, so_far, c.look_list-listed.ensures.counted, c.in_err-read_ranges.ensures.most, ap (λ (xs : List ℕ). length xs) c.look_list-listed.ensures.value)

pub loop-preserved : goal.loop-preserved
loop-preserved g c =
    let need = c.requires.index in
    let edges = c.args.edges.now in
    let index = c.args.index.now in
    let node = c.loop.node in
    let short : node < length index.nodes
    = node_of_tree edges index c.args.k need.last need.is need.within need.ranges c.loop.counter node c.loop.invariant.0 c.args.looks.now c.loop.looks c.loop.invariant.2 in
    let more = filter (λ i. is_alive c.args.k (edge_at edges i)) (get_or index.nodes node []) in (
      c.loop.invariant.0 ++ more,
      put_behind edges (λ i. is_alive c.args.k (edge_at edges i)) c.loop.found.items c.read_ranges.new.found.items c.loop.invariant.0 (get_or index.nodes node []) c.loop.invariant.1
          (subst (λ (xs : List ℕ). c.read_ranges.new.found.items ≡ c.loop.found.items ++ map (keyed edges) (filter (λ i. is_alive c.args.k (edge_at edges i)) xs))
          c.look_list-listed.ensures.value c.in_ok-read_ranges.ensures.found),
      way_up_goes_on edges index c.args.k c.loop.counter node c.loop.invariant.0 (c.loop.invariant.0 ++ more) c.args.looks.now c.loop.looks c.read_ranges.new.looks c.loop-test.true c.loop.invariant.2
          refl
          (omega (arith, c.look_list-listed.ensures.counted, c.in_ok-read_ranges.ensures.all, ap (λ (xs : List ℕ). length xs) c.look_list-listed.ensures.value)),
    )

pub returns-clause-ids : goal.returns-clause-ids
returns-clause-ids g c =
    let edges = c.args.edges.now in
    let need = c.requires.index in
    let over : c.args.index.now.depth + 1 ≤ c.loop.counter = c.loop-test.false in
    let all = way_up_ends edges c.args.index.now c.args.k need.last need.is need.within need.ranges c.loop.counter c.loop.node c.loop.invariant.0 c.args.looks.now c.loop.looks over
    c.loop.invariant.2 in
    let sorted = c.sort_unstable_by_key.new.self.items in
    let moved : IsPermutation (map (keyed edges) c.loop.invariant.0) sorted
    = subst (λ (es : List KeyedEdge). IsPermutation es sorted) c.loop.invariant.1 c.sort_unstable_by_key.ensures.permutation in
    IfOk-weaker c.numbers_of.result _ _ (λ ids e. e ∙ ap (map (λ (e : KeyedEdge). e.id)) c.deref.ensures.value
    ∙ keyed_sorted edges c.args.k c.loop.invariant.0 sorted c.requires.keys all.0 moved
    (IsNonDecreasingBy-from_sort_by_key (λ (e : KeyedEdge). e.key) sorted c.sort_unstable_by_key.ensures.sorted (λ a r q k. search rules))) c.numbers_of.ensures

pub returns-clause-all : goal.returns-clause-all
returns-clause-all g c =
    let edges = c.args.edges.now in
    let need = c.requires.index in
    let over : c.args.index.now.depth + 1 ≤ c.loop.counter = c.loop-test.false in
    let all = way_up_ends edges c.args.index.now c.args.k need.last need.is need.within need.ranges c.loop.counter c.loop.node c.loop.invariant.0 c.args.looks.now c.loop.looks over
    c.loop.invariant.2 in
    IfOk-weaker c.numbers_of.result _ _ (λ ids e. all.1) c.numbers_of.ensures

pub returns-clause-most : goal.returns-clause-most
returns-clause-most g c =
    let edges = c.args.edges.now in
    let need = c.requires.index in
    let over : c.args.index.now.depth + 1 ≤ c.loop.counter = c.loop-test.false in
    let all = way_up_ends edges c.args.index.now c.args.k need.last need.is need.within need.ranges c.loop.counter c.loop.node c.loop.invariant.0 c.args.looks.now c.loop.looks over
    c.loop.invariant.2 in
    omega (arith, all.1)
