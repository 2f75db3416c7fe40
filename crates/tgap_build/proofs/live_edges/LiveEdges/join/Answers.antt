-- The parts are the edges of the runs of the new chain, so the edge that they make is that of the chain.
use Rattle.std.proofs.Common.{◌≢◌, ◌∙◌, ℕ, ◌-◌, ◌<◌, ◌^◌, not, List, [], ◌∷◌, ◌++◌, length, sum_by, All, AllPairs, Contains, IsPermutation, sym, ap, ap₂, subst, arith}
use Rattle.std.specs.List.Sorted.{IsNonDecreasing}
use Rattle.tgap_model.specs.declared.merge.MergeStep.{MergeStep}
use Rattle.tgap_model.specs.declared.record.Piece.{Piece}
use Rattle.edge_forest.specs.declared.edge.ForestEdge.{ForestEdge}
use Rattle.tgap_model.specs.Merged.{merged}
use Rattle.tgap_model.specs.Chains.{chain_points, chains_at}
use Rattle.tgap_model.specs.Removals.{edge_of, edges_of, is_removed, removals_to}
use Rattle.map_laws.proofs.Lists.{all_members, members_all, among_map}
use Rattle.grid_index.specs.Live.{keys, without_keys, IsLiveEdge}
use Rattle.edge_forest.specs.Edges.{chain_of}
use Rattle.tgap_build.specs.declared.joined.OldEdge.{OldEdge}
use Rattle.tgap_build.specs.Table.{labelled_edges, joined_edge, old_keys}
use Rattle.tgap_build.specs.Changes.{part_pieces, count_at, side_with}
use Rattle.tgap_build.proofs.Alive.{alive_chain}
use Rattle.tgap_build.proofs.Born.{up_to, within}
use Rattle.tgap_build.proofs.ChangedChains.{losing_order}
use Rattle.removal_laws.proofs.ChainLengths.{kept_length}
use Rattle.tgap_build.proofs.EachLive.{before_live, few}
use Rattle.tgap_build.proofs.Joining.{keys_there, keys_apart, key_there, keys_are, pieces_made, places_few, joined_next}
use Rattle.tgap_build.proofs.TableLive.{keys_placed}
use Rattle.tgap_build.proofs.live_edges.LiveEdges.join.Goals as goal

pub pieces_of-requires-clause-room : goal.pieces_of-requires-clause-room
pieces_of-requires-clause-room c =
    let f = c.args.forest.now in
    let t = c.args.self.now.edges in
    let parts = c.in_ok-parts.parts.items in
    let n = length t.places.items in
    let there = keys_there f c.args.k c.args.old c.requires.some c.requires.grown c.requires.table.0 t c.args.id c.requires.new c.requires.within c.requires.alive c.requires.table.1
    parts c.in_ok-parts.ensures.there c.in_ok-parts.ensures.chain in
    subst (All (λ (p : OldEdge). p.key < n)) (sym c.deref.ensures.value)
    (all_members (λ (p : OldEdge). p.key < n) parts (λ p m.
    keys_placed t.places.items c.requires.table.1.table.keyed p.key (members_all (λ (p : OldEdge). Contains (keys (labelled_edges t)) p.key) parts p there m)))

pub pieces_of-requires-clause-few : goal.pieces_of-requires-clause-few
pieces_of-requires-clause-few c =
    let f = c.args.forest.now in
    let k = c.args.k in
    let w = c.requires.grown.forest in
    let t = c.args.self.now.edges in
    let b = chain_of f.edges c.args.id in
    let parts = c.in_ok-parts.parts.items in
    let here = alive_chain f w k (up_to f k c.args.old c.requires.some c.requires.grown) c.args.id c.requires.within c.requires.alive in
    let sum = places_few f k c.args.old c.requires.some c.requires.grown c.requires.table.0 t c.args.id c.requires.new c.requires.within c.requires.alive c.requires.table.1
    parts c.in_ok-parts.ensures.there c.in_ok-parts.ensures.chain c.args.losing.now c.requires.losing in
    subst (λ (ps : List OldEdge). sum_by (λ (p : OldEdge). count_at t.places.items p.key - 1) ps < 2 ^ 32) (sym c.deref.ensures.value)
    (omega (arith, sum, few f.base w.base w.partition k b here, kept_length (λ p. not (is_removed (removals_to (merged f.base) (k - 1)) p)) (chain_points f.base.arcs b)))

pub pieces_of-requires-clause-losing : goal.pieces_of-requires-clause-losing
pieces_of-requires-clause-losing c =
    subst IsNonDecreasing (sym c.requires.losing) (losing_order c.args.forest.now c.args.k c.args.old c.requires.some c.requires.grown)

pub join-requires-clause-there : goal.join-requires-clause-there
join-requires-clause-there c =
    let t = c.args.self.now.edges in
    subst (All (λ (p : OldEdge). Contains (keys (labelled_edges t)) p.key)) (sym c.deref-2.ensures.value)
    (keys_there c.args.forest.now c.args.k c.args.old c.requires.some c.requires.grown c.requires.table.0 t c.args.id c.requires.new c.requires.within c.requires.alive c.requires.table.1
    c.in_ok-parts.parts.items c.in_ok-parts.ensures.there c.in_ok-parts.ensures.chain)

pub join-requires-clause-apart : goal.join-requires-clause-apart
join-requires-clause-apart c =
    subst (AllPairs (λ (p q : OldEdge). p.key ≢ q.key)) (sym c.deref-2.ensures.value)
    (keys_apart c.args.forest.now c.args.k c.args.old c.requires.some c.requires.grown c.requires.table.0 c.args.self.now.edges c.args.id c.requires.new c.requires.within c.requires.alive c.requires.table.1
    c.in_ok-parts.parts.items c.in_ok-parts.ensures.there c.in_ok-parts.ensures.chain)

pub join-requires-clause-key : goal.join-requires-clause-key
join-requires-clause-key c =
    let keyed = key_there c.args.forest.now c.args.k c.args.old c.requires.some c.requires.grown c.requires.table.0 c.args.self.now.edges c.args.id c.requires.new c.requires.within c.requires.alive c.requires.table.1
    c.in_ok-parts.parts.items c.in_ok-parts.ensures.there c.in_ok-parts.ensures.chain in
    subst (λ (ps : List OldEdge). Contains (old_keys ps) c.edge.result.now.key) (sym c.deref-2.ensures.value)
    (subst (λ (e : ForestEdge). Contains (old_keys c.in_ok-parts.parts.items) e.key) (sym c.edge.ensures.value) keyed)

pub returns-clause-made : goal.returns-clause-made
returns-clause-made c =
    let f = c.args.forest.now in
    let t = c.args.self.now.edges in
    let losing = c.args.losing.now in
    let parts = c.in_ok-parts.parts.items in
    let pieces = pieces_made f c.args.k c.args.old c.requires.some c.requires.grown c.requires.table.0 t c.args.id c.requires.new c.requires.within c.requires.alive c.requires.table.1
    parts c.in_ok-parts.ensures.there c.in_ok-parts.ensures.chain losing c.requires.losing in
    ap₂ (λ (i : ℕ) (ps : List Piece). record { key = i; pieces = ps }) (ap (λ (e : ForestEdge). e.key) c.edge.ensures.value ∙ (c.requires.grown.forest.edges c.args.id c.requires.within).key)
    (c.in_ok-pieces.ensures
    ∙ ap (part_pieces (count_at t.places.items) (side_with c.args.step.now losing) 0) c.deref.ensures.value
    ∙ ap (λ (s : MergeStep). part_pieces (count_at t.places.items) (side_with s losing) 0 parts) c.requires.step
    ∙ pieces)

pub returns-clause-table : goal.returns-clause-table
returns-clause-table c = λ left state.
    let f = c.args.forest.now in
    let k = c.args.k in
    let w = c.requires.grown.forest in
    let t = c.args.self.now.edges in
    let u = c.join.new.self in
    let b = chain_of f.edges c.args.id in
    let parts = c.in_ok-parts.parts.items in
    let last = within f k c.args.old c.requires.some c.requires.grown in
    let here = alive_chain f w k (up_to f k c.args.old c.requires.some c.requires.grown) c.args.id c.requires.within c.requires.alive in
    let all = edges_of (merged f.base) k (removals_to (merged f.base) (k - 1)) (chains_at (merged f.base) k) in
    let live = before_live f.base w.base w.partition k c.requires.some last in
    let long = (members_all IsLiveEdge all (edge_of (merged f.base) k (removals_to (merged f.base) (k - 1)) b) live.each
    (among_map (edge_of (merged f.base) k (removals_to (merged f.base) (k - 1))) (chains_at (merged f.base) k) b here)).some in
    let moved = subst (λ (i : ℕ). IsPermutation (without_keys (old_keys parts) (labelled_edges t) ++ joined_edge t.places.items i parts ∷ []) (labelled_edges u))
    (ap (λ (e : ForestEdge). e.key) c.edge.ensures.value)
    (subst (λ (ps : List OldEdge). IsPermutation (without_keys (old_keys ps) (labelled_edges t) ++ joined_edge t.places.items c.edge.result.now.key ps ∷ []) (labelled_edges u))
    c.deref-2.ensures.value c.in_ok-join.ensures.edges) in
    joined_next f k c.args.old c.requires.some c.requires.grown left t c.args.id c.requires.new c.requires.within c.requires.alive state
    parts c.in_ok-parts.ensures.there c.in_ok-parts.ensures.chain long u c.in_ok-join.ensures.table c.in_ok-join.ensures.labels moved

pub returns-clause-joined : goal.returns-clause-joined
returns-clause-joined c =
    let before = c.args.joined.now.items in
    c.in_ok-push_keys.ensures
    ∙ ap (λ (ks : List ℕ). before ++ ks) (ap old_keys c.deref-3.ensures.value
    ∙ keys_are c.args.forest.now c.args.k c.args.old c.requires.some c.requires.grown c.requires.table.0 c.args.self.now.edges c.args.id c.requires.new c.requires.within c.requires.alive c.requires.table.1
    c.in_ok-parts.parts.items c.in_ok-parts.ensures.there c.in_ok-parts.ensures.chain)
