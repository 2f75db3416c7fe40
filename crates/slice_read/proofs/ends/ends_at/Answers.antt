-- The chains that are read are those of the map, so each has an arc, and each arc two points.
use Rattle.std.proofs.Common.{◌≡◌, ◌∙◌, ◌++◌, ◌∷◌, [], ℕ, List, map, take, get_or, sym, ap, ap₂, subst, arith}
use Rattle.std.proofs.lemmas.List.{take_all, take_more, map-append}
use Rattle.tgap_model.specs.declared.base.BaseArc.{BaseArc}
use Rattle.tgap_model.specs.Base.{BaseMap}
use Rattle.tgap_model.specs.Merged.{merged}
use Rattle.tgap_model.specs.Chains.{chains_at}
use Rattle.tgap_model.specs.Slice.{slice}
use Rattle.edge_forest.specs.Edges.{chain_of}
use Rattle.edge_forest.specs.Walks.{chain_link}
use Rattle.ring_walk.specs.declared.span.EdgeEnds.{EdgeEnds}
use Rattle.slice_read.specs.Ends.{IsChainOf, HaveSegments, LeaveNodes, chain_ends, slice_ends}
use Rattle.slice_read.proofs.EdgesLeaveNodes.{leave_nodes}
use Rattle.slice_read.proofs.EndsOfChains.{have_segments, read_chain}
use Rattle.slice_read.proofs.ends.ends_at.Goals as goal

pub ends_of-requires-clause-arcs : goal.ends_of-requires-clause-arcs
ends_of-requires-clause-arcs c =
    let arcs : c.as_slice-arcs.result.now ≡ c.args.built.now.arcs = c.as_slice-arcs.ensures ∙ c.arcs.ensures.value ∙ ap (λ (b : BaseMap). b.arcs) c.base.ensures.value in
    subst HaveSegments (sym arcs) (have_segments c.args.built.now c.base.ensures.base)

pub ends_of-requires-clause-links : goal.ends_of-requires-clause-links
ends_of-requires-clause-links c =
    let m = c.args.built.now in
    let arcs : c.as_slice-arcs.result.now ≡ m.arcs = c.as_slice-arcs.ensures ∙ c.arcs.ensures.value ∙ ap (λ (b : BaseMap). b.arcs) c.base.ensures.value in
    let links : map chain_link c.as_slice.result.now ≡ chain_of c.forest-forest.result.now.edges (get_or c.as_slice-id-items.result.now c.loop-id.id-index 0) = ap (map chain_link) c.as_slice.ensures ∙ c.in_ok-links.ensures in
    subst (λ (bs : List BaseArc). IsChainOf bs (map chain_link c.as_slice.result.now)) (sym arcs) (subst (IsChainOf m.arcs) (sym links)
    (read_chain m c.args.k c.forest-forest.result.now.base c.forest-forest.result.now.edges c.in_ok-ids.ids c.as_slice-id-items.result.now c.loop-id.id-index c.forest-forest.ensures.base c.in_ok-ids.ensures.chains c.as_slice-id-items.ensures c.loop-id-test.true))

pub loop-id-preserved : goal.loop-id-preserved
loop-id-preserved c =
    let edges = c.forest-forest.result.now.edges in
    let ids = c.as_slice-id-items.result.now in
    let i = c.loop-id.id-index in
    let arcs = c.as_slice-arcs.result.now in
    let links : map chain_link c.as_slice.result.now ≡ chain_of edges (get_or ids i 0) = ap (map chain_link) c.as_slice.ensures ∙ c.in_ok-links.ensures in
    c.in_ok-push.ensures
    ∙ ap₂ (λ (es : List EdgeEnds) (e : EdgeEnds). es ++ e ∷ []) c.loop-id.invariant (c.ends_of.ensures ∙ ap (chain_ends arcs) links)
    ∙ sym (ap (λ (is : List ℕ). map (chain_ends arcs) (map (chain_of edges) is)) (take_more ids i 0 c.loop-id-test.true)
    ∙ ap (map (chain_ends arcs)) (map-append (chain_of edges) (take i ids) (get_or ids i 0 ∷ []))
    ∙ map-append (chain_ends arcs) (map (chain_of edges) (take i ids)) (chain_of edges (get_or ids i 0) ∷ []))

pub returns-clause-exact : goal.returns-clause-exact
unfolding slice_ends
returns-clause-exact c =
    let m = c.args.built.now in
    let edges = c.forest-forest.result.now.edges in
    let arcs : c.as_slice-arcs.result.now ≡ m.arcs = c.as_slice-arcs.ensures ∙ c.arcs.ensures.value ∙ ap (λ (b : BaseMap). b.arcs) c.base.ensures.value in
    c.loop-id.invariant
    ∙ ap₂ (λ (bs : List BaseArc) (is : List ℕ). map (chain_ends bs) (map (chain_of edges) is)) arcs (take_all c.loop-id.id-index c.as_slice-id-items.result.now c.loop-id-test.false ∙ c.as_slice-id-items.ensures)
    ∙ ap (map (chain_ends m.arcs)) (c.in_ok-ids.ensures.chains ∙ ap (λ (b : BaseMap). chains_at (merged b) c.args.k) c.forest-forest.ensures.base)

pub returns-clause-leave : goal.returns-clause-leave
returns-clause-leave c =
    let m = c.args.built.now in
    subst (LeaveNodes (slice m c.args.k).edges) (sym (returns-clause-exact c))
    (leave_nodes m c.base.ensures.base c.base.ensures.partition c.args.k (omega (arith, c.steps-steps.ensures, c.if-k-steps.false)))
