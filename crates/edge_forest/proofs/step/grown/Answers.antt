-- With room for new edges the arcs are joined in turn.
use Rattle.std.proofs.Common.{◌≡◌, ℕ, List, map, length, sym, ap, ◌∙◌, subst}
use Rattle.std.specs.List.{range_with_len}
use Rattle.tgap_model.specs.Base.{BaseMap}
use Rattle.edge_forest.specs.declared.growth.Growth.{Growth}
use Rattle.edge_forest.specs.Start.{single}
use Rattle.edge_forest.specs.Growth.{family_of, IsStored, IsJoinedInTurn}
use Rattle.edge_forest.proofs.InTurn.{turn_same}
use Rattle.edge_forest.proofs.Steps.{start_within, rest_after_start}
use Rattle.edge_forest.proofs.step.grown.Goals as goal

pub join_all-requires-clause-stored : goal.join_all-requires-clause-stored
join_all-requires-clause-stored c = rw c.reserve.ensures.items c.in_ok-growth.ensures.stored

pub join_all-requires-clause-nodes : goal.join_all-requires-clause-nodes
join_all-requires-clause-nodes c =
    let g = c.in_ok-growth.growth in
    let members = rw (c.as_slice-2.ensures.value, c.in_ok-nodes.ensures.items, c.as_slice.ensures.value) at c.joints_of-joints.ensures.members in
    rw c.as_slice-3.ensures.value (start_within g c.joints_of-joints.result.items c.in_ok-growth.ensures.stored members)

pub returns-clause-base : goal.returns-clause-base
returns-clause-base c =
    let roomy : Growth = record c.in_ok-growth.growth { edges = c.reserve.new.self } in
    (turn_same 0 roomy c.join_all.new.growth _ c.join_all.ensures.joined).0 ∙ c.in_ok-growth.ensures.base

pub returns-clause-rest : goal.returns-clause-rest
returns-clause-rest c =
    let g = c.in_ok-growth.growth in
    let roomy : Growth = record g { edges = c.reserve.new.self } in
    let stored : IsStored 0 roomy = rw c.reserve.ensures.items c.in_ok-growth.ensures.stored in
    let singles : family_of roomy ≡ map single (range_with_len 0 (length g.base.arcs))
    = rw c.reserve.ensures.items (c.in_ok-growth.ensures.singles ∙ ap (λ (m : BaseMap). map single (range_with_len 0 (length m.arcs))) (sym c.in_ok-growth.ensures.base)) in
    let members = rw (c.as_slice-2.ensures.value, c.in_ok-nodes.ensures.items, c.as_slice.ensures.value) at c.joints_of-joints.ensures.members in
    let turn = subst (λ (ns : List ℕ). IsJoinedInTurn 0 roomy ns c.join_all.new.growth) c.as_slice-3.ensures.value c.join_all.ensures.joined in
    rest_after_start roomy c.join_all.new.growth stored singles c.joints_of-joints.result.items c.joints_of-joints.ensures.ascend members turn c.join_all.ensures.stored
