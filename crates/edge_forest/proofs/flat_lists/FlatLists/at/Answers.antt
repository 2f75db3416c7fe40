-- The list has a start, and the next one is its end.
use Rattle.std.proofs.Common.{◌<◌, ◌+◌, ℕ, List, [], length, get_or, ap, ap₂, ◌∙◌, arith}
use Rattle.std.specs.List.{slice_range}
use Rattle.edge_forest.specs.FlatLists.{lists_between}
use Rattle.edge_forest.proofs.FlatRows.{list_short, list_at}
use Rattle.edge_forest.proofs.flat_lists.FlatLists.at.Goals.{After-as_slice-ids}
use Rattle.edge_forest.proofs.flat_lists.FlatLists.at.Goals as goal

short : (c : After-as_slice-ids) → c.args.x < length (lists_between c.self.inside.starts.items c.self.inside.ids.items)
short c = omega (arith, c.requires, ap length c.self.view_is)

pub between-requires-clause-next : goal.between-requires-clause-next
between-requires-clause-next c = rw c.as_slice-starts.ensures.value (list_short c.self.inside.starts.items c.self.inside.ids.items c.args.x (short c))

pub between-requires-clause-order : goal.between-requires-clause-order
between-requires-clause-order c =
    rw c.as_slice-starts.ensures.value (c.self.invariant.ascend c.args.x (list_short c.self.inside.starts.items c.self.inside.ids.items c.args.x (short c)))

pub between-requires-clause-within : goal.between-requires-clause-within
between-requires-clause-within c =
    rw (c.as_slice-starts.ensures.value, c.as_slice-ids.ensures.value)
    (c.self.invariant.within (c.args.x + 1) (list_short c.self.inside.starts.items c.self.inside.ids.items c.args.x (short c)))

pub returns : goal.returns
returns c =
    let starts = c.self.inside.starts.items in
    let ids = c.self.inside.ids.items in
    let inside : c.args.x < length (lists_between starts ids) = omega (arith, c.requires, ap length c.self.view_is) in
    c.between.ensures
    ∙ ap₂ (λ (ss is : List ℕ). slice_range is (get_or ss c.args.x 0) (get_or ss (c.args.x + 1) 0)) c.as_slice-starts.ensures.value c.as_slice-ids.ensures.value
    ∙ list_at starts ids c.args.x inside
    ∙ ap (λ (ls : List (List ℕ)). get_or ls c.args.x []) c.self.view_is
