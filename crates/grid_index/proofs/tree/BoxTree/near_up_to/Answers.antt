use Rattle.std.proofs.Common.{ℕ, List, length, sym, ap, ◌∙◌, subst, ◌<◌, arith}
use Rattle.grid_index.proofs.Counted.{AreFound, found_first, found_next, found_all, found_many}
use Rattle.grid_index.proofs.tree.BoxTree.near_up_to.Goals as goal

pub walk-init : goal.walk-init
walk-init c = subst (λ (xs : List ℕ). AreFound c.args.area.now c.args.self.now xs c.next-at.result) (sym c.new-places.ensures.items) (found_first c.args.area.now c.args.self.now c.next-at.result c.next-at.ensures)

pub returns-then-len-most-clause-many : goal.returns-then-len-most-clause-many
returns-then-len-most-clause-many c =
    let long = c.len.ensures ∙ ap length c.self.view_is in
    let inside : c.walk.at < length c.args.self.now = omega (arith, long, c.walk-test.true) in
    let more = found_many c.args.area.now c.args.self.now c.walk.places.items c.walk.at inside c.walk.invariant in
    omega (arith, more, c.len-in-walk.ensures, c.if-len-most.true)

pub walk-preserved : goal.walk-preserved
walk-preserved c =
    let long = c.len.ensures ∙ ap length c.self.view_is in
    found_next c.args.area.now c.args.self.now c.walk.places.items c.push.new.self.items c.walk.at c.next-at-in-walk.result (omega (arith, long, c.walk-test.true))
    c.walk.invariant c.in_ok-push.ensures.items c.next-at-in-walk.ensures

pub returns-clause-few : goal.returns-clause-few
returns-clause-few c =
    let long = c.len.ensures ∙ ap length c.self.view_is in
    found_all c.args.area.now c.args.self.now c.walk.places.items c.walk.at (omega (arith, long, c.walk-test.false)) c.walk.invariant
