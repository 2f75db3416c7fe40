use Rattle.std.proofs.Common.{◌/◌, ◌<◌, List, length, sym, ◌∙◌, subst, arith, rules}
use Rattle.std.proofs.lemmas.List.{length-set}
use Rattle.tgap_model.specs.declared.geometry.Window.{Window}
use Rattle.grid_index.specs.declared.tree.TheConstants.{FANOUT}
use Rattle.grid_index.specs.Tower.{IsTower, IsHull, IsRowBut}
use Rattle.grid_index.proofs.Renewal.{IsTower-front, IsTower-push, IsRowBut-set, parent_below, IsHull-renew}
use Rattle.grid_index.proofs.tree.«+renew».Goals as goal

pub set_box-requires : goal.set_box-requires
set_box-requires t c =
    let was = c.requires.tower.0 in
    let front = IsTower-front c.pop.new.self.items c.in-Some.above was (subst (λ (ls : List (List Window)). IsTower ls was) c.in-Some.ensures.items c.requires.tower.1) in
    parent_below c.in-Some.above was c.args.row.now c.args.place front.1 c.requires.tower.2 c.requires.place

pub renew-requires : goal.renew-requires
renew-requires t c =
    let was = c.requires.tower.0 in
    let place = c.args.place in
    let above = c.in-Some.above in
    let front = IsTower-front c.pop.new.self.items above was (subst (λ (ls : List (List Window)). IsTower ls was) c.in-Some.ensures.items c.requires.tower.1) in
    let below = parent_below above was c.args.row.now place front.1 c.requires.tower.2 c.requires.place in
    let now = c.as_slice.ensures ∙ c.set_box.ensures in (
      search rules,
      (
        subst (λ (l : List Window). place / FANOUT < length l) (sym now) (omega (arith, below, length-set above (place / FANOUT) c.group_hull.result)),
        (above, front.0, subst (λ (l : List Window). IsRowBut above l (place / FANOUT)) (sym now) (IsRowBut-set above (place / FANOUT) c.group_hull.result)),
      ),
    )

pub returns-clause-tower : goal.returns-clause-tower
returns-clause-tower t c =
    let was = c.requires.tower.0 in
    let place = c.args.place in
    let above = c.in-Some.above in
    let row = c.args.row.now in
    let front = IsTower-front c.pop.new.self.items above was (subst (λ (ls : List (List Window)). IsTower ls was) c.in-Some.ensures.items c.requires.tower.1) in
    let hull = IsHull-renew above was row place c.group_hull.result front.1 c.requires.tower.2 c.requires.place c.group_hull.ensures in
    let tower = subst (λ (l : List Window). IsTower c.renew.new.levels.items l) c.as_slice.ensures c.renew.ensures.tower in
    subst (λ (ls : List (List Window)). IsTower ls row) (sym c.push_reserved.ensures.items)
    (IsTower-push c.renew.new.levels.items c.set_box.new.boxes row tower (subst (λ (l : List Window). IsHull l row) (sym c.set_box.ensures) hull))
