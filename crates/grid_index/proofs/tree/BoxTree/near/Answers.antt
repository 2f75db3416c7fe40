use Rattle.std.proofs.Common.{ℕ, List, drop, ◌+◌, get_or, sym, ap₂, ◌∙◌, subst}
use Rattle.std.proofs.lemmas.List.{drop_more}
use Rattle.tgap_model.specs.declared.geometry.Window.{Window}
use Rattle.grid_index.specs.Tower.{Reaches, IsTower, meeting}
use Rattle.grid_index.proofs.Towers.{Reaches-first, Reaches-next}
use Rattle.grid_index.proofs.tree.BoxTree.near.Goals as goal

pub loop-level-init : goal.loop-level-init
loop-level-init c =
    let area = c.args.area.now in
    let levels = c.as_slice-level-items.result.now in
    let boxes = c.self.inside.boxes in
    subst (λ (parents : List ℕ). Reaches area parents levels boxes) (sym c.in_ok-parents.ensures.items)
    (Reaches-first area levels boxes (subst (λ (ls : List (List Window)). IsTower ls boxes) (sym c.as_slice-level-items.ensures.value) c.self.invariant))

pub loop-level-preserved : goal.loop-level-preserved
loop-level-preserved c =
    let area = c.args.area.now in
    let levels = c.as_slice-level-items.result.now in
    let boxes = c.self.inside.boxes in
    let i = c.loop-level.level-index in
    let item = c.level-item.result in
    let parents = c.loop-level.parents.items in
    let level = get_or levels i item in
    let rest = drop (i + 1) levels in
    let here = subst (λ (ls : List (List Window)). Reaches area parents ls boxes) (drop_more levels i item c.loop-level-test.true) c.loop-level.invariant in
    let next = Reaches-next area parents level rest boxes here in
    let made = c.in_ok-parents-2.ensures ∙ ap₂ (meeting area) (c.as_slice.ensures ∙ c.level-item.is) c.deref.ensures.value in
    subst (λ (ps : List ℕ). Reaches area ps rest boxes) (sym made) next
