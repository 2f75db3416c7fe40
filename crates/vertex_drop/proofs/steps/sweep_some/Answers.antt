use Rattle.std.proofs.Common.{◌≡◌, ℤ, List, [], map, IfOk, sym, ap, ◌∙◌, subst}
use Rattle.tgap_model.specs.declared.geometry.Point.{Point}
use Rattle.std.specs.Int.{w128}
use Rattle.std.proofs.lemmas.Int.{to_z-of_z}
use Rattle.tgap_model.specs.declared.slice.Removal.{Removal}
use Rattle.vertex_drop.specs.Left.{is_swept}
use Rattle.vertex_drop.specs.Sweep.{sweep_chosen}
use Rattle.vertex_drop.proofs.Swept.{sweep_none}
use Rattle.vertex_drop.proofs.Chosen.{some_swept}
use Rattle.vertex_drop.proofs.steps.sweep_some.Goals as goal

pub returns-then-ratio-eq0 : goal.returns-then-ratio-eq0
returns-then-ratio-eq0 g c =
    c.new.ensures
    ∙ ap (λ (l : List Point). map (λ (p : Point). record { point = p; step = c.args.step }) l)
    (sym (sweep_none c.args.ratio c.args.loser_area c.args.made (g.L.LiveTable.edges c.args.live.now) c.if-ratio-eq0.true))

pub returns : goal.returns
returns g c =
    let area = to_z-of_z w128 c.args.loser_area c.ranges.loser_area in
    let live = g.L.LiveTable.edges c.args.live.now in
    let keys = c.args.keys.now in
    let removed =
    c.deref.ensures.value ∙ c.in_ok-gone.ensures
    ∙ ap (λ (z : ℤ). sweep_chosen c.args.ratio z (is_swept c.args.made keys) [] live) area
    ∙ some_swept c.args.ratio c.args.loser_area c.args.made keys live c.if-ratio-eq0.false c.requires.corners in
    subst (λ (l : List Point).
    IfOk c.removals_of.result (λ (removals : List Removal). removals ≡ map (λ (p : Point). record { point = p; step = c.args.step }) l))
    removed c.removals_of.ensures
