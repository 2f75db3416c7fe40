use Rattle.std.proofs.Common.{All, subst, List}
use Rattle.std.proofs.lemmas.List.{take_all}
use Rattle.std.proofs.lemmas.List.Elements.{All-more}
use Rattle.tgap_model.specs.declared.geometry.Window.{Window}
use Rattle.grid_index.specs.Boxes.{Covers}
use Rattle.grid_index.proofs.Covering.{Covers-trans}
use Rattle.grid_index.proofs.window.hull.Goals as goal

pub loop-b-preserved : goal.loop-b-preserved
loop-b-preserved c =
    All-more (Covers c.hull_of_two-all.result) c.args.boxes.now c.loop-b.b-index _ c.loop-b-test.true
    (λ k d h. Covers-trans c.hull_of_two-all.ensures.first (c.loop-b.invariant k d h)) c.hull_of_two-all.ensures.second

pub returns : goal.returns
returns c =
    subst (λ (boxes : List Window). All (Covers c.loop-b.all) boxes)
    (take_all c.loop-b.b-index c.args.boxes.now c.loop-b-test.false) c.loop-b.invariant
