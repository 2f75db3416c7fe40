use Rattle.std.proofs.Common.{◌∙◌, []}
use Rattle.std.proofs.lemmas.List.{get_or_default}
use Rattle.arc_places.specs.Borders.{bordering}
use Rattle.arc_places.proofs.FusedLists.{faces_more, faces_all}
use Rattle.arc_places.proofs.borders.Borders.of.Goals as goal

pub loop-number-preserved : goal.loop-number-preserved
loop-number-preserved c =
    let n = c.loop-number.number in
    let arcs = c.args.arcs.now in
    record {
      lists = faces_more (bordering c.loop-number.borders) (bordering c.list_sides.new.self) arcs n c.index-arcs-number.result c.loop-number-test.true
          (c.index-arcs-number.is ∙ get_or_default arcs n _ (record { left = 0; right = 0; points = [] }) c.loop-number-test.true)
          c.in_ok-list_sides.ensures.listed c.loop-number.invariant.lists;
      count = c.in_ok-list_sides.ensures.count ∙ c.loop-number.invariant.count;
    }

pub returns-clause-arcs : goal.returns-clause-arcs
returns-clause-arcs c = faces_all (bordering c.loop-number.borders) c.args.arcs.now c.loop-number.number c.loop-number-test.false c.loop-number.invariant.lists
