use Rattle.std.proofs.Common.{◌≡◌, ◌+◌, length, ap, ◌∙◌, subst₂, arith}
use Rattle.std.proofs.lemmas.List.{length-map}
use Rattle.tgap_model.specs.declared.geometry.Seg.{Seg}
use Rattle.tgap_model.specs.declared.geometry.Window.{Window}
use Rattle.grid_index.specs.Near.{IsNextHit}
use Rattle.planar_apart.specs.Crossing.{crosses}
use Rattle.planar_apart.specs.Rows.{row_box, past_row}
use Rattle.planar_apart.proofs.Near.{passed}
use Rattle.planar_apart.proofs.RowSearch.{above_of_passed, above_further, above_of_all}
use Rattle.planar_apart.proofs.search.least_above.Goals as goal

pub near-init : goal.near-init
near-init c =
    let row = c.args.row.now in
    let boxes = c.args.tree.now in
    let first = c.args.first.now in
    let next = c.next-at.result in
    let long : length boxes ≡ length row = ap length c.requires.row.boxes_are ∙ length-map row row_box in
    let near = subst₂ (λ (area : Window) (segment : Seg). IsNextHit (crosses area segment) boxes 0 next) c.of-sight.ensures.area c.of-sight.ensures.segment c.next-at.ensures in
    record {
      within = omega (arith, near.within, long);
      so_far = above_of_passed row first next (λ k lt. passed row boxes first 0 next c.requires.row c.requires.proper near k past_row (omega arith) lt);
    }

pub near-preserved : goal.near-preserved
near-preserved c =
    let row = c.args.row.now in
    let boxes = c.args.tree.now in
    let first = c.args.first.now in
    let at = c.near.at in
    let next = c.next-at-in-near.result in
    let long : length boxes ≡ length row = ap length c.requires.row.boxes_are ∙ length-map row row_box in
    let near = subst₂ (λ (area : Window) (segment : Seg). IsNextHit (crosses area segment) boxes (at + 1) next) c.of-sight.ensures.area c.of-sight.ensures.segment c.next-at-in-near.ensures in
    record {
      within = omega (arith, near.within, long);
      so_far = above_further row first at next c.near.least c.earlier_above-least.result c.near-test.true c.near.invariant.so_far
          c.earlier_above-least.ensures.above c.earlier_above-least.ensures.below
          (λ k after lt. passed row boxes first (at + 1) next c.requires.row c.requires.proper near k past_row after lt);
    }

pub returns : goal.returns
returns c = above_of_all c.args.row.now c.args.first.now c.near.at c.near.least (omega (arith, c.near-test.false)) c.near.invariant.so_far
