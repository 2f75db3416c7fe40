use Rattle.std.proofs.Common.{[], ◌∷◌, ◌++◌, map, length, decimal, codes, refl}
use Rattle.std.specs.Prelude.{flat_map}
use Rattle.line_forms.specs.Words.{Row}
use Rattle.map_forms.specs.Listing.{point_words}
use Rattle.wire_text.proofs.PutRows.{row_ended}
use Rattle.wire_text.proofs.rows.put_edge.Goals as goal

pub returns-then-count-le-FEW : goal.returns-then-count-le-FEW
returns-then-count-le-FEW c =
    let a = c.args in
    let words : Row = map decimal (a.key ∷ a.left ∷ a.right ∷ length a.points.now ∷ []) ++ flat_map point_words a.points.now in
    row_ended c.put_few.result a.out.now c.push_slice.new.self c.put_few.new.out _ (codes "edge") words c.in_ok-push_slice.ensures refl (rw (c.from.ensures, c.from-2.ensures, c.from-3.ensures) at c.put_few.ensures)

pub returns-else-count-le-FEW : goal.returns-else-count-le-FEW
returns-else-count-le-FEW c =
    let a = c.args in
    let words : Row = map decimal (a.key ∷ a.left ∷ a.right ∷ length a.points.now ∷ []) ++ flat_map point_words a.points.now in
    row_ended c.put_many.result a.out.now c.push_slice.new.self c.put_many.new.out _ (codes "edge") words c.in_ok-push_slice.ensures refl (rw (c.from.ensures, c.from-2.ensures, c.from-3.ensures) at c.put_many.ensures)
