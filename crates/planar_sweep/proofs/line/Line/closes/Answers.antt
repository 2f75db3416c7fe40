-- The neighbours of the member are those of its place, and the end may stand above all.
use Rattle.std.proofs.Common.{◌≡◌, ◌+◌, get_or, ◌∙◌, subst₂, arith}
use Rattle.linked_row.specs.Linked.{uppers, lowers}
use Rattle.planar_sweep.specs.Line.{MayBeBelow}
use Rattle.planar_sweep.proofs.Nodes.{lower_of_member, upper_of_next}
use Rattle.planar_sweep.proofs.line.Line.closes.Goals as goal

pub returns-else-upper-end : goal.returns-else-upper-end
returns-else-upper-end c = λ fits k short at apart.
    let row = c.args.self.now.row in
    let segs = c.args.segs.now in
    let upper : c.above-upper.result ≡ get_or (uppers row) k 0 = c.above-upper.ensures.next k (omega (arith, short)) (lower_of_member row k short ∙ at) in
    let lower : c.below-lower.result ≡ get_or (lowers row) (k + 1) 0 = c.below-lower.ensures.next (k + 1) (omega (arith, short)) (upper_of_next row k ∙ at) in
    subst₂ (MayBeBelow segs) upper lower (c.fits_above.ensures fits)
