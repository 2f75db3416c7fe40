use Rattle.std.proofs.Common.{sym, ap, ◌∙◌, arith}
use Rattle.planar_stack.specs.Sweep.{sides_at}
use Rattle.planar_stack.proofs.Seams.{standing_at, standing_past}
use Rattle.planar_stack.proofs.gap.face_standing.Goals as goal

pub returns-then-place-len : goal.returns-then-place-len
returns-then-place-len c = sym (standing_past (sides_at c.args.starts.now) c.args.stack.now c.args.place (omega (arith, c.if-place-len.true, c.len.ensures)))

pub returns : goal.returns
returns c = c.faces.ensures.upper ∙ ap (λ n. (sides_at c.args.starts.now n).upper) c.at.ensures ∙ sym (standing_at (sides_at c.args.starts.now) c.args.stack.now c.args.place 0 (omega (arith, c.if-place-len.false, c.len.ensures)))
