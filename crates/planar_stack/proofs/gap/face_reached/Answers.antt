use Rattle.std.proofs.Common.{◌≡◌, ◌<◌, ◌-◌, suc, length, map, sym, ap, ◌∙◌, arith}
use Rattle.grid_geo.specs.Evidence.{face_above}
use Rattle.planar_stack.specs.Sweep.{sides_at}
use Rattle.planar_stack.proofs.Seams.{reached_below}
use Rattle.planar_stack.proofs.gap.face_reached.Goals as goal

pub returns : goal.returns
returns c =
    let stack = c.args.stack.now in
    let short : c.args.place - 1 < length stack = omega (arith, c.requires.within, c.if-place-eq0.false) in
    let here : suc (c.args.place - 1) ≡ c.args.place = omega (arith, c.if-place-eq0.false) in
    c.faces.ensures.lower ∙ ap (λ n. (sides_at c.args.starts.now n).lower) c.at.ensures ∙ sym (reached_below (sides_at c.args.starts.now) 0 stack (c.args.place - 1) 0 short)
    ∙ ap (face_above (map (sides_at c.args.starts.now) stack)) here
