use Rattle.std.proofs.Common.{◌≡◌, ℤ, ap, ap₂, ◌∙◌, arith}
use Rattle.std.proofs.lemmas.Int.{ints}
use Rattle.tgap_model.specs.declared.geometry.Seg.{Seg}
use Rattle.tgap_model.specs.Segment.{line_after, run, height}
use Rattle.grid_geo.proofs.Sizes.{word}
use Rattle.grid_geo.proofs.Heights.{line_near, scaled_is, compared}
use Rattle.grid_geo.proofs.height.cmp_on_line.Goals as goal

pub height-requires-clause-line : goal.height-requires-clause-line
height-requires-clause-line c = let near = line_near c.args.s c.args.line c.requires.near_s c.requires.crosses_s in omega (arith, ints)

pub height-requires-2-clause-line : goal.height-requires-2-clause-line
height-requires-2-clause-line c = let near = line_near c.args.s c.args.line c.requires.near_s c.requires.crosses_s in omega (arith, ints)

pub returns : goal.returns
returns c =
    let near = line_near c.args.s c.args.line c.requires.near_s c.requires.crosses_s in
    let line : word c.args.line ≡ c.args.line = omega (arith, ints) in
    let on_line = λ (v : ℤ) (q : Seg). height (line_after v) q in
    let first = c.height.ensures.value ∙ ap₂ on_line line c.rightward-first.ensures.value in
    let second = c.height-2.ensures.value ∙ ap₂ on_line line c.rightward-second.ensures.value in
    let above = scaled_is c.product-above.result c.height.result c.between.result.x _ _ c.height.ensures.size c.between.ensures.size.x c.product-above.ensures.size
    c.product-above.ensures.value first (c.between.ensures.x ∙ ap run c.rightward-second.ensures.value) in
    let below = scaled_is c.product-below.result c.height-2.result c.between-2.result.x _ _ c.height-2.ensures.size c.between-2.ensures.size.x c.product-below.ensures.size
    c.product-below.ensures.value second (c.between-2.ensures.x ∙ ap run c.rightward-first.ensures.value) in
    c.cmp.ensures ∙ compared (line_after c.args.line) c.args.s c.args.t _ _ above below
