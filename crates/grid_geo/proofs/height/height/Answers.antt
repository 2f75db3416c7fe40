-- The double of a shoelace term is taken from a product of about the same size.
use Rattle.std.proofs.Common.{ℤ, pos, ◌-ℤ◌, ◌*ℤ◌, unsigned_abs, ◌≤◌, ap, ap₂, sym, ◌∙◌, subst}
use Rattle.tgap_model.specs.Segment.{rise}
use Rattle.grid_geo.specs.Sizes.{max_height}
use Rattle.grid_geo.proofs.Sizes.{wide}
use Rattle.grid_geo.proofs.Heights.{difference_fits, difference_is, difference_size, way_is}
use Rattle.grid_geo.proofs.height.height.Goals as goal

pub difference-requires : goal.difference-requires
difference-requires c = difference_fits c.twice_abscissa.result c.product-way.result c.shoelace_term.result c.twice_abscissa.ensures.size c.product-way.ensures.size c.shoelace_term.ensures.size

pub returns-clause-value : goal.returns-clause-value
returns-clause-value c =
    let t = c.twice_abscissa.result in
    let fits = difference_is t c.product-way.result c.shoelace_term.result c.twice_abscissa.ensures.size c.product-way.ensures.size c.shoelace_term.ensures.size in
    let way = way_is t c.between.result.y c.args.line (rise c.args.s) c.product-way.result c.requires.line c.between.ensures.size.y c.twice_abscissa.ensures.value c.between.ensures.y c.product-way.ensures.value in
    ap wide c.difference.ensures.value ∙ fits ∙ ap₂ (λ (w h : ℤ). w -ℤ pos 2 *ℤ h) way c.shoelace_term.ensures.value

pub returns-clause-size : goal.returns-clause-size
returns-clause-size c =
    let fits = difference_is c.twice_abscissa.result c.product-way.result c.shoelace_term.result c.twice_abscissa.ensures.size c.product-way.ensures.size c.shoelace_term.ensures.size in
    subst (λ (z : ℤ). unsigned_abs z ≤ max_height) (sym (ap wide c.difference.ensures.value ∙ fits))
    (difference_size c.twice_abscissa.result c.product-way.result c.shoelace_term.result c.twice_abscissa.ensures.size c.product-way.ensures.size c.shoelace_term.ensures.size)
