-- A sign times the sum of two products of at most this size fits.
use Rattle.grid_geo.proofs.Sizes.{coordinate_fits, coordinate_is}
use Rattle.grid_geo.proofs.common.coordinate.Goals as goal

pub overflow_mul-result : goal.overflow_mul-result
overflow_mul-result c = coordinate_fits c.args.turn c.args.start c.args.across c.args.extent c.signum.result c.product.result c.product-2.result
    c.requires.turn c.requires.start c.requires.across c.requires.extent c.signum.ensures.value c.product.ensures.value c.product.ensures.size c.product-2.ensures.value c.product-2.ensures.size

pub returns : goal.returns
returns c = coordinate_is c.args.turn c.args.start c.args.across c.args.extent c.signum.result c.product.result c.product-2.result
    c.requires.turn c.requires.start c.requires.across c.requires.extent c.signum.ensures.value c.product.ensures.value c.product.ensures.size c.product-2.ensures.value c.product-2.ensures.size
