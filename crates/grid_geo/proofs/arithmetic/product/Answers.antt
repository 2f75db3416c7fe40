-- The product of a height and a difference fits.
use Rattle.grid_geo.proofs.Sizes.{product_is, product_is_small}
use Rattle.grid_geo.proofs.arithmetic.product.Goals as goal

pub returns-clause-value : goal.returns-clause-value
returns-clause-value c = product_is c.args.a c.args.b c.from.result c.requires.first c.requires.second c.from.ensures

pub returns-clause-size : goal.returns-clause-size
returns-clause-size c = product_is_small c.args.a c.args.b c.from.result c.requires.first c.requires.second c.from.ensures
