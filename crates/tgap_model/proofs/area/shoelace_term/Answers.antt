-- Two products of coordinates within the limits, and their difference, fit by far.
use Rattle.std.proofs.Common.{◌≡◌, ◌≤◌, ◌*ℤ◌, unsigned_abs, sym, subst, ℤ}
use Rattle.tgap_model.specs.Bounds.{max_shoelace}
use Rattle.tgap_model.proofs.ShoelaceSums.{product_is, difference_fits, difference_is, difference_size}
use Rattle.tgap_model.proofs.area.shoelace_term.Goals as goal

pub overflow_sub-result : goal.overflow_sub-result
overflow_sub-result c = difference_fits c.product.result c.product-2.result c.product.ensures.size c.product-2.ensures.size

pub returns-clause-value : goal.returns-clause-value
returns-clause-value c =
    let a = c.args.a in
    let b = c.args.b in
    let p : c.product.result ≡ a.x *ℤ b.y = product_is a.x b.y _ c.requires.near_a.x c.requires.near_b.y c.product.ensures.value in
    let q : c.product-2.result ≡ b.x *ℤ a.y = product_is b.x a.y _ c.requires.near_b.x c.requires.near_a.y c.product-2.ensures.value in
    let e = difference_is c.product.result c.product-2.result c.product.ensures.size c.product-2.ensures.size in
    cc

pub returns-clause-size : goal.returns-clause-size
returns-clause-size c =
    let e = difference_is c.product.result c.product-2.result c.product.ensures.size c.product-2.ensures.size in
    subst (λ (z : ℤ). unsigned_abs z ≤ max_shoelace) (sym e) (difference_size c.product.result c.product-2.result c.product.ensures.size c.product-2.ensures.size)
