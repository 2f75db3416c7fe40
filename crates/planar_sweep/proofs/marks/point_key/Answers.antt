-- Bounded coordinates leave the sum in its type.
use Rattle.std.proofs.Common.{◌≡◌, ℤ, pos, ◌+ℤ◌, ◌*ℤ◌, to_z, of_z, ap, ◌∙◌, arith}
use Rattle.std.specs.Int.{w64}
use Rattle.std.proofs.lemmas.Int.{ints}
use Rattle.planar_sweep.specs.Ends.{bounded}
use Rattle.planar_sweep.proofs.marks.point_key.Goals as goal

abbrev word : ℤ → ℤ
word z = to_z w64 (of_z w64 z)

pub returns : goal.returns
returns c =
    let x = c.bounded.result in
    let y = c.bounded-2.result in
    let first = c.bounded.ensures in
    let second = c.bounded-2.ensures in
    let own_x : word c.args.v.x ≡ c.args.v.x = omega (arith, ints) in
    let own_y : word c.args.v.y ≡ c.args.v.y = omega (arith, ints) in
    let across : word x ≡ x = omega (arith, ints, first.low, first.high) in
    let scaled : word (pos 4294967296 *ℤ x) ≡ pos 4294967296 *ℤ x = omega (arith, ints, first.low, first.high) in
    let up : word y ≡ y = omega (arith, ints, second.low, second.high) in
    let sum : word (pos 4294967296 *ℤ x +ℤ y) ≡ pos 4294967296 *ℤ x +ℤ y = omega (arith, ints, first.low, first.high, second.low, second.high) in
    ap (λ (z : ℤ). word (word (pos 4294967296 *ℤ z) +ℤ word y)) across
    ∙ ap (λ (z : ℤ). word (z +ℤ word y)) scaled
    ∙ ap (λ (z : ℤ). word (pos 4294967296 *ℤ x +ℤ z)) up
    ∙ sum
    ∙ ap (λ (z : ℤ). pos 4294967296 *ℤ z +ℤ y) (first.exact ∙ ap bounded own_x)
    ∙ ap (λ (z : ℤ). pos 4294967296 *ℤ bounded c.args.v.x +ℤ z) (second.exact ∙ ap bounded own_y)
