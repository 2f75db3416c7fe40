use Rattle.std.proofs.Common.{◌≡◌, ◌^◌, ◌-◌, true, ℤ, pos, neg_ℤ, ◌≤ℤ◌, arith}
use Rattle.std.proofs.lemmas.Int.{ints}
use Rattle.std.proofs.lemmas.Bool.{and_from}
use Rattle.tgap_model.specs.Base.{is_transform, is_word}
use Rattle.tgap_model.proofs.base.read_transform.Goals as goal

-- a number between the bounds is a word
word : (z : ℤ) → neg_ℤ (pos (2 ^ 31)) ≤ℤ z → z ≤ℤ pos (2 ^ 31 - 1) → is_word z ≡ true
word z low high = grind (arith, ints)

pub returns-clause-words : goal.returns-clause-words
unfolding is_transform
returns-clause-words c =
    let t = c.args.transform in
    let sx = word t.sx (omega (arith, ints)) (omega (arith, ints)) in
    let sy = word t.sy (omega (arith, ints)) (omega (arith, ints)) in
    let tx = word t.tx (omega (arith, ints)) (omega (arith, ints)) in
    let ty = word t.ty (omega (arith, ints)) (omega (arith, ints)) in
    and_from _ _ (and_from _ _ (and_from _ _ sx sy) tx) ty
