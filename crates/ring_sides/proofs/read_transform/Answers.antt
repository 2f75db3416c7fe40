use Rattle.std.proofs.Common.{◌≡◌, ◌^◌, ◌-◌, true, ℤ, pos, neg_ℤ, ◌≤ℤ◌, arith}
use Rattle.std.proofs.lemmas.Int.{ints}
use Rattle.std.proofs.lemmas.Bool.{and_from}
use Rattle.tgap_model.specs.Base.{is_transform, is_word}
use Rattle.ring_sides.proofs.read_transform.Goals as goal

-- a number of 32 bits passes the test
is_word_from : (z : ℤ) → neg_ℤ (pos (2 ^ 31)) ≤ℤ z → z ≤ℤ pos (2 ^ 31 - 1) → is_word z ≡ true
is_word_from z low high = grind (arith, ints)

pub returns-clause-words : goal.returns-clause-words
unfolding is_transform
returns-clause-words c =
    let t = c.args.transform in
    let x = and_from _ _ (is_word_from t.sx (omega (arith, ints)) (omega (arith, ints))) (is_word_from t.sy (omega (arith, ints)) (omega (arith, ints))) in
    and_from _ _ (and_from _ _ x (is_word_from t.tx (omega (arith, ints)) (omega (arith, ints)))) (is_word_from t.ty (omega (arith, ints)) (omega (arith, ints)))
