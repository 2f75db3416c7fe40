-- All starts have their ends, and sorting orders these.
use Rattle.std.proofs.Common.{◌≡◌, rules, ℕ, ℤ, to_z, of_z, ◌++◌, ◌∷◌, [], List, length, map, sym, ap, ◌∙◌, subst, IsPermutation, arith}
use Rattle.std.specs.Int.{w64}
use Rattle.std.specs.List.{range_with_len}
use Rattle.std.proofs.lemmas.Int.{ints}
use Rattle.std.proofs.lemmas.Fn.{always_returns_same}
use Rattle.std.proofs.lemmas.List.FromFn.{map-range_with_len_more}
use Rattle.lemmas.proofs.Ascending.{ascending_by_key}
use Rattle.planar_stack.specs.declared.events.End.{End}
use Rattle.planar_stack.specs.Sweep.{end_of}
use Rattle.planar_stack.proofs.events.ends_of.Goals as goal

pub loop-number-preserved : goal.loop-number-preserved
loop-number-preserved c =
    let i = c.loop-number.number in
    let kept : to_z w64 (of_z w64 c.right_end.result) ≡ c.right_end.result = omega (arith, ints) in
    c.in_ok-push.ensures.items ∙ ap (λ (z : ℤ). c.loop-number.ends.items ++ record { abscissa = z; number = i } ∷ []) (kept ∙ c.right_end.ensures)
    ∙ ap (λ (es : List End). es ++ end_of c.args.starts.now i ∷ []) c.loop-number.invariant
    ∙ sym (map-range_with_len_more (end_of c.args.starts.now) 0 i i (omega arith))

pub returns : goal.returns
returns c =
    let ends = c.sort_unstable_by_key.new.self.items in
    let all : c.loop-number.number ≡ length c.args.starts.now = omega (arith, c.loop-number-test.false, c.loop-number.auto.number-end) in
    record {
      moved = subst (λ (es : List End). IsPermutation es ends)
          (c.loop-number.invariant ∙ ap (λ (n : ℕ). map (end_of c.args.starts.now) (range_with_len 0 n)) all) c.sort_unstable_by_key.ensures.permutation;
      ascend = ascending_by_key (λ e. e.abscissa) _ (c.sort_unstable_by_key.ensures.sorted (λ e. e.abscissa) (always_returns_same _ _ _ (λ a r f' k. search rules)));
    }
