-- All places have rows, and sorting orders them.
use Rattle.std.proofs.Common.{◌≡◌, rules, ℕ, ◌+◌, ◌∙◌, ◌++◌, ◌∷◌, [], List, length, map, get_or, sym, ap, subst, IsPermutation, arith}
use Rattle.std.specs.List.{range_with_len}
use Rattle.std.proofs.lemmas.Fn.{always_returns_same}
use Rattle.std.proofs.lemmas.List.FromFn.{map-range_with_len_more}
use Rattle.edge_forest.specs.declared.nodes.PlacedPoint.{PlacedPoint}
use Rattle.edge_forest.specs.Places.{placed}
use Rattle.edge_forest.proofs.InOrder.{derived_order}
use Rattle.edge_forest.proofs.nodes.in_order.Goals as goal

pub loop-place-preserved : goal.loop-place-preserved
loop-place-preserved c =
    let i = c.loop-place.place in
    c.in_ok-push.ensures.items ∙ ap (λ (rows : List PlacedPoint). rows ++ placed c.args.points.now i ∷ []) c.loop-place.invariant
    ∙ sym (map-range_with_len_more (placed c.args.points.now) 0 i i (omega arith))

pub returns : goal.returns
returns c =
    let rows = c.sort_unstable_by_key.new.self.items in
    let all : c.loop-place.place ≡ length c.args.points.now = omega (arith, c.loop-place-test.false, c.loop-place.auto.place-end) in
    record {
      moved = subst (λ (xs : List PlacedPoint). IsPermutation xs rows)
          (c.loop-place.invariant ∙ ap (λ (n : ℕ). map (placed c.args.points.now) (range_with_len 0 n)) all) c.sort_unstable_by_key.ensures.permutation;
      ascend = λ k d l m. sym (derived_order (get_or rows (k + 1) d).point (get_or rows k d).point)
          ∙ c.sort_unstable_by_key.ensures.sorted (λ r. r.point) (always_returns_same _ _ _ (λ a r f q. search rules)) k d l m;
    }
