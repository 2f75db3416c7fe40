use Rattle.std.proofs.Common.{◌≡◌, ◌≢◌, ◌*◌, List, [], ◌∷◌, ◌++◌, length, map, All, IsPermutation, sym, ap, ◌∙◌, subst, rules, arith}
use Rattle.std.specs.List.{range_with_len}
use Rattle.std.proofs.lemmas.Fn.{always_returns_same}
use Rattle.std.proofs.lemmas.List.{map-append}
use Rattle.std.proofs.lemmas.List.Elements.{All-nil, All-cons, All-append}
use Rattle.std.proofs.lemmas.List.FromFn.{map-range_with_len_more}
use Rattle.std.proofs.lemmas.List.Sorted.{All-permutation, IsPermutation-map}
use Rattle.ring_walk.specs.declared.spoke.Spoke.{Spoke}
use Rattle.ring_walk.specs.declared.side.Side.{Side}
use Rattle.ring_walk.specs.Sides.{numbered, sides}
use Rattle.ring_walk.specs.Spans.{IsSpokeOf, before, sides_in}
use Rattle.lemmas.proofs.Sorting.{AllPairs-permutation}
use Rattle.lemmas.proofs.Members.{AllPairs-from_map}
use Rattle.ring_walk.proofs.Order.{before_order}
use Rattle.ring_walk.proofs.SideNumbers.{sides_differ}
use Rattle.ring_walk.proofs.sorted.sorted_spokes.Goals as goal

pub loop-number-init : goal.loop-number-init
loop-number-init c = record {
  each = subst (All (IsSpokeOf c.args.spans.now)) (sym c.in_ok-spokes.ensures.items) (All-nil (IsSpokeOf c.args.spans.now));
  same = ap sides_in c.in_ok-spokes.ensures.items;
}

pub loop-number-preserved : goal.loop-number-preserved
loop-number-preserved c =
    let old = c.loop-number.spokes.items in
    let p = c.spoke_of.result in
    let new : c.push.new.self.items ≡ old ++ p ∷ [] = c.in_ok-push.ensures.items in
    let i = c.loop-number.number in
    record {
      each = subst (All (IsSpokeOf c.args.spans.now)) (sym new) (All-append (IsSpokeOf c.args.spans.now) old (p ∷ []) c.loop-number.invariant.each
          (All-cons (IsSpokeOf c.args.spans.now) p [] c.spoke_of.ensures.spoke (All-nil (IsSpokeOf c.args.spans.now))));
      same = ap sides_in new ∙ map-append (λ (q : Spoke). q.side) old (p ∷ [])
          ∙ ap (λ (ss : List Side). ss ++ p.side ∷ []) c.loop-number.invariant.same
          ∙ ap (λ (s : Side). map numbered (range_with_len 0 i) ++ s ∷ []) (c.spoke_of.ensures.side ∙ c.numbered.ensures)
          ∙ sym (map-range_with_len_more numbered 0 i i (omega arith));
    }

pub returns-clause-each : goal.returns-clause-each
returns-clause-each c = All-permutation (IsSpokeOf c.args.spans.now) c.loop-number.spokes.items c.sort_unstable_by.new.self.items c.sort_unstable_by.ensures.permutation c.loop-number.invariant.each

pub returns-clause-same : goal.returns-clause-same
returns-clause-same c =
    let all : c.loop-number.number ≡ 2 * length c.args.spans.now = omega arith in
    let pushed : sides_in c.loop-number.spokes.items ≡ sides (length c.args.spans.now) = c.loop-number.invariant.same ∙ ap (λ n. map numbered (range_with_len 0 n)) all in
    subst (λ (ss : List Side). IsPermutation ss (sides_in c.sort_unstable_by.new.self.items)) pushed
    (IsPermutation-map (λ (q : Spoke). q.side) c.loop-number.spokes.items c.sort_unstable_by.new.self.items c.sort_unstable_by.ensures.permutation)

pub returns-clause-ordered : goal.returns-clause-ordered
returns-clause-ordered c =
    let n = length c.args.spans.now in
    let spokes = c.sort_unstable_by.new.self.items in
    let all : c.loop-number.number ≡ 2 * n = omega arith in
    let pushed : sides_in c.loop-number.spokes.items ≡ sides n = c.loop-number.invariant.same ∙ ap (λ n. map numbered (range_with_len 0 n)) all in
    let same : IsPermutation (sides n) (sides_in spokes) = subst (λ (ss : List Side). IsPermutation ss (sides_in spokes)) pushed
    (IsPermutation-map (λ (q : Spoke). q.side) c.loop-number.spokes.items spokes c.sort_unstable_by.ensures.permutation) in
    record {
      sorted = c.sort_unstable_by.ensures.sorted before before_order (always_returns_same _ _ _ (λ a r f k. search rules));
      differ = AllPairs-from_map (λ s t. s ≢ t) (λ (q : Spoke). q.side) spokes
          (AllPairs-permutation (λ s t. s ≢ t) (λ s t n e. n (sym e)) (sides n) (sides_in spokes) same (sides_differ n));
    }
