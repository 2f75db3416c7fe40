use Rattle.std.proofs.Common.{rules, [], ◌++◌, List, flat_map, length, take, filter, get_or, IsPermutation, sym, ap, ◌∙◌, subst, arith}
use Rattle.std.proofs.lemmas.Fn.{always_returns_same}
use Rattle.std.proofs.lemmas.List.{take_all, take_more, flat_map_more}
use Rattle.std.proofs.lemmas.List.Sorted.{length_permutation, IsPermutation-map}
use Rattle.std.proofs.lemmas.List.Sums.{AllPass-from_list_all}
use Rattle.lemmas.proofs.Permutations.{IsPermutation-filter}
use Rattle.tgap_model.specs.Partition.{Spoke, is_proper, spokes_of}
use Rattle.tgap_model.proofs.Proper.{no_segment}
use Rattle.base_check.specs.Spokes.{spoke, is_at_node, spokes_in, before}
use Rattle.base_check.proofs.Order.{before_order}
use Rattle.base_check.proofs.sorted.sorted_spokes.Goals as goal

pub loop-s-init : goal.loop-s-init
loop-s-init c = record {
  same = λ v. ap (spokes_in v) c.in_ok-spokes.ensures.items;
  few = omega (arith, ap length c.in_ok-spokes.ensures.items);
}

pub push_spokes-requires : goal.push_spokes-requires
push_spokes-requires c = AllPass-from_list_all is_proper c.args.segments.now c.requires c.loop-s.s-index _ c.loop-s-test.true

pub loop-s-preserved : goal.loop-s-preserved
loop-s-preserved c = record {
  same = λ v.
      let i = c.loop-s.s-index in
      let segments = c.args.segments.now in
      c.in_ok-push_spokes.ensures.added v
      ∙ ap (λ (xs : List Spoke). xs ++ spokes_of v (get_or segments i no_segment)) (c.loop-s.invariant.same v)
      ∙ flat_map_more (spokes_of v) [] (take i segments) (get_or segments i no_segment)
      ∙ ap (flat_map (spokes_of v)) (sym (take_more segments i no_segment c.loop-s-test.true));
  few = omega (arith, c.in_ok-push_spokes.ensures.few, c.loop-s.invariant.few);
}

pub returns-clause-same : goal.returns-clause-same
returns-clause-same c = λ v.
    let pushed = c.loop-s.spokes.items in
    let sorted = c.sort_unstable_by.new.self.items in
    let all = c.loop-s.invariant.same v ∙ ap (flat_map (spokes_of v)) (take_all c.loop-s.s-index c.args.segments.now c.loop-s-test.false) in
    subst (λ (xs : List Spoke). IsPermutation xs (spokes_in v sorted)) all
    (IsPermutation-map spoke (filter (is_at_node v) pushed) (filter (is_at_node v) sorted) (IsPermutation-filter (is_at_node v) pushed sorted c.sort_unstable_by.ensures.permutation))

pub returns-clause-sorted : goal.returns-clause-sorted
returns-clause-sorted c = c.sort_unstable_by.ensures.sorted before before_order (always_returns_same _ _ _ (λ a r f k. search rules))

pub returns-clause-few : goal.returns-clause-few
returns-clause-few c = omega (arith, c.loop-s.invariant.few, c.loop-s-test.false, length_permutation c.loop-s.spokes.items c.sort_unstable_by.new.self.items c.sort_unstable_by.ensures.permutation)
