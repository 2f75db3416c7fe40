-- One more place stands last in its group.
use Rattle.std.proofs.Common.{◌≡◌, ◌<◌, ◌++◌, ◌∷◌, [], ℕ, List, length, get_or, sym, ap, ◌∙◌, subst, arith}
use Rattle.std.proofs.lemmas.List.{length-set, length-replicate, get_or_read}
use Rattle.std.proofs.lemmas.List.Elements.{All-get_or}
use Rattle.topo_write.specs.Building.{AreGroups}
use Rattle.topo_write.proofs.Grouping.{grouped_more, no_groups}
use Rattle.topo_write.proofs.groups.grouped.Goals as goal

pub loop-place-init : goal.loop-place-init
loop-place-init c = record {
  count = ap length c.in_ok-groups.ensures ∙ length-replicate c.args.count [];
  groups = subst (AreGroups c.args.keys.now 0) (sym c.in_ok-groups.ensures) (no_groups c.args.keys.now c.args.count);
}

pub loop-place-preserved : goal.loop-place-preserved
loop-place-preserved c =
    let i = c.loop-place.place in
    let keys = c.args.keys.now in
    let groups = c.loop-place.groups.items in
    let key = get_or keys i 0 in
    let short : key < length groups = omega (arith, c.loop-place.invariant.count, All-get_or (λ (n : ℕ). n < c.args.count) keys i 0 c.loop-place-test.true c.requires.below) in
    let read : c.index_mut.result.now ≡ get_or groups key [] = get_or_read groups key c.index_mut.result.now short c.index_mut.ensures.value [] in
    record {
      count = length-set groups key c.push.new.self ∙ c.loop-place.invariant.count;
      groups = grouped_more keys i groups c.push.new.self short c.loop-place.invariant.groups
          (c.in_ok-push.ensures ∙ ap (λ (xs : List ℕ). xs ++ i ∷ []) read);
    }
