-- The loop lists the entries of the slot.
use Rattle.std.proofs.Common.{◌≡◌, ◌∙◌, ◌+◌, ◌++◌, map, subst, sym, ap, List, []}
use Rattle.std.specs.List.{All}
use Rattle.std.specs.declared.ops.Bound.TheVariants.{Included, Excluded}
use Rattle.std.specs.BTreeMap.Range.{IsEntryInRange}
use Rattle.std.proofs.lemmas.List.{append-nil}
use Rattle.face_merge.specs.Links.{AreLinksOf, AreOnce, length_at, pair_cmp}
use Rattle.face_merge.proofs.Linked.{entry_link, entries_at, links_at, links_once}
use Rattle.face_merge.proofs.links.Links.of.Goals as goal

pub returns-clause-links : goal.returns-clause-links
returns-clause-links c =
    let m = c.args.self.now.lengths in
    let slot = c.args.slot in
    let between : c.range-slots-items.result ≡ entries_at m slot = c.range-slots-items.ensures.between tt in
    let inside = subst (All (IsEntryInRange pair_cmp (Included (slot, 0)) (Excluded (slot + 1, 0)) m)) between (c.range-slots-items.ensures.in_range tt).0 in
    let done : c.loop-slots.slots-iterator ≡ [] = c.in-None.ensures.steps.0 in
    let listed : c.loop-slots.links.items ≡ map entry_link (entries_at m slot) = sym (ap (λ (xs : List _). c.loop-slots.links.items ++ map entry_link xs) done ∙ append-nil c.loop-slots.links.items) ∙ c.loop-slots.invariant in
    subst (AreLinksOf (length_at c.args.self.now) slot) (sym listed) (links_at m slot inside)

pub returns-clause-once : goal.returns-clause-once
returns-clause-once c =
    let m = c.args.self.now.lengths in
    let slot = c.args.slot in
    let between : c.range-slots-items.result ≡ entries_at m slot = c.range-slots-items.ensures.between tt in
    let inside = subst (All (IsEntryInRange pair_cmp (Included (slot, 0)) (Excluded (slot + 1, 0)) m)) between (c.range-slots-items.ensures.in_range tt).0 in
    let done : c.loop-slots.slots-iterator ≡ [] = c.in-None.ensures.steps.0 in
    let listed : c.loop-slots.links.items ≡ map entry_link (entries_at m slot) = sym (ap (λ (xs : List _). c.loop-slots.links.items ++ map entry_link xs) done ∙ append-nil c.loop-slots.links.items) ∙ c.loop-slots.invariant in
    subst AreOnce (sym listed) (links_once m slot inside c.range-slots-items.ensures.ordered)
