use Rattle.std.proofs.Common.{◌≡◌, ℕ, ◌<◌, List, length, filter, map, All, IsPermutation, sym, ap, ◌∙◌, subst, subst₂, rules}
use Rattle.std.proofs.lemmas.List.Sorted.{IsNonDecreasingBy-from_sort_by_key, All-permutation}
use Rattle.std.specs.Prelude.{Option}
use Rattle.lemmas.proofs.Permutations.{IsPermutation-filter}
use Rattle.grid_index.specs.declared.segments.Entry.{Entry}
use Rattle.grid_index.specs.declared.slots.Holder.{Holder}
use Rattle.grid_index.specs.Slots.{taken, is_near, IsHolder, IsBounded}
use Rattle.grid_index.proofs.Meeting.{near_below}
use Rattle.grid_index.proofs.Holding.{slot_within}
use Rattle.grid_index.proofs.Finding.{near_taken, taken_permuted, taken_ascend}
use Rattle.grid_index.proofs.slots.Slots.holders.Goals as goal

pub holders_of-requires : goal.holders_of-requires
holders_of-requires c =
    subst₂ (λ (n : ℕ) (places : List ℕ). All (λ i. i < n) places) (c.self.invariant.long ∙ ap length (sym c.deref.ensures.value)) (sym (c.deref-2.ensures.value ∙ c.in_ok-places.ensures))
    (near_below c.args.area.now c.self.inside.bounds)

pub returns-clause-near : goal.returns-clause-near
returns-clause-near c =
    let area = c.args.area.now in
    let slots = c.args.self.now in
    let row = c.self.inside.bounds in
    let holders = c.in_ok-holders.holders.items in
    let sorted = c.sort_unstable_by_key.new.self.items in
    let same = c.deref.ensures.value ∙ c.self.view_is in
    let each = subst (λ (xs : List (Option Entry)). All (IsHolder xs) holders) same c.in_ok-holders.ensures.each in
    let all = subst (λ (xs : List (Option Entry)). taken xs (map (λ h. h.slot) holders) ≡ taken xs c.deref-2.result.now) same c.in_ok-holders.ensures.taken in
    let bounded = subst (λ (xs : List (Option Entry)). IsBounded xs row) c.self.view_is c.self.invariant in
    subst (λ (xs : List Entry). IsPermutation xs (filter (is_near area) (taken slots (map (λ h. h.slot) sorted))))
    (ap (filter (is_near area)) (all ∙ ap (taken slots) (c.deref-2.ensures.value ∙ c.in_ok-places.ensures)) ∙ near_taken area slots row bounded)
    (IsPermutation-filter (is_near area) (taken slots (map (λ h. h.slot) holders)) (taken slots (map (λ h. h.slot) sorted)) (taken_permuted slots holders sorted each c.sort_unstable_by_key.ensures.permutation))

pub returns-clause-ascending : goal.returns-clause-ascending
returns-clause-ascending c =
    let holders = c.in_ok-holders.holders.items in
    let sorted = c.sort_unstable_by_key.new.self.items in
    let each = subst (λ (xs : List (Option Entry)). All (IsHolder xs) holders) (c.deref.ensures.value ∙ c.self.view_is) c.in_ok-holders.ensures.each in
    taken_ascend c.args.self.now sorted (All-permutation (IsHolder c.args.self.now) holders sorted c.sort_unstable_by_key.ensures.permutation each)
    (IsNonDecreasingBy-from_sort_by_key (λ (h : Holder). h.key) sorted c.sort_unstable_by_key.ensures.sorted (λ a r q k. search rules))

pub returns-clause-each : goal.returns-clause-each
returns-clause-each c =
    let holders = c.in_ok-holders.holders.items in
    let sorted = c.sort_unstable_by_key.new.self.items in
    let slots = c.args.self.now in
    let each = subst (λ (xs : List (Option Entry)). All (IsHolder xs) holders) (c.deref.ensures.value ∙ c.self.view_is) c.in_ok-holders.ensures.each in
    let still = All-permutation (IsHolder slots) holders sorted c.sort_unstable_by_key.ensures.permutation each in
    λ k d l. let is = (still k d l).is in slot_within slots _ is.0 is.1
