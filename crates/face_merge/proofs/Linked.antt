-- The links by slots: what a query finds, and the links of one slot.
use Rattle.std.proofs.Common.{◌≡◌, ◌≢◌, ℕ, ◌+◌, Bool, true, false, not, ◌&&◌, ◌==◌, List, [], ◌∷◌, map, Some, None, sym, ◌∙◌, ap, subst, arith}
use Rattle.std.specs.declared.cmp.Ordering.TheVariants.{Less}
use Rattle.std.specs.declared.ops.Bound.TheVariants.{Included, Excluded}
use Rattle.std.specs.Ordering.{ordering_then, nat_cmp, eq_by_cmp, is_eq, is_gt, is_le}
use Rattle.std.specs.List.{All, AllByRecursion, IsDistinct, slice_get}
use Rattle.std.specs.Map.{lookup, keys_of}
use Rattle.std.specs.Option.{option_map}
use Rattle.std.specs.BTreeMap.{BTreeMap, IsOrdered, get, is_at}
use Rattle.std.specs.BTreeMap.Range.{entries_between, range_contains, IsEntryInRange}
use Rattle.std.proofs.lemmas.Bool.Decides.{nat_tests}
use Rattle.std.proofs.lemmas.Option.{slice_get-map}
use Rattle.std.proofs.lemmas.List.Elements.{All-map, All-weaker, recursion_from_All}
use Rattle.std.proofs.lemmas.Bool.{both_ways}
use Rattle.std.proofs.lemmas.Map.Keys.{IsDistinct-from_sorted}
use Rattle.std.proofs.lemmas.Map.Made.{IsDistinct-keys_filter}
use Rattle.std.proofs.lemmas.Map.Entries.{lookup-filter-keys, place_from_lookup}
use Rattle.face_merge.specs.declared.links.Link.{Link}
use Rattle.face_merge.specs.Links.{AreLinksOf, AreOnce, pair_cmp}

-- a query for a pair finds that pair alone
pub pair_at : (a b s t : ℕ) → is_eq (ordering_then (nat_cmp a s) (nat_cmp b t)) ≡ ((a == s) && (b == t))
pair_at a b s t = grind (arith, nat_tests)

-- two equal pairs
pair_parts : (a b s t : ℕ) → is_eq (ordering_then (nat_cmp a s) (nat_cmp b t)) ≡ true → (s ≡ a) × (t ≡ b)
pair_parts a b s t e = (grind (arith, nat_tests), grind (arith, nat_tests))

-- a pair between the first of a slot and the first of the next one
between_slot : (a s t : ℕ) → is_gt (ordering_then (nat_cmp a s) (nat_cmp 0 t)) ≡ false → ordering_then (nat_cmp s (a + 1)) (nat_cmp t 0) ≡ Less → s ≡ a
between_slot a s t p q = grind (arith, nat_tests)

-- a pair of the slot is there
slot_between : (a t : ℕ) → (is_le (ordering_then (nat_cmp a a) (nat_cmp 0 t)) && not (is_le (ordering_then (nat_cmp (a + 1) a) (nat_cmp 0 t)))) ≡ true
slot_between a t = grind (arith, nat_tests)

-- an entry as a link
abbrev pub entry_link : (ℕ × ℕ) × ℕ → Link
entry_link e = record { slot = e.0.1; length = e.1 }

module _ (m : BTreeMap (ℕ × ℕ) ℕ) (slot : ℕ) where
  -- the entries of a slot
  abbrev pub entries_at : List ((ℕ × ℕ) × ℕ)
  entries_at = entries_between pair_cmp (Included (slot, 0)) (Excluded (slot + 1, 0)) m.entries

  -- a pair of the slot is in the range
  within : (t : ℕ) (k : ℕ × ℕ) → is_at (pair_cmp (slot, t)) k ≡ true → range_contains pair_cmp (Included (slot, 0)) (Excluded (slot + 1, 0)) k ≡ true
  within t k h =
      let same = pair_parts slot t k.0 k.1 h in
      rw (same.0, same.1) (slot_between slot t)

  -- what a query for a pair of the slot finds is among them
  found : (t length : ℕ) → get pair_cmp m (slot, t) ≡ Some length → (k : ℕ) × (slice_get (map entry_link entries_at) k ≡ Some (record { slot = t; length = length }))
  found t length e =
      let test : ℕ × ℕ → Bool = is_at (pair_cmp (slot, t)) in
      let kept = lookup-filter-keys test (range_contains pair_cmp (Included (slot, 0)) (Excluded (slot + 1, 0))) true (within t) m.entries in
      let place = place_from_lookup test entries_at length (kept ∙ e) in
      let same = pair_parts slot t place.1.0 place.1.1 place.3 in
      (place.0, slice_get-map entry_link entries_at place.0 ∙ (ap (option_map entry_link) place.2 ∙ ap (λ (s : ℕ). Some (record { slot = s; length = length })) same.1))

  -- with no entry there no query finds one
  none_found : entries_at ≡ [] → (t : ℕ) → get pair_cmp m (slot, t) ≡ None
  none_found none t =
      let test : ℕ × ℕ → Bool = is_at (pair_cmp (slot, t)) in
      let kept = lookup-filter-keys test (range_contains pair_cmp (Included (slot, 0)) (Excluded (slot + 1, 0))) true (within t) m.entries in
      sym kept ∙ ap (lookup test) none

  -- an entry there is of the slot
  at_slot : (e : (ℕ × ℕ) × ℕ) → IsEntryInRange pair_cmp (Included (slot, 0)) (Excluded (slot + 1, 0)) m e → get pair_cmp m (slot, e.0.1) ≡ Some e.1
  at_slot e p =
      let same : e.0.0 ≡ slot = between_slot slot e.0.0 e.0.1 p.0.0 p.0.1 in
      subst (λ (s : ℕ). get pair_cmp m (s, e.0.1) ≡ Some e.1) same p.1

  -- the links of the slot
  pub links_at : All (IsEntryInRange pair_cmp (Included (slot, 0)) (Excluded (slot + 1, 0)) m) entries_at → AreLinksOf (λ s t. get pair_cmp m (s, t)) slot (map entry_link entries_at)
  links_at inside = record {
    each = All-map (λ link. get pair_cmp m (slot, link.slot) ≡ Some link.length) entry_link entries_at (All-weaker _ _ at_slot entries_at inside);
    all = found;
  }

  -- each leads to another slot
  once : (es : List ((ℕ × ℕ) × ℕ)) → AllByRecursion (IsEntryInRange pair_cmp (Included (slot, 0)) (Excluded (slot + 1, 0)) m) es → IsDistinct (eq_by_cmp pair_cmp) (keys_of es) → AreOnce (map entry_link es)
  unfolding IsDistinct
  once [] inside distinct = tt
  once (e ∷ es) inside distinct = (others es inside.1 distinct.0, once es inside.1 distinct.1)
    where
      own : (x : (ℕ × ℕ) × ℕ) → IsEntryInRange pair_cmp (Included (slot, 0)) (Excluded (slot + 1, 0)) m x → x.0.0 ≡ slot
      own x p = between_slot slot x.0.0 x.0.1 p.0.0 p.0.1

      same_slot : (a b s t : ℕ) → a ≡ s → b ≡ t → is_eq (ordering_then (nat_cmp a s) (nat_cmp b t)) ≡ true
      same_slot a b s t p q = grind (arith, nat_tests)

      others : (xs : List ((ℕ × ℕ) × ℕ)) → AllByRecursion (IsEntryInRange pair_cmp (Included (slot, 0)) (Excluded (slot + 1, 0)) m) xs
          → AllByRecursion (λ k. eq_by_cmp pair_cmp e.0 k ≡ false) (keys_of xs) → AllByRecursion (λ link. link.slot ≢ e.0.1) (map entry_link xs)
      others [] within apart = tt
      others (x ∷ xs) within apart = (
        (λ h. both_ways _ apart.0 (same_slot e.0.0 e.0.1 x.0.0 x.0.1 (own e inside.0 ∙ sym (own x within.0)) (sym h))),
        others xs within.1 apart.1,
      )

  pub links_once : All (IsEntryInRange pair_cmp (Included (slot, 0)) (Excluded (slot + 1, 0)) m) entries_at → IsOrdered pair_cmp m → AreOnce (map entry_link entries_at)
  links_once inside ordered =
      once entries_at (recursion_from_All (IsEntryInRange pair_cmp (Included (slot, 0)) (Excluded (slot + 1, 0)) m) entries_at inside)
      (IsDistinct-keys_filter (eq_by_cmp pair_cmp) (λ e. range_contains pair_cmp (Included (slot, 0)) (Excluded (slot + 1, 0)) e.0) m.entries
      (IsDistinct-from_sorted pair_cmp (keys_of m.entries) ordered))
