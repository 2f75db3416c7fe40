-- What a number that comes in or goes out means for the links.
use Rattle.std.proofs.Common.{add-one, ◌≡◌, ◌⊎◌, ⊎_elim, inl, inr, ℕ, zero, suc, ◌+◌, ◌-◌, ◌<◌, ◌≤◌, ◌^◌, List, [], ◌∷◌, length, set, get_or, take, drop, Contains, sym, ap, ◌∙◌, subst, arith}
use Rattle.std.specs.List.{insert, remove}
use Rattle.std.proofs.lemmas.Bool.{cases_lt, cases_eq}
use Rattle.std.proofs.lemmas.List.{get_or_default, get_or-set_same, get_or-set_other, length-set, length_push}
use Rattle.std.proofs.lemmas.List.Edits.{length-insert, length-remove, get_or-insert_above, insert-append_left, remove-append_left}
use Rattle.std.proofs.lemmas.List.Elements.{All-append, All-cons, All-set, All-take, All-drop}
use Rattle.linked_row.specs.Linked.{Linked, AreLinks, IsNode, uppers, lowers, linked_by}
use Rattle.linked_row.proofs.Neighbours.{AreNext, AreApart, IsNew, next_outside, next_set, next_insert, next_remove, insert_behind, insert_before, remove_behind, remove_before}
use Rattle.linked_row.proofs.Distinct.{is_new, are_apart, removed_is_new, distinct_insert, distinct_remove, contains_insert, contains_inserted, contains_remove, at_most}
use Rattle.linked_row.proofs.Nodes.{opened, linked_is, upper_place, upper_within, lower_within, uppers_apart, lowers_apart, lowers_distinct, lowers_length, lower_row, lower_end, upper_node, node_row, node_within}

-- the fields show the row after a change
pub shown : (above below : List ℕ) (l : Linked) (len : ℕ) → AreLinks above below l → len ≡ length l.row → AreLinks above below (linked_by below len)
shown above below l len is long = subst (AreLinks above below) (sym (linked_is above below l is len long)) is

-- the row with one number more, and with one less
abbrev pub with : Linked → ℕ → ℕ → Linked
with l k n = record { count = l.count; row = insert l.row k n }

abbrev pub without : Linked → ℕ → Linked
without l k = record { count = l.count; row = remove l.row k }

-- ---- a number comes in

module _ (above below : List ℕ) (l : Linked) (is : AreLinks above below l) (k n : ℕ) (place : k ≤ length l.row) (known : n < l.count) (new : Contains l.row n → ⊥) where
  abbrev gap_upper : ℕ
  gap_upper = get_or (uppers l) k 0

  abbrev gap_lower : ℕ
  gap_lower = get_or (lowers l) k 0

  new_upper : IsNew (uppers l) n
  new_upper zero less e = absurd (omega (arith, known, e))
  new_upper (suc j) less e = is_new l.row n new j (omega (arith, less)) e

  new_lower : IsNew (lowers l) n
  new_lower j less e = ⊎_elim
      (λ inner. is_new l.row n new j inner (sym (lower_row above below l is j inner) ∙ e))
      (λ past. absurd (omega (arith, known, e, lower_end above below l is j (omega (arith, less, past, lowers_length above below l is)))))
      (cases_lt j (length l.row))

  down_in : AreNext (set (set below gap_upper n) n gap_lower) (insert (uppers l) (suc k) n) (insert (lowers l) k n)
  down_in =
      let us = uppers l in
      let vs = lowers l in
      let short : k < length us = omega (arith, place) in
      let even : length us ≡ length vs = omega (arith, lowers_length above below l is) in
      let within : gap_upper < length below = omega (arith, upper_within above below l is k place, is.below_length) in
      let old : AreNext below us vs = λ j less. is.down j (omega (arith, less)) in
      let first : AreNext (set below gap_upper n) us (set vs k n) = next_set below us vs k n old (uppers_apart above below l is) even short within in
      let long : length us ≡ length (set vs k n) = omega (arith, even, length-set vs k n) in
      let second : AreNext (set (set below gap_upper n) n gap_lower) us (set vs k n) = next_outside (set below gap_upper n) us (set vs k n) n gap_lower first new_upper in
      subst (λ zs. AreNext (set (set below gap_upper n) n gap_lower) (insert us (suc k) n) zs) (insert_before vs k n (omega (arith, short, even)))
      (next_insert (set (set below gap_upper n) n gap_lower) us (set vs k n) (suc k) n gap_lower second long (omega (arith, short))
      (get_or-set_same (set below gap_upper n) n gap_lower 0 (omega (arith, known, is.below_length, length-set below gap_upper n))))

  up_in : AreNext (set (set above n gap_upper) gap_lower n) (insert (lowers l) k n) (insert (uppers l) (suc k) n)
  up_in =
      let us = uppers l in
      let vs = lowers l in
      let even : length vs ≡ length us = omega (arith, lowers_length above below l is) in
      let short : k < length vs = omega (arith, place, even) in
      let old : AreNext above vs us = λ j less. is.up j (omega (arith, less, even)) in
      let first : AreNext (set above n gap_upper) vs us = next_outside above vs us n gap_upper old new_lower in
      let pair : get_or (set above n gap_upper) n 0 ≡ gap_upper = get_or-set_same above n gap_upper 0 (omega (arith, known, is.above_length)) in
      let second : AreNext (set above n gap_upper) (insert vs k n) (insert us k gap_upper) = next_insert (set above n gap_upper) vs us k n gap_upper first even (omega (arith, short)) pair in
      let next : get_or (insert vs k n) (suc k) 0 ≡ gap_lower
      = ap (λ (i : ℕ). get_or (insert vs k n) i 0) (sym (add-one k)) ∙ get_or-insert_above vs k n 0 k (omega arith) (omega (arith, short)) in
      let apart : AreApart (insert vs k n) = are_apart (insert vs k n) (distinct_insert vs k n new_lower (lowers_distinct above below l is)) in
      let long : length (insert vs k n) ≡ length (insert us k gap_upper) = omega (arith, even, length-insert vs k n (omega (arith, short)), length-insert us k gap_upper (omega (arith, short, even))) in
      let within : gap_lower < length (set above n gap_upper) = omega (arith, lower_within above below l is k place, is.above_length, length-set above n gap_upper) in
      subst (λ zs. AreNext (set (set above n gap_upper) gap_lower n) (insert vs k n) zs) (insert_behind us k n (omega (arith, place)))
      (subst (λ m. AreNext (set (set above n gap_upper) m n) (insert vs k n) (set (insert us k gap_upper) (suc k) n)) next
      (next_set (set above n gap_upper) (insert vs k n) (insert us k gap_upper) (suc k) n second apart long
      (omega (arith, short, length-insert vs k n (omega (arith, short)))) (omega (arith, within, next))))

  free_in : (m : ℕ) → m < l.count → Contains (insert l.row k n) m ⊎ (get_or (set (set below gap_upper n) n gap_lower) m 0 ≡ m)
  free_in m less = ⊎_elim (λ h. inl (contains_insert l.row k n m h)) alone (is.free m less)
    where
      alone : get_or below m 0 ≡ m → Contains (insert l.row k n) m ⊎ (get_or (set (set below gap_upper n) n gap_lower) m 0 ≡ m)
      alone e = ⊎_elim
          (λ f. inl (subst (Contains (insert l.row k n)) (sym f) (contains_inserted l.row k n)))
          (λ ne. ⊎_elim
          (λ f. inl (contains_insert l.row k n m (node_row above below l is m (subst (IsNode l) (sym f) (upper_node above below l is k place)) less)))
          (λ nu. inr (get_or-set_other (set below gap_upper n) n m gap_lower 0 ne ∙ get_or-set_other below gap_upper m n 0 nu ∙ e))
          (cases_eq m gap_upper))
          (cases_eq m n)

  links_with : AreLinks (set (set above n gap_upper) gap_lower n) (set (set below gap_upper n) n gap_lower) (with l k n)
  links_with =
      let above_in = set (set above n gap_upper) gap_lower n in
      let below_in = set (set below gap_upper n) n gap_lower in
      let lowers_in : insert (lowers l) k n ≡ lowers (with l k n) = insert-append_left l.row (l.count ∷ []) k n place in
      let down : AreNext below_in (uppers (with l k n)) (lowers (with l k n)) = subst (λ zs. AreNext below_in (uppers (with l k n)) zs) lowers_in down_in in
      let up : AreNext above_in (lowers (with l k n)) (uppers (with l k n)) = subst (λ zs. AreNext above_in zs (uppers (with l k n))) lowers_in up_in in
      let upper_le : gap_upper ≤ l.count = upper_within above below l is k place in
      record {
        above_length = omega (arith, length-set (set above n gap_upper) gap_lower n, length-set above n gap_upper, is.above_length);
        below_length = omega (arith, length-set (set below gap_upper n) n gap_lower, length-set below gap_upper n, is.below_length);
        few = is.few;
        differ = distinct_insert l.row k n (is_new l.row n new) is.differ;
        known = All-append (λ m. m < l.count) (take k l.row) (n ∷ drop k l.row) (All-take (λ m. m < l.count) k l.row is.known) (All-cons (λ m. m < l.count) n (drop k l.row) known (All-drop (λ m. m < l.count) k l.row is.known));
        down = λ j le. down j (omega (arith, le));
        up = λ j le. up j (omega (arith, le, length_push (insert l.row k n) l.count));
        free = free_in;
        bound = All-set (λ m. m ≤ l.count) (set above n gap_upper) gap_lower n (omega (arith, known)) (All-set (λ m. m ≤ l.count) above n gap_upper upper_le is.bound);
      }

-- ---- a number goes out

module _ (above below : List ℕ) (l : Linked) (is : AreLinks above below l) (k : ℕ) (place : k < length l.row) where
  abbrev number : ℕ
  number = get_or l.row k 0

  abbrev over : ℕ
  over = get_or (uppers l) k 0

  abbrev under : ℕ
  under = get_or (lowers l) (suc k) 0

  gone_upper : IsNew (uppers (without l k)) number
  gone_upper zero less e = absurd (omega (arith, is.known k 0 place, e))
  gone_upper (suc j) less e = removed_is_new l.row k place is.differ j (omega (arith, less)) e

  down_out : AreNext (set (set below over under) number number) (remove (uppers l) (suc k)) (remove (lowers l) k)
  down_out =
      let us = uppers l in
      let vs = lowers l in
      let short : suc k < length us = omega (arith, place) in
      let even : length us ≡ length vs = omega (arith, lowers_length above below l is) in
      let within : over < length below = omega (arith, upper_within above below l is k (omega (arith, place)), is.below_length) in
      let old : AreNext below us vs = λ j less. is.down j (omega (arith, less)) in
      let first : AreNext (set below over under) us (set vs k under) = next_set below us vs k under old (uppers_apart above below l is) even (omega (arith, short)) within in
      let long : length us ≡ length (set vs k under) = omega (arith, even, length-set vs k under) in
      let second : AreNext (set below over under) (remove us (suc k)) (remove vs k)
      = subst (λ zs. AreNext (set below over under) (remove us (suc k)) zs) (remove_behind vs k (omega (arith, short, even)))
      (next_remove (set below over under) us (set vs k under) (suc k) first long short) in
      next_outside (set below over under) (remove us (suc k)) (remove vs k) number number second gone_upper

  up_out : AreNext (set above under over) (remove (lowers l) k) (remove (uppers l) (suc k))
  up_out =
      let us = uppers l in
      let vs = lowers l in
      let even : length vs ≡ length us = omega (arith, lowers_length above below l is) in
      let short : suc k < length vs = omega (arith, place, even) in
      let within : under < length above = omega (arith, lower_within above below l is (suc k) (omega (arith, place)), is.above_length) in
      let old : AreNext above vs us = λ j less. is.up j (omega (arith, less, even)) in
      let first : AreNext (set above under over) vs (set us (suc k) over) = next_set above vs us (suc k) over old (lowers_apart above below l is) even short within in
      let long : length vs ≡ length (set us (suc k) over) = omega (arith, even, length-set us (suc k) over) in
      subst (λ zs. AreNext (set above under over) (remove vs k) zs) (remove_before us k (omega (arith, short, even)))
      (next_remove (set above under over) vs (set us (suc k) over) k first long (omega (arith, short)))

  free_out : (m : ℕ) → m < l.count → Contains (remove l.row k) m ⊎ (get_or (set (set below over under) number number) m 0 ≡ m)
  free_out m less = ⊎_elim here elsewhere (cases_eq m number)
    where
      here : m ≡ number → Contains (remove l.row k) m ⊎ (get_or (set (set below over under) number number) m 0 ≡ m)
      here e = inr (ap (λ (i : ℕ). get_or (set (set below over under) number number) i 0) e
          ∙ get_or-set_same (set below over under) number number 0 (omega (arith, is.known k 0 place, is.below_length, length-set below over under)) ∙ sym e)

      elsewhere : (m ≡ number → ⊥) → Contains (remove l.row k) m ⊎ (get_or (set (set below over under) number number) m 0 ≡ m)
      elsewhere ne = ⊎_elim
          (λ h. inl (contains_remove l.row k m place (λ f. ne (sym f)) h))
          (λ e. ⊎_elim
          (λ f. inl (contains_remove l.row k m place (λ g. ne (sym g)) (node_row above below l is m (subst (IsNode l) (sym f) (upper_node above below l is k (omega (arith, place)))) less)))
          (λ nu. inr (get_or-set_other (set below over under) number m number 0 ne ∙ get_or-set_other below over m under 0 nu ∙ e))
          (cases_eq m over))
          (is.free m less)

  links_without : AreLinks (set above under over) (set (set below over under) number number) (without l k)
  links_without =
      let above_out = set above under over in
      let below_out = set (set below over under) number number in
      let lowers_out : remove (lowers l) k ≡ lowers (without l k) = remove-append_left l.row (l.count ∷ []) k place in
      let down : AreNext below_out (uppers (without l k)) (lowers (without l k)) = subst (λ zs. AreNext below_out (uppers (without l k)) zs) lowers_out down_out in
      let up : AreNext above_out (lowers (without l k)) (uppers (without l k)) = subst (λ zs. AreNext above_out zs (uppers (without l k))) lowers_out up_out in
      let over_le : over ≤ l.count = upper_within above below l is k (omega (arith, place)) in
      record {
        above_length = omega (arith, length-set above under over, is.above_length);
        below_length = omega (arith, length-set (set below over under) number number, length-set below over under, is.below_length);
        few = is.few;
        differ = distinct_remove l.row k place is.differ;
        known = All-append (λ m. m < l.count) (take k l.row) (drop (suc k) l.row) (All-take (λ m. m < l.count) k l.row is.known) (All-drop (λ m. m < l.count) (suc k) l.row is.known);
        down = λ j le. down j (omega (arith, le));
        up = λ j le. up j (omega (arith, le, length_push (remove l.row k) l.count));
        free = free_out;
        bound = All-set (λ m. m ≤ l.count) above under over over_le is.bound;
      }

-- ---- the fields after a change

module _ (above below : List ℕ) (len : ℕ) (l : Linked) (is : AreLinks above below (linked_by below len)) (view : linked_by below len ≡ l) where
  links : AreLinks above below l
  links = (opened above below len l is view).0

  long : len ≡ length l.row
  long = (opened above below len l is view).1

  pub inserted : (upper lower n : ℕ) → IsNode l upper → n < l.count → (Contains l.row n → ⊥) → lower ≡ get_or below upper lower
      → (above_in below_in : List ℕ) → above_in ≡ set (set above n upper) lower n → below_in ≡ set (set below upper n) n lower
      → AreLinks above_in below_in (linked_by below_in (len + 1)) × ((k : ℕ) × (k ≤ length l.row) × (get_or (uppers l) k 0 ≡ upper) × (linked_by below_in (len + 1) ≡ with l k n))
  inserted upper lower n node known new read above_in below_in above_is below_is =
      let within : upper < length below = omega (arith, node_within above below l links upper node, links.below_length) in
      let next : lower ≡ get_or below upper 0 = read ∙ get_or_default below upper lower 0 within in
      let p = upper_place above below l links upper node in
      let k = p.0 in
      let beside : get_or (lowers l) k 0 ≡ lower = sym (links.down k p.1) ∙ ap (λ (m : ℕ). get_or below m 0) p.2 ∙ sym next in
      let first = links_with above below l links k n p.1 known new in
      let second : AreLinks (set (set above n upper) lower n) (set (set below upper n) n lower) (with l k n)
      = subst (λ m. AreLinks (set (set above n upper) m n) (set (set below upper n) n m) (with l k n)) beside
      (subst (λ m. AreLinks (set (set above n m) (get_or (lowers l) k 0) n) (set (set below m n) n (get_or (lowers l) k 0)) (with l k n)) p.2 first) in
      let third : AreLinks above_in below_in (with l k n)
      = subst (λ zs. AreLinks above_in zs (with l k n)) (sym below_is) (subst (λ zs. AreLinks zs (set (set below upper n) n lower) (with l k n)) (sym above_is) second) in
      let more : len + 1 ≡ length (insert l.row k n) = omega (arith, long, length-insert l.row k n p.1) in
      (shown above_in below_in (with l k n) (len + 1) third more, (k, p.1, p.2, linked_is above_in below_in (with l k n) third (len + 1) more))

  pub removed : (upper lower n : ℕ) → Contains l.row n → upper ≡ get_or above n upper → lower ≡ get_or below n lower
      → (above_out below_out : List ℕ) → above_out ≡ set above lower upper → below_out ≡ set (set below upper lower) n n
      → AreLinks above_out below_out (linked_by below_out (len - 1)) × ((k : ℕ) × (k < length l.row) × (get_or l.row k 0 ≡ n) × (linked_by below_out (len - 1) ≡ without l k))
  removed upper lower n inside upper_read lower_read above_out below_out above_is below_is =
      let k = inside.0 in
      let within : n ≤ l.count = node_within above below l links n (inr inside) in
      let over_is : upper ≡ get_or above n 0 = upper_read ∙ get_or_default above n upper 0 (omega (arith, within, links.above_length)) in
      let under_is : lower ≡ get_or below n 0 = lower_read ∙ get_or_default below n lower 0 (omega (arith, within, links.below_length)) in
      let here : get_or l.row k 0 ≡ n = get_or_default l.row k 0 n inside.1 ∙ inside.2 in
      let over : get_or (uppers l) k 0 ≡ upper
      = sym (links.up k (omega (arith, inside.1))) ∙ ap (λ (m : ℕ). get_or above m 0) (lower_row above below l links k inside.1 ∙ here) ∙ sym over_is in
      let under : get_or (lowers l) (suc k) 0 ≡ lower
      = sym (links.down (suc k) (omega (arith, inside.1))) ∙ ap (λ (m : ℕ). get_or below m 0) here ∙ sym under_is in
      let first = links_without above below l links k inside.1 in
      let second : AreLinks (set above lower upper) (set (set below upper lower) n n) (without l k)
      = subst (λ m. AreLinks (set above lower upper) (set (set below upper lower) m m) (without l k)) here
      (subst (λ m. AreLinks (set above m upper) (set (set below upper m) (get_or l.row k 0) (get_or l.row k 0)) (without l k)) under
      (subst (λ m. AreLinks (set above (get_or (lowers l) (suc k) 0) m) (set (set below m (get_or (lowers l) (suc k) 0)) (get_or l.row k 0) (get_or l.row k 0)) (without l k)) over first)) in
      let third : AreLinks above_out below_out (without l k)
      = subst (λ zs. AreLinks above_out zs (without l k)) (sym below_is) (subst (λ zs. AreLinks zs (set (set below upper lower) n n) (without l k)) (sym above_is) second) in
      let less : len - 1 ≡ length (remove l.row k) = omega (arith, long, length-remove l.row k inside.1) in
      (shown above_out below_out (without l k) (len - 1) third less, (k, inside.1, here, linked_is above_out below_out (without l k) third (len - 1) less))

  -- one number more can be counted
  pub countable : len + 1 < 2 ^ 64
  countable = omega (arith, long, links.few, at_most l.row l.count links.differ links.known)

  pub countable_row : (n : ℕ) → Contains l.row n → 1 ≤ len
  countable_row n inside = omega (arith, long, inside.1)
