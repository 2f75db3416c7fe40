-- What slots have that is near an area, in order of key.
use Rattle.std.proofs.Common.{◌≡◌, ℕ, suc, ◌+◌, ◌<◌, ◌≤◌, Bool, false, cond, not, nat_eq, List, [], ◌∷◌, ◌++◌, length, filter, map, get_or, take, All, AllPairs, IsPermutation, Option, Some, None, refl, sym, ap, ap₂, ◌∙◌, subst, subst₂, true≢false, arith}
use Rattle.std.specs.Prelude.{option_to_list, unwrap_or}
use Rattle.std.specs.List.{flat_map, range_with_len}
use Rattle.std.specs.List.Sorted.{IsNonDecreasingBy}
use Rattle.std.proofs.lemmas.Bool.{false_from_ne_true}
use Rattle.std.proofs.lemmas.Bool.Decides.{nat_tests}
use Rattle.std.proofs.lemmas.Grind.{flat_map-append}
use Rattle.std.proofs.lemmas.List.{append-nil, take_more, map_push, get_or-map, length-map}
use Rattle.std.proofs.lemmas.List.Elements.{All-nil, All-cons, All-head, All-tail, All-append}
use Rattle.std.proofs.lemmas.List.Folds.{flat_map-map}
use Rattle.std.proofs.lemmas.List.FromFn.{fill_by_all}
use Rattle.std.proofs.lemmas.List.Kept.{IsNonDecreasingBy-filter, AllPairs-filter}
use Rattle.std.proofs.lemmas.List.Sorted.{IsPermutation-map, IsPermutation-trans, All-permutation}
use Rattle.tgap_model.specs.declared.geometry.Window.{Window}
use Rattle.lemmas.proofs.Permutations.{IsPermutation-filter}
use Rattle.grid_index.specs.declared.live.SegmentPlace.{SegmentPlace}
use Rattle.grid_index.specs.declared.segments.Entry.{Entry}
use Rattle.grid_index.specs.declared.slots.Holder.{Holder}
use Rattle.grid_index.specs.Boxes.{meets, Covers}
use Rattle.grid_index.specs.Near.{cons_if, boxes_near, near_boxes}
use Rattle.grid_index.specs.Tower.{meets_at}
use Rattle.grid_index.specs.Slots.{held, slot_at, taken, is_near, entry_near, IsBounded, IsHolder}
use Rattle.grid_index.specs.Wider.{meets_wider}
use Rattle.grid_index.proofs.Ranges.{filter-flat_map, flat_map-filter}
use Rattle.grid_index.proofs.Meeting.{meets_at-within, near_filtered}
use Rattle.grid_index.proofs.Holding.{slot_within}
use Rattle.grid_index.proofs.KeyLists.{sorted_by_keys}

-- ---- slots by the keys of what they have

pub record AreHolders (slots : List (Option Entry)) (places : List ℕ) (holders : List Holder) : Type 0 where
  pub each : All (IsHolder slots) holders
  pub taken : taken slots (map (λ h. h.slot) holders) ≡ taken slots places

taken_more : (slots : List (Option Entry)) (places : List ℕ) (i : ℕ) → i < length places → taken slots (take (i + 1) places) ≡ taken slots (take i places) ++ option_to_list (slot_at slots (get_or places i 0))
taken_more slots places i l =
    let f : ℕ → List Entry = λ k. option_to_list (slot_at slots k) in
    ap (taken slots) (take_more places i 0 l) ∙ flat_map-append f (take i places) (get_or places i 0 ∷ [])
    ∙ ap (λ ys. taken slots (take i places) ++ ys) (append-nil (f (get_or places i 0)))

pub AreHolders-some : (slots : List (Option Entry)) (places : List ℕ) (i : ℕ) (holders : List Holder) (e : Entry) → i < length places → slot_at slots (get_or places i 0) ≡ Some e
    → AreHolders slots (take i places) holders → AreHolders slots (take (i + 1) places) (holders ++ record { key = e.key; slot = get_or places i 0 } ∷ [])
AreHolders-some slots places i holders e l is h = record {
  each = All-append (IsHolder slots) holders (new ∷ []) h.each (All-cons (IsHolder slots) new [] (record { is = (e, is, refl) }) (All-nil (IsHolder slots)));
  taken =
      ap (taken slots) (map_push slot_of holders new) ∙ flat_map-append f (map slot_of holders) (place ∷ [])
      ∙ ap₂ (λ (xs ys : List Entry). xs ++ ys) h.taken (append-nil (f place)) ∙ sym (taken_more slots places i l);
}
  where
    place : ℕ
    place = get_or places i 0

    new : Holder
    new = record { key = e.key; slot = get_or places i 0 }

    slot_of : Holder → ℕ
    slot_of h = h.slot

    f : ℕ → List Entry
    f k = option_to_list (slot_at slots k)

pub AreHolders-none : (slots : List (Option Entry)) (places : List ℕ) (i : ℕ) (holders : List Holder) → i < length places → slot_at slots (get_or places i 0) ≡ None
    → AreHolders slots (take i places) holders → AreHolders slots (take (i + 1) places) holders
AreHolders-none slots places i holders l is h = record {
  each = h.each;
  taken = h.taken ∙ sym (append-nil (taken slots (take i places))) ∙ ap (λ (x : Option Entry). taken slots (take i places) ++ option_to_list x) (sym is) ∙ sym (taken_more slots places i l);
}

-- what is read from a slot that has nothing
no_entry : Entry
no_entry = record { key = 0; boxes = [] }

entry_in : List (Option Entry) → Holder → Entry
entry_in slots h = unwrap_or (slot_at slots h.slot) no_entry

-- ---- what the slots have that is near

-- what a box holds that does not meet the area does not meet it
pub none_near : (area up : Window) (k : ℕ) (boxes : List Window) → All (Covers up) boxes → meets area up ≡ false → boxes_near area k boxes ≡ []
none_near area up k [] h e = refl
none_near area up k (b ∷ boxes) h e =
    let out : meets area b ≡ false = false_from_ne_true (meets area b) (λ m. true≢false (sym (meets_wider area up b (All-head (Covers up) b boxes h) m) ∙ e)) in
    ap (λ (t : Bool). cons_if t k (boxes_near area (k + 1) boxes)) out ∙ none_near area up (k + 1) boxes (All-tail (Covers up) b boxes h) e

taken_all : (slots : List (Option Entry)) → taken slots (range_with_len 0 (length slots)) ≡ held slots
taken_all slots =
    sym (flat_map-map option_to_list (slot_at slots) (range_with_len 0 (length slots)))
    ∙ ap held (sym (fill_by_all (slot_at slots) slots (length slots) None refl (λ k l. refl)))

-- the slots whose boxes meet the area have all that is near
pub near_taken : (area : Window) (slots : List (Option Entry)) (row : List Window) → IsBounded slots row → filter (is_near area) (taken slots (near_boxes area row)) ≡ filter (is_near area) (held slots)
near_taken area slots row b =
    ap (λ ps. filter q (taken slots ps)) (sym (near_filtered area row n (let e = b.long in omega arith)))
    ∙ filter-flat_map q f (filter p (range_with_len 0 n))
    ∙ flat_map-filter (λ i. filter q (f i)) p (λ i e. nothing i e (slot_at slots i) refl) (range_with_len 0 n)
    ∙ sym (filter-flat_map q f (range_with_len 0 n))
    ∙ ap (filter q) (taken_all slots)
  where
    n : ℕ
    n = length slots

    q : Entry → Bool
    q e = is_near area e

    p : ℕ → Bool
    p i = meets_at area row i

    f : ℕ → List Entry
    f i = option_to_list (slot_at slots i)

    nothing : (i : ℕ) → p i ≡ false → (x : Option Entry) → slot_at slots i ≡ x → filter q (f i) ≡ []
    nothing i e None is = ap (λ (x : Option Entry). filter q (option_to_list x)) is
    nothing i e (Some x) is =
        let d : Window = record { x0 = area.x0; y0 = area.y0; x1 = area.x1; y1 = area.y1 } in
        let long = b.long in
        let in_slots = slot_within slots i x is in
        let within : i < length row = omega arith in
        let out = none_near area (get_or row i d) 0 x.boxes (b.holds i d x is) (sym (meets_at-within area row i d within) ∙ e) in
        ap (λ (y : Option Entry). filter q (option_to_list y)) is
        ∙ ap (λ (ps : List ℕ). cond (not (nat_eq (length ps) 0)) (x ∷ []) []) out

-- what the slots have, by the slots of the holders
taken_map : (slots : List (Option Entry)) (holders : List Holder) → All (IsHolder slots) holders → taken slots (map (λ h. h.slot) holders) ≡ map (entry_in slots) holders
unfolding entry_in
taken_map slots [] h = refl
taken_map slots (x ∷ holders) h =
    let is = (All-head (IsHolder slots) x holders h).is in
    ap₂ (λ (o : Option Entry) (es : List Entry). option_to_list o ++ es) is.1 (taken_map slots holders (All-tail (IsHolder slots) x holders h))
    ∙ ap (λ (o : Option Entry). unwrap_or o no_entry ∷ map (entry_in slots) holders) (sym is.1)

entry_key : (slots : List (Option Entry)) (h : Holder) → IsHolder slots h → (entry_in slots h).key ≡ h.key
unfolding entry_in
entry_key slots h i = ap (λ (o : Option Entry). (unwrap_or o no_entry).key) i.is.1 ∙ sym i.is.2

-- in another order, and in order of key
pub taken_permuted : (slots : List (Option Entry)) (holders sorted : List Holder) → All (IsHolder slots) holders → IsPermutation holders sorted
    → IsPermutation (taken slots (map (λ h. h.slot) holders)) (taken slots (map (λ h. h.slot) sorted))
taken_permuted slots holders sorted each moved =
    subst₂ IsPermutation (sym (taken_map slots holders each)) (sym (taken_map slots sorted (All-permutation (IsHolder slots) holders sorted moved each))) (IsPermutation-map (entry_in slots) holders sorted moved)

pub taken_ascend : (slots : List (Option Entry)) (holders : List Holder) → All (IsHolder slots) holders → IsNonDecreasingBy (λ h. h.key) holders → IsNonDecreasingBy (λ e. e.key) (taken slots (map (λ h. h.slot) holders))
taken_ascend slots holders each up =
    subst (λ (es : List Entry). IsNonDecreasingBy (λ e. e.key) es) (sym (taken_map slots holders each)) (λ i j d le l.
    let short : j < length holders = omega (arith, l, length-map holders (entry_in slots)) in
    let less : i < length holders = omega arith in
    let h : Holder = record { key = 0; slot = 0 } in
    subst₂ (λ (m n : ℕ). m ≤ n)
    (sym (ap (λ (e : Entry). e.key) (get_or-map (entry_in slots) holders i h d less) ∙ entry_key slots (get_or holders i h) (each i h less)))
    (sym (ap (λ (e : Entry). e.key) (get_or-map (entry_in slots) holders j h d short) ∙ entry_key slots (get_or holders j h) (each j h short)))
    (up i j h le short))

not_none : (n : ℕ) → not (nat_eq (suc n) 0) ≡ false → ⊥
not_none n h = grind (arith, nat_tests)

-- what is not near has no segment that is
far_none : (area : Window) (e : Entry) → is_near area e ≡ false → entry_near area e ≡ []
far_none area e h = by (near_boxes area e.boxes) h
  where
    by : (ps : List ℕ) → not (nat_eq (length ps) 0) ≡ false → map {B = SegmentPlace} (λ i. record { key = e.key; place = i }) ps ≡ []
    by [] h = refl
    by (p ∷ ps) h = absurd (not_none (length ps) h)

-- so the segments are those of all that the slots have, in order of key
pub near_is : (area : Window) (slots : List (Option Entry)) (found es : List Entry) → IsPermutation (filter (is_near area) (held slots)) (filter (is_near area) found) → IsNonDecreasingBy (λ e. e.key) found
    → IsPermutation es (held slots) → AllPairs (λ e f. e.key < f.key) es → flat_map (entry_near area) found ≡ flat_map (entry_near area) es
near_is area slots found es near up moved ascend =
    sym (flat_map-filter (entry_near area) q (far_none area) found) ∙ ap (flat_map (entry_near area)) same ∙ flat_map-filter (entry_near area) q (far_none area) es
  where
    q : Entry → Bool
    q e = is_near area e

    same : filter q found ≡ filter q es
    same = sorted_by_keys (λ e. e.key) (filter q es) (filter q found) (AllPairs-filter (λ e f. e.key < f.key) q es ascend)
        (IsPermutation-trans (filter q es) (filter q (held slots)) (filter q found) (IsPermutation-filter q es (held slots) moved) near)
        (IsNonDecreasingBy-filter (λ e. e.key) q found up)
