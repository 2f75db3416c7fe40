-- Lists of indexes that are read item by item, and indexes that are checked place by place, as a loop does.
use Rattle.std.proofs.Common.{◌≡◌, ℕ, ◌+◌, ◌-◌, ◌^◌, ◌≤◌, ◌<◌, Bool, true, false, ℤ, pos, arith, List, [], ◌∷◌, ◌++◌, length, map, take, drop, get_or, Option, Some, None, option_map, option_and_then, Result, Ok, Err, refl, sym, ap, ◌∙◌, append_assoc}
use Rattle.std.specs.Borrow.{Bor}
use Rattle.std.specs.Option.{ok_or}
use Rattle.std.specs.List.{list_all}
use Rattle.std.proofs.lemmas.List.{append-nil, drop_more, drop_all, take_all, get_or_default}
use Rattle.std.proofs.lemmas.List.Folds.{list_all_more}
use Rattle.std.proofs.lemmas.Bool.{lt-ltb}
use Rattle.serde_json.specs.Data.{Data}
use Rattle.serde_json.specs.View.{view}
use Rattle.serde_json.specs.declared.value.Value.{Value}
use Rattle.tgap_model.specs.declared.fault.MapFault.TheVariants.{ArcIndex}
use Rattle.line_forms.specs.Lines.{next_number}
use Rattle.line_forms.specs.Json.{try_fold, each_of, items_of}
use Rattle.topology_forms.specs.Topology.{names_arc, index_read, ring_read}
use Rattle.topology_forms.specs.Rings.{is_raw_ring}

-- ---- the items of a list from a place on

-- they are the one there and those after it
at_place : {A : Type 0} (xs : List A) (k : ℕ) (x : A) → k < length xs → x ≡ get_or xs k x → drop k xs ≡ x ∷ drop (k + 1) xs
at_place xs k x lt is = drop_more xs k x lt ∙ ap (λ y. y ∷ drop (k + 1) xs) (sym is)

-- ---- what was read before, and what is still read of each item

abbrev in_order : {B : Type 0} → List B → Option (List B) → Option (List B)
in_order front read = option_map (λ ys. front ++ ys) read

-- nothing was read before
pub none_before : {B : Type 0} (read : Option (List B)) → in_order [] read ≡ read
none_before (Some ys) = refl
none_before None = refl

-- one more in front, or first of what is still read
regroup : {B : Type 0} (front : List B) (y : B) (read : Option (List B))
    → in_order (front ++ y ∷ []) read ≡ in_order front (option_map (λ ys. y ∷ ys) read)
regroup front y (Some ys) = ap Some (append_assoc front (y ∷ []) ys)
regroup front y None = refl

-- an item is read
each_more : {V A B : Type 0} (look : V → A) (read : A → Option B) (front : List B) (vs : List V) (k : ℕ) (v : V) (y : B)
    → k < length vs → v ≡ get_or vs k v → read (look v) ≡ Some y
    → in_order (front ++ y ∷ []) (each_of read (map look (drop (k + 1) vs))) ≡ in_order front (each_of read (map look (drop k vs)))
each_more look read front vs k v y lt is e =
    regroup front y (each_of read (map look (drop (k + 1) vs))) ∙ sym (rw (at_place vs k v lt is, e) refl)

-- an item is not read
each_stop : {V A B : Type 0} (look : V → A) (read : A → Option B) (front : List B) (vs : List V) (k : ℕ) (v : V)
    → k < length vs → v ≡ get_or vs k v → read (look v) ≡ None → in_order front (each_of read (map look (drop k vs))) ≡ None
each_stop look read front vs k v lt is e = rw (at_place vs k v lt is, e) refl

-- all items are read
each_done : {V A B : Type 0} (look : V → A) (read : A → Option B) (front : List B) (vs : List V) (k : ℕ) → length vs ≤ k
    → in_order front (each_of read (map look (drop k vs))) ≡ Some front
each_done look read front vs k le = rw (drop_all k vs le) (ap Some (append-nil front))

-- ---- what is read of the items of an array

-- the items are read where they were found
array_read : {B F : Type 0} (read : Data → Option B) (found : Option (Bor (List Value))) (items : Bor (List Value)) (d : Data) (bad : F)
    → option_map (λ items. map view items.now) found ≡ items_of d → Ok items ≡ ok_or found bad
    → option_and_then (each_of read) (items_of d) ≡ each_of read (map view items.now)
array_read read (Some xs) items d bad e was = let same : xs ≡ items = cc in ap (option_and_then (each_of read)) (sym e) ∙ ap (λ x. each_of read (map view x.now)) same
array_read read None items d bad e was = absurd cc

-- up to this place, the items that are read stand in front of what is still read
abbrev pub IsReadTo : {B : Type 0} → (Data → Option B) → List B → ℕ → List Value → Type 0
IsReadTo read front k items = in_order front (each_of read (map view (drop k items))) ≡ each_of read (map view items)

-- all items are read
pub array_done : {B F : Type 0} (read : Data → Option B) (front : List B) (k : ℕ) (found : Option (Bor (List Value))) (items : Bor (List Value)) (d : Data) (bad : F)
    → option_map (λ items. map view items.now) found ≡ items_of d → Ok items ≡ ok_or found bad → IsReadTo read front k items.now → length items.now ≤ k
    → option_and_then (each_of read) (items_of d) ≡ Some front
array_done read front k found items d bad e was so_far le =
    array_read read found items d bad e was ∙ sym so_far ∙ each_done view read front items.now k le

-- an item is not read
pub array_stop : {B F : Type 0} (read : Data → Option B) (front : List B) (k : ℕ) (v : Value) (found : Option (Bor (List Value))) (items : Bor (List Value)) (d : Data) (bad : F)
    → option_map (λ items. map view items.now) found ≡ items_of d → Ok items ≡ ok_or found bad → IsReadTo read front k items.now
    → k < length items.now → v ≡ get_or items.now k v → read (view v) ≡ None
    → option_and_then (each_of read) (items_of d) ≡ None
array_stop read front k v found items d bad e was so_far lt is none =
    array_read read found items d bad e was ∙ sym so_far ∙ each_stop view read front items.now k v lt is none

-- an item is read
pub array_more : {B : Type 0} (read : Data → Option B) (front : List B) (k : ℕ) (v : Value) (y : B) (items : List Value)
    → IsReadTo read front k items → k < length items → v ≡ get_or items k v → read (view v) ≡ Some y
    → IsReadTo read (front ++ y ∷ []) (k + 1) items
array_more read front k v y items so_far lt is e = each_more view read front items k v y lt is e ∙ so_far

-- ---- what was found, and the fault where nothing was

-- the fault where nothing is found
pub fault_of_none : {A B F : Type 0} (one : Option A) (all : Option B) (bad f : F) → (one ≡ None → all ≡ None) → ok_or one bad ≡ Err f → ok_or all bad ≡ Err f
fault_of_none (Some x) all bad f goes e = absurd cc
fault_of_none None all bad f goes e = let same : bad ≡ f = cc in rw (goes refl) (ap Err same)

-- what was found
pub some_of_ok : {A F : Type 0} (one : Option A) (x : A) (bad : F) → ok_or one bad ≡ Ok x → one ≡ Some x
some_of_ok (Some y) x bad e = let same : y ≡ x = cc in ap Some same
some_of_ok None x bad e = absurd cc

-- nothing was found
pub none_of_err : {A F : Type 0} (one : Option A) (f bad : F) → ok_or one bad ≡ Err f → (f ≡ bad) × (one ≡ None)
none_of_err (Some y) f bad e = absurd cc
none_of_err None f bad e = (cc, refl)

-- ---- a state that the items of a list change in turn

-- an item changes the state
fold_more : {A S F : Type 0} (step : S → A → Result S F) (before after : S) (x : A) (xs rest : List A) → rest ≡ x ∷ xs → step before x ≡ Ok after
    → try_fold step after xs ≡ try_fold step before rest
fold_more step before after x xs rest is e = sym (rw (is, e) refl)

-- an item has a fault
fold_stop : {A S F : Type 0} (step : S → A → Result S F) (before : S) (f : F) (x : A) (xs rest : List A) → rest ≡ x ∷ xs → step before x ≡ Err f
    → try_fold step before rest ≡ Err f
fold_stop step before f x xs rest is e = rw (is, e) refl

-- Up to place k, the items changed the state from its start on, and each passed a test.
pub record IsThrough {A S F : Type 0} (step : S → A → Result S F) (test : A → Bool) (start : S) (xs : List A) (k : ℕ) (state : S) : Type 0 where
  pub read : try_fold step state (drop k xs) ≡ try_fold step start xs
  pub passed : list_all test (take k xs) ≡ true

-- no item yet
pub through_none : {A S F : Type 0} (step : S → A → Result S F) (test : A → Bool) (start : S) (xs : List A) → IsThrough step test start xs 0 start
through_none step test start xs = record { read = refl; passed = refl }

-- an item more
through_more : {A S F : Type 0} (step : S → A → Result S F) (test : A → Bool) (start : S) (xs : List A) (k : ℕ) (state after : S) (x : A)
    → IsThrough step test start xs k state → k < length xs → x ≡ get_or xs k x → step state x ≡ Ok after → test x ≡ true
    → IsThrough step test start xs (k + 1) after
through_more step test start xs k state after x h lt is e passes =
    let here = list_all_more test xs k x lt in
    record {
      read = fold_more step state after x (drop (k + 1) xs) (drop k xs) (at_place xs k x lt is) e ∙ h.read;
      passed = here ∙ rw (h.passed, sym is, passes) refl;
    }

-- an item has a fault
through_stop : {A S F : Type 0} (step : S → A → Result S F) (test : A → Bool) (start : S) (xs : List A) (k : ℕ) (state : S) (x : A) (f : F)
    → IsThrough step test start xs k state → k < length xs → x ≡ get_or xs k x → step state x ≡ Err f → try_fold step start xs ≡ Err f
through_stop step test start xs k state x f h lt is e = sym h.read ∙ fold_stop step state f x (drop (k + 1) xs) (drop k xs) (at_place xs k x lt is) e

-- all items
through_done : {A S F : Type 0} (step : S → A → Result S F) (test : A → Bool) (start : S) (xs : List A) (k : ℕ) (state : S)
    → IsThrough step test start xs k state → length xs ≤ k → (try_fold step start xs ≡ Ok state) × (list_all test xs ≡ true)
through_done step test start xs k state h le =
    (sym h.read ∙ rw (drop_all k xs le) refl, ap (list_all test) (sym (take_all k xs le)) ∙ h.passed)

-- ---- the indexes of a ring

-- an index that names an arc
index_passes : (n ring place : ℕ) (i : ℤ) → place < 2 ^ 32 - 1 → names_arc n i ≡ true → index_read n ring place i ≡ Ok (place + 1)
unfolding index_read
index_passes n ring place i lt e = rw e (ap Ok (omega arith))

-- an index that names none
index_fails : (n ring place : ℕ) (i : ℤ) → names_arc n i ≡ false → index_read n ring place i ≡ Err (ArcIndex ring place i)
unfolding index_read
index_fails n ring place i e = rw e refl

-- the indexes of a ring name arcs up to this place
abbrev pub IsCheckedTo : ℕ → ℕ → List ℤ → ℕ → Type 0
IsCheckedTo n ring indexes place = IsThrough (index_read n ring) (names_arc n) 0 indexes place place

-- one index more names an arc
pub index_more : (n ring place : ℕ) (indexes : List ℤ) → IsCheckedTo n ring indexes place → place < length indexes → place < 2 ^ 32 - 1
    → names_arc n (get_or indexes place (pos 0)) ≡ true → IsCheckedTo n ring indexes (place + 1)
index_more n ring place indexes h lt few e =
    let i = get_or indexes place (pos 0) in
    through_more (index_read n ring) (names_arc n) 0 indexes place place (place + 1) i h lt (get_or_default indexes place (pos 0) i lt) (index_passes n ring place i few e) e

-- an index names none
pub index_stop : (n ring place : ℕ) (indexes : List ℤ) → IsCheckedTo n ring indexes place → place < length indexes
    → names_arc n (get_or indexes place (pos 0)) ≡ false → ring_read n ring indexes ≡ Err (ArcIndex ring place (get_or indexes place (pos 0)))
unfolding ring_read
index_stop n ring place indexes h lt e =
    let i = get_or indexes place (pos 0) in
    let fails = through_stop (index_read n ring) (names_arc n) 0 indexes place place i (ArcIndex ring place i) h lt (get_or_default indexes place (pos 0) i lt) (index_fails n ring place i e) in
    rw fails refl

-- all indexes name arcs
pub index_done : (n ring place : ℕ) (indexes : List ℤ) → IsCheckedTo n ring indexes place → length indexes ≤ place → ring_read n ring indexes ≡ Ok (next_number ring)
unfolding ring_read
index_done n ring place indexes h le = rw (through_done (index_read n ring) (names_arc n) 0 indexes place place h le).0 refl

-- the ring is one of n arcs
pub index_raw : (n ring place : ℕ) (indexes : List ℤ) → IsCheckedTo n ring indexes place → length indexes ≤ place → length indexes < 2 ^ 32 - 1 → is_raw_ring n indexes ≡ true
index_raw n ring place indexes h le few =
    rw ((through_done (index_read n ring) (names_arc n) 0 indexes place place h le).1, lt-ltb (length indexes) (2 ^ 32 - 1) few) refl
