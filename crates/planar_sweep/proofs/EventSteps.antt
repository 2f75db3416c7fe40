-- A row after one event more, by the key of the event.
use Rattle.std.proofs.Common.{◌≡◌, ℕ, ◌+◌, ◌/◌, ◌<◌, pos, ◌+ℤ◌, ◌-ℤ◌, ◌*ℤ◌, ◌≤ℤ◌, List, [], ◌∷◌, ◌++◌, length, map, take, get_or, All, Contains, sym, ap, ◌∙◌, subst, arith}
use Rattle.std.proofs.lemmas.Int.{ints}
use Rattle.std.proofs.lemmas.List.{append_assoc, get_or-map, length-map}
use Rattle.std.proofs.lemmas.List.Elements.{All-contains}
use Rattle.lemmas.proofs.Members.{in_head}
use Rattle.tgap_model.specs.declared.geometry.Seg.{Seg}
use Rattle.planar_sweep.specs.declared.events.Event.{Event}
use Rattle.planar_sweep.specs.declared.events.Event.TheVariants.{Leaves, Comes, Passes}
use Rattle.planar_sweep.specs.Ends.{IsReady}
use Rattle.planar_sweep.specs.Faces.{AreOfOneColumn}
use Rattle.planar_sweep.specs.Rows.{no_seg, Change, coming, leaving, changes, event_of, key_time, Moment, moment_of, changes_of, IsChangeAt, AreEvents, IsRow, HasCome, HasLeft, HasPassed}
use Rattle.planar_sweep.proofs.EventFacts.{done_more, not_left, real_next}
use Rattle.planar_sweep.proofs.Steps.{no_event, row_with, row_without}

module _ (segs : List Seg) (keys : List ℕ) (r : AreEvents segs (map moment_of keys)) (k : ℕ) (short : k < length keys) (e : Event) (is : event_of (get_or keys k 0) ≡ e) where
  abbrev events : List Moment
  events = map moment_of keys

  abbrev done : List Change
  done = changes_of (take k events)

  inside : k < length events
  inside = omega (arith, short, length-map keys moment_of)

  at : get_or events k no_event ≡ moment_of (get_or keys k 0)
  at = get_or-map moment_of keys k 0 no_event short

  own : (get_or events k no_event).changes ≡ changes e
  own = ap (λ (m : Moment). m.changes) at ∙ ap changes is

  more : changes_of (take (k + 1) events) ≡ done ++ changes e
  more = done_more segs events r k no_event inside ∙ ap (λ cs. done ++ cs) own

  -- the segments of the event are some of the segments
  pub changes_known : All (λ c. c.number < length segs) (changes e)
  changes_known j d less = (subst (λ cs. All (IsChangeAt segs (get_or events k no_event).time) cs) own (real_next segs events r k no_event inside) j d less).known

  known : (c : Change) → Contains (changes e) c → c.number < length segs
  known c found = All-contains (λ f. f.number < length segs) (changes e) c changes_known found

  module _ (ready : All (λ s. IsReady s) segs) where
    -- what comes has not left
    out : (n : ℕ) → Contains (changes e) (coming n) → Contains done (leaving n) → ⊥
    out n found = not_left segs events r k no_event inside n (ready n no_seg (known (coming n) found)).forward (subst (λ cs. Contains cs (coming n)) (sym own) found)

    module _ (old new : List ℕ) (row : IsRow segs done old) where
      pub after_coming : (n : ℕ) → e ≡ Comes n → HasCome segs n old new → IsRow segs (changes_of (take (k + 1) events)) new
      after_coming n comes come =
          let found : Contains (changes e) (coming n) = subst (λ f. Contains (changes f) (coming n)) (sym comes) (in_head (coming n) []) in
          subst (λ cs. IsRow segs cs new) (sym (more ∙ ap (λ f. done ++ changes f) comes)) (row_with segs done n old new row (known (coming n) found) (out n found) come)

      pub after_leaving : (n : ℕ) → e ≡ Leaves n → HasLeft segs n old new → IsRow segs (changes_of (take (k + 1) events)) new
      after_leaving n leaves left = subst (λ cs. IsRow segs cs new) (sym (more ∙ ap (λ f. done ++ changes f) leaves)) (row_without segs done n old new row left)

      pub after_passing : (from to : ℕ) → e ≡ Passes from to → HasPassed segs from to old new → IsRow segs (changes_of (take (k + 1) events)) new
      after_passing from to passes h =
          let found : Contains (changes e) (coming to) = subst (λ f. Contains (changes f) (coming to)) (sym passes) (in_head (coming to) (leaving from ∷ [])) in
          subst (λ cs. IsRow segs cs new) (append_assoc done (coming to ∷ []) (leaving from ∷ []) ∙ sym (more ∙ ap (λ f. done ++ changes f) passes))
          (row_without segs (done ++ coming to ∷ []) from h.between new (row_with segs done to old h.between row (known (coming to) found) (out to found) h.came) h.left)

-- ---- the abscissa

-- keys of one column are of one abscissa
pub of_one_column : (m n : ℕ) → m / 134217728 / 4 / 4 ≡ n / 134217728 / 4 / 4 → AreOfOneColumn (key_time m) (key_time n)
of_one_column m n e = record {
  abscissa = pos (m / 134217728 / 4 / 4) -ℤ pos 4294967296;
  from = below (m / 134217728 / 4);
  to = subst (λ (q : ℕ). (pos (n / 134217728 / 4) -ℤ pos 17179869184) ≤ℤ (pos 4 *ℤ (pos q -ℤ pos 4294967296) +ℤ pos 3)) (sym e) (above (n / 134217728 / 4));
}
  where
    below : (q : ℕ) → (pos 4 *ℤ (pos (q / 4) -ℤ pos 4294967296)) ≤ℤ (pos q -ℤ pos 17179869184)
    below q = omega (arith, ints)

    above : (q : ℕ) → (pos q -ℤ pos 17179869184) ≤ℤ (pos 4 *ℤ (pos (q / 4) -ℤ pos 4294967296) +ℤ pos 3)
    above q = omega (arith, ints)
