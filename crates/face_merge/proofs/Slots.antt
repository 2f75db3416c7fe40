-- The faces in their slots: what holds of a slot, and of all of them after a step.
use Rattle.std.proofs.Common.{◌≡◌, ◌≢◌, ◌<◌, ◌≤◌, ◌⊎◌, inl, inr, ℕ, ◌+◌, ◌-◌, ◌^◌, true, ℤ, pos, ◌+ℤ◌, ◌*ℤ◌, List, [], ◌∷◌, length, map, get_or, slice_index, Option, Some, None, IfSome, IsSome, refl, sym, ◌∙◌, ap, subst, arith}
use Rattle.std.specs.List.{AllByRecursion, list_any}
use Rattle.std.proofs.lemmas.Bool.{and_parts, cases_eq}
use Rattle.std.proofs.lemmas.List.{length_push, get_or_push, get_or_append_left}
use Rattle.std.proofs.lemmas.List.Elements.{recursion_from_All}
use Rattle.tgap_model.specs.declared.merge.LabelledArc.{LabelledArc}
use Rattle.tgap_model.specs.declared.merge.MergeStep.{MergeStep}
use Rattle.tgap_model.specs.History.{relabel_arc, is_between, are_neighbours, area_of, class_of, IsNextStep, IsNumberedStep}
use Rattle.face_merge.specs.Links.{ArePaired, Fit, plus, joined}
use Rattle.face_merge.specs.Linking.{link_of}
use Rattle.face_merge.specs.Merging.{MergeState, IsLabelled, IsMerging, after, importance_of}
use Rattle.face_merge.specs.Running.{AreInSlots, number_at}
use Rattle.face_merge.proofs.Neighbours.{is_pair}
use Rattle.face_merge.proofs.Numbers.{any_labels, next_step_numbered, merging_after}
use Rattle.face_merge.proofs.Relabelled.{area_made, area_kept}
use Rattle.face_merge.proofs.Linking.{link_some, some_link, link_itself, link_zero, link_turned, link_kept, link_made, link_fits, near_no_more}
use Rattle.face_merge.proofs.Joined.{Lengths, joined_from, joined_from_right, joined_itself, joined_to, joined_to_right, joined_other, by_pairs}

-- a link of two faces makes them neighbours, either way round
pub turned_near : (arcs : List LabelledArc) (f g : ℕ) → are_neighbours arcs f g ≡ true → are_neighbours arcs g f ≡ true
turned_near arcs f g e = some_link arcs g f (rw (link_turned arcs g f, link_some arcs f g e) refl)

pub zero_near : (arcs : List LabelledArc) (g : ℕ) → are_neighbours arcs 0 g ≡ true → ⊥
zero_near arcs g e = let some = link_some arcs 0 g e in let none = link_zero arcs g in cc

-- either of two links
plus_some : (x y : Option ℕ) → IsSome (plus x y) → IsSome x ⊎ IsSome y
plus_some None y is = inr is
plus_some (Some a) y is = inl refl

plus_turned : (x y : Option ℕ) → plus x y ≡ plus y x
plus_turned None None = refl
plus_turned None (Some b) = refl
plus_turned (Some a) None = refl
plus_turned (Some a) (Some b) = ap Some (omega arith)

-- the links of faces in slots are paired
pub slots_paired : (m : MergeState) (numbers : List ℕ) (areas : List ℤ) (w : Lengths) → AreInSlots m numbers areas w → ArePaired w
slots_paired m numbers areas w known = record {
  turned = λ s t. known.linked s t ∙ (link_turned m.arcs (number_at numbers s) (number_at numbers t) ∙ sym (known.linked t s));
  itself = λ s. known.linked s s ∙ link_itself m.arcs (number_at numbers s);
}

-- ---- a step

module _ (m : MergeState) (s : MergeStep) (is : IsMerging m) (next : IsNextStep m.rules m.classes m.arcs s) where
  numbered : IsNumberedStep (length m.classes) s
  numbered = next_step_numbered m.rules m.classes m.arcs s is.labelled next

  labels : AllByRecursion (IsLabelled (length m.classes)) m.arcs
  labels = recursion_from_All (IsLabelled (length m.classes)) m.arcs is.labelled

  abbrev arcs : List LabelledArc
  arcs = map (relabel_arc s) m.arcs

  made_zero : s.made ≢ 0
  made_zero e = omega (arith, numbered.made)

  -- a face of the map is not the new one
  not_made : (f : ℕ) → f ≤ length m.classes → f ≢ s.made
  not_made f p e = omega (arith, numbered.made)

  near_below : (f g : ℕ) → are_neighbours m.arcs f g ≡ true → (f ≤ length m.classes) × (g ≤ length m.classes)
  near_below f g e = any_labels (length m.classes) f g m.arcs labels (and_parts (is_pair f g) (list_any (is_between f g) m.arcs) e).1

  -- a face that has a neighbour after the step had one before, where it is not the new face
  old_neighbour : (f g : ℕ) → f ≢ s.made → are_neighbours arcs f g ≡ true → (h : ℕ) × (are_neighbours m.arcs f h ≡ true)
  old_neighbour f g fm e = chosen (cases_eq g s.made)
    where
      apart : (f ≢ s.loser) × (f ≢ s.winner)
      apart = near_no_more (length m.classes) s numbered m.arcs f g e

      of_both : IsSome (link_of m.arcs s.loser f) ⊎ IsSome (link_of m.arcs s.winner f) → (h : ℕ) × (are_neighbours m.arcs f h ≡ true)
      of_both (inl some) = (s.loser, turned_near m.arcs s.loser f (some_link m.arcs s.loser f some))
      of_both (inr some) = (s.winner, turned_near m.arcs s.winner f (some_link m.arcs s.winner f some))

      chosen : (g ≡ s.made) ⊎ (g ≡ s.made → ⊥) → (h : ℕ) × (are_neighbours m.arcs f h ≡ true)
      chosen (inl gm) =
          let near : are_neighbours arcs s.made f ≡ true = turned_near arcs f s.made (subst (λ (x : ℕ). are_neighbours arcs f x ≡ true) gm e) in
          let some : IsSome (link_of arcs s.made f) = rw (link_some arcs s.made f near) refl in
          of_both (plus_some (link_of m.arcs s.loser f) (link_of m.arcs s.winner f) (subst (λ (o : Option ℕ). IsSome o) (link_made (length m.classes) s numbered m.arcs f apart.0 apart.1 fm labels) some))
      chosen (inr gm) =
          let other = near_no_more (length m.classes) s numbered m.arcs g f (turned_near arcs f g e) in
          let some : IsSome (link_of arcs f g) = rw (link_some arcs f g e) refl in
          (g, some_link m.arcs f g (subst (λ (o : Option ℕ). IsSome o) (link_kept (length m.classes) s numbered m.arcs f g apart.0 apart.1 fm other.0 other.1 gm) some))

  -- the importance of the new face, and of any other
  pub importance_made : importance_of (after s m) s.made ≡ (area_of m.arcs s.loser +ℤ area_of m.arcs s.winner) *ℤ pos (slice_index m.rules.weights (class_of m.classes s.winner))
  importance_made =
      let class : class_of (after s m).classes s.made ≡ class_of m.classes s.winner =
      get_or_push m.classes (class_of m.classes s.winner) 0 (s.made - 1) (omega (arith, numbered.made)) in
      ap (λ (z : ℤ). z *ℤ pos (slice_index m.rules.weights (class_of (after s m).classes s.made))) (area_made (length m.classes) s m.arcs numbered labels)
      ∙ ap (λ (k : ℕ). (area_of m.arcs s.loser +ℤ area_of m.arcs s.winner) *ℤ pos (slice_index m.rules.weights k)) class

  pub importance_kept : (f : ℕ) → f ≢ 0 → f ≤ length m.classes → f ≢ s.loser → f ≢ s.winner → importance_of (after s m) f ≡ importance_of m f
  importance_kept f zero below fl fw =
      let inside : f - 1 < length m.classes = omega arith in
      let class : class_of (after s m).classes f ≡ class_of m.classes f =
      get_or_append_left m.classes (class_of m.classes s.winner ∷ []) 0 (f - 1) inside in
      ap (λ (z : ℤ). z *ℤ pos (slice_index m.rules.weights (class_of (after s m).classes f))) (area_kept s f m.arcs fl fw (not_made f below))
      ∙ ap (λ (k : ℕ). area_of m.arcs f *ℤ pos (slice_index m.rules.weights k)) class

  module _ (numbers : List ℕ) (areas : List ℤ) (w : Lengths) (known : AreInSlots m numbers areas w) (from to : ℕ)
      (ends : ((number_at numbers from ≡ s.loser) × (number_at numbers to ≡ s.winner)) ⊎ ((number_at numbers from ≡ s.winner) × (number_at numbers to ≡ s.loser)))
    where
      -- the two slots have the two faces, and no other slot has
      pub slots_apart : from ≢ to
      slots_apart e = chosen ends
        where
          chosen : ((number_at numbers from ≡ s.loser) × (number_at numbers to ≡ s.winner)) ⊎ ((number_at numbers from ≡ s.winner) × (number_at numbers to ≡ s.loser)) → ⊥
          chosen (inl h) = numbered.differ (sym h.0 ∙ (ap (number_at numbers) e ∙ h.1))
          chosen (inr h) = numbered.differ (sym (sym h.0 ∙ (ap (number_at numbers) e ∙ h.1)))

      face_slot : (f : ℕ) → (f ≡ s.loser) ⊎ (f ≡ s.winner) → (f ≡ number_at numbers from) ⊎ (f ≡ number_at numbers to)
      face_slot f h = chosen ends h
        where
          chosen : ((number_at numbers from ≡ s.loser) × (number_at numbers to ≡ s.winner)) ⊎ ((number_at numbers from ≡ s.winner) × (number_at numbers to ≡ s.loser))
              → (f ≡ s.loser) ⊎ (f ≡ s.winner) → (f ≡ number_at numbers from) ⊎ (f ≡ number_at numbers to)
          chosen (inl e) (inl a) = inl (a ∙ sym e.0)
          chosen (inl e) (inr a) = inr (a ∙ sym e.1)
          chosen (inr e) (inl a) = inr (a ∙ sym e.1)
          chosen (inr e) (inr a) = inl (a ∙ sym e.0)

      pub other_face : (t : ℕ) → t ≢ from → t ≢ to → number_at numbers t ≢ 0 → (f : ℕ) → (f ≡ s.loser) ⊎ (f ≡ s.winner) → number_at numbers t ≢ f
      other_face t a b live f h e = chosen (face_slot f h)
        where
          chosen : (f ≡ number_at numbers from) ⊎ (f ≡ number_at numbers to) → ⊥
          chosen (inl x) = a (known.apart t from (e ∙ x) live)
          chosen (inr x) = b (known.apart t to (e ∙ x) live)

      -- a slot of any other face is another slot
      other_slot : (t f : ℕ) → number_at numbers t ≡ f → f ≢ s.loser → f ≢ s.winner → (t ≢ from) × (t ≢ to)
      other_slot t f e fl fw = chosen ends
        where
          chosen : ((number_at numbers from ≡ s.loser) × (number_at numbers to ≡ s.winner)) ⊎ ((number_at numbers from ≡ s.winner) × (number_at numbers to ≡ s.loser)) → (t ≢ from) × (t ≢ to)
          chosen (inl h) = ((λ x. fl (sym e ∙ (ap (number_at numbers) x ∙ h.0))), (λ x. fw (sym e ∙ (ap (number_at numbers) x ∙ h.1))))
          chosen (inr h) = ((λ x. fw (sym e ∙ (ap (number_at numbers) x ∙ h.0))), (λ x. fl (sym e ∙ (ap (number_at numbers) x ∙ h.1))))

      -- the links of both faces together are those of the new face
      together : (t : ℕ) → t ≢ from → t ≢ to → plus (w to t) (w from t) ≡ link_of arcs s.made (number_at numbers t)
      together t a b = rw (known.linked to t, known.linked from t) (chosen (cases_eq (number_at numbers t) 0))
        where
          sides : ((number_at numbers from ≡ s.loser) × (number_at numbers to ≡ s.winner)) ⊎ ((number_at numbers from ≡ s.winner) × (number_at numbers to ≡ s.loser))
              → plus (link_of m.arcs (number_at numbers to) (number_at numbers t)) (link_of m.arcs (number_at numbers from) (number_at numbers t))
              ≡ plus (link_of m.arcs s.loser (number_at numbers t)) (link_of m.arcs s.winner (number_at numbers t))
          sides (inl h) = rw (h.0, h.1) (plus_turned (link_of m.arcs s.winner (number_at numbers t)) (link_of m.arcs s.loser (number_at numbers t)))
          sides (inr h) = rw (h.0, h.1) refl

          chosen : (number_at numbers t ≡ 0) ⊎ (number_at numbers t ≡ 0 → ⊥)
              → plus (link_of m.arcs (number_at numbers to) (number_at numbers t)) (link_of m.arcs (number_at numbers from) (number_at numbers t))
              ≡ link_of (map (relabel_arc s) m.arcs) s.made (number_at numbers t)
          chosen (inl z) =
              rw (
                z,
                link_turned m.arcs (number_at numbers to) 0,
                link_turned m.arcs (number_at numbers from) 0,
                link_zero m.arcs (number_at numbers to),
                link_zero m.arcs (number_at numbers from),
                link_turned (map (relabel_arc s) m.arcs) s.made 0,
                link_zero (map (relabel_arc s) m.arcs) s.made,
              ) refl
          chosen (inr live) =
              sides ends ∙ sym (link_made (length m.classes) s numbered m.arcs (number_at numbers t) (other_face t a b live s.loser (inl refl)) (other_face t a b live s.winner (inr refl))
              (not_made (number_at numbers t) (known.numbered t)) labels)

      -- they fit
      pub joined_fit : Fit (joined w from to)
      joined_fit = by_pairs (λ a b. IfSome (joined w from to a b) (λ n. n < 2 ^ 64)) from to
          (λ t. fits (joined_from w from to t) tt)
          (λ t. fits (joined_from_right w from to t) tt)
          (fits (joined_itself w from to) tt)
          (λ t a b. fits (joined_to w from to t slots_apart a b ∙ together t a b) (after_fits s.made (number_at numbers t)))
          (λ t a b. fits (joined_to_right w from to t slots_apart a b ∙ (both (paired.turned t to) (paired.turned t from) ∙ together t a b)) (after_fits s.made (number_at numbers t)))
          (λ t u a b d e. fits (joined_other w from to t u a b d e ∙ known.linked t u) (link_fits m.arcs (number_at numbers t) (number_at numbers u) is.short))
        where
          fits : {x y : Option ℕ} → x ≡ y → IfSome y (λ n. n < 2 ^ 64) → IfSome x (λ n. n < 2 ^ 64)
          fits e p = rw e p

          paired : ArePaired w
          paired = slots_paired m numbers areas w known

          both : {a b d e : Option ℕ} → a ≡ b → d ≡ e → plus a d ≡ plus b e
          both h k = rw (h, k) refl

          after_fits : (f g : ℕ) → IfSome (link_of arcs f g) (λ n. n < 2 ^ 64)
          after_fits f g = link_fits arcs f g (merging_after m s is next).short

      module _ (numbers' : List ℕ) (areas' : List ℤ) (w' : Lengths) (count : length areas' ≡ length numbers') (as_many : length numbers' ≡ length numbers)
          (at_from : number_at numbers' from ≡ 0) (at_to : number_at numbers' to ≡ s.made)
          (at_other : (t : ℕ) → t ≢ from → t ≢ to → number_at numbers' t ≡ number_at numbers t)
          (area_to : get_or areas' to (pos 0) ≡ area_of m.arcs s.loser +ℤ area_of m.arcs s.winner)
          (area_other : (t : ℕ) → t ≢ to → get_or areas' t (pos 0) ≡ get_or areas t (pos 0))
          (lengths : (a b : ℕ) → w' a b ≡ joined w from to a b)
        where
          -- what holds of the two slots and of the others holds of each
          by_slots : (P : ℕ → Type 0) → P from → P to → ((t : ℕ) → t ≢ from → t ≢ to → P t) → (t : ℕ) → P t
          by_slots P p r h t = chosen (cases_eq t from) (cases_eq t to)
            where
              chosen : (t ≡ from) ⊎ (t ≡ from → ⊥) → (t ≡ to) ⊎ (t ≡ to → ⊥) → P t
              chosen (inl a) _ = subst P (sym a) p
              chosen (inr a) (inl b) = subst P (sym b) r
              chosen (inr a) (inr b) = h t a b

          numbered_after : (t : ℕ) → number_at numbers' t ≤ length m.classes + 1
          numbered_after = by_slots (λ t. number_at numbers' t ≤ length m.classes + 1) (omega (arith, at_from)) (omega (arith, at_to, numbered.made))
              (λ t a b. omega (arith, at_other t a b, known.numbered t))

          apart_after : (t u : ℕ) → number_at numbers' t ≡ number_at numbers' u → number_at numbers' t ≢ 0 → t ≡ u
          apart_after = by_slots (λ t. (u : ℕ) → number_at numbers' t ≡ number_at numbers' u → number_at numbers' t ≢ 0 → t ≡ u)
              (λ u e live. absurd (live at_from))
              (by_slots (λ u. number_at numbers' to ≡ number_at numbers' u → number_at numbers' to ≢ 0 → to ≡ u)
              (λ e live. absurd (live (e ∙ at_from)))
              (λ e live. refl)
              (λ u a b e live. absurd (not_made (number_at numbers u) (known.numbered u) (sym (at_other u a b) ∙ (sym e ∙ at_to)))))
              (λ t a b. by_slots (λ u. number_at numbers' t ≡ number_at numbers' u → number_at numbers' t ≢ 0 → t ≡ u)
              (λ e live. absurd (live (e ∙ at_from)))
              (λ e live. absurd (not_made (number_at numbers t) (known.numbered t) (sym (at_other t a b) ∙ (e ∙ at_to))))
              (λ u d e h live. known.apart t u (sym (at_other t a b) ∙ (h ∙ at_other u d e)) (λ z. live (at_other t a b ∙ z))))

          covered_after : (f g : ℕ) → are_neighbours arcs f g ≡ true → (t : ℕ) × (number_at numbers' t ≡ f)
          covered_after f g e = chosen (cases_eq f s.made)
            where
              chosen : (f ≡ s.made) ⊎ (f ≡ s.made → ⊥) → (t : ℕ) × (number_at numbers' t ≡ f)
              chosen (inl h) = (to, at_to ∙ sym h)
              chosen (inr h) =
                  let old = old_neighbour f g h e in
                  let gone = near_no_more (length m.classes) s numbered m.arcs f g (e) in
                  let place = known.covered f old.0 old.1 in
                  let slot = other_slot place.0 f place.1 gone.0 gone.1 in
                  (place.0, at_other place.0 slot.0 slot.1 ∙ place.1)

          areas_after : (t : ℕ) → number_at numbers' t ≢ 0 → get_or areas' t (pos 0) ≡ area_of arcs (number_at numbers' t)
          areas_after = by_slots (λ t. number_at numbers' t ≢ 0 → get_or areas' t (pos 0) ≡ area_of (map (relabel_arc s) m.arcs) (number_at numbers' t))
              (λ live. absurd (live at_from))
              (λ live. area_to ∙ (sym (area_made (length m.classes) s m.arcs numbered labels) ∙ ap (area_of (map (relabel_arc s) m.arcs)) (sym at_to)))
              (λ t a b live.
              let f = number_at numbers t in
              let old : f ≢ 0 = λ z. live (at_other t a b ∙ z) in
              let kept = area_kept s f m.arcs (other_face t a b old s.loser (inl refl)) (other_face t a b old s.winner (inr refl)) (not_made f (known.numbered t)) in
              area_other t b ∙ (known.areas_are t old ∙ (sym kept ∙ ap (area_of (map (relabel_arc s) m.arcs)) (sym (at_other t a b)))))

          -- the links of the slot of the new face
          linked_to : (t : ℕ) → t ≢ from → t ≢ to → w' to t ≡ link_of arcs (number_at numbers' to) (number_at numbers' t)
          linked_to t a b = lengths to t ∙ (joined_to w from to t slots_apart a b ∙ (together t a b ∙ rw (at_to, at_other t a b) refl))

          linked_other : (t u : ℕ) → t ≢ from → t ≢ to → u ≢ from → u ≢ to → w' t u ≡ link_of arcs (number_at numbers' t) (number_at numbers' u)
          linked_other t u a b d e = lengths t u ∙ (joined_other w from to t u a b d e ∙ (rw (at_other t a b, at_other u d e, known.linked t u) (chosen (cases_eq (number_at numbers t) 0) (cases_eq (number_at numbers u) 0))))
            where
              chosen : (number_at numbers t ≡ 0) ⊎ (number_at numbers t ≡ 0 → ⊥) → (number_at numbers u ≡ 0) ⊎ (number_at numbers u ≡ 0 → ⊥)
                  → link_of m.arcs (number_at numbers t) (number_at numbers u) ≡ link_of (map (relabel_arc s) m.arcs) (number_at numbers t) (number_at numbers u)
              chosen (inl z) _ = rw (z, link_zero m.arcs (number_at numbers u), link_zero (map (relabel_arc s) m.arcs) (number_at numbers u)) refl
              chosen (inr x) (inl z) =
                  rw (z, link_turned m.arcs (number_at numbers t) 0, link_turned (map (relabel_arc s) m.arcs) (number_at numbers t) 0, link_zero m.arcs (number_at numbers t), link_zero (map (relabel_arc s) m.arcs) (number_at numbers t)) refl
              chosen (inr x) (inr y) =
                  sym (link_kept (length m.classes) s numbered m.arcs (number_at numbers t) (number_at numbers u)
                  (other_face t a b x s.loser (inl refl)) (other_face t a b x s.winner (inr refl)) (not_made (number_at numbers t) (known.numbered t))
                  (other_face u d e y s.loser (inl refl)) (other_face u d e y s.winner (inr refl)) (not_made (number_at numbers u) (known.numbered u)))

          linked_after : (t u : ℕ) → w' t u ≡ link_of arcs (number_at numbers' t) (number_at numbers' u)
          linked_after = by_pairs (λ t u. w' t u ≡ link_of arcs (number_at numbers' t) (number_at numbers' u)) from to
              (λ u. lengths from u ∙ (joined_from w from to u ∙ sym (ap (λ (f : ℕ). link_of arcs f (number_at numbers' u)) at_from ∙ link_zero arcs (number_at numbers' u))))
              (λ t. lengths t from ∙ (joined_from_right w from to t ∙ sym (ap (link_of arcs (number_at numbers' t)) at_from ∙ (link_turned arcs (number_at numbers' t) 0 ∙ link_zero arcs (number_at numbers' t)))))
              (lengths to to ∙ (joined_itself w from to ∙ sym (link_itself arcs (number_at numbers' to))))
              linked_to
              (λ t a b. lengths t to ∙ (joined_to_right w from to t slots_apart a b ∙ (both (paired.turned t to) (paired.turned t from)
              ∙ (sym (joined_to w from to t slots_apart a b) ∙ (sym (lengths to t) ∙ (linked_to t a b ∙ link_turned arcs (number_at numbers' to) (number_at numbers' t)))))))
              linked_other
            where
              paired : ArePaired w
              paired = slots_paired m numbers areas w known

              both : {a b d e : Option ℕ} → a ≡ b → d ≡ e → plus a d ≡ plus b e
              both h k = rw (h, k) refl

          -- the faces in their slots are those of the map after the step
          pub slots_after : AreInSlots (after s m) numbers' areas' w'
          slots_after = record {
            known = merging_after m s is next;
            count = count;
            few_slots = omega (arith, known.few_slots, as_many, length_push m.classes (class_of m.classes s.winner));
            numbered = λ t. omega (arith, numbered_after t, length_push m.classes (class_of m.classes s.winner));
            apart = apart_after;
            covered = covered_after;
            areas_are = areas_after;
            linked = linked_after;
          }
