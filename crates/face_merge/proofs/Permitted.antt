-- How many permitted neighbours a face has: by its links, and after a step.
use Rattle.std.proofs.Common.{◌≡◌, ◌≢◌, ◌<◌, ◌≤◌, ◌⊎◌, inl, inr, ℕ, zero, suc, ◌+◌, ◌-◌, ◌*◌, Bool, true, false, not, ◌&&◌, ◌||◌, ◌==◌, nat_lt, List, [], ◌∷◌, length, map, get_or, slice_index, Option, Some, None, cond, refl, sym, ◌∙◌, ap, ap₂, subst, arith, eq-eqb, ne_eqb}
use Rattle.std.specs.Prelude.{count_by}
use Rattle.std.specs.Option.{is_some}
use Rattle.std.specs.List.{AllByRecursion, list_any, slice_get}
use Rattle.std.proofs.lemmas.Bool.{and_parts, cases_eq, false_from_ne_true}
use Rattle.std.proofs.lemmas.Option.{slice_get_within, get_or_from_slice_get}
use Rattle.std.proofs.lemmas.List.{length_push, get_or_push, get_or_append_left}
use Rattle.std.proofs.lemmas.List.Elements.{recursion_from_All}
use Rattle.std.proofs.lemmas.List.Sums.{sum_by-cons}
use Rattle.tgap_model.specs.declared.merge.LabelledArc.{LabelledArc}
use Rattle.tgap_model.specs.declared.merge.MergeStep.{MergeStep}
use Rattle.tgap_model.specs.History.{relabel_arc, is_between, are_neighbours, shared_length, class_of, classes_after, permits, is_permitted, IsNextStep, IsNumberedStep}
use Rattle.face_merge.specs.declared.links.Link.{Link}
use Rattle.face_merge.specs.Links.{AreLinksOf, AreOnce, plus}
use Rattle.face_merge.specs.Linking.{link_of}
use Rattle.face_merge.specs.Merging.{MergeState, IsLabelled, IsMerging, after, count_below, permitted_count, is_gained}
use Rattle.face_merge.proofs.Below.{AreApart, below_same, below_changed, below_none, below_more, below_sum, below_moved, below_listed}
use Rattle.face_merge.proofs.Joined.{Lengths}
use Rattle.face_merge.proofs.Neighbours.{is_pair}
use Rattle.face_merge.proofs.Numbers.{any_labels, next_step_numbered}
use Rattle.face_merge.proofs.Linking.{link_some, link_length, link_turned, link_itself, link_zero, link_kept, link_made, near_no_more}

-- ---- two truths

either_true : (a b : Bool) → (a ≡ true → b ≡ true) → (b ≡ true → a ≡ true) → a ≡ b
either_true true b p q = sym (p refl)
either_true false true p q = q refl
either_true false false p q = refl

and_none : (a b c d : Bool) → a ≡ false → c ≡ false → (a && b) ≡ (c && d)
and_none a b c d p q = rw (p, q) refl

and_false : (a b : Bool) → a ≡ false → (a && b) ≡ false
and_false a b p = rw p refl

and_true : (a b : Bool) → a ≡ true → (a && b) ≡ b
and_true a b p = rw p refl

-- ---- neighbours, by their links

pub near_link : (arcs : List LabelledArc) (f g : ℕ) → is_some (link_of arcs f g) ≡ are_neighbours arcs f g
near_link arcs f g = some_cond (are_neighbours arcs f g) (shared_length arcs f g)
  where
    some_cond : (b : Bool) (n : ℕ) → is_some (cond b (Some n) None) ≡ b
    some_cond true n = refl
    some_cond false n = refl

pub near_turned : (arcs : List LabelledArc) (f g : ℕ) → are_neighbours arcs f g ≡ are_neighbours arcs g f
near_turned arcs f g = sym (near_link arcs f g) ∙ (ap is_some (link_turned arcs f g) ∙ near_link arcs g f)

pub near_itself : (arcs : List LabelledArc) (f : ℕ) → are_neighbours arcs f f ≡ false
near_itself arcs f = sym (near_link arcs f f) ∙ ap is_some (link_itself arcs f)

pub none_near_zero : (arcs : List LabelledArc) (g : ℕ) → are_neighbours arcs 0 g ≡ false
none_near_zero arcs g = sym (near_link arcs 0 g) ∙ ap is_some (link_zero arcs g)

-- the outside permits no neighbour
pub none_of_zero : (m : MergeState) → permitted_count m 0 ≡ 0
none_of_zero m =
    below_none (is_permitted m.rules m.classes m.arcs 0) (length m.classes + 1) (λ g. and_false (are_neighbours m.arcs 0 g) (permits m.rules m.classes 0 g) (none_near_zero m.arcs g))

-- ---- over the links of a slot

module _ (arcs : List LabelledArc) (w : Lengths) (number : ℕ → ℕ) (slot n : ℕ) (linked : (t : ℕ) → w slot t ≡ link_of arcs (number slot) (number t))
    (apart : (s t : ℕ) → number s ≡ number t → number s ≢ 0 → s ≡ t)
    (covered : (g : ℕ) → are_neighbours arcs (number slot) g ≡ true → (t : ℕ) × (number t ≡ g))
    (below : (g : ℕ) → are_neighbours arcs (number slot) g ≡ true → g < n)
  where
    -- a link leads to a neighbour, which is live
    leads_near : (link : Link) → w slot link.slot ≡ Some link.length → are_neighbours arcs (number slot) (number link.slot) ≡ true
    leads_near link e = (link_length arcs (number slot) (number link.slot) link.length (sym (linked link.slot) ∙ e)).0

    live : (link : Link) → w slot link.slot ≡ Some link.length → number link.slot ≢ 0
    live link e z =
        let near = leads_near link e in
        let none : are_neighbours arcs (number slot) (number link.slot) ≡ false = ap (are_neighbours arcs (number slot)) z ∙ (near_turned arcs (number slot) 0 ∙ none_near_zero arcs (number slot)) in
        cc

    counted_faces : (r : ℕ → Bool) (links : List Link) → count_by (λ link. r (number link.slot)) links ≡ count_by r (map (λ link. number link.slot) links)
    counted_faces r [] = refl
    counted_faces r (x ∷ links) =
        omega (
          arith,
          sum_by-cons (λ link. cond (r (number link.slot)) 1 0) x links,
          sum_by-cons (λ f. cond (r f) 1 0) (number x.slot) (map (λ link. number link.slot) links),
          counted_faces r links,
        )

    inside : (links : List Link) → AllByRecursion (λ link. w slot link.slot ≡ Some link.length) links → AllByRecursion (λ f. f < n) (map (λ link. number link.slot) links)
    inside [] each = tt
    inside (x ∷ links) each = (below (number x.slot) (leads_near x each.0), inside links each.1)

    none_other : (x : Link) (links : List Link) → number x.slot ≢ 0 → AllByRecursion (λ y. y.slot ≢ x.slot) links → AllByRecursion (λ f. f ≢ number x.slot) (map (λ link. number link.slot) links)
    none_other x [] some once = tt
    none_other x (y ∷ links) some once = (λ e. once.0 (sym (apart x.slot y.slot (sym e) some)), none_other x links some once.1)

    faces_apart : (links : List Link) → AllByRecursion (λ link. w slot link.slot ≡ Some link.length) links → AreOnce links → AreApart (map (λ link. number link.slot) links)
    faces_apart [] each once = tt
    faces_apart (x ∷ links) each once = (none_other x links (live x each.0) once.0, faces_apart links each.1 once.1)

    -- a face that the links lead to is a neighbour, and the other way round
    listed_near : (links : List Link) (g : ℕ) → AllByRecursion (λ link. w slot link.slot ≡ Some link.length) links → list_any (λ f. f == g) (map (λ link. number link.slot) links) ≡ true
        → are_neighbours arcs (number slot) g ≡ true
    listed_near [] g each e = absurd cc
    listed_near (x ∷ links) g each e = chosen (cases_eq (number x.slot) g) (λ h. listed_near links g each.1 h)
      where
        chosen : (number x.slot ≡ g) ⊎ (number x.slot ≡ g → ⊥) → (list_any (λ f. f == g) (map (λ link. number link.slot) links) ≡ true → are_neighbours arcs (number slot) g ≡ true)
            → are_neighbours arcs (number slot) g ≡ true
        chosen (inl same) rest = subst (λ (f : ℕ). are_neighbours arcs (number slot) f ≡ true) same (leads_near x each.0)
        chosen (inr other) rest = rest (sym (ap (λ (b : Bool). b || list_any (λ f. f == g) (map (λ link. number link.slot) links)) (ne_eqb (number x.slot) g other)) ∙ e)

    at_place : (links : List Link) (g k : ℕ) (link : Link) → slice_get links k ≡ Some link → number link.slot ≡ g → list_any (λ f. f == g) (map (λ link. number link.slot) links) ≡ true
    at_place links g k link e same = found links k (slice_get_within links k link e) (ap (λ (x : Link). number x.slot) (get_or_from_slice_get links k link link e) ∙ same)
      where
        found : (links : List Link) (k : ℕ) → k < length links → number (get_or links k link).slot ≡ g → list_any (λ f. f == g) (map (λ link. number link.slot) links) ≡ true
        found [] k p h = absurd (omega (arith, p))
        found (x ∷ links) zero p h = ap (λ (b : Bool). b || list_any (λ f. f == g) (map (λ link. number link.slot) links)) (eq-eqb (number x.slot) g h)
        found (x ∷ links) (suc k) p h = or_true (number x.slot == g) _ (found links k (omega (arith, p)) h)
          where
            or_true : (a b : Bool) → b ≡ true → (a || b) ≡ true
            or_true true b e = refl
            or_true false b e = e

    near_listed : (links : List Link) (g : ℕ) → AreLinksOf w slot links → are_neighbours arcs (number slot) g ≡ true → list_any (λ f. f == g) (map (λ link. number link.slot) links) ≡ true
    near_listed links g are near =
        let place = covered g near in
        let near' : are_neighbours arcs (number slot) (number place.0) ≡ true = subst (λ (f : ℕ). are_neighbours arcs (number slot) f ≡ true) (sym place.1) near in
        let length = shared_length arcs (number slot) (number place.0) in
        let found = are.all place.0 length (linked place.0 ∙ link_some arcs (number slot) (number place.0) near') in
        at_place links g found.0 (record { slot = place.0; length = length }) found.1 place.1

    -- the links whose faces pass a test are as many as the neighbours that pass it
    pub links_counted : (r : ℕ → Bool) (links : List Link) → AreLinksOf w slot links → AreOnce links
        → count_by (λ link. r (number link.slot)) links ≡ count_below (λ g. are_neighbours arcs (number slot) g && r g) n
    links_counted r links are once =
        let each = recursion_from_All (λ link. w slot link.slot ≡ Some link.length) links are.each in
        counted_faces r links ∙ (below_listed r n (map (λ link. number link.slot) links) (inside links each) (faces_apart links each once)
        ∙ below_same (λ g. list_any (λ f. f == g) (map (λ link. number link.slot) links) && r g) (λ g. are_neighbours arcs (number slot) g && r g) n
        (λ g lt. ap (λ (b : Bool). b && r g)
        (either_true (list_any (λ f. f == g) (map (λ link. number link.slot) links)) (are_neighbours arcs (number slot) g) (listed_near links g each) (near_listed links g are))))

-- ---- after a step

-- what a neighbour of the loser gains beside what it had by the winner
gained_by : (near permitted : Bool) → cond permitted 1 0 ≡ cond (near && permitted) 1 0 + cond (not near && permitted) 1 0
gained_by true true = refl
gained_by true false = refl
gained_by false true = refl
gained_by false false = refl

-- what the new face has beside what the winner had
made_by : (loser winner same permitted : Bool) → same ≡ false
    → cond ((loser || winner) && permitted) 1 0 ≡ cond (winner && permitted) 1 0 + cond (loser && (not same && (not winner && permitted))) 1 0
made_by loser winner same permitted e = rw e (by_cases loser winner permitted)
  where
    by_cases : (a b p : Bool) → cond ((a || b) && p) 1 0 ≡ cond (b && p) 1 0 + cond (a && (not b && p)) 1 0
    by_cases true true true = refl
    by_cases true true false = refl
    by_cases true false true = refl
    by_cases true false false = refl
    by_cases false true true = refl
    by_cases false true false = refl
    by_cases false false true = refl
    by_cases false false false = refl

module _ (m : MergeState) (s : MergeStep) (is : IsMerging m) (next : IsNextStep m.rules m.classes m.arcs s) where
  numbered : IsNumberedStep (length m.classes) s
  numbered = next_step_numbered m.rules m.classes m.arcs s is.labelled next

  labels : AllByRecursion (IsLabelled (length m.classes)) m.arcs
  labels = recursion_from_All (IsLabelled (length m.classes)) m.arcs is.labelled

  abbrev arcs : List LabelledArc
  arcs = map (relabel_arc s) m.arcs

  abbrev classes : List ℕ
  classes = classes_after s m.classes

  pub near_below : (f g : ℕ) → are_neighbours m.arcs f g ≡ true → (f ≤ length m.classes) × (g ≤ length m.classes)
  near_below f g e = any_labels (length m.classes) f g m.arcs labels (and_parts (is_pair f g) (list_any (is_between f g) m.arcs) e).1

  not_made : (f : ℕ) → f ≤ length m.classes → f ≢ s.made
  not_made f p e = omega (arith, numbered.made)

  -- ---- its neighbours

  near_kept : (f g : ℕ) → f ≢ s.loser → f ≢ s.winner → f ≢ s.made → g ≢ s.loser → g ≢ s.winner → g ≢ s.made → are_neighbours arcs f g ≡ are_neighbours m.arcs f g
  near_kept f g fl fw fm gl gw gm =
      sym (near_link (map (relabel_arc s) m.arcs) f g) ∙ (ap is_some (link_kept (length m.classes) s numbered m.arcs f g fl fw fm gl gw gm) ∙ near_link m.arcs f g)

  near_made : (g : ℕ) → g ≢ s.loser → g ≢ s.winner → g ≢ s.made → are_neighbours arcs s.made g ≡ (are_neighbours m.arcs s.loser g || are_neighbours m.arcs s.winner g)
  near_made g gl gw gm =
      sym (near_link (map (relabel_arc s) m.arcs) s.made g) ∙ (ap is_some (link_made (length m.classes) s numbered m.arcs g gl gw gm labels)
      ∙ (some_of (link_of m.arcs s.loser g) (link_of m.arcs s.winner g) ∙ ap₂ (λ a b. a || b) (near_link m.arcs s.loser g) (near_link m.arcs s.winner g)))
    where
      some_of : (x y : Option ℕ) → is_some (plus x y) ≡ (is_some x || is_some y)
      some_of None y = refl
      some_of (Some a) None = refl
      some_of (Some a) (Some b) = refl

  near_gone : (f g : ℕ) → (f ≡ s.loser) ⊎ (f ≡ s.winner) → are_neighbours arcs f g ≡ false
  near_gone f g h = false_from_ne_true (are_neighbours (map (relabel_arc s) m.arcs) f g) (λ near. chosen h (near_no_more (length m.classes) s numbered m.arcs f g near))
    where
      chosen : (f ≡ s.loser) ⊎ (f ≡ s.winner) → (f ≢ s.loser) × (f ≢ s.winner) → ⊥
      chosen (inl e) apart = apart.0 e
      chosen (inr e) apart = apart.1 e

  -- ---- the classes

  class_kept : (f : ℕ) → f ≤ length m.classes → class_of classes f ≡ class_of m.classes f
  class_kept f p =
      let inside : f - 1 < length m.classes = omega (arith, p, numbered.loser.0, numbered.loser.1) in
      get_or_append_left m.classes (class_of m.classes s.winner ∷ []) 0 (f - 1) inside

  class_made : class_of classes s.made ≡ class_of m.classes s.winner
  class_made = get_or_push m.classes (class_of m.classes s.winner) 0 (s.made - 1) (omega (arith, numbered.made))

  permits_same : (i j k l : ℕ) → i ≡ k → j ≡ l
      → nat_lt 0 (slice_index m.rules.compat (i * length m.rules.weights + j)) ≡ nat_lt 0 (slice_index m.rules.compat (k * length m.rules.weights + l))
  permits_same i j k l e d = ap₂ (λ (x y : ℕ). nat_lt 0 (slice_index m.rules.compat (x * length m.rules.weights + y))) e d

  permits_kept : (f g : ℕ) → f ≤ length m.classes → g ≤ length m.classes → permits m.rules classes f g ≡ permits m.rules m.classes f g
  permits_kept f g p q = permits_same _ _ _ _ (class_kept f p) (class_kept g q)

  permits_made : (f : ℕ) → f ≤ length m.classes → permits m.rules classes f s.made ≡ permits m.rules m.classes f s.winner
  permits_made f p = permits_same _ _ _ _ (class_kept f p) class_made

  made_permits : (g : ℕ) → g ≤ length m.classes → permits m.rules classes s.made g ≡ permits m.rules m.classes s.winner g
  made_permits g p = permits_same _ _ _ _ class_made (class_kept g p)

  -- ---- its permitted neighbours

  abbrev old : ℕ → ℕ → Bool
  old f g = is_permitted m.rules m.classes m.arcs f g

  abbrev new : ℕ → ℕ → Bool
  new f g = is_permitted m.rules classes arcs f g

  kept : (f g : ℕ) → f ≢ s.loser → f ≢ s.winner → f ≢ s.made → g ≢ s.loser → g ≢ s.winner → g ≢ s.made → old f g ≡ new f g
  kept f g fl fw fm gl gw gm = chosen (are_neighbours m.arcs f g) refl
    where
      near : are_neighbours arcs f g ≡ are_neighbours m.arcs f g
      near = near_kept f g fl fw fm gl gw gm

      chosen : (b : Bool) → are_neighbours m.arcs f g ≡ b → old f g ≡ new f g
      chosen true e =
          let inside = near_below f g e in
          ap₂ (λ a b. a && b) (sym near) (sym (permits_kept f g inside.0 inside.1))
      chosen false e = and_none (are_neighbours m.arcs f g) _ (are_neighbours (map (relabel_arc s) m.arcs) f g) _ e (near ∙ e)

  to_gone : (f g : ℕ) → (g ≡ s.loser) ⊎ (g ≡ s.winner) → new f g ≡ false
  to_gone f g h = and_false (are_neighbours (map (relabel_arc s) m.arcs) f g) _ (near_turned (map (relabel_arc s) m.arcs) f g ∙ near_gone g f h)

  to_made : (f : ℕ) → f ≤ length m.classes → f ≢ s.loser → f ≢ s.winner
      → new f s.made ≡ ((are_neighbours m.arcs s.loser f || are_neighbours m.arcs s.winner f) && permits m.rules m.classes f s.winner)
  to_made f p fl fw = ap₂ (λ a b. a && b) (near_turned (map (relabel_arc s) m.arcs) f s.made ∙ near_made f fl fw (not_made f p)) (permits_made f p)

  size : length classes + 1 ≡ length m.classes + 1 + 1
  size = omega (arith, length_push m.classes (class_of m.classes s.winner))

  moved : (f : ℕ) → f ≤ length m.classes → f ≢ s.loser → f ≢ s.winner
      → permitted_count m f + cond (new f s.made) 1 0 ≡ permitted_count (after s m) f + cond (old f s.loser) 1 0 + cond (old f s.winner) 1 0
  moved f p fl fw =
      let counts = below_moved (is_permitted m.rules m.classes m.arcs f) (is_permitted m.rules (classes_after s m.classes) (map (relabel_arc s) m.arcs) f) s.loser s.winner (length m.classes + 1)
      (omega (arith, numbered.loser.1)) (omega (arith, numbered.winner.1)) numbered.differ (to_gone f s.loser (inl refl)) (to_gone f s.winner (inr refl))
      (λ g gl gw gm. kept f g fl fw (not_made f p) gl gw (λ e. gm (e ∙ numbered.made))) in
      let at_made : ◌≡◌ {A = ℕ} (cond (new f s.made) 1 0) (cond (new f (length m.classes + 1)) 1 0) = ap (λ (g : ℕ). cond (new f g) 1 0) numbered.made in
      let at_end : permitted_count (after s m) f ≡ count_below (is_permitted m.rules (classes_after s m.classes) (map (relabel_arc s) m.arcs) f) (length m.classes + 1 + 1) =
      ap (count_below (is_permitted m.rules (classes_after s m.classes) (map (relabel_arc s) m.arcs) f)) size in
      omega (arith, counts, at_made, at_end)

  -- a neighbour of the loser has the new face in place of the loser
  pub kept_beside : (f : ℕ) → f ≤ length m.classes → f ≢ s.winner → are_neighbours m.arcs s.loser f ≡ true
      → permitted_count m f + cond (not (are_neighbours m.arcs s.winner f) && permits m.rules m.classes f s.winner) 1 0
      ≡ permitted_count (after s m) f + cond (permits m.rules m.classes f s.loser) 1 0
  kept_beside f p fw near =
      let fl : f ≢ s.loser = λ e. let no : are_neighbours m.arcs s.loser f ≡ false = ap (are_neighbours m.arcs s.loser) e ∙ near_itself m.arcs s.loser in cc in
      let at_made : ◌≡◌ {A = ℕ} (cond (new f s.made) 1 0) (cond (permits m.rules m.classes f s.winner) 1 0) =
      ap (λ (b : Bool). cond b 1 0) (to_made f p fl fw ∙ ap (λ (b : Bool). (b || are_neighbours m.arcs s.winner f) && permits m.rules m.classes f s.winner) near) in
      let at_loser : ◌≡◌ {A = ℕ} (cond (old f s.loser) 1 0) (cond (permits m.rules m.classes f s.loser) 1 0) =
      ap (λ (b : Bool). cond b 1 0) (and_true (are_neighbours m.arcs f s.loser) (permits m.rules m.classes f s.loser) (near_turned m.arcs f s.loser ∙ near)) in
      let at_winner : ◌≡◌ {A = ℕ} (cond (old f s.winner) 1 0) (cond (are_neighbours m.arcs s.winner f && permits m.rules m.classes f s.winner) 1 0) =
      ap (λ (b : Bool). cond (b && permits m.rules m.classes f s.winner) 1 0) (near_turned m.arcs f s.winner) in
      let split = gained_by (are_neighbours m.arcs s.winner f) (permits m.rules m.classes f s.winner) in
      omega (arith, moved f p fl fw, at_made, at_loser, at_winner, split)

  -- each other face keeps as many
  pub kept_apart : (f : ℕ) → f ≤ length m.classes → f ≢ s.loser → f ≢ s.winner → are_neighbours m.arcs s.loser f ≡ false → permitted_count (after s m) f ≡ permitted_count m f
  kept_apart f p fl fw far =
      let at_made : ◌≡◌ {A = ℕ} (cond (new f s.made) 1 0) (cond (are_neighbours m.arcs s.winner f && permits m.rules m.classes f s.winner) 1 0) =
      ap (λ (b : Bool). cond b 1 0) (to_made f p fl fw ∙ ap (λ (b : Bool). (b || are_neighbours m.arcs s.winner f) && permits m.rules m.classes f s.winner) far) in
      let at_loser : ◌≡◌ {A = ℕ} (cond (old f s.loser) 1 0) (0) =
      ap (λ (b : Bool). cond b 1 0) (and_false (are_neighbours m.arcs f s.loser) (permits m.rules m.classes f s.loser) (near_turned m.arcs f s.loser ∙ far)) in
      let at_winner : ◌≡◌ {A = ℕ} (cond (old f s.winner) 1 0) (cond (are_neighbours m.arcs s.winner f && permits m.rules m.classes f s.winner) 1 0) =
      ap (λ (b : Bool). cond (b && permits m.rules m.classes f s.winner) 1 0) (near_turned m.arcs f s.winner) in
      omega (arith, moved f p fl fw, at_made, at_loser, at_winner)

  -- the new face has those of the winner without the loser, and those that it gains
  pub made_count : permitted_count (after s m) s.made + cond (permits m.rules m.classes s.winner s.loser) 1 0
      ≡ permitted_count m s.winner + count_below (λ g. are_neighbours m.arcs s.loser g && is_gained m s.winner g) (length m.classes + 1)
  made_count =
      let cut = below_changed (is_permitted m.rules m.classes m.arcs s.winner) without s.loser (length m.classes + 1) (omega (arith, numbered.loser.1))
      (λ g d. sym (cond_no (g == s.loser) (old s.winner g) (ne_eqb g s.loser d))) in
      let cut_none : ◌≡◌ {A = ℕ} (cond (without s.loser) 1 0) (0) = ap (λ (b : Bool). cond b 1 0) (cond_yes (s.loser == s.loser) (old s.winner s.loser) (eq-eqb s.loser s.loser refl)) in
      let lost : ◌≡◌ {A = ℕ} (cond (old s.winner s.loser) 1 0) (cond (permits m.rules m.classes s.winner s.loser) 1 0) =
      ap (λ (b : Bool). cond b 1 0) (and_true (are_neighbours m.arcs s.winner s.loser) _ (near_turned m.arcs s.winner s.loser ∙ next.neighbours)) in
      let sum = below_sum (is_permitted m.rules (classes_after s m.classes) (map (relabel_arc s) m.arcs) s.made) without (λ g. are_neighbours m.arcs s.loser g && is_gained m s.winner g) (length m.classes + 1)
      (λ g lt. each g (omega (arith, lt)) (cases_eq g s.loser) (cases_eq g s.winner)) in
      let last : ◌≡◌ {A = ℕ} (cond (new s.made (length m.classes + 1)) 1 0) (0) =
      ap (λ (b : Bool). cond b 1 0) (ap (new s.made) (sym numbered.made) ∙ and_false (are_neighbours (map (relabel_arc s) m.arcs) s.made s.made) _ (near_itself (map (relabel_arc s) m.arcs) s.made)) in
      let at_end : permitted_count (after s m) s.made ≡ count_below (is_permitted m.rules (classes_after s m.classes) (map (relabel_arc s) m.arcs) s.made) (length m.classes + 1 + 1) =
      ap (count_below (is_permitted m.rules (classes_after s m.classes) (map (relabel_arc s) m.arcs) s.made)) size in
      let more = below_more (is_permitted m.rules (classes_after s m.classes) (map (relabel_arc s) m.arcs) s.made) (length m.classes + 1) in
      omega (arith, cut, cut_none, lost, sum, last, at_end, more)
    where
      cond_no : (a b : Bool) → a ≡ false → cond a false b ≡ b
      cond_no a b e = rw e refl

      cond_yes : (a b : Bool) → a ≡ true → cond a false b ≡ false
      cond_yes a b e = rw e refl

      without : ℕ → Bool
      without g = cond (g == s.loser) false (old s.winner g)

      none_sum : (a b c : Bool) → a ≡ false → b ≡ false → c ≡ false → cond a 1 0 ≡ cond b 1 0 + cond c 1 0
      none_sum a b c p q r = rw (p, q, r) refl

      same_winner : (a b c : Bool) → a ≡ true → (b && (not a && c)) ≡ false
      same_winner a b c e = rw e (never b)
        where
          never : (b : Bool) → (b && false) ≡ false
          never true = refl
          never false = refl

      each : (g : ℕ) → g ≤ length m.classes → (g ≡ s.loser) ⊎ (g ≡ s.loser → ⊥) → (g ≡ s.winner) ⊎ (g ≡ s.winner → ⊥)
          → cond (new s.made g) 1 0 ≡ cond (without g) 1 0 + cond (are_neighbours m.arcs s.loser g && is_gained m s.winner g) 1 0
      each g p (inl a) _ =
          none_sum (new s.made g) (without g) _ (to_gone s.made g (inl a)) (cond_yes (g == s.loser) (old s.winner g) (eq-eqb g s.loser a))
          (and_false (are_neighbours m.arcs s.loser g) _ (ap (are_neighbours m.arcs s.loser) a ∙ near_itself m.arcs s.loser))
      each g p (inr a) (inl b) =
          none_sum (new s.made g) (without g) _ (to_gone s.made g (inr b))
          (cond_no (g == s.loser) (old s.winner g) (ne_eqb g s.loser a) ∙ and_false (are_neighbours m.arcs s.winner g) _ (ap (are_neighbours m.arcs s.winner) b ∙ near_itself m.arcs s.winner))
          (same_winner (g == s.winner) (are_neighbours m.arcs s.loser g) _ (eq-eqb g s.winner b))
      each g p (inr a) (inr b) =
          let here : ◌≡◌ {A = ℕ} (cond (new s.made g) 1 0) (cond ((are_neighbours m.arcs s.loser g || are_neighbours m.arcs s.winner g) && permits m.rules m.classes s.winner g) 1 0) =
          ap (λ (x : Bool). cond x 1 0) (ap₂ (λ x y. x && y) (near_made g a b (not_made g p)) (made_permits g p)) in
          let there : ◌≡◌ {A = ℕ} (cond (without g) 1 0) (cond (old s.winner g) 1 0) = ap (λ (x : Bool). cond x 1 0) (cond_no (g == s.loser) (old s.winner g) (ne_eqb g s.loser a)) in
          let sum = made_by (are_neighbours m.arcs s.loser g) (are_neighbours m.arcs s.winner g) (g == s.winner) (permits m.rules m.classes s.winner g) (ne_eqb g s.winner b) in
          omega (arith, here, there, sum)
