-- Faces of arcs in slots: the arcs between two faces are taken out, and those that are there get other faces.
use Rattle.std.proofs.Common.{◌≡◌, ◌≢◌, ◌∙◌, ℕ, zero, suc, ◌≤◌, ◌<◌, eqb, Bool, true, false, ◌&&◌, ◌||◌, not, cond, List, [], ◌∷◌, length, map, refl, sym, ap, subst, arith}
use Rattle.std.specs.List.{list_any}
use Rattle.std.proofs.lemmas.Bool.{and_parts, or_parts, and_from, or_left, or_right, cond-true, cond-false, eqb-true, eq-eqb, false≢true}
use Rattle.std.proofs.lemmas.List.Elements.{All-cons, All-head, All-nil, All-tail}
use Rattle.tgap_model.specs.declared.geometry.Point.{Point}
use Rattle.tgap_model.specs.declared.base.BaseArc.{BaseArc}
use Rattle.tgap_model.specs.Base.{borders_face}
use Rattle.tgap_model.specs.Chains.{arc_number}
use Rattle.edit_laws.specs.Edits.{with_points}
use Rattle.edit_laws.proofs.Cases.{by_test, not_held}
use Rattle.face_cuts.specs.Nodes.{passes}
use Rattle.face_cuts.specs.Fusions.{is_between, joined, others, relabelled, renumbered}
use Rattle.arc_places.specs.Slots.{arcs_in, is_there}
use Rattle.arc_places.specs.Places.{arc_passes, is_among, Covers}
use Rattle.arc_places.specs.Borders.{CoversFaces, HasFaces, HaveFaces, bordering, face_count, is_beside}
use Rattle.arc_places.proofs.Listed.{passes_at}
use Rattle.map_version.specs.Labels.{cleared, is_other, is_taken, renamed}
use Rattle.map_version.proofs.Changing.{IsChange}

-- the two sides of an arc as they are
same_sides : (a : BaseArc) (l r : ℕ) → l ≡ a.left → r ≡ a.right → record a { left = l; right = r } ≡ a
same_sides a l r e f = ap (λ (n : ℕ). record a { left = n; right = r }) e ∙ ap (λ (n : ℕ). record a { left = a.left; right = n }) f

-- ---- arcs between two faces

cleared_true : (f g : ℕ) (a : BaseArc) → is_taken f g a ≡ true → cleared f g a ≡ with_points a []
cleared_true f g a t = cond-true (is_taken f g a) (with_points a []) a t

cleared_false : (f g : ℕ) (a : BaseArc) → is_taken f g a ≡ false → cleared f g a ≡ a
cleared_false f g a t = cond-false (is_taken f g a) (with_points a []) a t

pub clearing : (f g : ℕ) → IsChange (cleared f g) (is_taken f g)
clearing f g =
    record {
      twice = λ a. by_test (is_taken f g a)
          (λ t. ap (cleared f g) (cleared_true f g a t) ∙ sym (cleared_true f g a t))
          (λ h. ap (cleared f g) (cleared_false f g a h));
      done = λ a. by_test (is_taken f g a)
          (λ t. ap (is_taken f g) (cleared_true f g a t))
          (λ h. ap (is_taken f g) (cleared_false f g a h) ∙ h);
      stays = λ a h. cleared_false f g a h;
    }

-- what is left is there and not between them
pub cleared_in : (f g : ℕ) (slots : List BaseArc) → arcs_in (map (cleared f g) slots) ≡ others f g (arcs_in slots)
cleared_in f g [] = refl
cleared_in f g (a ∷ slots) =
    by_test (is_there a)
    (λ t.
    let front : others f g (arcs_in (a ∷ slots)) ≡ others f g (a ∷ arcs_in slots) = ap (λ (b : Bool). others f g (cond b (a ∷ arcs_in slots) (arcs_in slots))) t in
    by_test (is_between f g a)
    (λ u.
    let taken : is_taken f g a ≡ true = and_from (is_there a) (is_between f g a) t u in
    ap (λ (b : BaseArc). arcs_in (b ∷ map (cleared f g) slots)) (cleared_true f g a taken)
    ∙ (cleared_in f g slots
    ∙ sym (front ∙ ap (λ (b : Bool). cond (not b) (a ∷ others f g (arcs_in slots)) (others f g (arcs_in slots))) u)))
    (λ u.
    let kept : is_taken f g a ≡ false = ap (λ (b : Bool). b && is_between f g a) t ∙ u in
    ap (λ (b : BaseArc). arcs_in (b ∷ map (cleared f g) slots)) (cleared_false f g a kept)
    ∙ (ap (λ (b : Bool). cond b (a ∷ arcs_in (map (cleared f g) slots)) (arcs_in (map (cleared f g) slots))) t
    ∙ (ap (λ (rest : List BaseArc). a ∷ rest) (cleared_in f g slots)
    ∙ sym (front ∙ ap (λ (b : Bool). cond (not b) (a ∷ others f g (arcs_in slots)) (others f g (arcs_in slots))) u)))))
    (λ h.
    let kept : is_taken f g a ≡ false = ap (λ (b : Bool). b && is_between f g a) h in
    ap (λ (b : BaseArc). arcs_in (b ∷ map (cleared f g) slots)) (cleared_false f g a kept)
    ∙ (ap (λ (b : Bool). cond b (a ∷ arcs_in (map (cleared f g) slots)) (arcs_in (map (cleared f g) slots))) h
    ∙ (cleared_in f g slots ∙ sym (ap (λ (b : Bool). others f g (cond b (a ∷ arcs_in slots) (arcs_in slots))) h))))

-- ---- other faces

renamed_true : (label : ℕ → ℕ) (a : BaseArc) → is_there a ≡ true → renamed label a ≡ relabelled label a
renamed_true label a t = cond-true (is_there a) (relabelled label a) a t

renamed_false : (label : ℕ → ℕ) (a : BaseArc) → is_there a ≡ false → renamed label a ≡ a
renamed_false label a t = cond-false (is_there a) (relabelled label a) a t

pub renamed_there : (label : ℕ → ℕ) (a : BaseArc) → is_there (renamed label a) ≡ is_there a
renamed_there label a =
    by_test (is_there a) (λ t. ap is_there (renamed_true label a t)) (λ f. ap is_there (renamed_false label a f))

joined_here : (to from h : ℕ) → eqb h from ≡ true → joined to from h ≡ to
joined_here to from h t = cond-true (eqb h from) to h t

joined_other : (to from h : ℕ) → eqb h from ≡ false → joined to from h ≡ h
joined_other to from h t = cond-false (eqb h from) to h t

not_from : (to from : ℕ) → from ≢ to → (h : ℕ) → eqb (joined to from h) from ≡ false
not_from to from apart h =
    by_test (eqb h from)
    (λ t. not_held (eqb (joined to from h) from) (λ e. apart (sym (eqb-true (joined to from h) from e) ∙ joined_here to from h t)))
    (λ f. ap (λ (n : ℕ). eqb n from) (joined_other to from h f) ∙ f)

joined_twice : (to from : ℕ) → from ≢ to → (h : ℕ) → joined to from (joined to from h) ≡ joined to from h
joined_twice to from apart h = joined_other to from (joined to from h) (not_from to from apart h)

pub renaming : (to from : ℕ) → from ≢ to → IsChange (renamed (joined to from)) (is_beside from)
renaming to from apart =
    record {
      twice = λ a. by_test (is_there a)
          (λ t.
          let one = renamed_true (joined to from) a t in
          ap (renamed (joined to from)) one
          ∙ (renamed_true (joined to from) (relabelled (joined to from) a) t
          ∙ (ap (λ (n : ℕ). record a { left = n; right = joined to from (joined to from a.right) }) (joined_twice to from apart a.left)
          ∙ (ap (λ (n : ℕ). record a { left = joined to from a.left; right = n }) (joined_twice to from apart a.right) ∙ sym one))))
          (λ f. ap (renamed (joined to from)) (renamed_false (joined to from) a f));
      done = λ a. by_test (is_there a)
          (λ t.
          ap (is_beside from) (renamed_true (joined to from) a t)
          ∙ (ap (λ (b : Bool). b && (eqb (joined to from a.left) from || eqb (joined to from a.right) from)) t
          ∙ (ap (λ (b : Bool). b || eqb (joined to from a.right) from) (not_from to from apart a.left) ∙ not_from to from apart a.right)))
          (λ f. ap (is_beside from) (renamed_false (joined to from) a f) ∙ ap (λ (b : Bool). b && borders_face from a) f);
      stays = λ a h. by_test (is_there a)
          (λ t.
          let apart : borders_face from a ≡ false = sym (ap (λ (b : Bool). b && borders_face from a) t) ∙ h in
          let parts = or_parts (eqb a.left from) (eqb a.right from) apart in
          renamed_true (joined to from) a t
          ∙ same_sides a (joined to from a.left) (joined to from a.right) (joined_other to from a.left parts.0) (joined_other to from a.right parts.1))
          (λ f. renamed_false (joined to from) a f);
    }

-- one after the other
pub renamed_twice : (second first : ℕ → ℕ) (slots : List BaseArc) → map (renamed second) (map (renamed first) slots) ≡ map (renamed (λ h. second (first h))) slots
renamed_twice second first [] = refl
renamed_twice second first (a ∷ slots) =
    ap (λ (b : BaseArc). b ∷ map (renamed second) (map (renamed first) slots)) (by_test (is_there a)
    (λ t.
    ap (renamed second) (renamed_true first a t)
    ∙ (renamed_true second (relabelled first a) t ∙ sym (renamed_true (λ h. second (first h)) a t)))
    (λ f. ap (renamed second) (renamed_false first a f) ∙ (renamed_false second a f ∙ sym (renamed_false (λ h. second (first h)) a f))))
    ∙ ap (λ (rest : List BaseArc). renamed (λ h. second (first h)) a ∷ rest) (renamed_twice second first slots)

pub renamed_same : (label other : ℕ → ℕ) → ((h : ℕ) → label h ≡ other h) → (slots : List BaseArc) → map (renamed label) slots ≡ map (renamed other) slots
renamed_same label other same [] = refl
renamed_same label other same (a ∷ slots) =
    ap (λ (b : BaseArc). b ∷ map (renamed label) slots) (by_test (is_there a)
    (λ t.
    renamed_true label a t
    ∙ (ap (λ (n : ℕ). record a { left = n; right = label a.right }) (same a.left)
    ∙ (ap (λ (n : ℕ). record a { left = other a.left; right = n }) (same a.right) ∙ sym (renamed_true other a t))))
    (λ f. renamed_false label a f ∙ sym (renamed_false other a f)))
    ∙ ap (λ (rest : List BaseArc). renamed other a ∷ rest) (renamed_same label other same slots)

-- the arcs that are there with other faces
pub renamed_in : (label : ℕ → ℕ) (slots : List BaseArc) → arcs_in (map (renamed label) slots) ≡ map (relabelled label) (arcs_in slots)
renamed_in label [] = refl
renamed_in label (a ∷ slots) =
    by_test (is_there a)
    (λ t.
    ap (λ (b : BaseArc). arcs_in (b ∷ map (renamed label) slots)) (renamed_true label a t)
    ∙ (ap (λ (b : Bool). cond b (relabelled label a ∷ arcs_in (map (renamed label) slots)) (arcs_in (map (renamed label) slots))) t
    ∙ (ap (λ (rest : List BaseArc). relabelled label a ∷ rest) (renamed_in label slots)
    ∙ sym (ap (λ (b : Bool). map (relabelled label) (cond b (a ∷ arcs_in slots) (arcs_in slots))) t))))
    (λ f.
    ap (λ (b : BaseArc). arcs_in (b ∷ map (renamed label) slots)) (renamed_false label a f)
    ∙ (ap (λ (b : Bool). cond b (a ∷ arcs_in (map (renamed label) slots)) (arcs_in (map (renamed label) slots))) f
    ∙ (renamed_in label slots ∙ sym (ap (λ (b : Bool). map (relabelled label) (cond b (a ∷ arcs_in slots) (arcs_in slots))) f))))

-- ---- the numbers of faces after a fusion

-- where the last face is kept, it has the number of the other
pub kept_last : (n f g : ℕ) → f ≡ n → (h : ℕ) → joined g f h ≡ renumbered n f g h
kept_last n f g last h =
    by_test (eqb h g)
    (λ t.
    let same = eqb-true h g t in
    let one : joined f g h ≡ f = joined_here f g h t in
    let to : renumbered n f g h ≡ g = cond-true (eqb (joined f g h) n) g (joined f g h) (ap (λ (k : ℕ). eqb k n) one ∙ eq-eqb f n last) in
    by_test (eqb h f) (λ u. joined_here g f h u ∙ sym to) (λ u. joined_other g f h u ∙ (same ∙ sym to)))
    (λ t.
    let one : joined f g h ≡ h = joined_other f g h t in
    let same : renumbered n f g h ≡ cond (eqb h n) g h = ap (λ (k : ℕ). cond (eqb k n) g k) one in
    sym (same ∙ ap (λ (k : ℕ). cond (eqb h k) g h) (sym last)))

-- where the last one goes, no other number changes
pub gone_last : (n f g : ℕ) → f ≢ g → g ≡ n → (h : ℕ) → joined f g h ≡ renumbered n f g h
gone_last n f g apart last h =
    sym (cond-false (eqb (joined f g h) n) g (joined f g h) (ap (eqb (joined f g h)) (sym last) ∙ not_from f g (λ e. apart (sym e)) h))

-- an arc that has the last face where another one became a part of a third had it before
pub still_beside : (n f g : ℕ) → f ≢ n → (a : BaseArc) → is_beside n (renamed (joined f g) a) ≡ true → is_beside n a ≡ true
still_beside n f g apart a e =
    by_test (is_there a)
    (λ t.
    let f1 : is_beside n (relabelled (joined f g) a) ≡ true = sym (ap (is_beside n) (renamed_true (joined f g) a t)) ∙ e in
    let sides = (and_parts (is_there a) (borders_face n (relabelled (joined f g) a)) f1).1 in
    and_from (is_there a) (borders_face n a) t (by_test (eqb (joined f g a.left) n)
    (λ l. or_left (eqb a.left n) (eqb a.right n) (had a.left l))
    (λ l. or_right (eqb a.left n) (eqb a.right n) (had a.right (sym (ap (λ (b : Bool). b || eqb (joined f g a.right) n) l) ∙ sides)))))
    (λ h. sym (ap (is_beside n) (renamed_false (joined f g) a h)) ∙ e)
  where
    had : (h : ℕ) → eqb (joined f g h) n ≡ true → eqb h n ≡ true
    had h u =
        by_test (eqb h g)
        (λ t. absurd (apart (sym (joined_here f g h t) ∙ eqb-true (joined f g h) n u)))
        (λ t. ap (λ (k : ℕ). eqb k n) (sym (joined_other f g h t)) ∙ u)

-- the faces of an arc that is there, by the numbers that they had
pub came_from : (n f g : ℕ) (label : ℕ → ℕ) (a : BaseArc) → is_beside n (renamed label (cleared f g a)) ≡ true
    → (h : ℕ) × (is_beside h a ≡ true) × (n ≡ label h)
came_from n f g label a e =
    by_test (is_taken f g a)
    (λ t.
    let gone : renamed label (cleared f g a) ≡ with_points a [] = ap (renamed label) (cleared_true f g a t) in
    absurd (false≢true (ap (is_beside n) (sym gone) ∙ e)))
    (λ k.
    let same : renamed label (cleared f g a) ≡ renamed label a = ap (renamed label) (cleared_false f g a k) in
    let e1 : is_beside n (renamed label a) ≡ true = sym (ap (is_beside n) same) ∙ e in
    by_test (is_there a)
    (λ t.
    let e2 : is_beside n (relabelled label a) ≡ true = sym (ap (is_beside n) (renamed_true label a t)) ∙ e1 in
    let sides = (and_parts (is_there a) (borders_face n (relabelled label a)) e2).1 in
    by_test (eqb (label a.left) n)
    (λ l. (a.left, and_from (is_there a) (borders_face a.left a) t (or_left (eqb a.left a.left) (eqb a.right a.left) (eq-eqb a.left a.left refl)), sym (eqb-true (label a.left) n l)))
    (λ l.
    let r : eqb (label a.right) n ≡ true = sym (ap (λ (b : Bool). b || eqb (label a.right) n) l) ∙ sides in
    (a.right, and_from (is_there a) (borders_face a.right a) t (or_right (eqb a.left a.right) (eqb a.right a.right) (eq-eqb a.right a.right refl)), sym (eqb-true (label a.right) n r))))
    (λ h. absurd (false≢true (sym (ap (is_beside n) (renamed_false label a h) ∙ ap (λ (b : Bool). b && borders_face n a) h) ∙ e1))))

pub all_came_from : (n f g : ℕ) (label : ℕ → ℕ) (slots : List BaseArc) (i : ℕ) → arc_passes (is_beside n) (map (renamed label) (map (cleared f g) slots)) i ≡ true
    → (h : ℕ) × (arc_passes (is_beside h) slots i ≡ true) × (n ≡ label h)
all_came_from n f g label [] i e = absurd (false≢true e)
all_came_from n f g label (a ∷ slots) zero e = came_from n f g label a e
all_came_from n f g label (a ∷ slots) (suc i) e = all_came_from n f g label slots i e

-- ---- what else has one of the two faces

both_of : (x y p q : Bool) → p ≡ x → q ≡ y → (p || q) ≡ (x || y)
both_of x y p q e h = ap (λ (b : Bool). b || q) e ∙ ap (λ (b : Bool). x || b) h

-- a test of two sides and two lists, put together before or after
regrouped : (l r x y : Bool) → ((l || r) || (x || y)) ≡ ((r || x) || (l || y))
regrouped true true x y = refl
regrouped true false true y = refl
regrouped true false false y = refl
regrouped false true x y = refl
regrouped false false x y = refl

-- another arc has one of the faces where a slot has one that is there and does
pub others_left : (f g : ℕ) (slots : List BaseArc)
    → list_any (λ a. borders_face f a || borders_face g a) (others f g (arcs_in slots)) ≡ (list_any (is_other f g g) slots || list_any (is_other f g f) slots)
others_left f g [] = refl
others_left f g (a ∷ slots) =
    let x = list_any (is_other f g g) slots in
    let y = list_any (is_other f g f) slots in
    let rest = others f g (arcs_in slots) in
    let both = λ (c : BaseArc). borders_face f c || borders_face g c in
    let more : (h : ℕ) (b : Bool) → is_other f g h a ≡ b → (r : Bool) → (is_other f g h a || r) ≡ (b || r) = λ h b e r. ap (λ (s : Bool). s || r) e in
    by_test (is_there a)
    (λ t.
    let front = ap (λ (b : Bool). list_any both (others f g (cond b (a ∷ arcs_in slots) (arcs_in slots)))) t in
    by_test (is_between f g a)
    (λ u.
    let taken : is_taken f g a ≡ true = and_from (is_there a) (is_between f g a) t u in
    let none : (h : ℕ) → is_other f g h a ≡ false = λ h. other_taken h taken in
    front
    ∙ (ap (λ (b : Bool). list_any both (cond (not b) (a ∷ rest) rest)) u
    ∙ (others_left f g slots ∙ sym (both_of x y (is_other f g g a || x) (is_other f g f a || y) (more g false (none g) x) (more f false (none f) y)))))
    (λ u.
    let kept : is_taken f g a ≡ false = ap (λ (b : Bool). b && is_between f g a) t ∙ u in
    let one : (h : ℕ) → is_other f g h a ≡ borders_face h a = λ h. other_kept h t kept in
    front
    ∙ (ap (λ (b : Bool). list_any both (cond (not b) (a ∷ rest) rest)) u
    ∙ (ap (λ (r : Bool). (borders_face f a || borders_face g a) || r) (others_left f g slots)
    ∙ (regrouped (borders_face f a) (borders_face g a) x y
    ∙ sym (both_of (borders_face g a || x) (borders_face f a || y) (is_other f g g a || x) (is_other f g f a || y) (more g (borders_face g a) (one g) x) (more f (borders_face f a) (one f) y))))))
    )
    (λ h.
    let none : (k : ℕ) → is_other f g k a ≡ false = λ k. other_gone k h in
    ap (λ (b : Bool). list_any both (others f g (cond b (a ∷ arcs_in slots) (arcs_in slots)))) h
    ∙ (others_left f g slots ∙ sym (both_of x y (is_other f g g a || x) (is_other f g f a || y) (more g false (none g) x) (more f false (none f) y))))
  where
    other_gone : (k : ℕ) → is_there a ≡ false → is_other f g k a ≡ false
    other_gone k h = ap (λ (b : Bool). (b && borders_face k a) && not (is_taken f g a)) h

    none_left : (s : Bool) → (s && not true) ≡ false
    none_left true = refl
    none_left false = refl

    other_taken : (k : ℕ) → is_taken f g a ≡ true → is_other f g k a ≡ false
    other_taken k e = ap (λ (b : Bool). (is_there a && borders_face k a) && not b) e ∙ none_left (is_there a && borders_face k a)

    all_left : (s : Bool) → (s && not false) ≡ s
    all_left true = refl
    all_left false = refl

    other_kept : (k : ℕ) → is_there a ≡ true → is_taken f g a ≡ false → is_other f g k a ≡ borders_face k a
    other_kept k t e =
        ap (λ (b : Bool). (is_there a && borders_face k a) && not b) e
        ∙ (all_left (is_there a && borders_face k a) ∙ ap (λ (b : Bool). b && borders_face k a) t)

-- ---- what is listed before

-- an arc between two faces has each of them
pub taken_beside : (f g : ℕ) (a : BaseArc) → is_taken f g a ≡ true → is_beside g a ≡ true
taken_beside f g a e =
    let parts = and_parts (is_there a) (is_between f g a) e in
    and_from (is_there a) (borders_face g a) parts.0 (by_test (eqb a.left f && eqb a.right g)
    (λ t. or_right (eqb a.left g) (eqb a.right g) (and_parts (eqb a.left f) (eqb a.right g) t).1)
    (λ h.
    let other : (eqb a.left g && eqb a.right f) ≡ true = sym (ap (λ (b : Bool). b || (eqb a.left g && eqb a.right f)) h) ∙ parts.1 in
    or_left (eqb a.left g) (eqb a.right g) (and_parts (eqb a.left g) (eqb a.right f) other).0))

-- an arc that has a face where others are taken out had it before
pub still_there : (f g h : ℕ) (a : BaseArc) → is_beside h (cleared f g a) ≡ true → is_beside h a ≡ true
still_there f g h a e =
    by_test (is_taken f g a)
    (λ t. absurd (false≢true (ap (is_beside h) (sym (cleared_true f g a t)) ∙ e)))
    (λ k. sym (ap (is_beside h) (cleared_false f g a k)) ∙ e)

-- a point that is there then was there before
fused_has : (f g : ℕ) (label : ℕ → ℕ) (p : Point) (a : BaseArc) → passes p (renamed label (cleared f g a)) ≡ true → passes p a ≡ true
fused_has f g label p a e =
    by_test (is_taken f g a)
    (λ t.
    let gone : renamed label (cleared f g a) ≡ with_points a [] = ap (renamed label) (cleared_true f g a t) in
    absurd (false≢true (ap (passes p) (sym gone) ∙ e)))
    (λ k.
    let same : renamed label (cleared f g a) ≡ renamed label a = ap (renamed label) (cleared_false f g a k) in
    let e1 : passes p (renamed label a) ≡ true = sym (ap (passes p) same) ∙ e in
    by_test (is_there a)
    (λ t. sym (ap (passes p) (renamed_true label a t)) ∙ e1)
    (λ h. sym (ap (passes p) (renamed_false label a h)) ∙ e1))

pub fused_places : (lists : Point → List ℕ) (f g : ℕ) (label : ℕ → ℕ) (slots : List BaseArc) → Covers lists slots → Covers lists (map (renamed label) (map (cleared f g) slots))
fused_places lists f g label slots covers p i e = covers p i (back slots i e)
  where
    back : (xs : List BaseArc) (k : ℕ) → arc_passes (passes p) (map (renamed label) (map (cleared f g) xs)) k ≡ true → arc_passes (passes p) xs k ≡ true
    back [] k h = h
    back (a ∷ xs) zero h = fused_has f g label p a h
    back (a ∷ xs) (suc k) h = back xs k h

-- a face of an arc is among so many
face_within : (n h : ℕ) (a : BaseArc) → HasFaces n a → borders_face h a ≡ true → h ≤ n
face_within n h a faces b =
    by_test (eqb a.left h)
    (λ l. let same = eqb-true a.left h l in let le = faces.left in omega arith)
    (λ l.
    let r : eqb a.right h ≡ true = sym (ap (λ (c : Bool). c || eqb a.right h) l) ∙ b in
    let same = eqb-true a.right h r in
    let le = faces.right in
    omega arith)

-- the faces of the arcs that are there are
pub within_faces : (n : ℕ) (slots : List BaseArc) → HaveFaces n (arcs_in slots) → (h i : ℕ) → arc_passes (is_beside h) slots i ≡ true → h ≤ n
within_faces n [] have h i e = absurd (false≢true e)
within_faces n (a ∷ slots) have h zero e =
    let parts = and_parts (is_there a) (borders_face h a) e in
    face_within n h a (All-head (HasFaces n) a (arcs_in slots) (subst (λ (b : Bool). HaveFaces n (cond b (a ∷ arcs_in slots) (arcs_in slots))) parts.0 have)) parts.1
within_faces n (a ∷ slots) have h (suc i) e =
    within_faces n slots (by_test (is_there a)
    (λ t. All-tail (HasFaces n) a (arcs_in slots) (subst (λ (b : Bool). HaveFaces n (cond b (a ∷ arcs_in slots) (arcs_in slots))) t have))
    (λ f. subst (λ (b : Bool). HaveFaces n (cond b (a ∷ arcs_in slots) (arcs_in slots))) f have)) h i e

-- so are those of one
pub faces_of_slot : (n : ℕ) (slots : List BaseArc) (i : ℕ) → i < length slots → is_there (arc_number slots i) ≡ true → HaveFaces n (arcs_in slots) → HasFaces n (arc_number slots i)
faces_of_slot n slots i lt here have =
    let a = arc_number slots i in
    record {
      left = within_faces n slots have a.left i (passes_at (is_beside a.left) slots i lt ∙ and_from (is_there a) (borders_face a.left a) here (or_left (eqb a.left a.left) (eqb a.right a.left) (eq-eqb a.left a.left refl)));
      right = within_faces n slots have a.right i (passes_at (is_beside a.right) slots i lt ∙ and_from (is_there a) (borders_face a.right a) here (or_right (eqb a.left a.right) (eqb a.right a.right) (eq-eqb a.right a.right refl)));
    }

-- so are the faces of all of them, where each arc that is there is listed for its faces
pub faces_listed : (rows : List (List ℕ)) (slots : List BaseArc) → CoversFaces (bordering rows) slots → HaveFaces (face_count rows) (arcs_in slots)
faces_listed rows slots covers = each slots (λ f i e. row_there rows f i (covers f i e))
  where
    row_there : (xs : List (List ℕ)) (f i : ℕ) → is_among i (bordering xs f) ≡ true → f ≤ face_count xs
    row_there [] f i e = absurd (false≢true e)
    row_there (x ∷ xs) zero i e = omega arith
    row_there (x ∷ []) (suc f) i e = absurd (false≢true e)
    row_there (x ∷ y ∷ xs) (suc f) i e = (let le = row_there (y ∷ xs) f i e in omega arith)

    each : (xs : List BaseArc) → ((f i : ℕ) → arc_passes (is_beside f) xs i ≡ true → f ≤ face_count rows) → HaveFaces (face_count rows) (arcs_in xs)
    each [] within = All-nil (HasFaces (face_count rows))
    each (a ∷ xs) within =
        by_test (is_there a)
        (λ t. subst (λ (b : Bool). HaveFaces (face_count rows) (cond b (a ∷ arcs_in xs) (arcs_in xs))) (sym t) (All-cons (HasFaces (face_count rows)) a (arcs_in xs) (record {
          left = within a.left 0 (and_from (is_there a) (borders_face a.left a) t (or_left (eqb a.left a.left) (eqb a.right a.left) (eq-eqb a.left a.left refl)));
          right = within a.right 0 (and_from (is_there a) (borders_face a.right a) t (or_right (eqb a.left a.right) (eqb a.right a.right) (eq-eqb a.right a.right refl)));
        }) (each xs (λ f i e. within f (suc i) e))))
        (λ h. subst (λ (b : Bool). HaveFaces (face_count rows) (cond b (a ∷ arcs_in xs) (arcs_in xs))) (sym h) (each xs (λ f i e. within f (suc i) e)))
