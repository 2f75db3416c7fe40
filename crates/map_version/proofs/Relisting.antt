-- Slots as they get other faces and one more, and what is listed then.
use Rattle.std.proofs.Common.{◌≡◌, ◌≢◌, ◌∙◌, ℕ, zero, suc, ◌<◌, ◌+◌, eqb, nat_lt, Bool, true, false, ◌&&◌, ◌||◌, if◌then◌else◌, List, [], ◌∷◌, ◌++◌, length, set, take, drop, refl, sym, ap, subst, arith}
use Rattle.std.specs.List.{list_any}
use Rattle.std.proofs.lemmas.Bool.{and_parts, and_from, or_left, or_right, cond-true, cond-false, eqb-true, eqb-false, eq-eqb, false≢true, ltb-true, ltb-false}
use Rattle.std.proofs.lemmas.List.{set_past}
use Rattle.std.proofs.lemmas.List.Folds.{list_any-append}
use Rattle.tgap_model.specs.declared.geometry.Point.{Point}
use Rattle.tgap_model.specs.declared.base.BaseArc.{BaseArc}
use Rattle.tgap_model.specs.Base.{same_point, borders_face}
use Rattle.tgap_model.specs.Chains.{arc_number}
use Rattle.ring_walk.specs.declared.side.Way.{Way}
use Rattle.ring_walk.specs.declared.side.Way.TheVariants.{Along, Against}
use Rattle.edit_laws.proofs.Cases.{by_test}
use Rattle.face_cuts.specs.Nodes.{passes}
use Rattle.arc_places.specs.Slots.{is_there}
use Rattle.arc_places.specs.Places.{arc_passes, is_among, Covers}
use Rattle.arc_places.specs.Borders.{CoversFaces, is_beside}
use Rattle.arc_places.proofs.Listed.{passes_at, passes_here, passes_past}
use Rattle.map_version.specs.declared.labels.Counts.{Counts}
use Rattle.map_version.specs.declared.labels.SlotSide.{SlotSide}
use Rattle.map_version.specs.Indexed.{AreCounted}
use Rattle.map_version.specs.Labels.{passed_over, with_side}
use Rattle.map_version.proofs.Changing.{passes_set_here, passes_set_other}
use Rattle.map_version.specs.Positions.{changed_at}
use Rattle.map_version.proofs.InSlots.{any_taken, passes_changed}
use Rattle.map_version.proofs.Counting.{counted_same}

-- ---- a side that gets another face

side_points : (way : Way) (f : ℕ) (a : BaseArc) → (with_side way f a).points ≡ a.points
side_points Along f a = refl
side_points Against f a = refl

-- an arc with the same points has them in the same slot
passes_same : (p : Point) (slots : List BaseArc) (j : ℕ) (b : BaseArc) → b.points ≡ (arc_number slots j).points → (i : ℕ) → arc_passes (passes p) (set slots j b) i ≡ arc_passes (passes p) slots i
passes_same p [] j b same i = refl
passes_same p (a ∷ slots) zero b same zero = ap (list_any (same_point p)) same
passes_same p (a ∷ slots) zero b same (suc i) = refl
passes_same p (a ∷ slots) (suc j) b same zero = refl
passes_same p (a ∷ slots) (suc j) b same (suc i) = passes_same p slots j b same i

passed_points : (p : Point) (f : ℕ) (moved : List SlotSide) (slots : List BaseArc) (i : ℕ) → arc_passes (passes p) (passed_over f moved slots) i ≡ arc_passes (passes p) slots i
passed_points p f [] slots i = refl
passed_points p f (m ∷ moved) slots i =
    passed_points p f moved (set slots m.slot (with_side m.way f (arc_number slots m.slot))) i
    ∙ passes_same p slots m.slot (with_side m.way f (arc_number slots m.slot)) (side_points m.way f (arc_number slots m.slot)) i

pub passed_places : (lists : Point → List ℕ) (f : ℕ) (moved : List SlotSide) (slots : List BaseArc) → Covers lists slots → Covers lists (passed_over f moved slots)
passed_places lists f moved slots covers p i e = covers p i (sym (passed_points p f moved slots i) ∙ e)

pub passed_counted : (f : ℕ) (moved : List SlotSide) (slots : List BaseArc) (counts : Counts) → AreCounted slots counts → AreCounted (passed_over f moved slots) counts
passed_counted f [] slots counts counted = counted
passed_counted f (m ∷ moved) slots counts counted =
    let b = with_side m.way f (arc_number slots m.slot) in
    passed_counted f moved (set slots m.slot b) counts (by_test (nat_lt m.slot (length slots))
    (λ t. counted_same slots m.slot b counts (ltb-true m.slot (length slots) t) (ap (length {A = Point}) (side_points m.way f (arc_number slots m.slot))) counted)
    (λ h. subst (λ (xs : List BaseArc). AreCounted xs counts) (sym (set_past slots m.slot b (ltb-false m.slot (length slots) h))) counted))

-- the faces of an arc that gets one more: that one, and those that it had
side_faces : (way : Way) (f : ℕ) (a : BaseArc) (g : ℕ) → is_beside g (with_side way f a) ≡ true → eqb g f ≡ false → is_beside g a ≡ true
side_faces Along f a g e apart =
    let parts = and_parts (is_there a) (eqb f g || eqb a.right g) e in
    and_from (is_there a) (borders_face g a) parts.0 (or_right (eqb a.left g) (eqb a.right g)
    (by_test (eqb f g) (λ t. absurd (false≢true (sym apart ∙ eq-eqb g f (sym (eqb-true f g t))))) (λ h. sym (ap (λ (b : Bool). b || eqb a.right g) h) ∙ parts.1)))
side_faces Against f a g e apart =
    let parts = and_parts (is_there a) (eqb a.left g || eqb f g) e in
    and_from (is_there a) (borders_face g a) parts.0 (by_test (eqb a.left g)
    (λ t. or_left (eqb a.left g) (eqb a.right g) t)
    (λ h. absurd (let f1 : eqb f g ≡ true = sym (ap (λ (b : Bool). b || eqb f g) h) ∙ parts.1 in false≢true (sym apart ∙ eq-eqb g f (sym (eqb-true f g f1))))))

-- listed for one face more
among_last : (numbers : List ℕ) (i : ℕ) → is_among i (numbers ++ i ∷ []) ≡ true
among_last numbers i =
    list_any-append (λ j. eqb j i) numbers (i ∷ []) ∙ or_right (list_any (λ j. eqb j i) numbers) (eqb i i || false) (or_left (eqb i i) false (eq-eqb i i refl))

among_more : (numbers : List ℕ) (i j : ℕ) → is_among i numbers ≡ true → is_among i (numbers ++ j ∷ []) ≡ true
among_more numbers i j e =
    list_any-append (λ k. eqb k i) numbers (j ∷ []) ∙ or_left (list_any (λ k. eqb k i) numbers) (eqb j i || false) e

-- what was listed still is
pub listed_still : (before after : ℕ → List ℕ) (face slot : ℕ) → ((f : ℕ) → after f ≡ (if eqb f face then before face ++ slot ∷ [] else before f))
    → (f i : ℕ) → is_among i (before f) ≡ true → is_among i (after f) ≡ true
listed_still before after face slot listed f i e =
    by_test (eqb f face)
    (λ t.
    ap (is_among i) (listed f ∙ cond-true (eqb f face) (before face ++ slot ∷ []) (before f) t)
    ∙ among_more (before face) i slot (ap (λ (k : ℕ). is_among i (before k)) (sym (eqb-true f face t)) ∙ e))
    (λ h. ap (is_among i) (listed f ∙ cond-false (eqb f face) (before face ++ slot ∷ []) (before f) h) ∙ e)

pub listed_here : (before after : ℕ → List ℕ) (face slot : ℕ) → ((f : ℕ) → after f ≡ (if eqb f face then before face ++ slot ∷ [] else before f))
    → is_among slot (after face) ≡ true
listed_here before after face slot listed =
    ap (is_among slot) (listed face ∙ cond-true (eqb face face) (before face ++ slot ∷ []) (before face) (eq-eqb face face refl)) ∙ among_last (before face) slot

pub covers_passed : (before after : ℕ → List ℕ) (slots : List BaseArc) (face : ℕ) (m : SlotSide) → m.slot < length slots
    → ((f : ℕ) → after f ≡ (if eqb f face then before face ++ m.slot ∷ [] else before f)) → CoversFaces before slots
    → CoversFaces after (set slots m.slot (with_side m.way face (arc_number slots m.slot)))
covers_passed before after slots face m lt listed covers f i e =
    let b = with_side m.way face (arc_number slots m.slot) in
    by_test (eqb m.slot i)
    (λ t.
    let at : is_beside f b ≡ true = sym (passes_set_here (is_beside f) slots m.slot b lt) ∙ subst (λ (n : ℕ). arc_passes (is_beside f) (set slots m.slot b) n ≡ true) (sym (eqb-true m.slot i t)) e in
    subst (λ (n : ℕ). is_among n (after f) ≡ true) (eqb-true m.slot i t) (by_test (eqb f face)
    (λ u. ap (λ (k : ℕ). is_among m.slot (after k)) (eqb-true f face u) ∙ listed_here before after face m.slot listed)
    (λ u. listed_still before after face m.slot listed f m.slot (covers f m.slot (passes_at (is_beside f) slots m.slot lt ∙ side_faces m.way face (arc_number slots m.slot) f at u)))))
    (λ h. listed_still before after face m.slot listed f i (covers f i (sym (passes_set_other (is_beside f) slots m.slot i b h) ∙ e)))

-- ---- one more slot

-- the arc in the last slot, or in one before
last_passes : {P : Type 0} (test : BaseArc → Bool) (slots : List BaseArc) (a : BaseArc) (i : ℕ) → arc_passes test (slots ++ a ∷ []) i ≡ true
    → (arc_passes test slots i ≡ true → P) → (length slots ≡ i → test a ≡ true → P) → P
last_passes test [] a zero e before last = last refl e
last_passes test [] a (suc i) e before last = absurd (false≢true e)
last_passes test (b ∷ slots) a zero e before last = before e
last_passes test (b ∷ slots) a (suc i) e before last = last_passes test slots a i e before (λ n t. last (ap (λ (k : ℕ). suc k) n) t)

pub pushed_places : (before after : Point → List ℕ) (slots : List BaseArc) (a : BaseArc)
    → ((p : Point) (i : ℕ) → is_among i (after p) ≡ (is_among i (before p) || ((eqb (length slots) i) && list_any (same_point p) a.points)))
    → Covers before slots → Covers after (slots ++ a ∷ [])
pushed_places before after slots a listed covers p i e =
    listed p i ∙ last_passes (passes p) slots a i e
    (λ h. or_left (is_among i (before p)) (eqb (length slots) i && list_any (same_point p) a.points) (covers p i h))
    (λ n t. or_right (is_among i (before p)) (eqb (length slots) i && list_any (same_point p) a.points) (and_from (eqb (length slots) i) (list_any (same_point p) a.points) (eq-eqb (length slots) i n) t))

pub pushed_borders : (before after : ℕ → List ℕ) (slots : List BaseArc) (a : BaseArc)
    → ((f i : ℕ) → is_among i (after f) ≡ (is_among i (before f) || ((eqb (length slots) i) && borders_face f a)))
    → CoversFaces before slots → CoversFaces after (slots ++ a ∷ [])
pushed_borders before after slots a listed covers f i e =
    listed f i ∙ last_passes (is_beside f) slots a i e
    (λ h. or_left (is_among i (before f)) (eqb (length slots) i && borders_face f a) (covers f i h))
    (λ n t. or_right (is_among i (before f)) (eqb (length slots) i && borders_face f a)
    (and_from (eqb (length slots) i) (borders_face f a) (eq-eqb (length slots) i n) (and_parts (is_there a) (borders_face f a) t).1))

-- ---- an arc that is split

pub length-changed : (i : ℕ) (change : List Point → List Point) (slots : List BaseArc) → length (changed_at i change slots) ≡ length slots
length-changed i change [] = refl
length-changed zero change (a ∷ slots) = refl
length-changed (suc i) change (a ∷ slots) = ap (λ (n : ℕ). suc n) (length-changed i change slots)

-- the front in its slot and the rest in a new one
pub split_places : (before after : Point → List ℕ) (slots : List BaseArc) (i k : ℕ) (rest : BaseArc) → rest.points ≡ drop k (arc_number slots i).points
    → ((p : Point) → is_among i (before p) ≡ true → list_any (same_point p) (take (k + 1) (arc_number slots i).points) ≡ true → is_among i (after p) ≡ true)
    → ((p : Point) → is_among i (before p) ≡ true → list_any (same_point p) rest.points ≡ true → is_among (length slots) (after p) ≡ true)
    → ((p : Point) (j : ℕ) → j ≢ i → j ≢ length slots → is_among j (after p) ≡ is_among j (before p))
    → Covers before slots → Covers after (changed_at i (take (k + 1)) slots ++ rest ∷ [])
split_places before after slots i k rest same front back others covers p j e =
    let a = arc_number slots i in
    let cut = changed_at i (take (k + 1)) slots in
    let had : list_any (same_point p) a.points ≡ true → is_among i (before p) ≡ true = λ t. covers p i (passes_here p slots i ∙ t) in
    last_passes (passes p) cut rest j e
    (λ h.
    let old : arc_passes (passes p) slots j ≡ true = passes_changed (passes p) i (take (k + 1)) slots (λ t. any_taken (same_point p) (k + 1) a.points t) j h in
    by_test (eqb i j)
    (λ t.
    let here : arc_passes (passes p) cut i ≡ true = subst (λ (n : ℕ). arc_passes (passes p) cut n ≡ true) (sym (eqb-true i j t)) h in
    let now : list_any (same_point p) (take (k + 1) a.points) ≡ true = sym (changed_here p slots i (take (k + 1)) (none_taken p (k + 1))) ∙ here in
    subst (λ (n : ℕ). is_among n (after p) ≡ true) (eqb-true i j t) (front p (had (any_taken (same_point p) (k + 1) a.points now)) now))
    (λ f. others p j (λ s. eqb-false i j f (sym s)) (λ s. false≢true (sym (passes_past (passes p) slots j (omega (arith, s))) ∙ old)) ∙ covers p j old))
    (λ n t.
    let last : j ≡ length slots = sym n ∙ length-changed i (take (k + 1)) slots in
    subst (λ (m : ℕ). is_among m (after p) ≡ true) (sym last) (back p (had (any_dropped (same_point p) k a.points (sym (ap (list_any (same_point p)) same) ∙ t))) t))
  where
    changed_here : (q : Point) (xs : List BaseArc) (m : ℕ) (change : List Point → List Point) → list_any (same_point q) (change []) ≡ false
        → arc_passes (passes q) (changed_at m change xs) m ≡ list_any (same_point q) (change (arc_number xs m).points)
    changed_here q [] m change none = sym none
    changed_here q (x ∷ xs) zero change none = refl
    changed_here q (x ∷ xs) (suc m) change none = changed_here q xs m change none

    none_taken : (q : Point) (m : ℕ) → list_any (same_point q) (take m []) ≡ false
    none_taken q zero = refl
    none_taken q (suc m) = refl

    any_dropped : (test : Point → Bool) (m : ℕ) (points : List Point) → list_any test (drop m points) ≡ true → list_any test points ≡ true
    any_dropped test zero points h = h
    any_dropped test (suc m) [] h = h
    any_dropped test (suc m) (q ∷ points) h = or_right (test q) (list_any test points) (any_dropped test m points h)
