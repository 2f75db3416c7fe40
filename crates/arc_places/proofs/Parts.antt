-- What is listed for the parts of an arc that is split.
use Rattle.std.proofs.Common.{◌≡◌, ◌≢◌, ◌∙◌, ℕ, zero, suc, ◌<◌, eqb, cond, if◌then◌else◌, Bool, true, false, ◌||◌, List, [], ◌∷◌, ◌++◌, length, map, set, refl, sym, ap, subst, arith}
use Rattle.std.proofs.lemmas.Bool.{false≢true, eqb-true, eqb-false, eq-eqb, cond-true, cond-false}
use Rattle.std.proofs.lemmas.List.{length-set, map-append}
use Rattle.tgap_model.specs.declared.geometry.Point.{Point}
use Rattle.tgap_model.specs.declared.base.BaseArc.{BaseArc}
use Rattle.tgap_model.specs.Chains.{arc_number}
use Rattle.face_cuts.specs.Nodes.{passes}
use Rattle.face_cuts.proofs.Cases.{by_test, not_held}
use Rattle.arc_places.specs.Bodies.{exchanged, image}
use Rattle.arc_places.specs.Places.{Covers, arc_passes, is_among}
use Rattle.arc_places.proofs.FoundSides.{same_test}
use Rattle.arc_places.proofs.Listed.{passes_at}

-- one body more in a list, or another list, and the slots of the bodies
pub slots_more : (slots before others after : List ℕ) (body arc : ℕ) (here : Bool) → image slots body ≡ arc → after ≡ cond here (before ++ body ∷ []) others
    → map (image slots) after ≡ cond here (map (image slots) before ++ arc ∷ []) (map (image slots) others)
slots_more slots before others after body arc here at e = ap (map (image slots)) e ∙ by here
  where
    by : (b : Bool) → map (image slots) (cond b (before ++ body ∷ []) others) ≡ cond b (map (image slots) before ++ arc ∷ []) (map (image slots) others)
    by true = map-append (image slots) before (body ∷ []) ∙ ap (λ (n : ℕ). map (image slots) before ++ n ∷ []) at
    by false = refl

-- ---- two numbers that change places

unequal : (k i : ℕ) → k ≢ i → eqb k i ≡ false
unequal k i ne = not_held (eqb k i) (λ e. ne (eqb-true k i e))

pub first_exchanged : (i j k : ℕ) → k ≡ i → exchanged i j k ≡ j
first_exchanged i j k e = cond-true (eqb k i) j (if eqb k j then i else k) (eq-eqb k i e)

second_exchanged : (i j k : ℕ) → k ≢ i → k ≡ j → exchanged i j k ≡ i
second_exchanged i j k ne e = cond-false (eqb k i) j (if eqb k j then i else k) (unequal k i ne) ∙ cond-true (eqb k j) i k (eq-eqb k j e)

pub none_exchanged : (i j k : ℕ) → k ≢ i → k ≢ j → exchanged i j k ≡ k
none_exchanged i j k ne nor = cond-false (eqb k i) j (if eqb k j then i else k) (unequal k i ne) ∙ cond-false (eqb k j) i k (unequal k j nor)

-- twice makes nothing
exchanged_twice : (i j k : ℕ) → exchanged i j (exchanged i j k) ≡ k
exchanged_twice i j k =
    by_test (eqb k i)
    (λ t.
    let e = eqb-true k i t in
    ap (exchanged i j) (first_exchanged i j k e)
    ∙ by_test (eqb j i)
    (λ s. first_exchanged i j j (eqb-true j i s) ∙ eqb-true j i s ∙ sym e)
    (λ s. second_exchanged i j j (eqb-false j i s) refl ∙ sym e))
    (λ f. by_test (eqb k j)
    (λ t. ap (exchanged i j) (second_exchanged i j k (eqb-false k i f) (eqb-true k j t)) ∙ first_exchanged i j i refl ∙ sym (eqb-true k j t))
    (λ g. ap (exchanged i j) (none_exchanged i j k (eqb-false k i f) (eqb-false k j g)) ∙ none_exchanged i j k (eqb-false k i f) (eqb-false k j g)))

pub among_exchanged : (slots slots_then : List ℕ) (i j k : ℕ) (bodies : List ℕ) → ((b : ℕ) → image slots_then b ≡ exchanged i j (image slots b))
    → is_among (exchanged i j k) (map (image slots_then) bodies) ≡ is_among k (map (image slots) bodies)
among_exchanged slots slots_then i j k [] images = refl
among_exchanged slots slots_then i j k (b ∷ bodies) images =
    ap (λ (t : Bool). t || is_among (exchanged i j k) (map (image slots_then) bodies))
    (same_test (eqb (image slots_then b) (exchanged i j k)) (eqb (image slots b) k)
    (λ t. eq-eqb (image slots b) k
    (sym (exchanged_twice i j (image slots b)) ∙ ap (exchanged i j) (sym (images b) ∙ eqb-true (image slots_then b) (exchanged i j k) t) ∙ exchanged_twice i j k))
    (λ t. eq-eqb (image slots_then b) (exchanged i j k) (images b ∙ ap (exchanged i j) (eqb-true (image slots b) k t))))
    ∙ ap (λ (t : Bool). eqb (image slots b) k || t) (among_exchanged slots slots_then i j k bodies images)

-- ---- slots of which one is split

-- the arc of another slot than this one, and one behind all
passes_other : (test : BaseArc → Bool) (slots : List BaseArc) (i k : ℕ) (a : BaseArc) → k ≢ i → arc_passes test (set slots i a) k ≡ arc_passes test slots k
passes_other test [] i k a ne = refl
passes_other test (b ∷ slots) zero zero a ne = absurd (ne refl)
passes_other test (b ∷ slots) zero (suc k) a ne = refl
passes_other test (b ∷ slots) (suc i) zero a ne = refl
passes_other test (b ∷ slots) (suc i) (suc k) a ne = passes_other test slots i k a (λ e. ne (ap suc e))

passes_here : (test : BaseArc → Bool) (slots : List BaseArc) (i : ℕ) (a : BaseArc) → arc_passes test (set slots i a) i ≡ true → test a ≡ true
passes_here test [] i a e = absurd (false≢true e)
passes_here test (b ∷ slots) zero a e = e
passes_here test (b ∷ slots) (suc i) a e = passes_here test slots i a e

passes_behind : (test : BaseArc → Bool) (slots : List BaseArc) (k : ℕ) (a : BaseArc) → k ≢ length slots → arc_passes test (slots ++ a ∷ []) k ≡ arc_passes test slots k
passes_behind test [] zero a ne = absurd (ne refl)
passes_behind test [] (suc k) a ne = refl
passes_behind test (b ∷ slots) zero a ne = refl
passes_behind test (b ∷ slots) (suc k) a ne = passes_behind test slots k a (λ e. ne (ap suc e))

passes_last : (test : BaseArc → Bool) (slots : List BaseArc) (k : ℕ) (a : BaseArc) → k ≡ length slots → arc_passes test (slots ++ a ∷ []) k ≡ true → test a ≡ true
passes_last test [] zero a e h = h
passes_last test [] (suc k) a e h = absurd (omega (arith, e))
passes_last test (b ∷ slots) zero a e h = absurd (omega (arith, e))
passes_last test (b ∷ slots) (suc k) a e h = passes_last test slots k a (omega (arith, e)) h

-- Where an arc keeps some of its points and another arc in a new slot has some of them, the lists still miss no arc.
pub parts_covered : (before after : Point → List ℕ) (slots : List BaseArc) (i j : ℕ) (front rest : BaseArc) → i < length slots → j ≡ length slots
    → ((p : Point) → passes p front ≡ true → passes p (arc_number slots i) ≡ true) → ((p : Point) → passes p rest ≡ true → passes p (arc_number slots i) ≡ true)
    → ((p : Point) → is_among i (before p) ≡ true → passes p front ≡ true → is_among i (after p) ≡ true)
    → ((p : Point) → is_among i (before p) ≡ true → passes p rest ≡ true → is_among j (after p) ≡ true)
    → ((p : Point) (k : ℕ) → k ≢ i → k ≢ j → is_among k (after p) ≡ is_among k (before p))
    → Covers before slots → Covers after (set slots i front ++ rest ∷ [])
parts_covered before after slots i j front rest within last of_front of_rest front_is rest_is others covers p k e =
    by_test (eqb k j)
    (λ t.
    let at = eqb-true k j t in
    subst (λ (m : ℕ). is_among m (after p) ≡ true) (sym at)
    (let passed : passes p rest ≡ true = passes_last (passes p) (set slots i front) k rest (at ∙ end) e in rest_is p (was p (of_rest p passed)) passed))
    (λ f.
    let behind : arc_passes (passes p) (set slots i front) k ≡ true =
    sym (passes_behind (passes p) (set slots i front) k rest (λ h. eqb-false k j f (h ∙ sym end))) ∙ e in
    by_test (eqb k i)
    (λ t.
    let at = eqb-true k i t in
    subst (λ (m : ℕ). is_among m (after p) ≡ true) (sym at)
    (let passed : passes p front ≡ true = passes_here (passes p) slots i front (subst (λ (m : ℕ). arc_passes (passes p) (set slots i front) m ≡ true) at behind) in
    front_is p (was p (of_front p passed)) passed))
    (λ g. others p k (eqb-false k i g) (eqb-false k j f) ∙ covers p k (sym (passes_other (passes p) slots i k front (eqb-false k i g)) ∙ behind)))
  where
    end : j ≡ length (set slots i front)
    end = last ∙ sym (length-set slots i front)

    was : (q : Point) → passes q (arc_number slots i) ≡ true → is_among i (before q) ≡ true
    was q h = covers q i (passes_at (passes q) slots i within ∙ h)
