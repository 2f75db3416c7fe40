-- What the rings so far took, step by step, is what the list of their takings tells.
use Rattle.std.proofs.Common.{◌≡◌, ◌≢◌, inl, inr, ℕ, ◌<◌, ◌≤◌, ◌==◌, nat_lt, Bool, true, false, cond, List, [], ◌∷◌, ◌++◌, length, get_or, set, Contains, MatchResult, flat_map, Result, Ok, Err, ℤ, refl, sym, ap, ◌∙◌, subst, true≢false, append_assoc, append-nil, arith}
use Rattle.std.proofs.lemmas.Bool.{ltb-false, eqb-true, eqb-false}
use Rattle.std.proofs.lemmas.List.{length-set, get_or_default, get_or-set_same, get_or-set_other}
use Rattle.std.proofs.lemmas.List.Elements.{Contains-append_left, Contains-push, Contains-push_cases}
use Rattle.std.proofs.lemmas.List.Quantifiers.{all_pairs_push}
use Rattle.tgap_model.specs.declared.geometry.Point.{Point}
use Rattle.tgap_model.specs.declared.fault.MapFault.{MapFault}
use Rattle.tgap_model.specs.declared.fault.MapFault.TheVariants.{SideTaken}
use Rattle.line_forms.specs.Lines.{◌>>=◌}
use Rattle.line_forms.specs.Json.{ensured, try_fold}
use Rattle.topology_forms.specs.Rings.{arc_named, points_named, Taken, side_taken, index_taken}
use Rattle.ring_sides.specs.FaceRings.{is_on_left, is_left_of}
use Rattle.ring_sides.specs.Places.{FaceRing, Taking, index_takes, Takes, AreApart, AreTakenOnce}
use Rattle.ring_sides.proofs.TakenSides.{after_set, named_below}

-- ---- a step that may come to a fault

-- a step, and another one after it
pub in_turn : {S T F : Type 0} (P : S → Type 0) (Q : F → Type 0) (P' : T → Type 0) (Q' : F → Type 0) (r : Result S F) (next : S → Result T F) → MatchResult r P Q
    → ((fault : F) → Q fault → Q' fault) → ((s : S) → P s → MatchResult (next s) P' Q') → MatchResult (r >>= next) P' Q'
in_turn P Q P' Q' (Ok s) next h keep go = go s h
in_turn P Q P' Q' (Err fault) next h keep go = keep fault h

-- what follows from what a step leaves, and from its fault
pub so : {S F : Type 0} (P P' : S → Type 0) (Q Q' : F → Type 0) (r : Result S F) → ((s : S) → P s → P' s) → ((fault : F) → Q fault → Q' fault) → MatchResult r P Q
    → MatchResult r P' Q'
so P P' Q Q' (Ok s) ok err h = ok s h
so P P' Q Q' (Err fault) ok err h = err fault h

-- ---- the faces at one side of the arcs

abbrev pub taking : ℕ → Bool → ℕ → Taking
taking a left f = record { arc = a; left = left; face = f }

-- They are those that take it, and 0 where none does.
pub record AreFacesAt (takings : List Taking) (left : Bool) (faces : List ℕ) : Type 0 where
  pub taken : (a : ℕ) → 1 ≤ get_or faces a 0 → Takes takings a left (get_or faces a 0)
  pub known : (a g : ℕ) → Takes takings a left g → (get_or faces a 0 ≡ g) × (1 ≤ g)

same_taking : (a b : ℕ) (left : Bool) (f g : ℕ) → a ≡ b → f ≡ g → taking a left f ≡ taking b left g
same_taking a b left f g arc face = λ i. taking (arc i) left (face i)

-- one more side is taken, which was free
side_more : (takings : List Taking) (left : Bool) (faces : List ℕ) (a f : ℕ) → 1 ≤ f → a < length faces → get_or faces a 0 ≡ 0 → AreFacesAt takings left faces
    → AreFacesAt (takings ++ taking a left f ∷ []) left (set faces a f)
side_more takings left faces a f some inside free h = record {
  taken = λ b there. elim (after_set faces a f b) [
    | inl here ↦
        subst (Contains (takings ++ taking a left f ∷ [])) (same_taking a b left f (get_or (set faces a f) b 0) (sym here.0) (sym here.1))
        (Contains-push takings (taking a left f))
    | inr other ↦
        subst (Contains (takings ++ taking a left f ∷ [])) (same_taking b b left (get_or faces b 0) (get_or (set faces a f) b 0) refl (sym other))
        (Contains-append_left takings (taking a left f ∷ []) (taking b left (get_or faces b 0)) (h.taken b (omega (arith, other, there))))
  ];
  known = λ b g at. elim (Contains-push_cases takings (taking a left f) (taking b left g) at) [
    | inl before ↦
        (let old = h.known b g before in
        let other : b ≢ a = λ same. (let here : get_or faces b 0 ≡ 0 = ap (λ (c : ℕ). get_or faces c 0) same ∙ free in omega (arith, old.0, old.1, here)) in
        (get_or-set_other faces a b f 0 other ∙ old.0, old.1))
    | inr new ↦
        (let arc : a ≡ b = ap (λ (t : Taking). t.arc) new in
        let face : f ≡ g = ap (λ (t : Taking). t.face) new in
        (ap (λ (c : ℕ). get_or (set faces a f) c 0) (sym arc) ∙ get_or-set_same faces a f 0 inside ∙ face, omega (arith, face, some)))
  ];
}

-- at the other side all is as it was
other_more : (takings : List Taking) (left other : Bool) (faces : List ℕ) (a f : ℕ) → (left ≡ other → ⊥) → AreFacesAt takings other faces
    → AreFacesAt (takings ++ taking a left f ∷ []) other faces
other_more takings left other faces a f differ h = record {
  taken = λ b there. Contains-append_left takings (taking a left f ∷ []) (taking b other (get_or faces b 0)) (h.taken b there);
  known = λ b g at. elim (Contains-push_cases takings (taking a left f) (taking b other g) at) [
    | inl before ↦ h.known b g before
    | inr new ↦ absurd (differ (ap (λ (t : Taking). t.left) new))
  ];
}

-- no side is taken twice where a free one is taken
once_more : (takings : List Taking) (left : Bool) (faces : List ℕ) (a f : ℕ) → get_or faces a 0 ≡ 0 → AreFacesAt takings left faces → AreTakenOnce takings
    → AreTakenOnce (takings ++ taking a left f ∷ [])
once_more takings left faces a f free h once = all_pairs_push AreApart takings (taking a left f) once (λ k d inside. λ arc side.
    let t : Taking = get_or takings k d in
    let there : Contains takings t = (k, inside, get_or_default takings k t d inside) in
    let same : t ≡ taking a left t.face = λ i. record { arc = arc i; left = side i; face = t.face } in
    let old = h.known a t.face (subst (Contains takings) same there) in
    omega (arith, free, old.0, old.1))

-- ---- both sides

-- what is taken after these takings, on n arcs
pub record Holds (n : ℕ) (classes : List ℕ) (takings : List Taking) (taken : Taken) : Type 0 where
  pub same : taken.classes ≡ classes
  pub left : AreFacesAt takings true taken.left
  pub right : AreFacesAt takings false taken.right
  pub many_left : length taken.left ≡ n
  pub many_right : length taken.right ≡ n
  pub once : AreTakenOnce takings

-- A fault: after these takings, one of more takes a side again.
pub record IsAgain (takings more : List Taking) (fault : MapFault) : Type 0 where
  pub earlier : List Taking
  pub later : List Taking
  pub arc : ℕ
  pub left : Bool
  pub first : ℕ
  pub second : ℕ
  pub place : more ≡ earlier ++ taking arc left second ∷ later
  pub once : AreTakenOnce (takings ++ earlier)
  pub taken : Takes (takings ++ earlier) arc left first
  pub is : fault ≡ SideTaken arc (cond left 0 1) first second

-- it is so where more still follow, and where some of them are before
again_more : (takings more rest : List Taking) (fault : MapFault) → IsAgain takings more fault → IsAgain takings (more ++ rest) fault
again_more takings more rest fault h = record {
  earlier = h.earlier;
  later = h.later ++ rest;
  arc = h.arc;
  left = h.left;
  first = h.first;
  second = h.second;
  place = ap (λ ts. ts ++ rest) h.place ∙ append_assoc h.earlier (taking h.arc h.left h.second ∷ h.later) rest;
  once = h.once;
  taken = h.taken;
  is = h.is;
}

again_before : (takings some more : List Taking) (fault : MapFault) → IsAgain (takings ++ some) more fault → IsAgain takings (some ++ more) fault
again_before takings some more fault h =
    let same : (takings ++ some) ++ h.earlier ≡ takings ++ (some ++ h.earlier) = append_assoc takings some h.earlier in record {
      earlier = some ++ h.earlier;
      later = h.later;
      arc = h.arc;
      left = h.left;
      first = h.first;
      second = h.second;
      place = ap (λ ts. some ++ ts) h.place ∙ sym (append_assoc some h.earlier (taking h.arc h.left h.second ∷ h.later));
      once = subst AreTakenOnce same h.once;
      taken = subst (λ ts. Takes ts h.arc h.left h.first) same h.taken;
      is = h.is;
    }

module _ (n : ℕ) (classes : List ℕ) (takings : List Taking) (taken : Taken) (h : Holds n classes takings taken) (a f : ℕ) (some : 1 ≤ f) (inside : a < n) where
  -- the side was taken before
  again : (left : Bool) (first : ℕ) → Takes takings a left first → IsAgain takings (taking a left f ∷ []) (SideTaken a (cond left 0 1) first f)
  again left first there = record {
    earlier = [];
    later = [];
    arc = a;
    left = left;
    first = first;
    second = f;
    place = refl;
    once = subst AreTakenOnce (sym (append-nil takings)) h.once;
    taken = subst (λ ts. Takes ts a left first) (sym (append-nil takings)) there;
    is = refl;
  }

  side_step : (left : Bool) → MatchResult (side_taken left a f taken) (Holds n classes (takings ++ taking a left f ∷ [])) (IsAgain takings (taking a left f ∷ []))
  unfolding side_taken
  side_step true = by (get_or taken.left a 0 == 0) refl
    where
      by : (free : Bool) → (get_or taken.left a 0 == 0) ≡ free
          → MatchResult (ensured free (SideTaken a 0 (get_or taken.left a 0) f) >>= λ _. Ok (record { classes = taken.classes; left = set taken.left a f; right = taken.right }))
          (Holds n classes (takings ++ taking a true f ∷ [])) (IsAgain takings (taking a true f ∷ []))
      by true e =
          let free = eqb-true (get_or taken.left a 0) 0 e in record {
            same = h.same;
            left = side_more takings true taken.left a f some (omega (arith, h.many_left, inside)) free h.left;
            right = other_more takings true false taken.right a f true≢false h.right;
            many_left = length-set taken.left a f ∙ h.many_left;
            many_right = h.many_right;
            once = once_more takings true taken.left a f free h.left h.once;
          }
      by false e = (let there = eqb-false (get_or taken.left a 0) 0 e in again true (get_or taken.left a 0) (h.left.taken a (omega (arith, there))))
  side_step false = by (get_or taken.right a 0 == 0) refl
    where
      by : (free : Bool) → (get_or taken.right a 0 == 0) ≡ free
          → MatchResult (ensured free (SideTaken a 1 (get_or taken.right a 0) f) >>= λ _. Ok (record { classes = taken.classes; left = taken.left; right = set taken.right a f }))
          (Holds n classes (takings ++ taking a false f ∷ [])) (IsAgain takings (taking a false f ∷ []))
      by true e =
          let free = eqb-true (get_or taken.right a 0) 0 e in record {
            same = h.same;
            left = other_more takings false true taken.left a f (λ z. true≢false (sym z)) h.left;
            right = side_more takings false taken.right a f some (omega (arith, h.many_right, inside)) free h.right;
            many_left = h.many_left;
            many_right = length-set taken.right a f ∙ h.many_right;
            once = once_more takings false taken.right a f free h.right h.once;
          }
      by false e = (let there = eqb-false (get_or taken.right a 0) 0 e in again false (get_or taken.right a 0) (h.right.taken a (omega (arith, there))))

-- ---- the places of a ring

module _ (arcs : List (List Point)) (ring : FaceRing) (some : 1 ≤ ring.face) (classes : List ℕ) where
  -- the next place
  index_step : (i : ℤ) (takings : List Taking) (taken : Taken) → Holds (length arcs) classes takings taken
      → MatchResult (index_taken arcs (is_on_left arcs ring.exterior ring.indexes) ring.face taken i) (Holds (length arcs) classes (takings ++ index_takes arcs ring i)) (IsAgain takings (index_takes arcs ring i))
  index_step i takings taken h = by (nat_lt (length (points_named arcs i)) 2) refl
    where
      side : Bool
      side = is_left_of arcs ring.exterior ring.indexes i

      takes : Bool → List Taking
      takes short = cond short [] (taking (arc_named i) side ring.face ∷ [])

      by : (short : Bool) → nat_lt (length (points_named arcs i)) 2 ≡ short
          → MatchResult (cond short (Ok taken) (side_taken side (arc_named i) ring.face taken)) (Holds (length arcs) classes (takings ++ takes short)) (IsAgain takings (takes short))
      by true e = subst (λ ts. Holds (length arcs) classes ts taken) (sym (append-nil takings)) h
      by false e =
          let long = ltb-false (length (points_named arcs i)) 2 e in
          side_step (length arcs) classes takings taken h (arc_named i) ring.face some (named_below arcs ring.face i long) side

  -- all of them
  pub places_step : (indexes : List ℤ) (takings : List Taking) (taken : Taken) → Holds (length arcs) classes takings taken
      → MatchResult (try_fold (index_taken arcs (is_on_left arcs ring.exterior ring.indexes) ring.face) taken indexes)
      (Holds (length arcs) classes (takings ++ flat_map (index_takes arcs ring) indexes)) (IsAgain takings (flat_map (index_takes arcs ring) indexes))
  places_step [] takings taken h = subst (λ ts. Holds (length arcs) classes ts taken) (sym (append-nil takings)) h
  places_step (i ∷ indexes) takings taken h =
      let first : List Taking = index_takes arcs ring i in
      let rest : List Taking = flat_map (index_takes arcs ring) indexes in
      in_turn (Holds (length arcs) classes (takings ++ first)) (IsAgain takings first) (Holds (length arcs) classes (takings ++ (first ++ rest))) (IsAgain takings (first ++ rest))
      (index_taken arcs (is_on_left arcs ring.exterior ring.indexes) ring.face taken i) (λ next. try_fold (index_taken arcs (is_on_left arcs ring.exterior ring.indexes) ring.face) next indexes) (index_step i takings taken h)
      (again_more takings first rest)
      (λ next now. so (Holds (length arcs) classes ((takings ++ first) ++ rest)) (Holds (length arcs) classes (takings ++ (first ++ rest)))
      (IsAgain (takings ++ first) rest) (IsAgain takings (first ++ rest)) (try_fold (index_taken arcs (is_on_left arcs ring.exterior ring.indexes) ring.face) next indexes)
      (λ u. subst (λ ts. Holds (length arcs) classes ts u) (append_assoc takings first rest)) (again_before takings first rest)
      (places_step indexes (takings ++ first) next now))
