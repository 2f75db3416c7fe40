-- At most one base map has the sides that the rings of a topology take, and none has them where the rings come to a fault.
use Rattle.std.proofs.Common.{◌≡◌, inl, inr, ℕ, ◌<◌, Bool, true, false, List, [], ◌∷◌, ◌++◌, AllPairs, Contains, Result, Ok, Err, IfOk, refl, sym, ap, ◌∙◌, subst, append_assoc, arith, IsTrue}
use Rattle.std.specs.List.{AllZip}
use Rattle.std.proofs.lemmas.Bool.{cases_eq}
use Rattle.std.proofs.lemmas.List.Concat.{flat_map-append}
use Rattle.std.proofs.lemmas.List.Elements.{All-contains, Contains-append_right}
use Rattle.lemmas.proofs.Members.{in_head, in_tail, in_cases, AllPairs-head, AllPairs-tail}
use Rattle.tgap_model.specs.declared.base.BaseArc.{BaseArc}
use Rattle.tgap_model.specs.declared.topology.NamedRules.{NamedRules}
use Rattle.tgap_model.specs.declared.topology.RawMap.{RawMap}
use Rattle.tgap_model.specs.declared.failure.Or.{Or}
use Rattle.tgap_model.specs.declared.failure.Or.TheVariants.{Fault}
use Rattle.tgap_model.specs.declared.fault.MapFault.{MapFault}
use Rattle.tgap_model.specs.declared.fault.MapFault.TheVariants.{RingOpen, RingFlat, SideTaken, SameSides}
use Rattle.tgap_model.specs.Base.{BaseMap}
use Rattle.topology_forms.specs.Rings.{based, is_raw_map}
use Rattle.plain_io.specs.Taking.{GivesWhole}
use Rattle.ring_sides.specs.FaceRings.{IsWhole}
use Rattle.ring_sides.specs.Places.{FaceRing, face_rings, Taking, ring_takes, rings_take, sides_taken, AreApart, AreTakenOnce}
use Rattle.ring_sides.specs.Sides.{IsFaceAt, IsSidedArc, AreArcsTaken, HasRingSides}
use Rattle.ring_sides.specs.RingFaults.{TakesAgain, IsFaultAmong, TakesBothSides, IsRingFault}
use Rattle.ring_sides.proofs.RingTakings.{ring_is_of}
use Rattle.ring_sides.proofs.RingSides.{based_has_sides, based_fault_is_first}

-- ---- at most one

-- each of a pair is in the relation, the one that stands before the other
pair_first : {A : Type 0} (R : A → A → Type 0) (x : A) (xs : List A) (y : A) → AllPairs R (x ∷ xs) → Contains xs y → R x y
pair_first R x xs y h at = All-contains (R x) xs y (AllPairs-head R x xs h) at

-- two ascending lists with the same members are one list
same_numbers : (xs ys : List ℕ) → AllPairs ◌<◌ xs → AllPairs ◌<◌ ys → ((a : ℕ) → Contains xs a → Contains ys a) → ((a : ℕ) → Contains ys a → Contains xs a) → xs ≡ ys
same_numbers [] [] up up' there back = refl
same_numbers [] (y ∷ ys) up up' there back = absurd (let at = back y (in_head y ys) in omega (arith, at.1))
same_numbers (x ∷ xs) [] up up' there back = absurd (let at = there x (in_head x xs) in omega (arith, at.1))
same_numbers (x ∷ xs) (y ∷ ys) up up' there back =
    λ i. first i ∷ same_numbers xs ys (AllPairs-tail ◌<◌ x xs up) (AllPairs-tail ◌<◌ y ys up') there' back' i
  where
    first : x ≡ y
    first = elim (in_cases y ys x (there x (in_head x xs))) [
      | inl same ↦ sym same
      | inr later ↦ elim (in_cases x xs y (back y (in_head y ys))) [
        | inl same ↦ same
        | inr after ↦ absurd (let low = pair_first ◌<◌ y ys x up' later in let high = pair_first ◌<◌ x xs y up after in omega (arith, low, high))
      ]
    ]

    there' : (a : ℕ) → Contains xs a → Contains ys a
    there' a at = elim (in_cases y ys a (there a (in_tail x xs a at))) [
      | inl same ↦ absurd (let high = pair_first ◌<◌ x xs a up at in omega (arith, first, same, high))
      | inr later ↦ later
    ]

    back' : (a : ℕ) → Contains ys a → Contains xs a
    back' a at = elim (in_cases x xs a (back a (in_tail y ys a at))) [
      | inl same ↦ absurd (let high = pair_first ◌<◌ y ys a up' at in omega (arith, first, same, high))
      | inr later ↦ later
    ]

-- items that a relation tells are one list
same_items : {A B : Type 0} (R : A → B → Type 0) → ((a : A) (x y : B) → R a x → R a y → x ≡ y) → (as' : List A) (xs ys : List B) → AllZip R as' xs → AllZip R as' ys → xs ≡ ys
same_items R one [] [] [] h h' = refl
same_items R one [] [] (y ∷ ys) h h' = absurd h'
same_items R one [] (x ∷ xs) ys h h' = absurd h
same_items R one (a ∷ as') [] ys h h' = absurd h
same_items R one (a ∷ as') (x ∷ xs) [] h h' = absurd h'
same_items R one (a ∷ as') (x ∷ xs) (y ∷ ys) h h' = λ i. one a x y h.0 h'.0 i ∷ same_items R one as' xs ys h.1 h'.1 i

module _ (raw : RawMap) where
  same_face : (a : ℕ) (left : Bool) (f g : ℕ) → IsFaceAt raw a left f → IsFaceAt raw a left g → f ≡ g
  same_face a left f g hf hg = elim (cases_eq f 0) [
    | inr some ↦ hg.alone f (hf.taken some)
    | inl none ↦ elim (cases_eq g 0) [ inl none' ↦ none ∙ sym none' | inr some ↦ absurd (hf.free none g (hg.taken some)) ]
  ]

  same_arc : (a : ℕ) (x y : BaseArc) → IsSidedArc raw a x → IsSidedArc raw a y → x ≡ y
  same_arc a x y hx hy =
      let left = same_face a true x.left y.left hx.left hy.left in
      let right = same_face a false x.right y.right hx.right hy.right in
      let points = hx.points ∙ sym hy.points in
      λ i. record { left = left i; right = right i; points = points i }

  same_kept : (ns ms : List ℕ) → AreArcsTaken raw ns → AreArcsTaken raw ms → ns ≡ ms
  same_kept ns ms hn hm =
      same_numbers ns ms hn.ascending hm.ascending (λ a at. let t = hn.taken a at in hm.all a t.0 t.1 t.2) (λ a at. let t = hm.taken a at in hn.all a t.0 t.1 t.2)

pub one_base : (raw : RawMap) (named : NamedRules) (m n : BaseMap) → HasRingSides raw named m → HasRingSides raw named n → m ≡ n
one_base raw named m n hm hn =
    let transform = hm.transform ∙ sym hn.transform in
    let rules = hm.rules ∙ sym hn.rules in
    let classes = hm.classes ∙ sym hn.classes in
    let numbers = same_kept raw hm.numbers hn.numbers hm.kept hn.kept in
    let arcs = same_items (IsSidedArc raw) (same_arc raw) hn.numbers m.arcs n.arcs (subst (λ (ns : List ℕ). AllZip (IsSidedArc raw) ns m.arcs) numbers hm.arcs) hn.arcs in
    λ i. record { transform = transform i; rules = rules i; classes = classes i; arcs = arcs i }

-- ---- none where there is a fault

-- what stands before and after in a list
pair_across : {A : Type 0} (R : A → A → Type 0) (front : List A) (y : A) (rest : List A) (x : A) → AllPairs R (front ++ y ∷ rest) → Contains front x → R x y
pair_across R [] y rest x h at = absurd (omega (arith, at.1))
pair_across R (z ∷ front) y rest x h at = elim (in_cases z front x at) [
  | inl same ↦
      subst (λ w. R w y) same (pair_first R z (front ++ y ∷ rest) y h (Contains-append_right front (y ∷ rest) y (in_head y rest)))
  | inr later ↦ pair_across R front y rest x (AllPairs-tail R z (front ++ y ∷ rest) h) later
]

-- an item of a list that is told with another one
item_of : {A B : Type 0} (R : A → B → Type 0) (as' : List A) (xs : List B) (a : A) → AllZip R as' xs → Contains as' a → (x : B) × R a x
item_of R [] xs a h at = absurd (omega (arith, at.1))
item_of R (b ∷ as') [] a h at = absurd h
item_of R (b ∷ as') (x ∷ xs) a h at = elim (in_cases b as' a at) [ inl same ↦ (x, subst (λ c. R c x) same h.0) | inr later ↦ item_of R as' xs a h.1 later ]

module _ (raw : RawMap) (named : NamedRules) (base : BaseMap) (s : HasRingSides raw named base) where
  both_sides : (a f : ℕ) → TakesBothSides raw a f → ⊥
  both_sides a f h =
      let item = item_of (IsSidedArc raw) s.numbers base.arcs a s.arcs (s.kept.all a true f h.left) in
      item.1.apart (sym (item.1.left.alone f h.left) ∙ item.1.right.alone f h.right)

  -- the ring of the fault is whole
  ring_whole : (fault : MapFault) (h : IsFaultAmong raw.arcs (face_rings raw) fault) → IsWhole raw.arcs h.ring.indexes
  ring_whole fault h =
      let there = subst (λ rings. Contains rings h.ring) (sym h.order) (Contains-append_right h.before (h.ring ∷ h.after) h.ring (in_head h.ring h.after)) in
      s.rings h.ring.face h.ring.exterior h.ring.indexes (ring_is_of raw h.ring there)

  -- a side that is taken again is taken twice
  again : (before : List FaceRing) (ring : FaceRing) (after : List FaceRing) (a side f g : ℕ) → face_rings raw ≡ before ++ ring ∷ after → TakesAgain raw.arcs before ring a side f g → ⊥
  again before ring after a side f g order h =
      let t : Taking = record { arc = a; left = h.left; face = g } in
      let rest = rings_take raw.arcs after in
      let split : sides_taken raw ≡ rings_take raw.arcs before ++ (ring_takes raw.arcs ring ++ rest) =
      ap (rings_take raw.arcs) order ∙ flat_map-append (ring_takes raw.arcs) before (ring ∷ after) in
      let within : ring_takes raw.arcs ring ++ rest ≡ h.earlier ++ (t ∷ (h.later ++ rest)) = ap (λ ts. ts ++ rest) h.place ∙ append_assoc h.earlier (t ∷ h.later) rest in
      let all : sides_taken raw ≡ (rings_take raw.arcs before ++ h.earlier) ++ (t ∷ (h.later ++ rest)) =
      split ∙ ap (λ ts. rings_take raw.arcs before ++ ts) within ∙ sym (append_assoc (rings_take raw.arcs before) h.earlier (t ∷ (h.later ++ rest))) in
      pair_across AreApart (rings_take raw.arcs before ++ h.earlier) t (h.later ++ rest) (record { arc = a; left = h.left; face = f }) (subst AreTakenOnce all s.once) h.taken refl refl

  pub fault_has_none : (fault : MapFault) → IsRingFault raw fault → ⊥
  fault_has_none (SameSides a f) h = both_sides a f h
  fault_has_none (RingOpen r place) h = h.wrong.gap ((ring_whole (RingOpen r place) h).closed place h.wrong.inside)
  fault_has_none (RingFlat r) h = (ring_whole (RingFlat r) h).wide h.wrong.flat
  fault_has_none (SideTaken a side f g) h = again h.before h.ring h.after a side f g h.order h.wrong
  fault_has_none fault h = h.wrong

-- ---- a call that answers so

pub only_told : (raw : RawMap) (named : NamedRules) (result : Result BaseMap (Or MapFault)) → IsTrue (is_raw_map raw) → GivesWhole result (based raw named)
    → (other : BaseMap) → HasRingSides raw named other → IfOk result (λ base. base ≡ other)
only_told raw named (Ok base) formed exact other h = one_base raw named base other (based_has_sides raw named base formed exact) h
only_told raw named (Err e) formed exact other h = tt

pub refused_told : (raw : RawMap) (named : NamedRules) (result : Result BaseMap (Or MapFault)) → IsTrue (is_raw_map raw) → GivesWhole result (based raw named)
    → (base : BaseMap) → HasRingSides raw named base → (fault : MapFault) → result ≡ Err (Fault fault) → ⊥
refused_told raw named result formed exact base h fault e =
    fault_has_none raw named base h fault
    (based_fault_is_first raw named fault formed (subst (λ (r : Result BaseMap (Or MapFault)). GivesWhole r (based raw named)) e exact))
