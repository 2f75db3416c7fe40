-- Which part has a side: the one that takes it when the polygons are read.
use Rattle.std.proofs.Common.{◌≡◌, ◌≢◌, ◌⊎◌, inl, inr, ℕ, suc, ◌+◌, ◌<◌, ◌≤◌, Bool, true, false, if◌then◌else◌, List, [], ◌∷◌, ◌++◌, length, map, get_or, All, AllPairs, Contains, refl, sym, ap, ap₂, ◌∙◌, subst, true≢false, arith}
use Rattle.std.proofs.lemmas.List.{map-append, get_or-map}
use Rattle.std.proofs.lemmas.List.Concat.{flat_map-append}
use Rattle.std.proofs.lemmas.List.Elements.{All-head, All-tail, All-contains, Contains-append_left, Contains-append_right, Contains-append_cases, Contains-get_or}
use Rattle.std.proofs.lemmas.List.Kept.{AllPairs-cons}
use Rattle.lemmas.proofs.Members.{in_cases, in_none, All-from_members, AllPairs-nil, AllPairs-head, AllPairs-tail, AllPairs-append, AllPairs-from_map, related_members, Contains-map, Contains-from_map, Contains-flat_map, Contains-from_flat_map}
use Rattle.ring_walk.specs.declared.side.Side.{Side}
use Rattle.ring_walk.specs.declared.side.Way.{Way}
use Rattle.ring_walk.specs.declared.side.Way.TheVariants.{Along, Against}
use Rattle.ring_walk.specs.Rings.{is_in_ring}
use Rattle.ring_sides.specs.Places.{Taking, AreTakenOnce}
use Rattle.topo_write.specs.Polygons.{Polygon}
use Rattle.ring_walk.specs.Orbits.{sides_of}
use Rattle.topo_laws.specs.ReadBack.{part_from, part_face}
use Rattle.ring_walk.proofs.RingOrbits.{in_rings, from_in_rings}
use Rattle.topo_laws.proofs.PartRings.{Differ, rings_in}
use Rattle.topo_laws.proofs.PartSides.{is_along, taking_of, takes_from}

abbrev Once : List Side → Type 0
Once ss = AllPairs (λ s t. s ≢ t) ss

-- ---- pairs of a list in two parts

module _ {A : Type 0} (R : A → A → Type 0) where
  pairs_front : (xs ys : List A) → AllPairs R (xs ++ ys) → AllPairs R xs
  pairs_front [] ys h = AllPairs-nil R
  pairs_front (x ∷ xs) ys h =
      AllPairs-cons R x xs
      (All-from_members (R x) xs (λ y c. All-contains (R x) (xs ++ ys) y (AllPairs-head R x (xs ++ ys) h) (Contains-append_left xs ys y c)))
      (pairs_front xs ys (AllPairs-tail R x (xs ++ ys) h))

  pairs_back : (xs ys : List A) → AllPairs R (xs ++ ys) → AllPairs R ys
  pairs_back [] ys h = h
  pairs_back (x ∷ xs) ys h = pairs_back xs ys (AllPairs-tail R x (xs ++ ys) h)

  pairs_across : (xs ys : List A) (x y : A) → AllPairs R (xs ++ ys) → Contains xs x → Contains ys y → R x y
  pairs_across [] ys x y h c d = absurd (in_none x c)
  pairs_across (z ∷ xs) ys x y h c d = elim (in_cases z xs x c) [
    | inl e ↦ subst (λ w. R w y) e (All-contains (R z) (xs ++ ys) y (AllPairs-head R z (xs ++ ys) h) (Contains-append_right xs ys y d))
    | inr later ↦ pairs_across xs ys x y (AllPairs-tail R z (xs ++ ys) h) later d
  ]

-- ---- rings without a common side

abbrev AreDisjoint : List Side → List Side → Type 0
AreDisjoint q r = (s : Side) → Contains q s → Contains r s → ⊥

rings_disjoint : (rings : List (List Side)) → Once (sides_of rings) → AllPairs AreDisjoint rings
rings_disjoint [] once = AllPairs-nil AreDisjoint
rings_disjoint (q ∷ rings) once =
    AllPairs-cons AreDisjoint q rings
    (All-from_members (AreDisjoint q) rings (λ r c s a b. pairs_across (λ s t. s ≢ t) q (sides_of rings) s s once a (Contains-flat_map (λ (x : List Side). x) rings r s c b) refl))
    (rings_disjoint rings (pairs_back (λ s t. s ≢ t) q (sides_of rings) once))

own_once : (rings : List (List Side)) (q : List Side) → Once (sides_of rings) → Contains rings q → Once q
own_once [] q once c = absurd (in_none q c)
own_once (r ∷ rings) q once c = elim (in_cases r rings q c) [
  | inl e ↦ subst Once e (pairs_front (λ s t. s ≢ t) r (sides_of rings) once)
  | inr later ↦ own_once rings q (pairs_back (λ s t. s ≢ t) r (sides_of rings) once) later
]

-- rings that have a side are different
pub rings_differ : (rings : List (List Side)) → Once (sides_of rings) → All (λ r. 0 < length r) rings → Differ rings
rings_differ rings once some i j d less short same =
    let q = get_or rings i d in
    let e : Side = record { span = 0; way = Along } in
    let c = Contains-get_or q 0 e (some i d (omega (arith, less, short))) in
    rings_disjoint rings once i j d less short (get_or q 0 e) c (subst (λ r. Contains r (get_or q 0 e)) same c)

-- different ones of rings whose sides differ
pub sides_once : (all rings : List (List Side)) → Once (sides_of all) → All (Contains all) rings → Differ rings → Once (sides_of rings)
sides_once all [] once within differ = AllPairs-nil (λ s t. s ≢ t)
sides_once all (q ∷ rings) once within differ =
    let here = All-head (Contains all) q rings within in
    let later = All-tail (Contains all) q rings within in
    AllPairs-append (λ s t. s ≢ t) q (sides_of rings) (own_once all q once here)
    (sides_once all rings once later (AllPairs-tail (λ x y. x ≢ y) q rings differ))
    (All-from_members (λ s. All (λ t. s ≢ t) (sides_of rings)) q (λ s c. All-from_members (λ t. s ≢ t) (sides_of rings) (λ t d same.
    let r = Contains-from_flat_map (λ (x : List Side). x) rings t d in
    apart q r.0 here (All-contains (Contains all) rings r.0 later r.1) (All-contains (λ y. q ≢ y) rings r.0 (AllPairs-head (λ x y. x ≢ y) q rings differ) r.1) t
    (subst (Contains q) same c) r.2)))
  where
    apart : (q r : List Side) → Contains all q → Contains all r → q ≢ r → AreDisjoint q r
    apart q r c d ne s a b = elim (related_members AreDisjoint all (rings_disjoint all once) q r c d) [
      | inl e ↦ ne e
      | inr h ↦ elim h [ inl f ↦ f s a b | inr g ↦ g s b a ]
    ]

-- ---- takings

abbrev side : ℕ → Way → Side
side i w = record { span = i; way = w }

abbrev pub side_in : Taking → Side
side_in t = side t.arc (if t.left then Along else Against)

pub side_of_taking : (f : ℕ) (s : Side) → side_in (taking_of f s) ≡ s
side_of_taking f s = by s.way
  where
    by : (w : Way) → side s.span (if is_along w then Along else Against) ≡ side s.span w
    by Along = refl
    by Against = refl

sides_back : (f : ℕ) (ss : List Side) → map side_in (map (taking_of f) ss) ≡ ss
sides_back f [] = refl
sides_back f (s ∷ ss) = ap₂ (λ (t : Side) (ts : List Side). t ∷ ts) (side_of_taking f s) (sides_back f ss)

pub sides_taken_are : (f : ℕ) (polygons : List Polygon) → map side_in (takes_from f polygons) ≡ sides_of (rings_in polygons)
sides_taken_are f [] = refl
sides_taken_are f (p ∷ polygons) =
    map-append side_in (map (taking_of f) (sides_of p.rings)) (takes_from (f + 1) polygons)
    ∙ ap₂ (λ (us ts : List Side). us ++ ts) (sides_back f (sides_of p.rings)) (sides_taken_are (f + 1) polygons)
    ∙ sym (flat_map-append (λ (x : List Side). x) p.rings (rings_in polygons))

-- no side is taken twice
pub taken_once : (f : ℕ) (polygons : List Polygon) → Once (sides_of (rings_in polygons)) → AreTakenOnce (takes_from f polygons)
taken_once f polygons once i j d less short e g =
    AllPairs-from_map (λ s t. s ≢ t) side_in (takes_from f polygons) (subst Once (sym (sides_taken_are f polygons)) once) i j d less short
    (ap₂ (λ (a : ℕ) (b : Bool). side a (if b then Along else Against)) e g)

split : (p : Polygon) (polygons : List Polygon) → sides_of (rings_in (p ∷ polygons)) ≡ sides_of p.rings ++ sides_of (rings_in polygons)
split p polygons = flat_map-append (λ (x : List Side). x) p.rings (rings_in polygons)

-- the face that takes a side is the part that has it
pub taken_by_part : (f : ℕ) (polygons : List Polygon) → Once (sides_of (rings_in polygons)) → (t : Taking) → Contains (takes_from f polygons) t
    → (t.face ≡ part_from f polygons (side_in t)) × (f ≤ t.face)
taken_by_part f [] once t c = absurd (in_none t c)
taken_by_part f (p ∷ polygons) once t c = elim (Contains-append_cases (map (taking_of f) (sides_of p.rings)) (takes_from (f + 1) polygons) t c) [
  | inl here ↦
      let s = Contains-from_map (taking_of f) (sides_of p.rings) t here in
      subst (λ (u : Taking). (u.face ≡ part_from f (p ∷ polygons) (side_in u)) × (f ≤ u.face)) s.2 (
        sym (ap (λ (x : Side). part_from f (p ∷ polygons) x) (side_of_taking f s.0)
            ∙ ap (λ (b : Bool). if b then f else part_from (f + 1) polygons s.0) (in_rings p.rings s.0 s.1)),
        omega arith,
      )
  | inr later ↦
      let rest = taken_by_part (f + 1) polygons (pairs_back (λ s t. s ≢ t) (sides_of p.rings) (sides_of (rings_in polygons)) (subst Once (split p polygons) once)) t later in
      let there = subst (λ ss. Contains ss (side_in t)) (sides_taken_are (f + 1) polygons) (Contains-map side_in (takes_from (f + 1) polygons) t later) in
      let out : is_in_ring p.rings (side_in t) ≡ false = not_here t there (is_in_ring p.rings (side_in t)) refl in
      let low = rest.1 in
      (rest.0 ∙ sym (ap (λ (b : Bool). if b then f else part_from (f + 1) polygons (side_in t)) out), omega (arith, low))
]
  where
    not_here : (t : Taking) → Contains (sides_of (rings_in polygons)) (side_in t) → (b : Bool) → is_in_ring p.rings (side_in t) ≡ b → b ≡ false
    not_here t d false e = refl
    not_here t d true e =
        absurd (pairs_across (λ s t. s ≢ t) (sides_of p.rings) (sides_of (rings_in polygons)) (side_in t) (side_in t) (subst Once (split p polygons) once)
        (from_in_rings p.rings (side_in t) e) d refl)

-- and the part that has a side takes it
pub part_takes : (f : ℕ) (polygons : List Polygon) (s : Side) → part_from f polygons s ≢ 0 → Contains (takes_from f polygons) (taking_of (part_from f polygons s) s)
part_takes f [] s ne = absurd (ne refl)
part_takes f (p ∷ polygons) s ne = by (is_in_ring p.rings s) refl ne (part_takes (f + 1) polygons s)
  where
    by : (b : Bool) → is_in_ring p.rings s ≡ b → (if b then f else part_from (f + 1) polygons s) ≢ 0
        → (part_from (f + 1) polygons s ≢ 0 → Contains (takes_from (f + 1) polygons) (taking_of (part_from (f + 1) polygons s) s))
        → Contains (takes_from f (p ∷ polygons)) (taking_of (if b then f else part_from (f + 1) polygons s) s)
    by true e ne rest = Contains-append_left (map (taking_of f) (sides_of p.rings)) (takes_from (f + 1) polygons) (taking_of f s)
        (Contains-map (taking_of f) (sides_of p.rings) s (from_in_rings p.rings s e))
    by false e ne rest = Contains-append_right (map (taking_of f) (sides_of p.rings)) (takes_from (f + 1) polygons) (taking_of (part_from (f + 1) polygons s) s)
        (rest ne)

-- ---- the place of a part

pub record IsPartAt (f : ℕ) (polygons : List Polygon) (s : Side) : Type 0 where
  pub place : ℕ
  pub within : place < length polygons
  pub number : part_from f polygons s ≡ f + place
  pub has : (d : Polygon) → Contains (sides_of (get_or polygons place d).rings) s

pub part_at : (f : ℕ) (polygons : List Polygon) (s : Side) → part_from f polygons s ≢ 0 → IsPartAt f polygons s
part_at f [] s ne = absurd (ne refl)
part_at f (p ∷ polygons) s ne = by (is_in_ring p.rings s) refl ne (part_at (f + 1) polygons s)
  where
    by : (b : Bool) → is_in_ring p.rings s ≡ b → (if b then f else part_from (f + 1) polygons s) ≢ 0
        → (part_from (f + 1) polygons s ≢ 0 → IsPartAt (f + 1) polygons s) → IsPartAt f (p ∷ polygons) s
    by true e ne rest = record {
      place = 0;
      within = omega arith;
      number = let same : f ≡ f + 0 = omega arith in ap (λ (b : Bool). if b then f else part_from (f + 1) polygons s) e ∙ same;
      has = λ d. from_in_rings p.rings s e;
    }
    by false e ne rest =
        let h = rest ne in
        let within = h.within in
        let next : f + 1 + h.place ≡ f + suc h.place = omega arith in
        record {
          place = suc h.place;
          within = omega (arith, within);
          number = ap (λ (b : Bool). if b then f else part_from (f + 1) polygons s) e ∙ h.number ∙ next;
          has = h.has;
        }

-- a side of a part has one
pub part_found : (f : ℕ) (polygons : List Polygon) (s : Side) (p : Polygon) → 1 ≤ f → Contains polygons p → Contains (sides_of p.rings) s → part_from f polygons s ≢ 0
part_found f [] s p one c d = absurd (in_none p c)
part_found f (q ∷ polygons) s p one c d = by (is_in_ring q.rings s) refl (in_cases q polygons p c) (λ later. part_found (f + 1) polygons s p (omega arith) later d)
  where
    by : (b : Bool) → is_in_ring q.rings s ≡ b → (q ≡ p) ⊎ Contains polygons p → (Contains polygons p → part_from (f + 1) polygons s ≢ 0) → part_from f (q ∷ polygons) s ≢ 0
    by true e h rest = λ z. let same : f ≡ 0 = sym (ap (λ (b : Bool). if b then f else part_from (f + 1) polygons s) e) ∙ z in absurd (omega (arith, same, one))
    by false e (inl same) rest = absurd (true≢false (sym (in_rings q.rings s (subst (λ (r : Polygon). Contains (sides_of r.rings) s) (sym same) d)) ∙ e))
    by false e (inr later) rest = λ z. rest later (sym (ap (λ (b : Bool). if b then f else part_from (f + 1) polygons s) e) ∙ z)

-- its face
pub face_of_place : (polygons : List Polygon) (i : ℕ) (d : Polygon) → i < length polygons → part_face polygons (1 + i) ≡ (get_or polygons i d).row.face
face_of_place polygons i d l =
    let next : 1 + i ≡ suc i = omega arith in
    ap (part_face polygons) next ∙ get_or-map (λ (p : Polygon). p.row.face) polygons i d 0 l
