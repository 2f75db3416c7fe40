-- What a topology and its rules make is a base map, where they come to no fault.
use Rattle.std.proofs.Common.{◌≡◌, ◌⊎◌, inl, inr, ℕ, zero, suc, ◌+◌, ◌<◌, ◌≤◌, ◌==◌, Bool, true, false, cond, IsTrue, List, [], ◌∷◌, length, get_or, sum_by, count_by, Result, Ok, refl, sym, ap, ◌∙◌, subst, arith}
use Rattle.std.specs.List.{list_all, list_any, range_with_len}
use Rattle.std.proofs.lemmas.Bool.{and_parts, and_from, or_left, or_right, not_from_false, leb-true, le-leb, eqb-true, eqb-false, eq-eqb, cases_eq}
use Rattle.std.proofs.lemmas.List.FromFn.{length-range_with_len, get_or-range_with_len}
use Rattle.std.proofs.lemmas.List.Sums.{list_all-from_AllPass, sum_by-cons}
use Rattle.tgap_model.specs.declared.geometry.Point.{Point}
use Rattle.tgap_model.specs.declared.base.BaseArc.{BaseArc}
use Rattle.tgap_model.specs.declared.topology.NamedRules.{NamedRules}
use Rattle.tgap_model.specs.declared.topology.RawMap.{RawMap}
use Rattle.tgap_model.specs.declared.fault.MapFault.{MapFault}
use Rattle.tgap_model.specs.declared.fault.MapFault.TheVariants.{SameSides}
use Rattle.tgap_model.specs.declared.limits.TheConstants.{MAX_ARCS, MAX_POINTS, MAX_FACES}
use Rattle.tgap_model.specs.Base.{BaseMap, is_transform, is_rules, is_arc, borders_face, all_faces_bordered, count_points, is_base}
use Rattle.line_forms.specs.Json.{ensured, try_fold}
use Rattle.line_forms.specs.Lines.{◌>>=◌ as ◌or>>=◌}
use Rattle.map_forms.specs.RulesFile.{is_named_rules}
use Rattle.topology_forms.specs.Topology.{has_ring}
use Rattle.topology_forms.specs.Rings.{Taken, polygon_taken, nothing_taken, sided_from, based, is_raw_arc, is_raw_map}
use Rattle.plain_io.proofs.Steps.{bound}
use Rattle.ring_sides.proofs.TakenSides.{ensured_holds, SideFacts, IsAt, TakenFacts}
use Rattle.ring_sides.proofs.TakenFaces.{named_facts, polygons_keep, nothing_is_taken}

-- ---- the arcs that have a side

-- What is known of those of these arcs that have a side, where these are the sides.
record SidedFacts (arcs : List (List Point)) (faces : ℕ) (left right : List ℕ) (sided : List BaseArc) : Type 0 where
  few_arcs : length sided ≤ length arcs
  few_points : count_points sided ≤ sum_by length arcs
  each : list_all (is_arc faces) sided ≡ true
  bordered : (f : ℕ) → 1 ≤ f → IsAt f left ⊎ IsAt f right → list_any (borders_face f) sided ≡ true

-- there is no arc, and so no face at one
no_arcs : (faces : ℕ) (left right : List ℕ) → SideFacts [] faces left → SideFacts [] faces right → SidedFacts [] faces left right []
no_arcs faces left right hl hr = record {
  few_arcs = omega arith;
  few_points = omega arith;
  each = refl;
  bordered = λ f some at. elim at [
    | inl x ↦ absurd (let long = hl.long x.0 (omega (arith, some, x.1)) in omega arith)
    | inr x ↦ absurd (let long = hr.long x.0 (omega (arith, some, x.1)) in omega arith)
  ];
}

-- a face stands at a side of the first arc or of a later one
at_cases : (f x : ℕ) (side : List ℕ) (a : ℕ) → get_or (x ∷ side) a 0 ≡ f → (x ≡ f) ⊎ IsAt f side
at_cases f x side zero e = inl e
at_cases f x side (suc a) e = inr (a, e)

sides_cases : (f l r : ℕ) (left right : List ℕ) → IsAt f (l ∷ left) ⊎ IsAt f (r ∷ right) → ((l ≡ f) ⊎ (r ≡ f)) ⊎ (IsAt f left ⊎ IsAt f right)
sides_cases f l r left right (inl at) = elim (at_cases f l left at.0 at.1) [ inl here ↦ inl (inl here) | inr later ↦ inr (inl later) ]
sides_cases f l r left right (inr at) = elim (at_cases f r right at.0 at.1) [ inl here ↦ inl (inr here) | inr later ↦ inr (inr later) ]

-- an arc with its sides
abbrev with_sides : List Point → ℕ → ℕ → BaseArc
with_sides points l r = record { left = l; right = r; points = points }

-- the first arc and those after it
module _ (faces : ℕ) (points : List Point) (arcs : List (List Point)) (l r : ℕ) (left right : List ℕ) where
  -- it is left out where its sides are free
  free_first : (sided : List BaseArc) → l ≡ 0 → r ≡ 0 → SidedFacts arcs faces left right sided → SidedFacts (points ∷ arcs) faces (l ∷ left) (r ∷ right) sided
  free_first sided el er h = record {
    few_arcs = omega (arith, h.few_arcs);
    few_points = omega (arith, h.few_points, sum_by-cons length points arcs);
    each = h.each;
    bordered = λ f some at. elim (sides_cases f l r left right at) [ inl here ↦ absurd (omega (arith, here, some, el, er)) | inr later ↦ h.bordered f some later ];
  }

  -- with two sides that differ it is an arc of the map
  first_is_arc : is_raw_arc points ≡ true → SideFacts (points ∷ arcs) faces (l ∷ left) → SideFacts (points ∷ arcs) faces (r ∷ right) → (l == r) ≡ false
      → is_arc faces (with_sides points l r) ≡ true
  unfolding is_arc
  first_is_arc raw hl hr apart =
      let repeat = and_parts _ _ raw in
      let limits = and_parts _ _ repeat.0 in
      let sides = and_from _ _ (le-leb l faces (hl.few 0)) (le-leb r faces (hr.few 0)) in
      and_from _ _ (and_from _ _ (and_from _ _ (and_from _ _ sides (not_from_false (l == r) apart)) (le-leb 2 (length points) long)) limits.1) repeat.1
    where
      long : 2 ≤ length points
      long = elim (cases_eq l 0) [
        | inr some ↦ hl.long 0 (omega (arith, some))
        | inl none ↦ hr.long 0 (let other = eqb-false l r apart in omega arith)
      ]

  -- and is kept
  sided_first : (sided : List BaseArc) → is_arc faces (with_sides points l r) ≡ true → SidedFacts arcs faces left right sided
      → SidedFacts (points ∷ arcs) faces (l ∷ left) (r ∷ right) (with_sides points l r ∷ sided)
  sided_first sided one h = record {
    few_arcs = omega (arith, h.few_arcs);
    few_points = omega (arith, h.few_points, sum_by-cons length points arcs, sum_by-cons (λ (b : BaseArc). length b.points) (with_sides points l r) sided);
    each = and_from _ _ one h.each;
    bordered = λ f some at. elim (sides_cases f l r left right at) [
      | inl here ↦ or_left _ (list_any (borders_face f) sided) (elim here [ inl e ↦ or_left _ (r == f) (eq-eqb l f e) | inr e ↦ or_right (l == f) _ (eq-eqb r f e) ])
      | inr later ↦ or_right (borders_face f (with_sides points l r)) _ (h.bordered f some later)
    ];
  }

-- the sides of the arcs after the first
side_rest : (points : List Point) (arcs : List (List Point)) (faces x : ℕ) (side : List ℕ) → SideFacts (points ∷ arcs) faces (x ∷ side) → SideFacts arcs faces side
side_rest points arcs faces x side h = record { entries = omega (arith, h.entries); few = λ a. h.few (suc a); long = λ a. h.long (suc a) }

sided_facts : (faces a : ℕ) (arcs : List (List Point)) (left right : List ℕ) (sided : List BaseArc) → list_all is_raw_arc arcs ≡ true
    → SideFacts arcs faces left → SideFacts arcs faces right → sided_from a arcs left right ≡ Ok sided → SidedFacts arcs faces left right sided
sided_facts faces a [] left right sided raw hl hr e = let none : [] ≡ sided = cc in subst (SidedFacts [] faces left right) none (no_arcs faces left right hl hr)
sided_facts faces a (points ∷ arcs) [] right sided raw hl hr e = absurd (omega (arith, hl.entries))
sided_facts faces a (points ∷ arcs) (l ∷ left) [] sided raw hl hr e = absurd (omega (arith, hr.entries))
sided_facts faces a (points ∷ arcs) (l ∷ left) (r ∷ right) sided raw hl hr e = by (l == r) refl e
    (λ rest. sided_facts faces (a + 1) arcs left right rest (and_parts _ _ raw).1 (side_rest points arcs faces l left hl) (side_rest points arcs faces r right hr))
  where
    -- what the arcs after the first come to
    later : Result (List BaseArc) MapFault
    later = sided_from (a + 1) arcs left right

    by : (same : Bool) → (l == r) ≡ same → cond same (ensured (l == 0) (SameSides a l) or>>= λ free. later) (later or>>= λ more. Ok (with_sides points l r ∷ more)) ≡ Ok sided
        → ((rest : List BaseArc) → later ≡ Ok rest → SidedFacts arcs faces left right rest) → SidedFacts (points ∷ arcs) faces (l ∷ left) (r ∷ right) sided
    by true same e facts =
        bound (λ free. later) (ensured (l == 0) (SameSides a l)) sided e (λ free known rest.
        let none = eqb-true l 0 (ensured_holds _ _ free known) in
        free_first faces points arcs l r left right sided none (let one = eqb-true l r same in omega arith) (facts sided rest))
    by false apart e facts =
        bound (λ more. Ok (with_sides points l r ∷ more)) later sided e (λ more rest made.
        let kept : with_sides points l r ∷ more ≡ sided = cc in
        let one = first_is_arc faces points arcs l r left right (and_parts _ _ raw).0 hl hr apart in
        subst (SidedFacts (points ∷ arcs) faces (l ∷ left) (r ∷ right)) kept (sided_first faces points arcs l r left right more one (facts more rest)))

-- ---- the base map

-- the form of a topology that was read
record RawFacts (raw : RawMap) : Type 0 where
  few_arcs : length raw.arcs ≤ MAX_ARCS
  few_points : sum_by length raw.arcs ≤ MAX_POINTS
  arcs : list_all is_raw_arc raw.arcs ≡ true
  few_faces : count_by has_ring raw.polygons ≤ MAX_FACES

raw_facts : (raw : RawMap) → is_raw_map raw ≡ true → RawFacts raw
unfolding is_raw_map
raw_facts raw h =
    let rings = and_parts _ _ h in
    let faces = and_parts _ _ rings.0 in
    let arcs = and_parts _ _ faces.0 in
    let points = and_parts _ _ arcs.0 in
    record { few_arcs = leb-true _ _ points.0; few_points = leb-true _ _ points.1; arcs = arcs.1; few_faces = leb-true _ _ faces.1 }

-- a test that each face passes
each_face : (test : ℕ → Bool) (faces : ℕ) → ((f : ℕ) → 1 ≤ f → f ≤ faces → test f ≡ true) → list_all test (range_with_len 1 faces) ≡ true
each_face test faces h = list_all-from_AllPass test (range_with_len 1 faces) (λ k d below.
    let short : k < faces = omega (arith, length-range_with_len 1 faces, below) in
    ap test (get_or-range_with_len 1 faces k d short) ∙ h (1 + k) (omega arith) (omega arith))

-- faces that all have a side make a base map with the arcs that have one
sided_is_base : (raw : RawMap) (named : NamedRules) (faces : ℕ) (taken : Taken) (arcs : List BaseArc) → RawFacts raw → is_rules named.rules ≡ true
    → is_transform raw.transform ≡ true → faces ≤ MAX_FACES → TakenFacts raw.arcs (length named.rules.weights) faces faces taken
    → SidedFacts raw.arcs faces taken.left taken.right arcs
    → is_base (record { transform = raw.transform; rules = named.rules; classes = taken.classes; arcs = arcs }) ≡ true
unfolding is_base
sided_is_base raw named faces taken arcs r rules transform few h s =
    let few_faces = le-leb (length taken.classes) MAX_FACES (omega (arith, h.count, few)) in
    let few_arcs = le-leb (length arcs) MAX_ARCS (omega (arith, s.few_arcs, r.few_arcs)) in
    let few_points = le-leb (count_points arcs) MAX_POINTS (omega (arith, s.few_points, r.few_points)) in
    let each = subst (λ (n : ℕ). list_all (is_arc n) arcs ≡ true) (sym h.count) s.each in
    let sides = each_face (λ f. list_any (borders_face f) arcs) faces (λ f some low. s.bordered f some (h.bordered f some low)) in
    let bordered = subst (λ (n : ℕ). all_faces_bordered n arcs ≡ true) (sym h.count) sides in
    let head = and_from _ _ (and_from _ _ (and_from _ _ transform rules) few_faces) h.named in
    and_from _ _ (and_from _ _ (and_from _ _ (and_from _ _ head few_arcs) few_points) each) bordered

-- what a topology and its rules make is a base map
pub based_is_base : (raw : RawMap) (named : NamedRules) (m : BaseMap) → IsTrue (is_raw_map raw) → IsTrue (is_named_rules named) → IsTrue (is_transform raw.transform)
    → based raw named ≡ Ok m → IsTrue (is_base m)
unfolding based
based_is_base raw named m hr hn ht e =
    let r = raw_facts raw hr in
    let n = named_facts named hn in
    let classes : ℕ = length named.rules.weights in
    let start : Taken = nothing_taken raw.arcs in
    bound _ (try_fold (polygon_taken raw.arcs named) start raw.polygons) m e (λ taken folded e1.
    bound _ (sided_from 0 raw.arcs taken.left taken.right) m e1 (λ arcs sided made.
    let all = polygons_keep raw.arcs named classes n 0 raw.polygons start taken folded (nothing_is_taken raw.arcs classes) in
    let s = sided_facts all.0 0 raw.arcs taken.left taken.right arcs r.arcs all.2.left all.2.right sided in
    let same : record { transform = raw.transform; rules = named.rules; classes = taken.classes; arcs = arcs } ≡ m = cc in
    let few : all.0 ≤ MAX_FACES = omega (arith, all.1, r.few_faces) in
    subst (λ (b : BaseMap). is_base b ≡ true) same (sided_is_base raw named all.0 taken arcs r n.rules ht few all.2 s)))
