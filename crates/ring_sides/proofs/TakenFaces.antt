-- The faces that the polygons of a topology make, with their classes and sides.
use Rattle.std.proofs.Common.{◌≡◌, ◌≢◌, inl, inr, ℕ, zero, suc, ◌+◌, ◌<◌, ◌≤◌, nat_lt, nat_le, Bool, true, false, cond, not, if◌then◌else◌, List, [], ◌∷◌, length, map, get_or, count_by, bytes_eq, Option, Some, None, Ok, ℤ, pos, negsuc, neg_ℤ, ◌+ℤ◌, int_lt, int_eq, refl, sym, ap, ◌∙◌, subst, true≢false, arith}
use Rattle.std.proofs.Math.IntN.{+ℤ_idl}
use Rattle.std.proofs.lemmas.Bool.{and_parts, and_from, cases_lt, not-true, ltb-true, lt-ltb, le-leb, eqb-true}
use Rattle.std.proofs.lemmas.Bool.Decides.{Decides-int_eq}
use Rattle.std.proofs.lemmas.List.{length-append, length-map}
use Rattle.std.proofs.lemmas.List.Folds.{list_all-append}
use Rattle.lemmas.proofs.Counts.{count_by-cons}
use Rattle.tgap_model.specs.declared.geometry.Point.{Point}
use Rattle.tgap_model.specs.declared.topology.NamedRules.{NamedRules}
use Rattle.tgap_model.specs.declared.topology.RawPolygon.{RawPolygon}
use Rattle.tgap_model.specs.declared.fault.MapFault.TheVariants.{RingFlat}
use Rattle.tgap_model.specs.Base.{is_rules}
use Rattle.tgap_model.specs.Point.{shoelace}
use Rattle.line_forms.specs.Lines.{◌>>=◌ as ◌or>>=◌, next_number}
use Rattle.line_forms.specs.Json.{ensured, try_fold}
use Rattle.map_forms.specs.RulesFile.{is_named_rules}
use Rattle.topology_forms.specs.Topology.{has_ring}
use Rattle.topology_forms.specs.Rings.{points_named, shoelace_named, open_place, closed, is_collapsed, ring_area, Taken, index_taken, ring_taken, holes_taken, class_from, class_named, with_face, face_taken, polygon_taken, nothing_taken}
use Rattle.plain_io.proofs.Steps.{bound}
use Rattle.ring_sides.proofs.TakenSides.{ensured_holds, try_fold_keeps, SideFacts, HasSide, TakenFacts, index_keeps_side, index_keeps, index_gives_side}

-- ---- a ring

-- an arc of fewer than two points has no area
short_shoelace : (points : List Point) → length points < 2 → shoelace points ≡ pos 0
short_shoelace [] short = refl
short_shoelace (p ∷ []) short = refl
short_shoelace (p ∷ q ∷ points) short = absurd (omega arith)

short_area : (arcs : List (List Point)) (i : ℤ) → length (points_named arcs i) < 2 → shoelace_named arcs i ≡ pos 0
short_area arcs (pos n) short = short_shoelace (points_named arcs (pos n)) short
short_area arcs (negsuc n) short = ap neg_ℤ (short_shoelace (points_named arcs (negsuc n)) short)

-- a ring that comes to no fault has an area, and its indexes take their sides
ring_walk : (arcs : List (List Point)) (exterior : Bool) (f r : ℕ) (ring : List ℤ) (taken u : Taken) → ring_taken arcs exterior f r ring taken ≡ Ok u
    → (on_left : Bool) × (ring_area arcs ring ≢ pos 0) × (try_fold (index_taken arcs on_left f) taken ring ≡ Ok u)
unfolding ring_taken
ring_walk arcs exterior f r ring taken u e =
    bound _ (closed r (open_place arcs ring)) u e (λ whole _ e1.
    bound _ (ensured (not (int_eq (ring_area arcs ring) (pos 0))) (RingFlat r)) u e1 (λ wide known e2.
    let apart = not-true (int_eq (ring_area arcs ring) (pos 0)) (ensured_holds _ _ wide known) in (
      (if int_lt (pos 0) (ring_area arcs ring) then exterior else not exterior),
      (λ flat. true≢false (sym ((Decides-int_eq (ring_area arcs ring) (pos 0)).1 flat) ∙ apart)),
      e2,
    )))

-- face f of the map takes sides, while the first faces have theirs
module _ (arcs : List (List Point)) (classes faces sided f : ℕ) (few : f ≤ faces) where
  -- a ring that has an area has an arc of two points, and so its face has a side
  walk_gives_side : 1 ≤ f → (on_left : Bool) (ring : List ℤ) (taken u : Taken) → try_fold (index_taken arcs on_left f) taken ring ≡ Ok u
      → ring_area arcs ring ≢ pos 0 → TakenFacts arcs classes faces sided taken → HasSide u f
  walk_gives_side some on_left [] taken u e wide h = absurd (wide refl)
  walk_gives_side some on_left (i ∷ ring) taken u e wide h =
      bound (λ next. try_fold (index_taken arcs on_left f) next ring) (index_taken arcs on_left f taken i) u e (λ next now later.
      elim (cases_lt (length (points_named arcs i)) 2) [
        | inl short ↦
            walk_gives_side some on_left ring next u later
            (λ flat. wide (ap (λ (z : ℤ). z +ℤ ring_area arcs ring) (short_area arcs i short) ∙ +ℤ_idl (ring_area arcs ring) ∙ flat))
            (index_keeps arcs f classes faces sided few on_left taken i next now h)
        | inr long ↦
            try_fold_keeps (index_taken arcs on_left f) (λ t. HasSide t f) (index_keeps_side arcs f f some on_left) next ring u later
            (index_gives_side arcs f faces on_left taken i next now h.left h.right long)
      ])

  ring_gives_side : 1 ≤ f → (exterior : Bool) (r : ℕ) (ring : List ℤ) (taken u : Taken) → ring_taken arcs exterior f r ring taken ≡ Ok u
      → TakenFacts arcs classes faces sided taken → HasSide u f
  ring_gives_side some exterior r ring taken u e h =
      let walk = ring_walk arcs exterior f r ring taken u e in walk_gives_side some walk.0 ring taken u walk.2 walk.1 h

  -- what is known stays known
  ring_keeps : (exterior : Bool) (r : ℕ) (ring : List ℤ) (taken u : Taken) → ring_taken arcs exterior f r ring taken ≡ Ok u
      → TakenFacts arcs classes faces sided taken → TakenFacts arcs classes faces sided u
  ring_keeps exterior r ring taken u e h =
      let walk = ring_walk arcs exterior f r ring taken u e in
      try_fold_keeps (index_taken arcs walk.0 f) (TakenFacts arcs classes faces sided) (index_keeps arcs f classes faces sided few walk.0) taken ring u walk.2 h

  holes_keep : (r : ℕ) (rings : List (List ℤ)) (taken u : Taken) → holes_taken arcs f r rings taken ≡ Ok u → TakenFacts arcs classes faces sided taken
      → TakenFacts arcs classes faces sided u
  holes_keep r [] taken u e h = let same : taken ≡ u = cc in subst (TakenFacts arcs classes faces sided) same h
  holes_keep r (ring ∷ rings) taken u e h =
      bound (holes_taken arcs f (next_number r) rings) _ u e (λ next now later. holes_keep (next_number r) rings next u later (by (is_collapsed arcs ring) next now))
    where
      by : (collapsed : Bool) (next : Taken) → cond collapsed (Ok taken) (ring_taken arcs false f r ring taken) ≡ Ok next → TakenFacts arcs classes faces sided next
      by true next now = let same : taken ≡ next = cc in subst (TakenFacts arcs classes faces sided) same h
      by false next now = ring_keeps false r ring taken next now h

-- ---- the class of a face

-- There is a name for each class, and the class of all others is one of them.
pub record NamedFacts (named : NamedRules) (classes : ℕ) : Type 0 where
  pub rules : is_rules named.rules ≡ true
  pub names : length named.names ≡ classes
  pub default : named.default < classes

pub named_facts : (named : NamedRules) → is_named_rules named ≡ true → NamedFacts named (length named.rules.weights)
unfolding is_named_rules
named_facts named h =
    let default = and_parts _ _ h in
    let names = and_parts _ _ default.0 in
    record { rules = names.0; names = eqb-true _ _ names.1; default = ltb-true _ _ default.1 }

-- a name stands for one of the classes
class_from_below : (default k classes : ℕ) (names : List (List ℕ)) (name : List ℕ) → default < classes → k + length names ≤ classes
    → class_from default k names name < classes
class_from_below default k classes [] name below fit = below
class_from_below default k classes (n ∷ names) name below fit =
    by (bytes_eq n name) (class_from_below default (k + 1) classes names name below (omega arith))
  where
    by : (same : Bool) → class_from default (k + 1) names name < classes → cond same k (class_from default (k + 1) names name) < classes
    by true later = omega arith
    by false later = later

class_below : (named : NamedRules) (classes : ℕ) (kind : Option (List ℕ)) → NamedFacts named classes → class_named named kind < classes
class_below named classes None n = n.default
class_below named classes (Some name) n = class_from_below named.default 0 classes named.names name n.default (omega (arith, n.names))

-- ---- a polygon

module _ (arcs : List (List Point)) (named : NamedRules) (classes : ℕ) (n : NamedFacts named classes) where
  -- each face has a side, and there are so many at most
  abbrev pub AllSided : ℕ → Taken → Type 0
  AllSided most taken = (faces : ℕ) × (faces ≤ most) × TakenFacts arcs classes faces faces taken

  -- one face more is in the map
  side_more : (faces : ℕ) (side : List ℕ) → SideFacts arcs faces side → SideFacts arcs (faces + 1) side
  side_more faces side h = record { entries = h.entries; few = λ a. omega (arith, h.few a); long = h.long }

  -- it has no side yet
  face_more : (faces : ℕ) (kind : Option (List ℕ)) (taken : Taken) → TakenFacts arcs classes faces faces taken
      → TakenFacts arcs classes (faces + 1) faces (with_face (class_named named kind) taken)
  face_more faces kind taken h = record {
    count = length-append taken.classes (class_named named kind ∷ []) ∙ ap (λ (m : ℕ). m + 1) h.count;
    named =
        list_all-append (λ k. nat_lt k classes) taken.classes (class_named named kind ∷ [])
        ∙ and_from _ _ h.named (and_from _ _ (lt-ltb _ _ (class_below named classes kind n)) refl);
    left = side_more faces taken.left h.left;
    right = side_more faces taken.right h.right;
    bordered = h.bordered;
  }

  -- and then it has one
  sided_more : (faces : ℕ) (taken : Taken) → HasSide taken (faces + 1) → TakenFacts arcs classes (faces + 1) faces taken
      → TakenFacts arcs classes (faces + 1) (faces + 1) taken
  sided_more faces taken side h = record {
    count = h.count;
    named = h.named;
    left = h.left;
    right = h.right;
    bordered = λ g some low. elim (cases_lt faces g) [
      | inl last ↦ (let here : faces + 1 ≡ g = omega arith in subst (HasSide taken) here side)
      | inr before ↦ h.bordered g some before
    ];
  }

  -- the next polygon is a face where it has a ring that is not collapsed
  face_keeps : (faces r : ℕ) (kind : Option (List ℕ)) (rings : List (List ℤ)) (taken u : Taken) → face_taken arcs named r kind rings taken ≡ Ok u
      → TakenFacts arcs classes faces faces taken → AllSided (faces + cond (nat_le 1 (length rings)) 1 0) u
  unfolding face_taken
  face_keeps faces r kind [] taken u e h = let same : taken ≡ u = cc in (faces, omega arith, subst (TakenFacts arcs classes faces faces) same h)
  face_keeps faces r kind (exterior ∷ holes) taken u e h =
      by (length taken.classes + 1) (ap (λ (m : ℕ). m + 1) h.count) (is_collapsed arcs exterior) e
    where
      made : Taken
      made = with_face (class_named named kind) taken

      by : (f : ℕ) → f ≡ faces + 1 → (collapsed : Bool)
          → cond collapsed (Ok taken) (ring_taken arcs true f r exterior made or>>= holes_taken arcs f (next_number r) holes) ≡ Ok u
          → AllSided (faces + cond (nat_le 1 (length (exterior ∷ holes))) 1 0) u
      by f next true e = let same : taken ≡ u = cc in (faces, omega arith, subst (TakenFacts arcs classes faces faces) same h)
      by f next false e =
          bound (holes_taken arcs f (next_number r) holes) (ring_taken arcs true f r exterior made) u e (λ t now later.
          let few : f ≤ faces + 1 = omega arith in
          let before = face_more faces kind taken h in
          let side = ring_gives_side arcs classes (faces + 1) faces f few (omega arith) true r exterior made t now before in
          let after = sided_more faces t (subst (HasSide t) next side) (ring_keeps arcs classes (faces + 1) faces f few true r exterior made t now before) in
          let one : nat_le 1 (length (exterior ∷ holes)) ≡ true = le-leb 1 (length (exterior ∷ holes)) (omega arith) in
          (faces + 1, omega (arith, ap (λ (b : Bool). cond {A = ℕ} b 1 0) one), holes_keep arcs classes (faces + 1) (faces + 1) f few (next_number r) holes t u later after))

  -- all polygons
  pub polygons_keep : (faces : ℕ) (polygons : List RawPolygon) (taken u : Taken) → try_fold (polygon_taken arcs named) taken polygons ≡ Ok u
      → TakenFacts arcs classes faces faces taken → AllSided (faces + count_by has_ring polygons) u
  polygons_keep faces [] taken u e h = let same : taken ≡ u = cc in (faces, omega arith, subst (TakenFacts arcs classes faces faces) same h)
  polygons_keep faces (p ∷ polygons) taken u e h =
      bound (λ next. try_fold (polygon_taken arcs named) next polygons) (polygon_taken arcs named taken p) u e (λ next now later.
      let first = face_keeps faces p.first_ring p.kind p.rings taken next now h in
      let rest = polygons_keep first.0 polygons next u later first.2 in
      (rest.0, omega (arith, first.1, rest.1, count_by-cons has_ring p polygons), rest.2))

-- ---- before the first polygon

-- no side is taken
no_faces : List (List Point) → List ℕ
no_faces arcs = map (λ a. 0) arcs

no_face : (arcs : List (List Point)) (a : ℕ) → get_or (no_faces arcs) a 0 ≡ 0
unfolding no_faces
no_face [] a = refl
no_face (points ∷ arcs) zero = refl
no_face (points ∷ arcs) (suc a) = no_face arcs a

side_nothing : (arcs : List (List Point)) → SideFacts arcs 0 (no_faces arcs)
unfolding no_faces
side_nothing arcs = record {
  entries = length-map arcs (λ a. 0);
  few = λ a. omega (arith, no_face arcs a);
  long = λ a some. absurd (omega (arith, no_face arcs a, some));
}

pub nothing_is_taken : (arcs : List (List Point)) (classes : ℕ) → TakenFacts arcs classes 0 0 (nothing_taken arcs)
unfolding no_faces
nothing_is_taken arcs classes = record {
  count = refl;
  named = refl;
  left = side_nothing arcs;
  right = side_nothing arcs;
  bordered = λ f some low. absurd (omega arith);
}
