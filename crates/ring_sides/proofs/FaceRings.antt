-- The rings of a topology, one after the other: what they take, or the first that comes to a fault.
use Rattle.std.proofs.Common.{◌≡◌, inl, inr, ℕ, suc, ◌+◌, ◌-◌, ◌^◌, ◌<◌, ◌≤◌, Bool, true, false, cond, not, List, [], ◌∷◌, ◌++◌, length, get_or, map, filter, MatchResult, Option, Some, None, Result, Ok, ℤ, pos, int_eq, refl, sym, ap, ◌∙◌, subst, true≢false, append_assoc, append-nil, arith}
use Rattle.std.specs.List.{list_all}
use Rattle.std.proofs.lemmas.Bool.{and_parts, cases_eq, cond-true, cond-false, lt-ltb, le-ltb}
use Rattle.std.proofs.lemmas.Bool.Decides.{Decides-int_eq}
use Rattle.std.proofs.lemmas.List.{length-append}
use Rattle.std.proofs.lemmas.List.Concat.{flat_map-append}
use Rattle.std.proofs.lemmas.List.Elements.{All-push}
use Rattle.tgap_model.specs.declared.geometry.Point.{Point}
use Rattle.tgap_model.specs.declared.topology.NamedRules.{NamedRules}
use Rattle.tgap_model.specs.declared.topology.RawPolygon.{RawPolygon}
use Rattle.tgap_model.specs.declared.fault.MapFault.{MapFault}
use Rattle.tgap_model.specs.declared.fault.MapFault.TheVariants.{RingFlat}
use Rattle.tgap_model.specs.Base.{same_point}
use Rattle.line_forms.specs.Lines.{◌>>=◌, next_number}
use Rattle.line_forms.specs.Json.{ensured, try_fold}
use Rattle.topology_forms.specs.Rings.{start_named, end_named, open_from, open_place, closed, is_collapsed, ring_area, Taken, index_taken, ring_taken, holes_taken, class_named, with_face, face_taken, polygon_taken, is_raw_ring}
use Rattle.tgap_model.proofs.Points.{same_point-true, same_point-from}
use Rattle.ring_sides.specs.Arcs.{index_after}
use Rattle.ring_sides.specs.FaceRings.{has_exterior, is_face, IsJoined, IsClosed, IsWhole, is_on_left}
use Rattle.ring_sides.specs.Places.{FaceRing, holes_of, rings_of, rings_from, ring_takes, rings_take}
use Rattle.ring_sides.specs.RingFaults.{AreWhole, IsFaultAmong}
use Rattle.ring_sides.proofs.RawArcs.{ring_few}
use Rattle.ring_sides.proofs.Takings.{in_turn, so, Holds, IsAgain, places_step}

-- ---- whether a ring is closed

-- from place k on: there is no gap, or this is the first one
abbrev GapFrom : List (List Point) → List ℤ → ℕ → Option ℕ → Type 0
GapFrom arcs ring k None = (q : ℕ) → k ≤ q → q < length ring → IsJoined arcs ring q
GapFrom arcs ring k (Some place) = (place < length ring) × (IsJoined arcs ring place → ⊥) × ((q : ℕ) → k ≤ q → q < place → IsJoined arcs ring q)

module _ (arcs : List (List Point)) (ring : List ℤ) (few : length ring < 2 ^ 32 - 1) where
  -- at place k the arc ends where the next one starts, or it does not
  gap_turn : (k : ℕ) (later : Option ℕ) (joined : Bool) → k < length ring → (joined ≡ true → IsJoined arcs ring k) → (IsJoined arcs ring k → joined ≡ true)
      → GapFrom arcs ring (k + 1) later → GapFrom arcs ring k (cond joined later (Some k))
  gap_turn k None true inside forth back h = λ q low high. elim (cases_eq k q) [
    | inl here ↦ subst (IsJoined arcs ring) here (forth refl)
    | inr other ↦ h q (omega (arith, low, other)) high
  ]
  gap_turn k (Some place) true inside forth back h = (
    h.0,
    h.1,
    λ q low high. elim (cases_eq k q) [
      | inl here ↦ subst (IsJoined arcs ring) here (forth refl)
      | inr other ↦ h.2 q (omega (arith, low, other)) high
    ],
  )
  gap_turn k later false inside forth back h = (inside, (λ same. true≢false (sym (back same))), λ q low high. absurd (omega (arith, low, high)))

  -- the rest of a ring from place k on
  record IsRest (k : ℕ) (rest : List ℤ) : Type 0 where
    count : k + length rest ≡ length ring
    same : (j : ℕ) → get_or ring (k + j) (pos 0) ≡ get_or rest j (pos 0)

  gap_from : (k : ℕ) (rest : List ℤ) → IsRest k rest → GapFrom arcs ring k (open_from arcs (get_or ring 0 (pos 0)) k rest)
  gap_from k [] h = λ q low high. absurd (omega (arith, h.count, low, high))
  gap_from k (i ∷ []) h =
      let first : ℤ = get_or ring 0 (pos 0) in
      let last : length ring ≤ k + 1 = omega (arith, h.count) in
      let next : index_after ring k ≡ first = cond-false _ _ _ (le-ltb (k + 1) (length ring) last) in
      let here : get_or ring k (pos 0) ≡ i = ap (λ n. get_or ring n (pos 0)) (omega arith) ∙ h.same 0 in
      let ends : end_named arcs (get_or ring k (pos 0)) ≡ end_named arcs i = ap (end_named arcs) here in
      let starts : start_named arcs (index_after ring k) ≡ start_named arcs first = ap (start_named arcs) next in
      gap_turn k None (same_point (end_named arcs i) (start_named arcs first)) (omega (arith, h.count))
      (λ e. ends ∙ same_point-true (end_named arcs i) (start_named arcs first) e ∙ sym starts)
      (λ joined. same_point-from (end_named arcs i) (start_named arcs first) (sym ends ∙ joined ∙ starts))
      (λ q low high. absurd (omega (arith, last, low, high)))
  gap_from k (i ∷ j ∷ rest) h =
      let first : ℤ = get_or ring 0 (pos 0) in
      let more : k + 1 < length ring = omega (arith, h.count) in
      let next : index_after ring k ≡ j = cond-true _ _ _ (lt-ltb (k + 1) (length ring) more) ∙ h.same 1 in
      let here : get_or ring k (pos 0) ≡ i = ap (λ n. get_or ring n (pos 0)) (omega arith) ∙ h.same 0 in
      let ends : end_named arcs (get_or ring k (pos 0)) ≡ end_named arcs i = ap (end_named arcs) here in
      let starts : start_named arcs (index_after ring k) ≡ start_named arcs j = ap (start_named arcs) next in
      let after : IsRest (k + 1) (j ∷ rest) = record {
        count = omega (arith, h.count);
        same = λ m. ap (λ n. get_or ring n (pos 0)) (omega arith) ∙ h.same (suc m);
      } in
      let number : k + 1 ≡ next_number k = omega (arith, more, few) in
      gap_turn k (open_from arcs first (next_number k) (j ∷ rest)) (same_point (end_named arcs i) (start_named arcs j)) (omega (arith, h.count))
      (λ e. ends ∙ same_point-true (end_named arcs i) (start_named arcs j) e ∙ sym starts)
      (λ joined. same_point-from (end_named arcs i) (start_named arcs j) (sym ends ∙ joined ∙ starts))
      (subst (λ n. GapFrom arcs ring (k + 1) (open_from arcs first n (j ∷ rest))) number (gap_from (k + 1) (j ∷ rest) after))

-- the first gap of a ring, or none
gap_of : (arcs : List (List Point)) (ring : List ℤ) → length ring < 2 ^ 32 - 1 → GapFrom arcs ring 0 (open_place arcs ring)
gap_of arcs [] few = λ q low high. absurd (omega arith)
gap_of arcs (i ∷ ring) few = gap_from arcs (i ∷ ring) few 0 (i ∷ ring) (record { count = omega arith; same = λ j. ap (λ n. get_or (i ∷ ring) n (pos 0)) (omega arith) })

-- ---- a ring

-- what is taken after these rings, which are whole
pub record Follows (arcs : List (List Point)) (classes : List ℕ) (rings : List FaceRing) (taken : Taken) : Type 0 where
  pub whole : AreWhole arcs rings
  pub sides : Holds (length arcs) classes (rings_take arcs rings) taken

-- a fault is among these rings where more follow
fault_more : (arcs : List (List Point)) (rings more : List FaceRing) (fault : MapFault) → IsFaultAmong arcs rings fault → IsFaultAmong arcs (rings ++ more) fault
fault_more arcs rings more fault h = record {
  before = h.before;
  ring = h.ring;
  after = h.after ++ more;
  order = ap (λ rs. rs ++ more) h.order ∙ append_assoc h.before (h.ring ∷ h.after) more;
  whole = h.whole;
  once = h.once;
  wrong = h.wrong;
}

-- one ring more, or one that is written at the end
take_push : (arcs : List (List Point)) (rings : List FaceRing) (ring : FaceRing) → rings_take arcs (rings ++ ring ∷ []) ≡ rings_take arcs rings ++ ring_takes arcs ring
take_push arcs rings ring = flat_map-append (ring_takes arcs) rings (ring ∷ []) ∙ ap (λ ts. rings_take arcs rings ++ ts) (append-nil (ring_takes arcs ring))

module _ (arcs : List (List Point)) (classes : List ℕ) where
  module _ (before : List FaceRing) (ring : FaceRing) (taken : Taken) (h : Follows arcs classes before taken) where
    -- a place that takes a side again is a fault of the ring
    twice : IsWhole arcs ring.indexes → (fault : MapFault) → IsAgain (rings_take arcs before) (ring_takes arcs ring) fault → IsFaultAmong arcs (before ++ ring ∷ []) fault
    twice whole fault again =
        subst (IsFaultAmong arcs (before ++ ring ∷ [])) (sym again.is) (record {
          before = before;
          ring = ring;
          after = [];
          order = refl;
          whole = h.whole;
          once = h.sides.once;
          wrong = record {
            left = again.left;
            earlier = again.earlier;
            later = again.later;
            number = refl;
            whole = whole;
            place = again.place;
            once = again.once;
            taken = again.taken;
          };
        })

    ring_step : length ring.indexes < 2 ^ 32 - 1 → 1 ≤ ring.face
        → MatchResult (ring_taken arcs ring.exterior ring.face ring.number ring.indexes taken) (Follows arcs classes (before ++ ring ∷ [])) (IsFaultAmong arcs (before ++ ring ∷ []))
    unfolding ring_taken
    ring_step few some = by (open_place arcs ring.indexes) (gap_of arcs ring.indexes few)
      where
        walk : Result Taken MapFault
        walk = try_fold (index_taken arcs (is_on_left arcs ring.exterior ring.indexes) ring.face) taken ring.indexes

        by_area : IsClosed arcs ring.indexes → (flat : Bool) → int_eq (ring_area arcs ring.indexes) (pos 0) ≡ flat
            → MatchResult (ensured (not flat) (RingFlat ring.number) >>= λ wide. walk) (Follows arcs classes (before ++ ring ∷ [])) (IsFaultAmong arcs (before ++ ring ∷ []))
        by_area shut true e = record {
          before = before;
          ring = ring;
          after = [];
          order = refl;
          whole = h.whole;
          once = h.sides.once;
          wrong = record { number = refl; closed = shut; flat = (Decides-int_eq (ring_area arcs ring.indexes) (pos 0)).0 e };
        }
        by_area shut false e =
            let whole : IsWhole arcs ring.indexes = record {
              closed = shut;
              wide = λ flat. true≢false (sym ((Decides-int_eq (ring_area arcs ring.indexes) (pos 0)).1 flat) ∙ e);
            } in
            so (Holds (length arcs) classes (rings_take arcs before ++ ring_takes arcs ring)) (Follows arcs classes (before ++ ring ∷ []))
            (IsAgain (rings_take arcs before) (ring_takes arcs ring)) (IsFaultAmong arcs (before ++ ring ∷ [])) walk
            (λ u now. record {
              whole = All-push (λ (w : FaceRing). IsWhole arcs w.indexes) before ring h.whole whole;
              sides = subst (λ ts. Holds (length arcs) classes ts u) (sym (take_push arcs before ring)) now;
            })
            (twice whole) (places_step arcs ring some classes ring.indexes (rings_take arcs before) taken h.sides)

        by : (gap : Option ℕ) → GapFrom arcs ring.indexes 0 gap
            → MatchResult (closed ring.number gap >>= λ whole. ensured (not (int_eq (ring_area arcs ring.indexes) (pos 0))) (RingFlat ring.number) >>= λ wide. walk)
            (Follows arcs classes (before ++ ring ∷ [])) (IsFaultAmong arcs (before ++ ring ∷ []))
        by (Some place) g = record {
          before = before;
          ring = ring;
          after = [];
          order = refl;
          whole = h.whole;
          once = h.sides.once;
          wrong = record { number = refl; inside = g.0; gap = g.1; first = λ k low. g.2 k (omega arith) low };
        }
        by None g = by_area (λ q high. g q (omega arith) high) (int_eq (ring_area arcs ring.indexes) (pos 0)) refl

  -- ---- the rings of a face

  -- a ring after these, and what comes after it
  ring_then : (before : List FaceRing) (ring : FaceRing) (taken : Taken) (more : List FaceRing) (next : Taken → Result Taken MapFault) → length ring.indexes < 2 ^ 32 - 1 → 1 ≤ ring.face
      → Follows arcs classes before taken
      → ((u : Taken) → Follows arcs classes (before ++ ring ∷ []) u → MatchResult (next u) (Follows arcs classes ((before ++ ring ∷ []) ++ more)) (IsFaultAmong arcs ((before ++ ring ∷ []) ++ more)))
      → MatchResult (ring_taken arcs ring.exterior ring.face ring.number ring.indexes taken >>= next) (Follows arcs classes (before ++ (ring ∷ more))) (IsFaultAmong arcs (before ++ (ring ∷ more)))
  ring_then before ring taken more next few some h go =
      let same : (before ++ ring ∷ []) ++ more ≡ before ++ (ring ∷ more) = append_assoc before (ring ∷ []) more in
      subst (λ rings. MatchResult (ring_taken arcs ring.exterior ring.face ring.number ring.indexes taken >>= next) (Follows arcs classes rings) (IsFaultAmong arcs rings)) same
      (in_turn (Follows arcs classes (before ++ ring ∷ [])) (IsFaultAmong arcs (before ++ ring ∷ []))
      (Follows arcs classes ((before ++ ring ∷ []) ++ more)) (IsFaultAmong arcs ((before ++ ring ∷ []) ++ more))
      (ring_taken arcs ring.exterior ring.face ring.number ring.indexes taken) next (ring_step before ring taken h few some)
      (fault_more arcs (before ++ ring ∷ []) more) go)

  holes_step : (f r : ℕ) (holes : List (List ℤ)) → 1 ≤ f → list_all (is_raw_ring (length arcs)) holes ≡ true → (before : List FaceRing) (taken : Taken) → Follows arcs classes before taken
      → MatchResult (holes_taken arcs f r holes taken) (Follows arcs classes (before ++ holes_of arcs f r holes)) (IsFaultAmong arcs (before ++ holes_of arcs f r holes))
  holes_step f r [] some formed before taken h = subst (λ rings. Follows arcs classes rings taken) (sym (append-nil before)) h
  holes_step f r (hole ∷ holes) some formed before taken h =
      by (is_collapsed arcs hole) (holes_step f (next_number r) holes some (and_parts _ _ formed).1)
    where
      ring : FaceRing
      ring = record { face = f; number = r; exterior = false; indexes = hole }

      rest : List FaceRing
      rest = holes_of arcs f (next_number r) holes

      by : (collapsed : Bool)
          → ((b : List FaceRing) (t : Taken) → Follows arcs classes b t → MatchResult (holes_taken arcs f (next_number r) holes t) (Follows arcs classes (b ++ rest)) (IsFaultAmong arcs (b ++ rest)))
          → MatchResult (cond collapsed (Ok taken) (ring_taken arcs false f r hole taken) >>= holes_taken arcs f (next_number r) holes)
          (Follows arcs classes (before ++ (cond collapsed [] (ring ∷ []) ++ rest))) (IsFaultAmong arcs (before ++ (cond collapsed [] (ring ∷ []) ++ rest)))
      by true go = go before taken h
      by false go = ring_then before ring taken rest (holes_taken arcs f (next_number r) holes) (ring_few (length arcs) hole (and_parts _ _ formed).0) some h (go (before ++ ring ∷ []))

-- ---- the polygons

abbrev pub class_of : NamedRules → RawPolygon → ℕ
class_of named p = class_named named p.kind

module _ (arcs : List (List Point)) (named : NamedRules) where
  -- the next polygon: its rings follow where it is a face
  face_step : (classes : List ℕ) (r : ℕ) (kind : Option (List ℕ)) (rings : List (List ℤ)) (before : List FaceRing) (taken : Taken) → list_all (is_raw_ring (length arcs)) rings ≡ true
      → Follows arcs classes before taken
      → MatchResult (face_taken arcs named r kind rings taken)
      (Follows arcs (classes ++ cond (has_exterior arcs rings) (class_named named kind ∷ []) []) (before ++ cond (has_exterior arcs rings) (rings_of arcs (length classes + 1) r rings) []))
      (IsFaultAmong arcs (before ++ cond (has_exterior arcs rings) (rings_of arcs (length classes + 1) r rings) []))
  unfolding face_taken
  face_step classes r kind [] before taken formed h =
      subst (λ (cs : List ℕ). Follows arcs cs (before ++ []) taken) (sym (append-nil classes)) (subst (λ rings. Follows arcs classes rings taken) (sym (append-nil before)) h)
  face_step classes r kind (exterior ∷ holes) before taken formed h =
      by (is_collapsed arcs exterior) (length taken.classes + 1) (ap (λ (cs : List ℕ). length cs + 1) h.sides.same)
    where
      f : ℕ
      f = length classes + 1

      k : ℕ
      k = class_named named kind

      made : Taken
      made = with_face k taken

      ring : FaceRing
      ring = record { face = f; number = r; exterior = true; indexes = exterior }

      rest : List FaceRing
      rest = holes_of arcs f (next_number r) holes

      -- there is a face more
      with_one : Follows arcs (classes ++ k ∷ []) before made
      with_one = record {
        whole = h.whole;
        sides = record {
          same = ap (λ (cs : List ℕ). cs ++ k ∷ []) h.sides.same;
          left = h.sides.left;
          right = h.sides.right;
          many_left = h.sides.many_left;
          many_right = h.sides.many_right;
          once = h.sides.once;
        };
      }

      by : (collapsed : Bool) (face : ℕ) → face ≡ f
          → MatchResult (cond collapsed (Ok taken) (ring_taken arcs true face r exterior made >>= holes_taken arcs face (next_number r) holes))
          (Follows arcs (classes ++ cond (not collapsed) (k ∷ []) []) (before ++ cond (not collapsed) (ring ∷ rest) [])) (IsFaultAmong arcs (before ++ cond (not collapsed) (ring ∷ rest) []))
      by true face same =
          subst (λ (cs : List ℕ). Follows arcs cs (before ++ []) taken) (sym (append-nil classes)) (subst (λ rings. Follows arcs classes rings taken) (sym (append-nil before)) h)
      by false face same =
          let some : 1 ≤ f = omega arith in
          let parts = and_parts _ _ formed in
          subst (λ (g : ℕ). MatchResult (ring_taken arcs true g r exterior made >>= holes_taken arcs g (next_number r) holes)
          (Follows arcs (classes ++ k ∷ []) (before ++ (ring ∷ rest))) (IsFaultAmong arcs (before ++ (ring ∷ rest)))) (sym same)
          (ring_then arcs (classes ++ k ∷ []) before ring made rest (holes_taken arcs f (next_number r) holes) (ring_few (length arcs) exterior parts.0) some with_one
          (holes_step arcs (classes ++ k ∷ []) f (next_number r) holes some parts.1 (before ++ ring ∷ [])))

  pub polygons_step : (polygons : List RawPolygon) → list_all (λ p. list_all (is_raw_ring (length arcs)) p.rings) polygons ≡ true → (classes : List ℕ) (before : List FaceRing) (taken : Taken)
      → Follows arcs classes before taken
      → MatchResult (try_fold (polygon_taken arcs named) taken polygons)
      (Follows arcs (classes ++ map (class_of named) (filter (is_face arcs) polygons)) (before ++ rings_from arcs (length classes + 1) (filter (is_face arcs) polygons)))
      (IsFaultAmong arcs (before ++ rings_from arcs (length classes + 1) (filter (is_face arcs) polygons)))
  polygons_step [] formed classes before taken h =
      subst (λ (cs : List ℕ). Follows arcs cs (before ++ []) taken) (sym (append-nil classes)) (subst (λ rings. Follows arcs classes rings taken) (sym (append-nil before)) h)
  polygons_step (p ∷ polygons) formed classes before taken h =
      by (is_face arcs p) (face_step classes p.first_ring p.kind p.rings before taken (and_parts _ _ formed).0 h) (polygons_step polygons (and_parts _ _ formed).1)
    where
      later : List RawPolygon
      later = filter (is_face arcs) polygons

      rings : List FaceRing
      rings = rings_of arcs (length classes + 1) p.first_ring p.rings

      next : Taken → Result Taken MapFault
      next t = try_fold (polygon_taken arcs named) t polygons

      by : (face : Bool)
          → MatchResult (polygon_taken arcs named taken p) (Follows arcs (classes ++ cond face (class_of named p ∷ []) []) (before ++ cond face rings [])) (IsFaultAmong arcs (before ++ cond face rings []))
          → ((cs : List ℕ) (b : List FaceRing) (t : Taken) → Follows arcs cs b t
          → MatchResult (next t) (Follows arcs (cs ++ map (class_of named) later) (b ++ rings_from arcs (length cs + 1) later)) (IsFaultAmong arcs (b ++ rings_from arcs (length cs + 1) later)))
          → MatchResult (polygon_taken arcs named taken p >>= next)
          (Follows arcs (classes ++ map (class_of named) (cond face (p ∷ later) later)) (before ++ rings_from arcs (length classes + 1) (cond face (p ∷ later) later)))
          (IsFaultAmong arcs (before ++ rings_from arcs (length classes + 1) (cond face (p ∷ later) later)))
      by true one go =
          let cs : List ℕ = classes ++ class_of named p ∷ [] in
          let more : List FaceRing = rings_from arcs (length classes + 1 + 1) later in
          in_turn (Follows arcs cs (before ++ rings)) (IsFaultAmong arcs (before ++ rings))
          (Follows arcs (classes ++ (class_of named p ∷ map (class_of named) later)) (before ++ (rings ++ more))) (IsFaultAmong arcs (before ++ (rings ++ more)))
          (polygon_taken arcs named taken p) next one
          (λ fault w. subst (λ rs. IsFaultAmong arcs rs fault) (append_assoc before rings more) (fault_more arcs (before ++ rings) more fault w))
          (λ t now.
          let number : length cs + 1 ≡ length classes + 1 + 1 = omega (arith, length-append classes (class_of named p ∷ [])) in
          let same_rings : (before ++ rings) ++ rings_from arcs (length cs + 1) later ≡ before ++ (rings ++ more) =
          ap (λ (n : ℕ). (before ++ rings) ++ rings_from arcs n later) number ∙ append_assoc before rings more in
          subst (λ (ks : List ℕ). MatchResult (next t) (Follows arcs ks (before ++ (rings ++ more))) (IsFaultAmong arcs (before ++ (rings ++ more)))) (append_assoc classes (class_of named p ∷ []) (map (class_of named) later))
          (subst (λ rs. MatchResult (next t) (Follows arcs (cs ++ map (class_of named) later) rs) (IsFaultAmong arcs rs)) same_rings (go cs (before ++ rings) t now)))
      by false one go =
          let more : List FaceRing = rings_from arcs (length classes + 1) later in
          in_turn (Follows arcs (classes ++ []) (before ++ [])) (IsFaultAmong arcs (before ++ []))
          (Follows arcs (classes ++ map (class_of named) later) (before ++ more)) (IsFaultAmong arcs (before ++ more))
          (polygon_taken arcs named taken p) next one
          (λ fault w. fault_more arcs before more fault (subst (λ rs. IsFaultAmong arcs rs fault) (append-nil before) w))
          (λ t now. go classes before t (subst (λ (cs : List ℕ). Follows arcs cs before t) (append-nil classes) (subst (λ rs. Follows arcs (classes ++ []) rs t) (append-nil before) now)))
