-- Edges as spans that leave their nodes in the directions of their own segments: the sides at a node are the spokes there, and where the
-- faces agree round each node, a side and its next one have one face.
use Rattle.std.proofs.Common.{append-nil, ◌≡◌, inl, inr, ℕ, zero, suc, ◌+◌, ◌-◌, ◌*◌, ◌<◌, ◌≤◌, Bool, true, false, cond, ◌||◌, if◌then◌else◌, List, [], ◌∷◌, ◌++◌, length, map, flat_map, filter, get_or, All, AllPairs, Contains, None, refl, sym, ap, ap₂, ◌∙◌, subst, true≢false, arith}
use Rattle.std.specs.List.{range_with_len}
use Rattle.std.proofs.lemmas.Bool.{and_from, le-leb}
use Rattle.std.proofs.lemmas.Bool.Decides.{nat_tests}
use Rattle.std.proofs.lemmas.List.{get_or-map, length-map}
use Rattle.std.proofs.lemmas.List.Concat.{flat_map-append}
use Rattle.std.proofs.lemmas.List.Elements.{All-head, All-tail, All-contains_itself}
use Rattle.lemmas.specs.Sorting.{sort_by}
use Rattle.lemmas.proofs.Members.{AllPairs-from_map, related_members, Contains-from_filter}
use Rattle.lemmas.proofs.Sorting.{map-sort_by, sort_by-agree}
use Rattle.tgap_model.specs.declared.geometry.Point.{Point}
use Rattle.tgap_model.specs.declared.slice.Edge.{Edge}
use Rattle.tgap_model.specs.Base.{same_point}
use Rattle.tgap_model.specs.Segment.{turns_before}
use Rattle.tgap_model.specs.Partition.{Spoke, spokes_of, spokes_at, path_segments, edge_segments, node_fault}
use Rattle.tgap_model.specs.Chains.{Link, first_point, last_point}
use Rattle.grid_geo.proofs.PointOrder.{points}
use Rattle.grid_geo.proofs.Turns.{turns_one_way}
use Rattle.base_check.proofs.Apart.{IsDecided}
use Rattle.slice_laws.proofs.NodeLinks.{next_to_last, second_point, arc_spoke, ahead, back, links_of, arc_spokes}
use Rattle.slice_laws.proofs.SpokeRings.{IsPath, closed_from_ring, comes_before}
use Rattle.removal_laws.specs.StandLaws.{AreSound}
use Rattle.step_laws.proofs.StepEdges.{arc_of}
use Rattle.step_laws.proofs.SpokesApart.{all_spokes, spokes_decided}
use Rattle.ring_walk.specs.declared.span.Span.{Span}
use Rattle.ring_walk.specs.declared.side.Side.{Side}
use Rattle.ring_walk.specs.Sides.{turned, side_number, numbered, sides, span_number, start_of, end_of, toward_of, face_of, spoke_before, spokes_at as sides_at}
use Rattle.ring_walk.specs.Rings.{in_front, next_side}
use Rattle.ring_walk.specs.Spans.{IsSide}
use Rattle.ring_walk.proofs.Examples.{along, against}
use Rattle.ring_walk.proofs.Order.{then_number}
use Rattle.ring_walk.proofs.SideNumbers.{numbered-side_number, turned-turned}
use Rattle.ring_walk.proofs.NextSides.{place_before, in_front-at, round, round_has, round_differs}

-- an edge as a span, with the directions of its own first and last segments
abbrev pub own_span : Edge → Span
own_span e = record {
  first = first_point e.points;
  last = last_point e.points;
  ends = record { after_first = second_point e.points; before_last = next_to_last e.points };
  left = e.left;
  right = e.right;
}

-- ---- the sides of edges, one after the other

-- those of edges numbered from i on
abbrev sides_from : ℕ → List Edge → List Side
sides_from i [] = []
sides_from i (e ∷ es) = along i ∷ against i ∷ sides_from (i + 1) es

sides_are : (i : ℕ) (es : List Edge) → map numbered (range_with_len (2 * i) (2 * length es)) ≡ sides_from i es
sides_are i [] = refl
sides_are i (e ∷ es) =
    let twice : 2 * length (e ∷ es) ≡ suc (suc (2 * length es)) = omega arith in
    let first : 2 * i ≡ side_number (along i) = omega arith in
    let second : 2 * i + 1 ≡ side_number (against i) = omega arith in
    let third : 2 * i + 1 + 1 ≡ 2 * (i + 1) = omega arith in
    ap (λ m. map numbered (range_with_len (2 * i) m)) twice
    ∙ ap₂ (λ (s t : Side). s ∷ t ∷ map numbered (range_with_len (2 * i + 1 + 1) (2 * length es)))
    (ap numbered first ∙ numbered-side_number (along i)) (ap numbered second ∙ numbered-side_number (against i))
    ∙ ap (λ m. along i ∷ against i ∷ map numbered (range_with_len m (2 * length es))) third
    ∙ ap (λ (ss : List Side). along i ∷ against i ∷ ss) (sides_are (i + 1) es)

-- ---- the spokes at a node by the sides there

-- those of one edge
row_spokes : (v : Point) (e : Edge) → 2 ≤ length e.points
    → flat_map (spokes_of v) (path_segments e.key e.left e.right 0 e.points) ≡ map (λ (d : Link). arc_spoke (arc_of e) d.turned) (links_of v e.key (arc_of e))
row_spokes v e long =
    ap (flat_map (spokes_of v)) (sym (append-nil (path_segments e.key e.left e.right 0 e.points)))
    ∙ arc_spokes v (λ n. arc_of e) e.key (arc_of e ∷ []) (refl, tt) (and_from _ true (le-leb 2 (length e.points) long) refl)
    ∙ ap (map (λ (d : Link). arc_spoke (arc_of e) d.turned)) (append-nil (links_of v e.key (arc_of e)))

module _ (spans : List Span) where
  -- a side as a spoke, and whether it leaves the node
  abbrev pub spoke_of : Side → Spoke
  spoke_of s = record { toward = toward_of spans s; left = face_of spans s; right = face_of spans (turned s) }

  abbrev at : Point → Side → Bool
  at v s = same_point (start_of spans s) v

  -- these edges are the spans from number i on
  abbrev IsFrom : ℕ → List Edge → Type 0
  IsFrom i es = (j : ℕ) (d : Edge) → j < length es → span_number spans (i + j) ≡ own_span (get_or es j d)

  edge_sides : (e : Edge) (i : ℕ) (v : Point) (rest : List Side) (after : List Spoke) → span_number spans i ≡ own_span e → after ≡ map spoke_of rest
      → map (λ (d : Link). arc_spoke (arc_of e) d.turned) (links_of v e.key (arc_of e)) ++ after
      ≡ map spoke_of (cond (at v (along i)) (along i ∷ cond (at v (against i)) (against i ∷ rest) rest) (cond (at v (against i)) (against i ∷ rest) rest))
  edge_sides e i v rest after is same =
      by (same_point (first_point e.points) v) (same_point (last_point e.points) v)
      ∙ ap₂ (λ (a b : Bool). map spoke_of (cond a (along i ∷ cond b (against i ∷ rest) rest) (cond b (against i ∷ rest) rest)))
      (ap (λ (s : Span). same_point s.first v) (sym is)) (ap (λ (s : Span). same_point s.last v) (sym is))
    where
      first : arc_spoke (arc_of e) false ≡ spoke_of (along i)
      first = ap (λ (s : Span). record { toward = s.ends.after_first; left = s.left; right = s.right }) (sym is)

      last : arc_spoke (arc_of e) true ≡ spoke_of (against i)
      last = ap (λ (s : Span). record { toward = s.ends.before_last; left = s.right; right = s.left }) (sym is)

      by : (a b : Bool)
          → map (λ (d : Link). arc_spoke (arc_of e) d.turned) ((if a then ahead e.key ∷ [] else []) ++ (if b then back e.key ∷ [] else [])) ++ after
          ≡ map spoke_of (cond a (along i ∷ cond b (against i ∷ rest) rest) (cond b (against i ∷ rest) rest))
      by true true = ap₂ (λ (p q : Spoke). p ∷ q ∷ after) first last ∙ ap (λ (qs : List Spoke). spoke_of (along i) ∷ spoke_of (against i) ∷ qs) same
      by true false = ap₂ (λ (p : Spoke) (qs : List Spoke). p ∷ qs) first same
      by false true = ap₂ (λ (p : Spoke) (qs : List Spoke). p ∷ qs) last same
      by false false = same

  -- the spokes of edges are their sides that leave the node
  spokes_are : (v : Point) (i : ℕ) (es : List Edge) → All (λ e. 2 ≤ length e.points) es → IsFrom i es
      → all_spokes v es ≡ map spoke_of (filter (at v) (sides_from i es))
  spokes_are v i [] long from = refl
  spokes_are v i (e ∷ es) long from =
      let here : i + 0 ≡ i = omega arith in
      flat_map-append (spokes_of v) (path_segments e.key e.left e.right 0 e.points) (edge_segments es)
      ∙ ap (λ (ps : List Spoke). ps ++ all_spokes v es) (row_spokes v e (All-head (λ (f : Edge). 2 ≤ length f.points) e es long))
      ∙ edge_sides e i v (filter (at v) (sides_from (i + 1) es)) (all_spokes v es)
      (ap (span_number spans) (sym here) ∙ from 0 e (omega arith))
      (spokes_are v (i + 1) es (All-tail (λ (f : Edge). 2 ≤ length f.points) e es long) (λ j d l.
      let next : i + 1 + j ≡ i + suc j = omega arith in
      ap (span_number spans) next ∙ from (suc j) d (omega (arith, l))))

-- ---- the order round a node

-- where a test decides, the numbers do not
decided_first : (a b : Bool) (m n : ℕ) → (a || b) ≡ true → then_number a b m n ≡ a
decided_first true b m n h = refl
decided_first false true m n h = refl
decided_first false false m n h = absurd (true≢false (sym h))

-- nor do they for one side
never_before : (a : Bool) (n : ℕ) → (a ≡ true → a ≡ false) → then_number a a n n ≡ a
never_before true n h = refl
never_before false n h = grind (arith, nat_tests)

or_turned : (a b : Bool) → (b || a) ≡ true → (a || b) ≡ true
or_turned true b h = refl
or_turned false true h = refl
or_turned false false h = h

module _ (es : List Edge) (sound : AreSound es) where
  abbrev pub spans : List Span
  spans = map own_span es

  from_first : IsFrom spans 0 es
  from_first j d l =
      let here : 0 + j ≡ j = omega arith in
      ap (span_number spans) here ∙ get_or-map own_span es j d _ l

  module _ (v : Point) where
    abbrev leaving : List Side
    leaving = filter (at spans v) (sides (length spans))

    leaving_spokes : all_spokes v es ≡ map (spoke_of spans) leaving
    leaving_spokes =
        spokes_are spans v 0 es sound.points from_first
        ∙ ap (λ (ss : List Side). map (spoke_of spans) (filter (at spans v) ss))
        (sym (sides_are 0 es) ∙ ap sides (sym (length-map es own_span)))

    alike : (s t : Side) → Contains leaving s → Contains leaving t → spoke_before spans s t ≡ comes_before v (spoke_of spans s) (spoke_of spans t)
    alike s t c d =
        ap (λ (u : Point). then_number (turns_before u (toward_of spans s) (toward_of spans t)) (turns_before u (toward_of spans t) (toward_of spans s)) (side_number s) (side_number t))
        (points.same (start_of spans s) v (Contains-from_filter (at spans v) (sides (length spans)) s c).1)
        ∙ elim (related_members (λ (x y : Side). IsDecided v (spoke_of spans x) (spoke_of spans y)) leaving
        (AllPairs-from_map (IsDecided v) (spoke_of spans) leaving (subst (AllPairs (IsDecided v)) leaving_spokes (spokes_decided es sound v))) s t c d) [
          | inl e ↦ subst (λ (x : Side). then_number (turns_before v (toward_of spans s) (toward_of spans x)) (turns_before v (toward_of spans x) (toward_of spans s)) (side_number s) (side_number x)
              ≡ turns_before v (toward_of spans s) (toward_of spans x)) e
              (never_before (turns_before v (toward_of spans s) (toward_of spans s)) (side_number s) (turns_one_way v (toward_of spans s) (toward_of spans s)))
          | inr h ↦ decided_first (turns_before v (toward_of spans s) (toward_of spans t)) (turns_before v (toward_of spans t) (toward_of spans s)) (side_number s) (side_number t)
              (elim h [
                | inl f ↦ f
                | inr g ↦ or_turned (turns_before v (toward_of spans s) (toward_of spans t)) (turns_before v (toward_of spans t) (toward_of spans s)) g
              ])
        ]

    -- the spokes at the node are the sides there, in their order
    pub round_spokes : spokes_at v (edge_segments es) ≡ map (spoke_of spans) (round spans v)
    unfolding sides_at
    round_spokes =
        ap (sort_by (comes_before v)) leaving_spokes
        ∙ sym (map-sort_by (λ (s : Side). Unit {0}) (λ s t. comes_before v (spoke_of spans s) (spoke_of spans t)) (comes_before v) (spoke_of spans) (λ x y p q. refl)
        leaving (λ k d l. tt))
        ∙ ap (map (spoke_of spans)) (sort_by-agree (Contains leaving) (λ s t. comes_before v (spoke_of spans s) (spoke_of spans t)) (spoke_before spans) alike
        leaving (All-contains_itself leaving))

-- ---- faces round a node

module _ (f : Side → Spoke) where
  path_step : (a e : ℕ) (ts : List Side) (i : ℕ) (d : Side) → IsPath a e (map f ts) → suc i < length ts → (f (get_or ts (suc i) d)).right ≡ (f (get_or ts i d)).left
  path_step a e [] i d h l = absurd (omega (arith, l))
  path_step a e (t ∷ []) i d h l = absurd (omega (arith, l))
  path_step a e (t ∷ u ∷ us) zero d h l = h.1.0
  path_step a e (t ∷ u ∷ us) (suc i) d h l = path_step (f t).left e (u ∷ us) i d h.1 (omega (arith, l))

  path_end : (a e : ℕ) (t : Side) (ts : List Side) (d : Side) → IsPath a e (map f (t ∷ ts)) → (f (get_or (t ∷ ts) (length ts) d)).left ≡ e
  path_end a e t [] d h = h.1
  path_end a e t (u ∷ us) d h = path_end (f t).left e u us d h.1

  -- round a node the left face of the one in front is the right face
  path_round : (a : ℕ) (ts : List Side) (i : ℕ) (d : Side) → IsPath a a (map f ts) → i < length ts → (f (get_or ts (place_before (length ts) i) d)).left ≡ (f (get_or ts i d)).right
  path_round a [] i d h l = absurd (omega (arith, l))
  path_round a (t ∷ ts) zero d h l =
      let last : length (t ∷ ts) - 1 ≡ length ts = omega arith in
      ap (λ k. (f (get_or (t ∷ ts) k d)).left) last ∙ path_end a a t ts d h ∙ sym h.0
  path_round a (t ∷ ts) (suc i) d h l = sym (path_step a a (t ∷ ts) i d h l)

module _ (es : List Edge) (sound : AreSound es) (nodes : (v : Point) → node_fault (edge_segments es) v ≡ None) where
  abbrev all : List Span
  all = map own_span es

  -- a side and its next one have one face
  pub next_face : (s : Side) → IsSide (length all) s → face_of all (next_side all s) ≡ face_of all s
  next_face s l =
      let v = end_of all s in
      let ts = round all v in
      let place = round_has all v (turned s) l refl in
      let path = closed_from_ring v (spokes_at v (edge_segments es)) (nodes v) in
      ap (λ (t : Side). face_of all (in_front t ts)) (sym place.2)
      ∙ ap (face_of all) (in_front-at ts place.0 (turned s) (round_differs all v) place.1)
      ∙ path_round (spoke_of all) path.0 ts place.0 (turned s) (subst (IsPath path.0 path.0) (round_spokes es sound v) path.1) place.1
      ∙ ap (λ (t : Side). face_of all (turned t)) place.2
      ∙ ap (face_of all) (turned-turned s)
