-- The spokes of a node that are seen in the slots that are listed, and why all spokes of a node and all sides of a face are listed.
use Rattle.std.proofs.Common.{◌≡◌, ◌≢◌, ◌∙◌, ℕ, ◌+◌, ◌<◌, ◌≤◌, Bool, true, false, ◌||◌, eqb, List, [], ◌∷◌, length, get_or, take, refl, sym, ap, subst}
use Rattle.std.proofs.Math.Bool.{or_assoc}
use Rattle.std.specs.List.{list_any}
use Rattle.std.proofs.lemmas.Bool.{false≢true, and_from, eqb-true, eq-eqb}
use Rattle.std.proofs.lemmas.List.{get_or-map, take_all}
use Rattle.std.proofs.lemmas.List.Folds.{list_any_more}
use Rattle.tgap_model.specs.declared.geometry.Point.{Point}
use Rattle.tgap_model.specs.declared.base.BaseArc.{BaseArc}
use Rattle.tgap_model.specs.Base.{borders_face, same_point}
use Rattle.tgap_model.specs.Chains.{arc_number, last_point}
use Rattle.grid_geo.proofs.PointOrder.{points}
use Rattle.ring_walk.specs.declared.side.Side.{Side}
use Rattle.ring_walk.specs.declared.side.Way.{Way}
use Rattle.ring_walk.specs.declared.side.Way.TheVariants.{Along, Against}
use Rattle.ring_walk.specs.declared.span.Span.{Span}
use Rattle.ring_walk.specs.Sides.{face_by, same_side, span_number, start_by}
use Rattle.ring_walk.specs.Spans.{AreSpans}
use Rattle.ring_walk.proofs.SideNumbers.{same_side-itself, same_side-true}
use Rattle.face_cuts.specs.Nodes.{passes}
use Rattle.face_cuts.specs.Sectors.{span_of}
use Rattle.face_cuts.specs.Spokes.{IsSpoke}
use Rattle.face_cuts.proofs.Cases.{by_test, not_held, or_left, or_right}
use Rattle.face_cuts.proofs.SpansOfArcs.{of_arc}
use Rattle.arc_places.specs.declared.front.Front.{Front}
use Rattle.arc_places.specs.declared.sought.Sought.TheVariants.{Node, Face}
use Rattle.arc_places.specs.Slots.{arcs_in, is_there, slot_of}
use Rattle.arc_places.specs.Places.{Covers, is_among}
use Rattle.arc_places.specs.Borders.{CoversFaces, is_beside}
use Rattle.arc_places.specs.SlotTables.{AreLast, AreListed, spans_in}
use Rattle.arc_places.proofs.FoundSides.{same_test}
use Rattle.arc_places.proofs.LastOf.{seen_alike}
use Rattle.arc_places.proofs.Listed.{passes_at}
use Rattle.arc_places.proofs.SlotNumbers.{arc_in_slot, slot-inj, slot_there}

or_none : (a : Bool) → (a || false) ≡ a
or_none true = refl
or_none false = refl

module _ (slots : List BaseArc) (h : AreSpans (spans_in slots)) (v : Point) where
  abbrev n : ℕ
  n = length (arcs_in slots)

  abbrev Seen : Side → (Side → Bool) → Front → Type 0
  Seen x seen front = AreLast (spans_in slots) v x seen front

  within : (u : Side) → IsSpoke (spans_in slots) v u → u.span < n
  within u p = of_arc (arcs_in slots) u p.side

  -- in a slot without an arc no spoke is seen
  pub slot_unseen : (x : Side) (seen : Side → Bool) (front : Front) (slot : ℕ) → ((k : ℕ) → k < n → slot_of slots k ≢ slot)
      → Seen x seen front → Seen x (λ u. seen u || eqb slot (slot_of slots u.span)) front
  slot_unseen x seen front slot none l =
      seen_alike (spans_in slots) h v x seen (λ u. seen u || eqb slot (slot_of slots u.span)) front
      (λ u p. sym (ap (λ (b : Bool). seen u || b) (not_held (eqb slot (slot_of slots u.span)) (λ e. none u.span (within u p) (sym (eqb-true slot (slot_of slots u.span) e)))) ∙ or_none (seen u))) l

  abbrev side_by : ℕ → Way → Side
  side_by k w = record { span = k; way = w }

  -- in the slot of an arc its two sides are
  pub slot_seen : (x : Side) (seen : Side → Bool) (front : Front) (slot k : ℕ) → k < n → slot_of slots k ≡ slot
      → Seen x (λ u. (seen u || same_side u (side_by k Along)) || same_side u (side_by k Against)) front → Seen x (λ u. seen u || eqb slot (slot_of slots u.span)) front
  slot_seen x seen front slot k m e l =
      seen_alike (spans_in slots) h v x (λ u. (seen u || same_side u (side_by k Along)) || same_side u (side_by k Against)) (λ u. seen u || eqb slot (slot_of slots u.span)) front
      (λ u p. or_assoc (seen u) (same_side u (side_by k Along)) (same_side u (side_by k Against)) ∙ ap (λ (b : Bool). seen u || b) (one_of u p)) l
    where
      is_in : (u : Side) (w : Way) → same_side u (side_by k w) ≡ true → eqb slot (slot_of slots u.span) ≡ true
      is_in u w t = eq-eqb slot (slot_of slots u.span) (sym e ∙ ap (λ (s : Side). slot_of slots s.span) (sym (same_side-true u (side_by k w) t)))

      by_way : (w : Way) → (same_side (side_by k w) (side_by k Along) || same_side (side_by k w) (side_by k Against)) ≡ true
      by_way Along = or_left (same_side (side_by k Along) (side_by k Along)) (same_side (side_by k Along) (side_by k Against)) (same_side-itself (side_by k Along))
      by_way Against = or_right (same_side (side_by k Against) (side_by k Along)) (same_side (side_by k Against) (side_by k Against)) (same_side-itself (side_by k Against))

      one_of : (u : Side) → IsSpoke (spans_in slots) v u → (same_side u (side_by k Along) || same_side u (side_by k Against)) ≡ eqb slot (slot_of slots u.span)
      one_of u p =
          same_test (same_side u (side_by k Along) || same_side u (side_by k Against)) (eqb slot (slot_of slots u.span))
          (λ t. by_test (same_side u (side_by k Along)) (λ a. is_in u Along a)
          (λ b. is_in u Against (sym (ap (λ (c : Bool). c || same_side u (side_by k Against)) b) ∙ t)))
          (λ t.
          let span : u.span ≡ k = slot-inj slots u.span k (within u p) m (sym (eqb-true slot (slot_of slots u.span) t) ∙ sym e) in
          subst (λ (s : Side). (same_side s (side_by k Along) || same_side s (side_by k Against)) ≡ true) (sym (ap (λ (j : ℕ). side_by j u.way) span)) (by_way u.way))

  -- one slot more
  pub slots_more : (x : Side) (front : Front) (numbers : List ℕ) (i slot : ℕ) → i < length numbers → slot ≡ get_or numbers i slot
      → Seen x (λ u. is_among (slot_of slots u.span) (take i numbers) || eqb slot (slot_of slots u.span)) front
      → Seen x (λ u. is_among (slot_of slots u.span) (take (i + 1) numbers)) front
  slots_more x front numbers i slot short here l =
      seen_alike (spans_in slots) h v x (λ u. is_among (slot_of slots u.span) (take i numbers) || eqb slot (slot_of slots u.span)) (λ u. is_among (slot_of slots u.span) (take (i + 1) numbers)) front
      (λ u p. sym (list_any_more (λ (j : ℕ). eqb j (slot_of slots u.span)) numbers i slot short
      ∙ ap (λ (j : ℕ). is_among (slot_of slots u.span) (take i numbers) || eqb j (slot_of slots u.span)) (sym here))) l

  -- in the end all spokes are seen
  pub all_seen : (numbers : List ℕ) (i : ℕ) → length numbers ≤ i → AreListed slots numbers (Node v) → (u : Side) → IsSpoke (spans_in slots) v u → is_among (slot_of slots u.span) (take i numbers) ≡ true
  all_seen numbers i end listed u p =
      ap (is_among (slot_of slots u.span)) (take_all i numbers end)
      ∙ listed u.span u.way (within u p) (subst (λ (w : Point). same_point (start_by u.way (span_number (spans_in slots) u.span)) w ≡ true) p.node (points.itself (start_by u.way (span_number (spans_in slots) u.span))))

-- ---- why the slots are listed

-- the span of an arc that is there, by its slot
span_at : (slots : List BaseArc) (k : ℕ) → k < length (arcs_in slots) → span_number (spans_in slots) k ≡ span_of (arc_number slots (slot_of slots k))
span_at slots k l = get_or-map span_of (arcs_in slots) k (record { left = 0; right = 0; points = [] }) _ l ∙ ap span_of (sym (arc_in_slot slots k l))

last_in : (v q : Point) (ps : List Point) → v ≡ last_point (q ∷ ps) → list_any (same_point v) (q ∷ ps) ≡ true
last_in v q [] e = or_left (same_point v q) false (subst (λ (w : Point). same_point v w ≡ true) e (points.itself v))
last_in v q (r ∷ ps) e = or_right (same_point v q) (list_any (same_point v) (r ∷ ps)) (last_in v r ps e)

-- an arc that is there has its ends
end_in : (v : Point) (w : Way) (a : BaseArc) → is_there a ≡ true → same_point (start_by w (span_of a)) v ≡ true → passes v a ≡ true
end_in v w a there e = by w a.points there (points.same (start_by w (span_of a)) v e)
  where
    by : (w : Way) (ps : List Point) → is_there (record a { points = ps }) ≡ true → start_by w (span_of (record a { points = ps })) ≡ v → list_any (same_point v) ps ≡ true
    by w [] t s = absurd (false≢true t)
    by Along (q ∷ ps) t s = or_left (same_point v q) (list_any (same_point v) ps) (subst (λ (z : Point). same_point v z ≡ true) (sym s) (points.itself v))
    by Against (q ∷ ps) t s = last_in v q ps (sym s)

pub node_listed : (lists : Point → List ℕ) (slots : List BaseArc) (v : Point) → Covers lists slots → AreListed slots (lists v) (Node v)
node_listed lists slots v covers k w l e =
    let i = slot_of slots k in
    let at = slot_there slots k l in
    let here : same_point (start_by w (span_of (arc_number slots i))) v ≡ true = ap (λ (s : Span). same_point (start_by w s) v) (sym (span_at slots k l)) ∙ e in
    covers v i (passes_at (passes v) slots i at.within ∙ end_in v w (arc_number slots i) at.there here)

-- a face of an arc is one of its two
face_in : (f : ℕ) (w : Way) (a : BaseArc) → eqb (face_by w (span_of a)) f ≡ true → borders_face f a ≡ true
face_in f Along a e = or_left (eqb a.left f) (eqb a.right f) e
face_in f Against a e = or_right (eqb a.left f) (eqb a.right f) e

pub face_listed : (lists : ℕ → List ℕ) (slots : List BaseArc) (f : ℕ) → CoversFaces lists slots → AreListed slots (lists f) (Face f)
face_listed lists slots f covers k w l e =
    let i = slot_of slots k in
    let at = slot_there slots k l in
    let here : eqb (face_by w (span_of (arc_number slots i))) f ≡ true = ap (λ (s : Span). eqb (face_by w s) f) (sym (span_at slots k l)) ∙ e in
    covers f i (passes_at (is_beside f) slots i at.within ∙ and_from (is_there (arc_number slots i)) (borders_face f (arc_number slots i)) at.there (face_in f w (arc_number slots i) here))
