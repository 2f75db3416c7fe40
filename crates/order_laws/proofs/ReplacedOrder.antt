-- The ends round a node keep their cyclic order where a vertex is taken out of an edge, and in a sweep.
use Rattle.std.proofs.Common.{append-nil, ◌≡◌, ◌≢◌, inl, inr, ℕ, ◌+◌, ◌==◌, ◌&&◌, Bool, true, false, if◌then◌else◌, List, [], ◌∷◌, ◌++◌, map, flat_map, All, Contains, append_assoc, ℤ, refl, sym, ap, ap₂, ◌∙◌, subst, subst₂, arith}
use Rattle.std.proofs.lemmas.Bool.{and_parts, ne_eqb}
use Rattle.std.proofs.lemmas.List.Concat.{flat_map-append}
use Rattle.std.proofs.lemmas.List.Elements.{All-head, All-tail, All-weaker, All-contains_itself}
use Rattle.lemmas.specs.Sorting.{sort_by}
use Rattle.lemmas.proofs.Members.{All-flat_map}
use Rattle.tgap_model.specs.declared.geometry.Point.{Point}
use Rattle.tgap_model.specs.declared.geometry.Seg.{Seg}
use Rattle.tgap_model.specs.declared.slice.Edge.{Edge}
use Rattle.tgap_model.specs.declared.segment.LabelledSegment.{LabelledSegment}
use Rattle.tgap_model.specs.Base.{same_point}
use Rattle.tgap_model.specs.Partition.{is_empty, Spoke, spokes_of, edge_segments}
use Rattle.tgap_model.proofs.Points.{same_point-true}
use Rattle.base_check.proofs.Spokes.{each_spoke}
use Rattle.removal_laws.specs.ReplaceLaws.{is_free, other_segments}
use Rattle.removal_laws.specs.Trace.{Taken, edges_without, trace_edges, swept_edges}
use Rattle.removal_laws.specs.TraceLaws.{IsTakenByRule, LeadTo}
use Rattle.removal_laws.specs.StandLaws.{AreSound}
use Rattle.removal_laws.specs.WedgeLaws.{AreJoined, HaveOnePlace}
use Rattle.removal_laws.proofs.Places.{moved}
use Rattle.removal_laws.proofs.Replaced.{m, xs, ys, ab, bc, ac, old_is, new_is, of_others}
use Rattle.removal_laws.proofs.Sound.{others, ends_apart, stays_sound}
use Rattle.removal_laws.proofs.Tracing.{removable_is_free, follow_edges}
use Rattle.removal_laws.proofs.WedgeEmpty.{neighbours_have_one_place}
use Rattle.order_laws.specs.NodeOrder.{End, Way, ways_of, way_before, ends_round, IsRotation, ReplacedKeepsOrder, SweepKeepsOrder}
use Rattle.order_laws.proofs.Rotations.{rotation_self, rotation_same, rotation_then}
use Rattle.order_laws.proofs.WayPlaces.{way, end_of, replaced_turned}
use Rattle.order_laws.proofs.Ways.{end_at, all_ways, ways_toward, AreWays, sound_ways}

-- the place of a segment in its row plays no part
ways_moved : (key n : ℕ) (v : Point) (ss : List LabelledSegment) → flat_map (ways_of v) (map (moved key n) ss) ≡ flat_map (ways_of v) ss
ways_moved key n v [] = refl
ways_moved key n v (s ∷ ss) = ap (λ (ws : List Way). ways_of v s ++ ws) (ways_moved key n v ss)

-- ---- one vertex

-- the way where there is one
abbrev where_there : Bool → Way → List Way
where_there b w = if b then w ∷ [] else []

module _ (before after : List Edge) (e : Edge) (front rest : List Point) (a b c : Point)
    (sound : AreSound (before ++ record e { points = front ++ a ∷ b ∷ c ∷ rest } ∷ after))
    (free : is_free (other_segments before after front a c rest) a b c ≡ true) (v : Point) where
  new_sound : AreSound (before ++ record e { points = front ++ a ∷ c ∷ rest } ∷ after)
  new_sound = stays_sound before after (record e { points = front ++ a ∷ b ∷ c ∷ rest }) front rest a b c refl sound free

  alone : All (λ f. e.key ≢ f.key) (before ++ after)
  alone = others before after (record e { points = front ++ a ∷ b ∷ c ∷ rest }) front rest a b c refl sound

  -- the edge starts at the node with a, or ends there with c
  starts : Bool
  starts = (m before after e front rest a b c alone == 0) && same_point a v

  ends : Bool
  ends = is_empty rest && same_point c v

  at_a : starts ≡ true → a ≡ v
  unfolding starts
  at_a f = same_point-true a v (and_parts (m before after e front rest a b c alone == 0) (same_point a v) f).1

  at_c : ends ≡ true → c ≡ v
  unfolding ends
  at_c f = same_point-true c v (and_parts (is_empty rest) (same_point c v) f).1

  -- the segments before a-b and those after b-c, and their ways
  front_segments : List LabelledSegment
  front_segments = xs before after e front rest a b c alone

  back_segments : List LabelledSegment
  back_segments = ys before after e front rest a b c alone

  us : List Way
  us = flat_map (ways_of v) front_segments

  ws : List Way
  ws = flat_map (ways_of v) back_segments

  old_ways : all_ways v (before ++ record e { points = front ++ a ∷ b ∷ c ∷ rest } ∷ after)
      ≡ us ++ (where_there starts (way (end_at e.key true) b) ++ (where_there ends (way (end_at e.key false) b) ++ ws))
  unfolding us ws front_segments back_segments starts ends ab bc m alone
  old_ways =
      ap (flat_map (ways_of v)) (old_is before after e front rest a b c alone)
      ∙ flat_map-append (ways_of v) (xs before after e front rest a b c alone)
      (ab before after e front rest a b c alone ∷ bc before after e front rest a b c alone ∷ ys before after e front rest a b c alone)
      ∙ ap₂ (λ (ps : List Way) (t : Bool). us ++ (ps ++ ((where_there (t && same_point b v) (way (end_at e.key true) c) ++ where_there ends (way (end_at e.key false) b)) ++ ws)))
      (append-nil (where_there starts (way (end_at e.key true) b))) (ne_eqb (m before after e front rest a b c alone + 1) 0 (λ f. absurd (omega arith)))

  new_ways : all_ways v (before ++ record e { points = front ++ a ∷ c ∷ rest } ∷ after)
      ≡ us ++ (where_there starts (way (end_at e.key true) c) ++ (where_there ends (way (end_at e.key false) a) ++ ws))
  unfolding us ws front_segments back_segments starts ends ac m alone
  new_ways =
      ap (flat_map (ways_of v)) (new_is before after e front rest a b c alone)
      ∙ flat_map-append (ways_of v) (map (moved e.key (m before after e front rest a b c alone)) (xs before after e front rest a b c alone))
      (ac before after e front rest a b c alone ∷ map (moved e.key (m before after e front rest a b c alone)) (ys before after e front rest a b c alone))
      ∙ ap₂ (λ (ps qs : List Way). ps ++ (ways_of v (ac before after e front rest a b c alone) ++ qs))
      (ways_moved e.key (m before after e front rest a b c alone) v (xs before after e front rest a b c alone))
      (ways_moved e.key (m before after e front rest a b c alone) v (ys before after e front rest a b c alone))
      ∙ ap (λ (ps : List Way). us ++ ps) (append_assoc (where_there starts (way (end_at e.key true) c)) (where_there ends (way (end_at e.key false) a)) ws)

  -- the others go along other live segments
  along_others : All (λ (w : Way). AreJoined (other_segments before after front a c rest) v w.toward) (us ++ ws)
  unfolding us ws front_segments back_segments
  along_others =
      subst (All (λ (w : Way). AreJoined segments v w.toward)) (flat_map-append (ways_of v) (xs before after e front rest a b c alone) (ys before after e front rest a b c alone))
      (ways_toward (AreJoined segments v) v (xs before after e front rest a b c alone ++ ys before after e front rest a b c alone)
      (All-flat_map Along (spokes_of v) (xs before after e front rest a b c alone ++ ys before after e front rest a b c alone)
      (All-weaker (λ (s : LabelledSegment). Contains segments s.segment) (λ s. All Along (spokes_of v s)) (λ s k. each_spoke v s Along
      (λ f g. (s.segment, k, inl (g, refl))) (λ f g. (s.segment, k, inr (refl, g))))
      (xs before after e front rest a b c alone ++ ys before after e front rest a b c alone)
      (of_others before after e front rest a b c alone (Contains segments) (All-contains_itself segments)))))
    where
      segments : List Seg
      segments = other_segments before after front a c rest

      Along : Spoke → Type 0
      Along s = AreJoined segments v s.toward

  -- the ends in the order of some ways
  abbrev ordered : List Way → List End
  ordered ps = map end_of (sort_by (way_before v) ps)

  replaced_ring : IsRotation (ordered (all_ways v (before ++ record e { points = front ++ a ∷ b ∷ c ∷ rest } ∷ after)))
      (ordered (all_ways v (before ++ record e { points = front ++ a ∷ c ∷ rest } ∷ after)))
  replaced_ring =
      subst₂ (λ ps qs. IsRotation (ordered ps) (ordered qs)) (sym old_ways) (sym new_ways)
      (by starts ends refl refl (subst (AreWays v) old_ways (sound_ways _ sound v)) (subst (AreWays v) new_ways (sound_ways _ new_sound v)))
    where
      places : HaveOnePlace a b c (AreJoined (other_segments before after front a c rest) a) × HaveOnePlace c b a (AreJoined (other_segments before after front a c rest) c)
      places = neighbours_have_one_place before after e front rest a b c sound free

      by : (s t : Bool) → starts ≡ s → ends ≡ t
          → AreWays v (us ++ (where_there s (way (end_at e.key true) b) ++ (where_there t (way (end_at e.key false) b) ++ ws)))
          → AreWays v (us ++ (where_there s (way (end_at e.key true) c) ++ (where_there t (way (end_at e.key false) a) ++ ws)))
          → IsRotation (ordered (us ++ (where_there s (way (end_at e.key true) b) ++ (where_there t (way (end_at e.key false) b) ++ ws))))
          (ordered (us ++ (where_there s (way (end_at e.key true) c) ++ (where_there t (way (end_at e.key false) a) ++ ws))))
      by true true f g x y =
          absurd (ends_apart before after (record e { points = front ++ a ∷ b ∷ c ∷ rest }) front rest a b c refl sound (at_a f ∙ sym (at_c g)))
      by true false f g x y =
          replaced_turned v b c (end_at e.key true) us ws (AreJoined (other_segments before after front a c rest) v)
          (subst (λ w. HaveOnePlace w b c (AreJoined (other_segments before after front a c rest) w)) (at_a f) places.0) along_others
          x.leave x.decided y.leave y.decided
      by false true f g x y =
          replaced_turned v b a (end_at e.key false) us ws (AreJoined (other_segments before after front a c rest) v)
          (subst (λ w. HaveOnePlace w b a (AreJoined (other_segments before after front a c rest) w)) (at_c g) places.1) along_others
          x.leave x.decided y.leave y.decided
      by false false f g x y = rotation_self (ordered (us ++ ws))

pub replaced_keeps_order : ReplacedKeepsOrder
replaced_keeps_order before after e front rest a b c sound free v = replaced_ring before after e front rest a b c sound free v

-- ---- a sweep

lead_order : (ratio : ℕ) (area : ℤ) (made : ℕ) (edges : List Edge) (ts : List Taken) (last : List Edge) → LeadTo edges ts last
    → All (IsTakenByRule ratio area made) ts → AreSound edges → (v : Point)
    → IsRotation (ends_round v (edge_segments edges)) (ends_round v (edge_segments last))
lead_order ratio area made edges [] last leads rule sound v = rotation_same _ _ (ap (λ es. ends_round v (edge_segments es)) leads)
lead_order ratio area made edges (t ∷ ts) last leads rule sound v =
    rotation_then (ends_round v (edge_segments edges)) (ends_round v (edge_segments (edges_without t))) (ends_round v (edge_segments last))
    (subst (λ es. IsRotation (ends_round v (edge_segments es)) (ends_round v (edge_segments (edges_without t)))) leads.0
    (subst (λ ps. IsRotation (ends_round v (edge_segments (t.before ++ record t.edge { points = ps } ∷ t.after))) (ends_round v (edge_segments (edges_without t)))) (sym first.points)
    (replaced_keeps_order t.before t.after t.edge t.front t.rest t.a t.b t.c with_points free v)))
    (lead_order ratio area made (edges_without t) ts last leads.1 (All-tail (IsTakenByRule ratio area made) t ts rule)
    (stays_sound t.before t.after t.edge t.front t.rest t.a t.b t.c first.points here free) v)
  where
    first : IsTakenByRule ratio area made t
    first = All-head (IsTakenByRule ratio area made) t ts rule

    here : AreSound (t.before ++ t.edge ∷ t.after)
    here = subst AreSound (sym leads.0) sound

    free : is_free (other_segments t.before t.after t.front t.a t.c t.rest) t.a t.b t.c ≡ true
    free = removable_is_free ratio area (other_segments t.before t.after t.front t.a t.c t.rest) t.a t.b t.c first.rule

    with_points : AreSound (t.before ++ record t.edge { points = t.front ++ t.a ∷ t.b ∷ t.c ∷ t.rest } ∷ t.after)
    with_points = subst (λ ps. AreSound (t.before ++ record t.edge { points = ps } ∷ t.after)) first.points here

pub sweep_keeps_order : SweepKeepsOrder
sweep_keeps_order ratio area made edges sound v =
    let k = follow_edges ratio area made 0 [] edges in
    lead_order ratio area made edges (trace_edges ratio area made 0 [] edges) (swept_edges ratio area made [] edges) k.leads k.rule sound v
