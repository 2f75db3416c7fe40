-- Round each node the faces of edges still agree where a vertex is taken out of one, and after a sweep.
use Rattle.std.proofs.Common.{append-nil, ◌≡◌, ◌≢◌, inl, inr, ℕ, ◌+◌, ◌==◌, ◌&&◌, Bool, true, false, if◌then◌else◌, List, [], ◌∷◌, ◌++◌, map, flat_map, All, AllPairs, Contains, append_assoc, ℤ, refl, sym, ap, ap₂, ◌∙◌, subst, arith}
use Rattle.std.proofs.lemmas.Bool.{and_parts, ne_eqb}
use Rattle.std.proofs.lemmas.List.Concat.{flat_map-append}
use Rattle.std.proofs.lemmas.List.Elements.{All-head, All-tail, All-weaker, All-contains_itself}
use Rattle.lemmas.specs.Sorting.{sort_by}
use Rattle.lemmas.proofs.Members.{All-flat_map}
use Rattle.tgap_model.specs.declared.geometry.Point.{Point}
use Rattle.tgap_model.specs.declared.geometry.Seg.{Seg}
use Rattle.tgap_model.specs.declared.slice.Edge.{Edge}
use Rattle.tgap_model.specs.declared.segment.LabelledSegment.{LabelledSegment}
use Rattle.tgap_model.specs.Base.{same_point}
use Rattle.tgap_model.specs.Partition.{is_empty, Spoke, spokes_of, spokes_at, edge_segments}
use Rattle.tgap_model.proofs.Points.{same_point-true}
use Rattle.base_check.proofs.Spokes.{each_spoke}
use Rattle.base_check.proofs.Apart.{IsDecided}
use Rattle.removal_laws.specs.ReplaceLaws.{is_free, other_segments}
use Rattle.removal_laws.specs.Trace.{Taken, edges_without, trace_edges, swept_edges}
use Rattle.removal_laws.specs.TraceLaws.{IsTakenByRule, LeadTo}
use Rattle.removal_laws.specs.StandLaws.{AreSound}
use Rattle.removal_laws.specs.WedgeLaws.{AreJoined, HaveOnePlace}
use Rattle.removal_laws.proofs.Places.{moved}
use Rattle.removal_laws.proofs.Replaced.{m, xs, ys, ab, bc, ac, old_is, new_is, of_others}
use Rattle.removal_laws.proofs.Sound.{others, ends_apart, stays_sound}
use Rattle.removal_laws.proofs.Tracing.{removable_is_free, follow_edges}
use Rattle.removal_laws.proofs.WedgeEmpty.{neighbours_have_one_place}
use Rattle.slice_laws.proofs.SpokeRings.{spoke, comes_before, closed_from_ring, ring_from_closed}
use Rattle.step_laws.specs.NodeLaws.{AgreeRound, ReplacedAgreesRound, SweepKeepsNodes}
use Rattle.step_laws.proofs.SpokesApart.{all_spokes, spokes_decided, spokes_leave}
use Rattle.step_laws.proofs.ReplacedSpoke.{IsClosed, replaced_closed}

-- the place of a segment in its row plays no part
spokes_moved : (key n : ℕ) (v : Point) (ss : List LabelledSegment) → flat_map (spokes_of v) (map (moved key n) ss) ≡ flat_map (spokes_of v) ss
spokes_moved key n v [] = refl
spokes_moved key n v (s ∷ ss) = ap (λ (qs : List Spoke). spokes_of v s ++ qs) (spokes_moved key n v ss)

-- what is known of the spokes of sound edges at a node
record AreSpokes (v : Point) (ps : List Spoke) : Type 0 where
  leave : All (λ p. v ≢ p.toward) ps
  decided : AllPairs (IsDecided v) ps

sound_spokes : (es : List Edge) → AreSound es → (v : Point) → AreSpokes v (all_spokes v es)
sound_spokes es sound v = record { leave = spokes_leave es sound v; decided = spokes_decided es sound v }

-- ---- one vertex

-- the spoke where there is one
abbrev where_there : Bool → Spoke → List Spoke
where_there b p = if b then p ∷ [] else []

module _ (before after : List Edge) (e : Edge) (front rest : List Point) (a b c : Point)
    (sound : AreSound (before ++ record e { points = front ++ a ∷ b ∷ c ∷ rest } ∷ after))
    (free : is_free (other_segments before after front a c rest) a b c ≡ true) (v : Point) where
  abbrev old : List Edge
  old = before ++ record e { points = front ++ a ∷ b ∷ c ∷ rest } ∷ after

  abbrev new : List Edge
  new = before ++ record e { points = front ++ a ∷ c ∷ rest } ∷ after

  new_sound : AreSound (before ++ record e { points = front ++ a ∷ c ∷ rest } ∷ after)
  new_sound = stays_sound before after (record e { points = front ++ a ∷ b ∷ c ∷ rest }) front rest a b c refl sound free

  alone : All (λ f. e.key ≢ f.key) (before ++ after)
  alone = others before after (record e { points = front ++ a ∷ b ∷ c ∷ rest }) front rest a b c refl sound

  -- the edge starts at the node with a, or ends there with c
  starts : Bool
  starts = (m before after e front rest a b c alone == 0) && same_point a v

  ends : Bool
  ends = is_empty rest && same_point c v

  at_a : starts ≡ true → a ≡ v
  unfolding starts
  at_a f = same_point-true a v (and_parts (m before after e front rest a b c alone == 0) (same_point a v) f).1

  at_c : ends ≡ true → c ≡ v
  unfolding ends
  at_c f = same_point-true c v (and_parts (is_empty rest) (same_point c v) f).1

  -- the segments before a-b and those after b-c, and their spokes
  front_segments : List LabelledSegment
  front_segments = xs before after e front rest a b c alone

  back_segments : List LabelledSegment
  back_segments = ys before after e front rest a b c alone

  ps : List Spoke
  ps = flat_map (spokes_of v) front_segments

  qs : List Spoke
  qs = flat_map (spokes_of v) back_segments

  old_spokes : all_spokes v (before ++ record e { points = front ++ a ∷ b ∷ c ∷ rest } ∷ after)
      ≡ ps ++ (where_there starts (spoke b e.left e.right) ++ (where_there ends (spoke b e.right e.left) ++ qs))
  unfolding ps qs front_segments back_segments starts ends ab bc m alone
  old_spokes =
      ap (flat_map (spokes_of v)) (old_is before after e front rest a b c alone)
      ∙ flat_map-append (spokes_of v) (xs before after e front rest a b c alone) (ab before after e front rest a b c alone ∷ bc before after e front rest a b c alone ∷ ys before after e front rest a b c alone)
      ∙ ap₂ (λ (us : List Spoke) (t : Bool). ps ++ (us ++ ((where_there (t && same_point b v) (spoke c e.left e.right) ++ where_there ends (spoke b e.right e.left)) ++ qs)))
      (append-nil (where_there starts (spoke b e.left e.right))) (ne_eqb (m before after e front rest a b c alone + 1) 0 (λ f. absurd (omega arith)))

  new_spokes : all_spokes v (before ++ record e { points = front ++ a ∷ c ∷ rest } ∷ after)
      ≡ ps ++ (where_there starts (spoke c e.left e.right) ++ (where_there ends (spoke a e.right e.left) ++ qs))
  unfolding ps qs front_segments back_segments starts ends ac m alone
  new_spokes =
      ap (flat_map (spokes_of v)) (new_is before after e front rest a b c alone)
      ∙ flat_map-append (spokes_of v) (map (moved e.key (m before after e front rest a b c alone)) (xs before after e front rest a b c alone)) (ac before after e front rest a b c alone ∷ map (moved e.key (m before after e front rest a b c alone)) (ys before after e front rest a b c alone))
      ∙ ap₂ (λ (us ws : List Spoke). us ++ (spokes_of v (ac before after e front rest a b c alone) ++ ws))
      (spokes_moved e.key (m before after e front rest a b c alone) v (xs before after e front rest a b c alone))
      (spokes_moved e.key (m before after e front rest a b c alone) v (ys before after e front rest a b c alone))
      ∙ ap (λ (us : List Spoke). ps ++ us) (append_assoc (where_there starts (spoke c e.left e.right)) (where_there ends (spoke a e.right e.left)) qs)

  -- the others go along other live segments
  along_others : All (λ (s : Spoke). AreJoined (other_segments before after front a c rest) v s.toward) (ps ++ qs)
  unfolding ps qs front_segments back_segments
  along_others =
      subst (All Along) (flat_map-append (spokes_of v) (xs before after e front rest a b c alone) (ys before after e front rest a b c alone))
      (All-flat_map Along (spokes_of v) (xs before after e front rest a b c alone ++ ys before after e front rest a b c alone)
      (All-weaker (λ (s : LabelledSegment). Contains segments s.segment) (λ s. All Along (spokes_of v s)) (λ s k. each_spoke v s Along
      (λ f g. (s.segment, k, inl (g, refl))) (λ f g. (s.segment, k, inr (refl, g))))
      (xs before after e front rest a b c alone ++ ys before after e front rest a b c alone)
      (of_others before after e front rest a b c alone (Contains segments) (All-contains_itself segments))))
    where
      segments : List Seg
      segments = other_segments before after front a c rest

      Along : Spoke → Type 0
      Along s = AreJoined segments v s.toward

  replaced_ring : IsClosed (sort_by (comes_before v) (all_spokes v (before ++ record e { points = front ++ a ∷ b ∷ c ∷ rest } ∷ after)))
      → IsClosed (sort_by (comes_before v) (all_spokes v (before ++ record e { points = front ++ a ∷ c ∷ rest } ∷ after)))
  replaced_ring closed =
      subst (λ us. IsClosed (sort_by (comes_before v) us)) (sym new_spokes)
      (by starts ends refl refl (subst (AreSpokes v) old_spokes (sound_spokes _ sound v)) (subst (AreSpokes v) new_spokes (sound_spokes _ new_sound v))
      (subst (λ us. IsClosed (sort_by (comes_before v) us)) old_spokes closed))
    where
      places : HaveOnePlace a b c (AreJoined (other_segments before after front a c rest) a) × HaveOnePlace c b a (AreJoined (other_segments before after front a c rest) c)
      places = neighbours_have_one_place before after e front rest a b c sound free

      by : (s t : Bool) → starts ≡ s → ends ≡ t
          → AreSpokes v (ps ++ (where_there s (spoke b e.left e.right) ++ (where_there t (spoke b e.right e.left) ++ qs)))
          → AreSpokes v (ps ++ (where_there s (spoke c e.left e.right) ++ (where_there t (spoke a e.right e.left) ++ qs)))
          → IsClosed (sort_by (comes_before v) (ps ++ (where_there s (spoke b e.left e.right) ++ (where_there t (spoke b e.right e.left) ++ qs))))
          → IsClosed (sort_by (comes_before v) (ps ++ (where_there s (spoke c e.left e.right) ++ (where_there t (spoke a e.right e.left) ++ qs))))
      by true true f g x y k =
          absurd (ends_apart before after (record e { points = front ++ a ∷ b ∷ c ∷ rest }) front rest a b c refl sound (at_a f ∙ sym (at_c g)))
      by true false f g x y k =
          replaced_closed v b c e.left e.right ps qs (AreJoined (other_segments before after front a c rest) v)
          (subst (λ w. HaveOnePlace w b c (AreJoined (other_segments before after front a c rest) w)) (at_a f) places.0) along_others
          x.leave x.decided y.leave y.decided k
      by false true f g x y k =
          replaced_closed v b a e.right e.left ps qs (AreJoined (other_segments before after front a c rest) v)
          (subst (λ w. HaveOnePlace w b a (AreJoined (other_segments before after front a c rest) w)) (at_c g) places.1) along_others
          x.leave x.decided y.leave y.decided k
      by false false f g x y k = k

pub replaced_agrees_round : ReplacedAgreesRound
replaced_agrees_round before after e front rest a b c sound free v h =
    let ring = replaced_ring before after e front rest a b c sound free v
    (closed_from_ring v (spokes_at v (edge_segments (before ++ record e { points = front ++ a ∷ b ∷ c ∷ rest } ∷ after))) h) in
    ring_from_closed v (spokes_at v (edge_segments (before ++ record e { points = front ++ a ∷ c ∷ rest } ∷ after))) ring.0 ring.1

-- ---- a sweep

lead_round : (ratio : ℕ) (area : ℤ) (made : ℕ) (edges : List Edge) (ts : List Taken) (last : List Edge) → LeadTo edges ts last
    → All (IsTakenByRule ratio area made) ts → AreSound edges → (v : Point) → AgreeRound v edges → AgreeRound v last
lead_round ratio area made edges [] last leads rule sound v h = subst (AgreeRound v) leads h
lead_round ratio area made edges (t ∷ ts) last leads rule sound v h =
    lead_round ratio area made (edges_without t) ts last leads.1 (All-tail (IsTakenByRule ratio area made) t ts rule)
    (stays_sound t.before t.after t.edge t.front t.rest t.a t.b t.c first.points here free) v
    (replaced_agrees_round t.before t.after t.edge t.front t.rest t.a t.b t.c (with_points AreSound here) free v (with_points (AgreeRound v) (subst (AgreeRound v) (sym leads.0) h)))
  where
    first : IsTakenByRule ratio area made t
    first = All-head (IsTakenByRule ratio area made) t ts rule

    here : AreSound (t.before ++ t.edge ∷ t.after)
    here = subst AreSound (sym leads.0) sound

    free : is_free (other_segments t.before t.after t.front t.a t.c t.rest) t.a t.b t.c ≡ true
    free = removable_is_free ratio area (other_segments t.before t.after t.front t.a t.c t.rest) t.a t.b t.c first.rule

    with_points : (P : List Edge → Type 0) → P (t.before ++ t.edge ∷ t.after) → P (t.before ++ record t.edge { points = t.front ++ t.a ∷ t.b ∷ t.c ∷ t.rest } ∷ t.after)
    with_points P k = subst (λ ps. P (t.before ++ record t.edge { points = ps } ∷ t.after)) first.points k

pub sweep_keeps_nodes : SweepKeepsNodes
sweep_keeps_nodes ratio area made edges sound v h =
    let k = follow_edges ratio area made 0 [] edges in
    lead_round ratio area made edges (trace_edges ratio area made 0 [] edges) (swept_edges ratio area made [] edges) k.leads k.rule sound v h
