-- Edges with segments that are apart: their inner points stand once, and a sweep keeps them such.
use Rattle.std.proofs.Common.{◌≡◌, ◌≢◌, inl, inr, ℕ, suc, ◌+◌, ◌≤◌, ◌==◌, true, false, not, ℤ, List, [], ◌∷◌, ◌++◌, length, All, AllPairs, append_assoc, refl, sym, ap, ◌∙◌, subst, true≢false, arith}
use Rattle.std.specs.Prelude.{count_by}
use Rattle.std.proofs.lemmas.Bool.{and_parts, and_from, not-true, not_from_false, false_from_ne_true}
use Rattle.std.proofs.lemmas.List.{length-append}
use Rattle.std.proofs.lemmas.List.Elements.{All-nil, All-cons, All-head, All-tail, All-append, All-contains}
use Rattle.lemmas.proofs.Members.{All-from_members}
use Rattle.tgap_model.specs.declared.geometry.Point.{Point}
use Rattle.tgap_model.specs.declared.slice.Edge.{Edge}
use Rattle.tgap_model.specs.declared.segment.LabelledSegment.{LabelledSegment}
use Rattle.tgap_model.specs.Base.{same_point, no_repeat}
use Rattle.tgap_model.specs.Partition.{AreApart, is_empty, path_segments, edge_segments}
use Rattle.tgap_model.proofs.Points.{same_point-true, same_point-from}
use Rattle.map_laws.proofs.ChainMembers.{Among, count_passes, count_fails}
use Rattle.removal_laws.specs.ReplaceLaws.{is_free, other_segments}
use Rattle.removal_laws.specs.Trace.{Taken, edges_without, trace_edges, swept_edges}
use Rattle.removal_laws.specs.TraceLaws.{IsTakenByRule, LeadTo}
use Rattle.removal_laws.specs.StandLaws.{live_points, inner_points, AreSound, SoundPointsStandOnce, SweepKeepsSound}
use Rattle.removal_laws.proofs.Pairs.{all_left, all_right, mid_before, mid_after}
use Rattle.removal_laws.proofs.Places.{front_segments, IsElsewhere}
use Rattle.removal_laws.proofs.Apart.{apart_turned, away_from_second, turns_back}
use Rattle.removal_laws.proofs.Replaced.{xs, ys, ab, bc, m, old_is, elsewhere, replaced_is_apart}
use Rattle.removal_laws.proofs.Less.{times_of_append, points_append, stands_from}
use Rattle.removal_laws.proofs.Tracing.{keys_stay, key_alone, removable_is_free, follow_edges}

-- ---- points and segments that do not touch a point

abbrev IsAway : Point → LabelledSegment → Type 0
IsAway b s = (s.segment.a ≢ b) × (s.segment.b ≢ b)

-- the points of a row after the first one, and those of a whole row
tail_away : (b : Point) (arc left right place : ℕ) (c : Point) (rest : List Point) → All (IsAway b) (path_segments arc left right place (c ∷ rest)) → c ≢ b
    → All (λ q. q ≢ b) (c ∷ rest)
tail_away b arc left right place c [] h n = All-cons (λ q. q ≢ b) c [] n (All-nil (λ q. q ≢ b))
tail_away b arc left right place c (d ∷ rest) h n =
    All-cons (λ q. q ≢ b) c (d ∷ rest) n
    (tail_away b arc left right (place + 1) d rest (λ k e l. h (suc k) e (omega arith)) (h 0 (record { segment = record { a = c; b = d }; left = left; right = right; arc = arc; place = place; starts = place == 0; ends = is_empty rest }) (omega arith)).1)

path_away : (b : Point) (arc left right place : ℕ) (points : List Point) → 2 ≤ length points → All (IsAway b) (path_segments arc left right place points) → All (λ q. q ≢ b) points
path_away b arc left right place [] two h = absurd (omega arith)
path_away b arc left right place (x ∷ []) two h = absurd (omega arith)
path_away b arc left right place (x ∷ y ∷ points) two h =
    tail_away b arc left right place x (y ∷ points) h
    (h 0 (record { segment = record { a = x; b = y }; left = left; right = right; arc = arc; place = place; starts = place == 0; ends = is_empty points }) (omega arith)).0

front_away : (b : Point) (arc left right place : ℕ) (front : List Point) (a : Point) → All (IsAway b) (front_segments arc left right place front a) → All (λ q. q ≢ b) front
front_away b arc left right place [] a h = All-nil (λ q. q ≢ b)
front_away b arc left right place (x ∷ front) a h =
    All-cons (λ q. q ≢ b) x front (All-head (IsAway b) _ (front_segments arc left right (place + 1) front a) h).0
    (front_away b arc left right (place + 1) front a (All-tail (IsAway b) _ (front_segments arc left right (place + 1) front a) h))

edges_away : (b : Point) (edges : List Edge) → All (λ e. 2 ≤ length e.points) edges → All (IsAway b) (edge_segments edges) → All (λ q. q ≢ b) (live_points edges)
edges_away b [] two h = All-nil (λ q. q ≢ b)
edges_away b (e ∷ edges) two h =
    All-append (λ q. q ≢ b) e.points (live_points edges)
    (path_away b e.key e.left e.right 0 e.points (All-head (λ (f : Edge). 2 ≤ length f.points) e edges two)
    (all_left (IsAway b) (path_segments e.key e.left e.right 0 e.points) (edge_segments edges) h))
    (edges_away b edges (All-tail (λ (f : Edge). 2 ≤ length f.points) e edges two)
    (all_right (IsAway b) (path_segments e.key e.left e.right 0 e.points) (edge_segments edges) h))

none_counted : (b : Point) (points : List Point) → All (λ q. q ≢ b) points → count_by (same_point b) points ≡ 0
none_counted b [] h = refl
none_counted b (x ∷ points) h =
    let apart : same_point b x ≡ false = false_from_ne_true (same_point b x) (λ e. All-head (λ q. q ≢ b) x points h (sym (same_point-true b x e))) in
    count_fails (same_point b) x points apart ∙ none_counted b points (All-tail (λ q. q ≢ b) x points h)

-- ---- rows with no two points in a row that are one

pub no_repeat_rest : (x : Point) (points : List Point) → no_repeat (x ∷ points) ≡ true → no_repeat points ≡ true
no_repeat_rest x [] h = refl
no_repeat_rest x (y ∷ points) h = (and_parts (not (same_point x y)) (no_repeat (y ∷ points)) h).1

no_repeat_from : (front points : List Point) → no_repeat (front ++ points) ≡ true → no_repeat points ≡ true
no_repeat_from [] points h = h
no_repeat_from (x ∷ front) points h = no_repeat_from front points (no_repeat_rest x (front ++ points) h)

pub different : (a b : Point) (points : List Point) → no_repeat (a ∷ b ∷ points) ≡ true → a ≢ b
different a b points h e = true≢false (sym (same_point-from a b e) ∙ not-true (same_point a b) (and_parts (not (same_point a b)) (no_repeat (b ∷ points)) h).0)

no_repeat_without : (front : List Point) (a b c : Point) (rest : List Point) → a ≢ c → no_repeat (front ++ a ∷ b ∷ c ∷ rest) ≡ true → no_repeat (front ++ a ∷ c ∷ rest) ≡ true
no_repeat_without [] a b c rest n h =
    and_from (not (same_point a c)) (no_repeat (c ∷ rest)) (not_from_false (same_point a c) (false_from_ne_true (same_point a c) (λ e. n (same_point-true a c e))))
    (no_repeat_from (a ∷ b ∷ []) (c ∷ rest) h)
no_repeat_without (x ∷ []) a b c rest n h =
    let parts = and_parts (not (same_point x a)) (no_repeat (a ∷ b ∷ c ∷ rest)) h in
    and_from (not (same_point x a)) (no_repeat (a ∷ c ∷ rest)) parts.0 (no_repeat_without [] a b c rest n parts.1)
no_repeat_without (x ∷ y ∷ front) a b c rest n h =
    let parts = and_parts (not (same_point x y)) (no_repeat (y ∷ (front ++ a ∷ b ∷ c ∷ rest))) h in
    and_from (not (same_point x y)) (no_repeat (y ∷ (front ++ a ∷ c ∷ rest))) parts.0 (no_repeat_without (y ∷ front) a b c rest n parts.1)

-- ---- an inner point among the others

pub split_inner : (points : List Point) (b : Point) → Among b (inner_points points)
    → (front : List Point) × (a : Point) × (c : Point) × (rest : List Point) × (points ≡ front ++ a ∷ b ∷ c ∷ rest)
split_inner [] b m = absurd m
split_inner (x ∷ []) b m = absurd m
split_inner (x ∷ y ∷ []) b m = absurd m
split_inner (x ∷ y ∷ z ∷ points) b (inl e) = ([], x, z, points, ap (λ (w : Point). x ∷ w ∷ z ∷ points) e)
split_inner (x ∷ y ∷ z ∷ points) b (inr m) =
    let s = split_inner (y ∷ z ∷ points) b m in
    (x ∷ s.0, s.1, s.2, s.3, ap (λ (ps : List Point). x ∷ ps) s.4)

split_member : (edges : List Edge) (e : Edge) → Among e edges → (before : List Edge) × (after : List Edge) × (edges ≡ before ++ e ∷ after)
split_member [] e m = absurd m
split_member (f ∷ edges) e (inl s) = ([], edges, ap (λ (g : Edge). g ∷ edges) s)
split_member (f ∷ edges) e (inr m) = let s = split_member edges e m in (f ∷ s.0, s.1, ap (λ (es : List Edge). f ∷ es) s.2)

module _ (before after : List Edge) (e : Edge) (front rest : List Point) (a b c : Point) (points : e.points ≡ front ++ a ∷ b ∷ c ∷ rest)
    (sound : AreSound (before ++ e ∷ after)) where
  pub others : All (λ f. e.key ≢ f.key) (before ++ after)
  others = key_alone before e after sound.keys

  pub segments_apart : AllPairs AreApart (xs before after e front rest a b c others ++ ab before after e front rest a b c others ∷ bc before after e front rest a b c others ∷ ys before after e front rest a b c others)
  segments_apart = subst (AllPairs AreApart) (old_is before after e front rest a b c others)
      (subst (λ ps. AllPairs AreApart (edge_segments (before ++ record e { points = ps } ∷ after))) points sound.apart)

  steps : no_repeat (a ∷ b ∷ c ∷ rest) ≡ true
  steps = no_repeat_from front (a ∷ b ∷ c ∷ rest) (ap no_repeat (sym points) ∙ All-head (λ (f : Edge). no_repeat f.points ≡ true) e after (all_right (λ (f : Edge). no_repeat f.points ≡ true) before (e ∷ after) sound.steps))

  pub a_apart : a ≢ b
  a_apart = different a b (c ∷ rest) steps

  pub c_apart : c ≢ b
  c_apart f = different b c rest (no_repeat_rest a (b ∷ c ∷ rest) steps) (sym f)

  -- no other segment touches b
  away : All (IsAway b) (xs before after e front rest a b c others ++ ys before after e front rest a b c others)
  unfolding ab bc
  away = All-append (IsAway b) xs' ys'
      (All-from_members (IsAway b) xs' (λ s k. away_from_second e.key m' e.left e.right a b c (is_empty rest) s
      (All-contains (IsElsewhere e.key m') xs' s (all_left (IsElsewhere e.key m') xs' ys' (elsewhere before after e front rest a b c others)) k)
      (apart_turned s ab' (All-contains (λ t. AreApart t ab') xs' s (mid_before AreApart xs' ab' (bc' ∷ ys') segments_apart) k)) a_apart))
      (All-from_members (IsAway b) ys' (λ s k. away_from_second e.key m' e.left e.right a b c (is_empty rest) s
      (All-contains (IsElsewhere e.key m') ys' s (all_right (IsElsewhere e.key m') xs' ys' (elsewhere before after e front rest a b c others)) k)
      (All-contains (AreApart ab') ys' s (All-tail (AreApart ab') bc' ys' (mid_after AreApart xs' ab' (bc' ∷ ys') segments_apart)) k) a_apart))
    where
      m' : ℕ
      m' = m before after e front rest a b c others

      xs' : List LabelledSegment
      xs' = xs before after e front rest a b c others

      ys' : List LabelledSegment
      ys' = ys before after e front rest a b c others

      ab' : LabelledSegment
      ab' = ab before after e front rest a b c others

      bc' : LabelledSegment
      bc' = bc before after e front rest a b c others

  -- so b stands once
  once : count_by (same_point b) (live_points (before ++ e ∷ after)) ≤ 1
  unfolding xs ys
  once = omega (arith, outer, middle, none_counted b (live_points before) in_before, none_counted b (front ++ a ∷ []) in_front, none_counted b (c ∷ rest) in_rest, none_counted b (live_points after) in_after)
    where
      outer : count_by (same_point b) (live_points (before ++ e ∷ after))
          ≡ count_by (same_point b) (live_points before) + (count_by (same_point b) e.points + count_by (same_point b) (live_points after))
      outer =
          ap (count_by (same_point b)) (points_append before (e ∷ after))
          ∙ times_of_append b (live_points before) (e.points ++ live_points after)
          ∙ ap (λ (n : ℕ). count_by (same_point b) (live_points before) + n) (times_of_append b e.points (live_points after))

      middle : count_by (same_point b) e.points ≡ count_by (same_point b) (front ++ a ∷ []) + suc (count_by (same_point b) (c ∷ rest))
      middle =
          ap (count_by (same_point b)) (points ∙ sym (append_assoc front (a ∷ []) (b ∷ c ∷ rest)))
          ∙ times_of_append b (front ++ a ∷ []) (b ∷ c ∷ rest)
          ∙ ap (λ (n : ℕ). count_by (same_point b) (front ++ a ∷ []) + n) (count_passes (same_point b) b (c ∷ rest) (same_point-from b b refl))

      front_of : List LabelledSegment
      front_of = front_segments e.key e.left e.right 0 front a

      rest_of : List LabelledSegment
      rest_of = path_segments e.key e.left e.right (m before after e front rest a b c others + 1 + 1) (c ∷ rest)

      before_parts : All (IsAway b) (edge_segments before ++ front_of)
      before_parts = all_left (IsAway b) (edge_segments before ++ front_of) (rest_of ++ edge_segments after) away

      after_parts : All (IsAway b) (rest_of ++ edge_segments after)
      after_parts = all_right (IsAway b) (edge_segments before ++ front_of) (rest_of ++ edge_segments after) away

      two : All (λ (f : Edge). 2 ≤ length f.points) (before ++ e ∷ after)
      two = sound.points

      in_before : All (λ q. q ≢ b) (live_points before)
      in_before = edges_away b before (all_left (λ (f : Edge). 2 ≤ length f.points) before (e ∷ after) two) (all_left (IsAway b) (edge_segments before) front_of before_parts)

      in_front : All (λ q. q ≢ b) (front ++ a ∷ [])
      in_front = All-append (λ q. q ≢ b) front (a ∷ []) (front_away b e.key e.left e.right 0 front a (all_right (IsAway b) (edge_segments before) front_of before_parts))
          (All-cons (λ q. q ≢ b) a [] a_apart (All-nil (λ q. q ≢ b)))

      in_rest : All (λ q. q ≢ b) (c ∷ rest)
      in_rest = tail_away b e.key e.left e.right (m before after e front rest a b c others + 1 + 1) c rest (all_left (IsAway b) rest_of (edge_segments after) after_parts) c_apart

      in_after : All (λ q. q ≢ b) (live_points after)
      in_after = edges_away b after (All-tail (λ (f : Edge). 2 ≤ length f.points) e after (all_right (λ (f : Edge). 2 ≤ length f.points) before (e ∷ after) two))
          (all_right (IsAway b) rest_of (edge_segments after) after_parts)

  -- a-b and b-c are apart
  pub next_apart : AreApart (ab before after e front rest a b c others) (bc before after e front rest a b c others)
  next_apart =
      All-head (AreApart (ab before after e front rest a b c others)) (bc before after e front rest a b c others) (ys before after e front rest a b c others)
      (mid_after AreApart (xs before after e front rest a b c others) (ab before after e front rest a b c others)
      (bc before after e front rest a b c others ∷ ys before after e front rest a b c others) segments_apart)

  -- a is not c, for then they would be one segment
  pub ends_apart : a ≢ c
  unfolding ab bc
  ends_apart f = a_apart (turns_back (ab before after e front rest a b c others) (bc before after e front rest a b c others) next_apart refl f)

  -- and the edges without b are such too
  pub stays_sound : is_free (other_segments before after front a c rest) a b c ≡ true → AreSound (before ++ record e { points = front ++ a ∷ c ∷ rest } ∷ after)
  stays_sound free = record {
    keys = keys_stay before e after (front ++ a ∷ c ∷ rest) sound.keys;
    points = in_place (λ (f : Edge). 2 ≤ length f.points) sound.points (omega (arith, length-append front (a ∷ c ∷ rest)));
    steps = in_place (λ (f : Edge). no_repeat f.points ≡ true) sound.steps (no_repeat_without front a b c rest ends_apart
        (ap no_repeat (sym points) ∙ All-head (λ (f : Edge). no_repeat f.points ≡ true) e after (all_right (λ (f : Edge). no_repeat f.points ≡ true) before (e ∷ after) sound.steps)));
    apart = replaced_is_apart before after e front rest a b c others free
        (subst (λ ps. AllPairs AreApart (edge_segments (before ++ record e { points = ps } ∷ after))) points sound.apart);
  }
    where
      in_place : (P : Edge → Type 0) → All P (before ++ e ∷ after) → P (record e { points = front ++ a ∷ c ∷ rest }) → All P (before ++ record e { points = front ++ a ∷ c ∷ rest } ∷ after)
      in_place P h k = All-append P before (record e { points = front ++ a ∷ c ∷ rest } ∷ after) (all_left P before (e ∷ after) h)
          (All-cons P (record e { points = front ++ a ∷ c ∷ rest }) after k (All-tail P e after (all_right P before (e ∷ after) h)))

pub sound_points_stand_once : SoundPointsStandOnce
sound_points_stand_once edges sound = stands_from edges (λ e n b i.
    let s = split_member edges e n in
    let p = split_inner e.points b i in
    subst (λ es. count_by (same_point b) (live_points es) ≤ 1) (sym s.2) (once s.0 s.1 e p.0 p.3 p.1 b p.2 p.4 (subst AreSound s.2 sound)))

lead_sound : (ratio : ℕ) (area : ℤ) (made : ℕ) (edges : List Edge) (ts : List Taken) (last : List Edge) → LeadTo edges ts last
    → All (IsTakenByRule ratio area made) ts → AreSound edges → AreSound last
lead_sound ratio area made edges [] last leads rule sound = subst AreSound leads sound
lead_sound ratio area made edges (t ∷ ts) last leads rule sound =
    let first = All-head (IsTakenByRule ratio area made) t ts rule in
    lead_sound ratio area made (edges_without t) ts last leads.1 (All-tail (IsTakenByRule ratio area made) t ts rule)
    (stays_sound t.before t.after t.edge t.front t.rest t.a t.b t.c first.points (subst AreSound (sym leads.0) sound)
    (removable_is_free ratio area (other_segments t.before t.after t.front t.a t.c t.rest) t.a t.b t.c first.rule))

pub sweep_keeps_sound : SweepKeepsSound
sweep_keeps_sound ratio area made edges sound =
    let h = follow_edges ratio area made 0 [] edges in
    lead_sound ratio area made edges (trace_edges ratio area made 0 [] edges) (swept_edges ratio area made [] edges) h.leads h.rule sound
