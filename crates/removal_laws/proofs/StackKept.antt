-- The faces down each line still agree where a vertex is taken out of an edge, and after a sweep.
use Rattle.std.proofs.Common.{◌≡◌, ◌≢◌, ◌⊎◌, inl, inr, ⊎_elim, ℕ, ◌-◌, ◌==◌, ◌&&◌, nat_lt, Bool, true, false, cond, List, [], ◌∷◌, ◌++◌, map, filter, get_or, All, AllPairs, ℤ, unsigned_abs, refl, sym, ap, ◌∙◌, subst, true≢false, arith}
use Rattle.std.specs.List.{list_all}
use Rattle.std.proofs.lemmas.Bool.{or_cases, eqb-true, eqb-false, cases_Bool, and_right, le-ltb, cond-false}
use Rattle.std.proofs.lemmas.List.{map-append}
use Rattle.std.proofs.lemmas.List.Elements.{All-head, All-tail, All-weaker}
use Rattle.lemmas.specs.Sorting.{sort_by}
use Rattle.lemmas.proofs.Members.{All-from_members}
use Rattle.lemmas.proofs.Sorting.{map-sort_by}
use Rattle.lemmas.proofs.Signs.{zero_from_unsigned_abs}
use Rattle.tgap_model.specs.declared.geometry.Point.{Point}
use Rattle.tgap_model.specs.declared.slice.Edge.{Edge}
use Rattle.tgap_model.specs.declared.segment.LabelledSegment.{LabelledSegment}
use Rattle.tgap_model.specs.Point.{cross as cross_of, area2}
use Rattle.tgap_model.specs.Clear.{is_clear}
use Rattle.tgap_model.specs.Segment.{Line, IsBetweenColumns, crosses}
use Rattle.tgap_model.specs.Partition.{AreApart, Sides, sides, stack, agree_from, edge_segments, is_empty}
use Rattle.removal_laws.specs.ReplaceLaws.{is_free, other_segments}
use Rattle.removal_laws.specs.Trace.{Taken, edges_with, edges_without, trace_edges, swept_edges}
use Rattle.removal_laws.specs.TraceLaws.{IsTakenByRule, LeadTo}
use Rattle.removal_laws.specs.StackLaws.{AgreeOn, ReplacedAgrees, SweepKeepsFaces}
use Rattle.removal_laws.proofs.Places.{moved}
use Rattle.removal_laws.proofs.Replaced.{m, xs, ys, ab, bc, ac, old_is, new_is, clear_of_all, replaced_is_apart}
use Rattle.removal_laws.proofs.Spots.{higher, IsDecided, apart_decided}
use Rattle.removal_laws.proofs.NoneBetween.{IsFreeOf}
use Rattle.removal_laws.proofs.Insertions.{pairs_from_values}
use Rattle.removal_laws.proofs.ReplacedStack.{stack_agrees}
use Rattle.removal_laws.proofs.Tracing.{keys_stay, key_alone, removable_is_free, follow_edges}

-- ---- other places change no stack

module _ (key n : ℕ) (l : Line) where
  filter_moved : (ss : List LabelledSegment) → filter (λ s. crosses l s.segment) (map (moved key n) ss) ≡ map (moved key n) (filter (λ s. crosses l s.segment) ss)
  filter_moved [] = refl
  filter_moved (s ∷ ss) = by (crosses l s.segment) (filter_moved ss)
    where
      by : (v : Bool) → filter (λ s. crosses l s.segment) (map (moved key n) ss) ≡ map (moved key n) (filter (λ s. crosses l s.segment) ss)
          → cond v (moved key n s ∷ filter (λ s. crosses l s.segment) (map (moved key n) ss)) (filter (λ s. crosses l s.segment) (map (moved key n) ss))
          ≡ map (moved key n) (cond v (s ∷ filter (λ s. crosses l s.segment) ss) (filter (λ s. crosses l s.segment) ss))
      by true e = ap (λ (rest : List LabelledSegment). moved key n s ∷ rest) e
      by false e = e

  sides_moved : (ss : List LabelledSegment) → map sides (map (moved key n) ss) ≡ map sides ss
  sides_moved [] = refl
  sides_moved (s ∷ ss) = ap (λ (rest : List Sides). sides s ∷ rest) (sides_moved ss)

  stack_moved : (ss : List LabelledSegment) → map sides (stack l (map (moved key n) ss)) ≡ map sides (stack l ss)
  stack_moved ss =
      ap (λ (ts : List LabelledSegment). map sides (sort_by (higher l) ts)) (filter_moved ss)
      ∙ ap (map sides) (sym (map-sort_by (λ (s : LabelledSegment). Unit {0}) (higher l) (higher l) (moved key n) (λ s t p q. refl) (filter (λ s. crosses l s.segment) ss) (λ k d lt. tt)))
      ∙ sides_moved (stack l ss)

-- ---- one vertex

module _ (before after : List Edge) (e : Edge) (front rest : List Point) (a b c : Point) (others : All (λ f. e.key ≢ f.key) (before ++ after))
    (free : is_free (other_segments before after front a c rest) a b c ≡ true)
    (apart : AllPairs AreApart (edge_segments (before ++ record e { points = front ++ a ∷ b ∷ c ∷ rest } ∷ after)))
    (l : Line) (columns : IsBetweenColumns l) where
  m' : ℕ
  m' = m before after e front rest a b c others

  xs' : List LabelledSegment
  xs' = xs before after e front rest a b c others

  ys' : List LabelledSegment
  ys' = ys before after e front rest a b c others

  ab' : LabelledSegment
  ab' = ab before after e front rest a b c others

  bc' : LabelledSegment
  bc' = bc before after e front rest a b c others

  ac' : LabelledSegment
  ac' = ac before after e front rest a b c others

  free_of : All (λ s. IsFreeOf a b c s.segment) (xs' ++ ys')
  unfolding xs' ys'
  free_of = by (cases_Bool (area2 a b c == 0))
    where
      by : ((area2 a b c == 0) ≡ true) ⊎ ((area2 a b c == 0) ≡ false) → All (λ s. IsFreeOf a b c s.segment) (xs' ++ ys')
      by (inl f) = All-from_members (λ s. IsFreeOf a b c s.segment) (xs' ++ ys') (λ s k. inl (zero_from_unsigned_abs (cross_of a b c) (eqb-true (area2 a b c) 0 f)))
      by (inr f) = All-weaker (λ (s : LabelledSegment). is_clear a b c s.segment ≡ true) (λ s. IsFreeOf a b c s.segment)
          (λ s clear. inr ((λ z. eqb-false (area2 a b c) 0 f (ap unsigned_abs z)), clear)) (xs' ++ ys')
          (clear_of_all before after e front rest a b c others (is_clear a b c) (⊎_elim (λ g. absurd (true≢false (sym g ∙ f))) (λ g. g)
          (or_cases (area2 a b c == 0) (list_all (is_clear a b c) (other_segments before after front a c rest)) free)))

  decided : (ss : List LabelledSegment) → AllPairs AreApart ss → AllPairs (IsDecided l) ss
  decided ss h i j d less short = apart_decided l columns (get_or ss i d) (get_or ss j d) (h i j d less short)

  old_decided : AllPairs (IsDecided l) (xs' ++ ab' ∷ bc' ∷ ys')
  unfolding xs' ys' ab' bc'
  old_decided = decided (xs' ++ ab' ∷ bc' ∷ ys') (subst (AllPairs AreApart) (old_is before after e front rest a b c others) apart)

  -- the new segment keeps its place
  stays : moved e.key m' ac' ≡ ac'
  unfolding ac' m' ac
  stays = ap (λ (n : ℕ). record ac' { place = n })
      (cond-false ((e.key == e.key) && nat_lt m' m') (m' - 1) m' (and_right (e.key == e.key) (nat_lt m' m') (le-ltb m' m' (omega arith))))

  new_moved : edge_segments (before ++ record e { points = front ++ a ∷ c ∷ rest } ∷ after) ≡ map (moved e.key m') (xs' ++ ac' ∷ ys')
  unfolding xs' ys' ac' m'
  new_moved =
      new_is before after e front rest a b c others
      ∙ ap (λ (s : LabelledSegment). map (moved e.key m') xs' ++ s ∷ map (moved e.key m') ys') (sym stays)
      ∙ sym (map-append (moved e.key m') xs' (ac' ∷ ys'))

  new_decided : AllPairs (IsDecided l) (xs' ++ ac' ∷ ys')
  new_decided = pairs_from_values (IsDecided l) (moved e.key m') (xs' ++ ac' ∷ ys')
      (decided (map (moved e.key m') (xs' ++ ac' ∷ ys')) (subst (AllPairs AreApart) new_moved (replaced_is_apart before after e front rest a b c others free apart)))

  agrees : AgreeOn l (before ++ record e { points = front ++ a ∷ b ∷ c ∷ rest } ∷ after) → AgreeOn l (before ++ record e { points = front ++ a ∷ c ∷ rest } ∷ after)
  unfolding xs' ys' ab' bc' ac' m' ab bc ac
  agrees h =
      ap (λ ss. agree_from 0 (map sides (stack l ss))) new_moved
      ∙ ap (agree_from 0) (stack_moved e.key m' l (xs' ++ ac' ∷ ys'))
      ∙ stack_agrees l columns e.key m' e.left e.right a b c (is_empty rest) xs' ys' old_decided new_decided free_of
      (ap (λ ss. agree_from 0 (map sides (stack l ss))) (sym (old_is before after e front rest a b c others)) ∙ h)

pub replaced_agrees : ReplacedAgrees
replaced_agrees before after e front rest a b c others free apart l columns h = agrees before after e front rest a b c others free apart l columns h

-- ---- a sweep

lead_agrees : (ratio : ℕ) (area : ℤ) (made : ℕ) (edges : List Edge) (ts : List Taken) (last : List Edge) → LeadTo edges ts last
    → All (IsTakenByRule ratio area made) ts → AllPairs (λ (e f : Edge). e.key ≢ f.key) edges → AllPairs AreApart (edge_segments edges)
    → (l : Line) → IsBetweenColumns l → AgreeOn l edges → AgreeOn l last
lead_agrees ratio area made edges [] last leads rule keys apart l columns h = subst (AgreeOn l) leads h
lead_agrees ratio area made edges (t ∷ ts) last leads rule keys apart l columns h =
    lead_agrees ratio area made (edges_without t) ts last leads.1 (All-tail (IsTakenByRule ratio area made) t ts rule)
    (keys_stay t.before t.edge t.after (t.front ++ t.a ∷ t.c ∷ t.rest) here)
    (replaced_is_apart t.before t.after t.edge t.front t.rest t.a t.b t.c alone free apart_here)
    l columns
    (replaced_agrees t.before t.after t.edge t.front t.rest t.a t.b t.c alone free apart_here l columns
    (subst (λ ps. AgreeOn l (t.before ++ record t.edge { points = ps } ∷ t.after)) first.points (subst (AgreeOn l) (sym leads.0) h)))
  where
    first : IsTakenByRule ratio area made t
    first = All-head (IsTakenByRule ratio area made) t ts rule

    here : AllPairs (λ (e f : Edge). e.key ≢ f.key) (edges_with t)
    here = subst (AllPairs (λ (e f : Edge). e.key ≢ f.key)) (sym leads.0) keys

    alone : All (λ f. t.edge.key ≢ f.key) (t.before ++ t.after)
    alone = key_alone t.before t.edge t.after here

    free : is_free (other_segments t.before t.after t.front t.a t.c t.rest) t.a t.b t.c ≡ true
    free = removable_is_free ratio area (other_segments t.before t.after t.front t.a t.c t.rest) t.a t.b t.c first.rule

    apart_here : AllPairs AreApart (edge_segments (t.before ++ record t.edge { points = t.front ++ t.a ∷ t.b ∷ t.c ∷ t.rest } ∷ t.after))
    apart_here = subst (λ ps. AllPairs AreApart (edge_segments (t.before ++ record t.edge { points = ps } ∷ t.after))) first.points
        (subst (λ es. AllPairs AreApart (edge_segments es)) (sym leads.0) apart)

pub sweep_keeps_faces : SweepKeepsFaces
sweep_keeps_faces ratio area made edges keys apart l columns h =
    let k = follow_edges ratio area made 0 [] edges in
    lead_agrees ratio area made edges (trace_edges ratio area made 0 [] edges) (swept_edges ratio area made [] edges) k.leads k.rule keys apart l columns h
