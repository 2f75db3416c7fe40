-- The trace of the sweeps follows them.
use Rattle.std.proofs.Common.{◌≡◌, ◌≢◌, ⊎_elim, ℕ, zero, suc, ◌*◌, ◌≤◌, ◌==◌, ◌&&◌, pos, int_le, Bool, true, false, nat_lt, cond, ℤ, List, [], ◌∷◌, ◌++◌, map, length, All, AllPairs, append_assoc, append-nil, refl, sym, ap, ap₂, ◌∙◌, subst, arith}
use Rattle.std.proofs.lemmas.Bool.{ltb-true, or_left, or_right, or_cases, and_parts}
use Rattle.std.proofs.lemmas.List.{map-append}
use Rattle.std.proofs.lemmas.List.Elements.{All-nil, All-cons, All-head, All-tail, All-append, All-contains, All-weaker}
use Rattle.lemmas.proofs.Members.{All-from_members}
use Rattle.std.specs.List.{list_all}
use Rattle.tgap_model.specs.declared.geometry.Point.{Point}
use Rattle.tgap_model.specs.declared.geometry.Seg.{Seg}
use Rattle.tgap_model.specs.declared.slice.Edge.{Edge}
use Rattle.tgap_model.specs.declared.slice.Removal.{Removal}
use Rattle.tgap_model.specs.Merged.{MergedMap, step_number}
use Rattle.tgap_model.specs.Point.{area2}
use Rattle.tgap_model.specs.Clear.{is_clear}
use Rattle.tgap_model.specs.Chains.{chains_at}
use Rattle.tgap_model.specs.Partition.{AreApart, edge_segments}
use Rattle.tgap_model.specs.Removals.{path, live_segments, has_side, is_removable, sweep_from, sweep_points, sweep_edges, sweep, edges_of, removals_to, removed_at, Swept}
use Rattle.removal_laws.specs.ReplaceLaws.{is_free, other_segments}
use Rattle.removal_laws.specs.Trace.{Taken, removal_of, edges_with, edges_without, trace_from, trace_points, trace_edges, swept_edge, swept_edges, edges_before_sweep, edges_after_sweep, step_area, trace_at, trace_to}
use Rattle.removal_laws.specs.TraceLaws.{IsTakenByRule, LeadTo, TraceIsRemovals, IsTakenAtStep, TraceFollowsRule, TraceLeads, SweepKeepsApart}
use Rattle.removal_laws.proofs.Pairs.{mid_before, mid_after, mid_out, mid_in}
use Rattle.removal_laws.proofs.Replaced.{replaced_is_apart}

-- one more point of a row
path_more : (front : List Point) (a b : Point) → path ((front ++ a ∷ []) ++ b ∷ []) ≡ path (front ++ a ∷ []) ++ record { a = a; b = b } ∷ []
path_more [] a b = refl
path_more (x ∷ []) a b = refl
path_more (x ∷ y ∷ front) a b = ap (λ (rest : List Seg). record { a = x; b = y } ∷ rest) (path_more (y ∷ front) a b)

lead_on : (edges : List Edge) (ts us : List Taken) (middle last : List Edge) → LeadTo edges ts middle → LeadTo middle us last → LeadTo edges (ts ++ us) last
lead_on edges [] us middle last h k = subst (λ es. LeadTo es us last) (sym h) k
lead_on edges (t ∷ ts) us middle last h k = (h.0, lead_on (edges_without t) ts us middle last h.1 k)

-- what is known of the trace of one edge
record IsTraceFrom (ratio : ℕ) (area : ℤ) (made step : ℕ) (before : List Edge) (e : Edge) (after : List Edge) (front : List Point) (a : Point) (points : List Point) (s : Swept) (ts : List Taken) : Type 0 where
  gone : map removal_of ts ≡ map (λ p. record { point = p; step = step }) s.gone
  leads : LeadTo (before ++ record e { points = front ++ a ∷ points } ∷ after) ts (before ++ record e { points = front ++ s.kept } ∷ after)
  steps : All (λ t. t.step ≡ step) ts
  rule : All (IsTakenByRule ratio area made) ts

module _ (ratio : ℕ) (area : ℤ) (made step : ℕ) (before : List Edge) (e : Edge) (after : List Edge) (borders : has_side made e ≡ true) where
  swept : List Point → Point → List Point → Swept
  swept front a points = sweep_from ratio area (live_segments before ++ live_segments after) (path (front ++ a ∷ [])) a points

  follow : (front : List Point) (a : Point) (points : List Point)
      → IsTraceFrom ratio area made step before e after front a points (swept front a points) (trace_from ratio area step before e after front a points)
  unfolding swept
  follow front a [] = record { gone = refl; leads = refl; steps = All-nil (λ t. t.step ≡ step); rule = All-nil (IsTakenByRule ratio area made) }
  follow front a (b ∷ []) = record { gone = refl; leads = refl; steps = All-nil (λ t. t.step ≡ step); rule = All-nil (IsTakenByRule ratio area made) }
  follow front a (b ∷ c ∷ points) =
      by (is_removable ratio area (other_segments before after front a c points) a b c) refl
      (follow front a (c ∷ points))
      (subst (λ done. IsTraceFrom ratio area made step before e after (front ++ a ∷ []) b (c ∷ points) (sweep_from ratio area others done b (c ∷ points)) later)
      (path_more front a b) (follow (front ++ a ∷ []) b (c ∷ points)))
    where
      others : List Seg
      others = live_segments before ++ live_segments after

      sooner : List Taken
      sooner = trace_from ratio area step before e after front a (c ∷ points)

      later : List Taken
      later = trace_from ratio area step before e after (front ++ a ∷ []) b (c ∷ points)

      taken : Taken
      taken = record {
        step = step;
        before = before;
        edge = record e { points = front ++ a ∷ b ∷ c ∷ points };
        after = after;
        front = front;
        a = a;
        b = b;
        c = c;
        rest = points;
      }

      with_points : List Point → List Edge
      with_points ps = before ++ record e { points = ps } ∷ after

      gone_by : Swept
      gone_by = sweep_from ratio area others (path (front ++ a ∷ [])) a (c ∷ points)

      kept_by : Swept
      kept_by = sweep_from ratio area others (path (front ++ a ∷ []) ++ record { a = a; b = b } ∷ []) b (c ∷ points)

      by : (v : Bool) → is_removable ratio area (other_segments before after front a c points) a b c ≡ v
          → IsTraceFrom ratio area made step before e after front a (c ∷ points) gone_by sooner
          → IsTraceFrom ratio area made step before e after (front ++ a ∷ []) b (c ∷ points) kept_by later
          → IsTraceFrom ratio area made step before e after front a (b ∷ c ∷ points)
          (elim v [ true ↦ record { kept = gone_by.kept; gone = b ∷ gone_by.gone } | false ↦ record { kept = a ∷ kept_by.kept; gone = kept_by.gone } ])
          (elim v [ true ↦ taken ∷ sooner | false ↦ later ])
      by true f h k = record {
        gone = ap (λ (rs : List Removal). record { point = b; step = step } ∷ rs) h.gone;
        leads = (refl, h.leads);
        steps = All-cons (λ t. t.step ≡ step) taken sooner refl h.steps;
        rule = All-cons (IsTakenByRule ratio area made) taken sooner (record { borders = borders; points = refl; rule = f }) h.rule;
      }
      by false f h k = record {
        gone = k.gone;
        leads =
            subst (λ ps. LeadTo (with_points ps) later (with_points (front ++ a ∷ kept_by.kept))) (append_assoc front (a ∷ []) (b ∷ c ∷ points))
            (subst (λ ps. LeadTo (with_points ((front ++ a ∷ []) ++ b ∷ c ∷ points)) later (with_points ps)) (append_assoc front (a ∷ []) kept_by.kept) k.leads);
        steps = k.steps;
        rule = k.rule;
      }

-- ---- all edges of a step

-- what is known of the trace of some edges: what is gone, and what leads where
pub record IsTraceOf (ratio : ℕ) (area : ℤ) (made step : ℕ) (start : List Edge) (ts : List Taken) (points : List Point) (last : List Edge) : Type 0 where
  pub gone : map removal_of ts ≡ map (λ p. record { point = p; step = step }) points
  pub leads : LeadTo start ts last
  pub steps : All (λ t. t.step ≡ step) ts
  pub rule : All (IsTakenByRule ratio area made) ts

module _ (ratio : ℕ) (area : ℤ) (made step : ℕ) where
  follow_edge : (before : List Edge) (e : Edge) (after : List Edge) → has_side made e ≡ true → (points : List Point) → e.points ≡ points
      → IsTraceOf ratio area made step (before ++ e ∷ after) (trace_points ratio area step before e after points)
      (sweep_points ratio area (live_segments before ++ live_segments after) points).gone
      (before ++ record e { points = (sweep_points ratio area (live_segments before ++ live_segments after) points).kept } ∷ after)
  unfolding swept
  follow_edge before e after borders [] f = record {
    gone = refl;
    leads = ap (λ (ps : List Point). before ++ record e { points = ps } ∷ after) f;
    steps = All-nil (λ t. t.step ≡ step);
    rule = All-nil (IsTakenByRule ratio area made);
  }
  follow_edge before e after borders (a ∷ points) f =
      let h = follow ratio area made step before e after borders [] a points in
      record {
        gone = h.gone;
        leads = subst (λ ps. LeadTo (before ++ record e { points = ps } ∷ after) (trace_points ratio area step before e after (a ∷ points))
            (before ++ record e { points = (sweep_points ratio area (live_segments before ++ live_segments after) (a ∷ points)).kept } ∷ after)) (sym f) h.leads;
        steps = h.steps;
        rule = h.rule;
      }

  pub follow_edges : (before edges : List Edge)
      → IsTraceOf ratio area made step (before ++ edges) (trace_edges ratio area made step before edges) (sweep_edges ratio area made before edges)
      (swept_edges ratio area made before edges)
  follow_edges before [] = record {
    gone = refl;
    leads = append-nil before;
    steps = All-nil (λ t. t.step ≡ step);
    rule = All-nil (IsTakenByRule ratio area made);
  }
  follow_edges before (e ∷ edges) = by (has_side made e) refl (follow_edges (before ++ after_sweep ∷ []) edges) (follow_edges (before ++ e ∷ []) edges)
    where
      after_sweep : Edge
      after_sweep = swept_edge ratio area before e edges

      s : Swept
      s = sweep_points ratio area (live_segments before ++ live_segments edges) e.points

      here : List Taken
      here = trace_points ratio area step before e edges e.points

      there : List Edge → List Taken
      there es = trace_edges ratio area made step es edges

      gone_there : List Edge → List Point
      gone_there es = sweep_edges ratio area made es edges

      last_there : List Edge → List Edge
      last_there es = swept_edges ratio area made es edges

      made_of : Point → Removal
      made_of p = record { point = p; step = step }

      by : (v : Bool) → has_side made e ≡ v
          → IsTraceOf ratio area made step ((before ++ after_sweep ∷ []) ++ edges) (there (before ++ after_sweep ∷ [])) (gone_there (before ++ after_sweep ∷ [])) (last_there (before ++ after_sweep ∷ []))
          → IsTraceOf ratio area made step ((before ++ e ∷ []) ++ edges) (there (before ++ e ∷ [])) (gone_there (before ++ e ∷ [])) (last_there (before ++ e ∷ []))
          → IsTraceOf ratio area made step (before ++ e ∷ edges)
          (elim v [ true ↦ here ++ there (before ++ after_sweep ∷ []) | false ↦ there (before ++ e ∷ []) ])
          (elim v [ true ↦ s.gone ++ gone_there (before ++ after_sweep ∷ []) | false ↦ gone_there (before ++ e ∷ []) ])
          (elim v [ true ↦ last_there (before ++ after_sweep ∷ []) | false ↦ last_there (before ++ e ∷ []) ])
      by true f h k =
          let g = follow_edge before e edges f e.points refl in
          record {
            gone =
                map-append removal_of here (there (before ++ after_sweep ∷ []))
                ∙ ap₂ (λ (xs ys : List Removal). xs ++ ys) g.gone h.gone
                ∙ sym (map-append made_of s.gone (gone_there (before ++ after_sweep ∷ [])));
            leads = lead_on (before ++ e ∷ edges) here (there (before ++ after_sweep ∷ [])) (before ++ after_sweep ∷ edges) (last_there (before ++ after_sweep ∷ []))
                g.leads (subst (λ es. LeadTo es (there (before ++ after_sweep ∷ [])) (last_there (before ++ after_sweep ∷ []))) (append_assoc before (after_sweep ∷ []) edges) h.leads);
            steps = All-append (λ t. t.step ≡ step) here (there (before ++ after_sweep ∷ [])) g.steps h.steps;
            rule = All-append (IsTakenByRule ratio area made) here (there (before ++ after_sweep ∷ [])) g.rule h.rule;
          }
      by false f h k = record {
        gone = k.gone;
        leads = subst (λ es. LeadTo es (there (before ++ e ∷ [])) (last_there (before ++ e ∷ []))) (append_assoc before (e ∷ []) edges) k.leads;
        steps = k.steps;
        rule = k.rule;
      }

-- ---- all steps

module _ (h : MergedMap) (j : ℕ) where
  pub at_step : IsTraceOf h.base.rules.ratio (step_area h j) (step_number h j).made j (edges_before_sweep h j) (trace_at h j)
      (sweep h.base.rules.ratio (step_area h j) (step_number h j).made (edges_before_sweep h j)) (edges_after_sweep h j)
  unfolding sweep
  at_step = by (h.base.rules.ratio == 0) (follow_edges h.base.rules.ratio (step_area h j) (step_number h j).made j [] (edges_before_sweep h j))
    where
      all : List Taken
      all = trace_edges h.base.rules.ratio (step_area h j) (step_number h j).made j [] (edges_before_sweep h j)

      gone : List Point
      gone = sweep_edges h.base.rules.ratio (step_area h j) (step_number h j).made [] (edges_before_sweep h j)

      last : List Edge
      last = swept_edges h.base.rules.ratio (step_area h j) (step_number h j).made [] (edges_before_sweep h j)

      by : (v : Bool) → IsTraceOf h.base.rules.ratio (step_area h j) (step_number h j).made j (edges_before_sweep h j) all gone last
          → IsTraceOf h.base.rules.ratio (step_area h j) (step_number h j).made j (edges_before_sweep h j) (cond v [] all) (cond v [] gone) (cond v (edges_before_sweep h j) last)
      by true k = record {
        gone = refl;
        leads = refl;
        steps = All-nil (λ t. t.step ≡ j);
        rule = All-nil (IsTakenByRule h.base.rules.ratio (step_area h j) (step_number h j).made);
      }
      by false k = k

pub trace_leads : TraceLeads
trace_leads h j = (at_step h j).leads

pub trace_is_removals : TraceIsRemovals
unfolding removals_to
trace_is_removals h zero = refl
trace_is_removals h (suc k) = by (nat_lt k (length h.steps)) (trace_is_removals h k)
  where
    made_of : Point → Removal
    made_of p = record { point = p; step = suc k }

    here : map removal_of (trace_at h (suc k)) ≡ removed_at h (suc k) (removals_to h k)
    here =
        (at_step h (suc k)).gone
        ∙ ap (λ (rs : List Removal). map made_of (sweep h.base.rules.ratio (step_area h (suc k)) (step_number h (suc k)).made (edges_of h (suc k) rs (chains_at h (suc k)))))
        (ap (λ (i : ℕ). removals_to h i) (omega arith))

    by : (v : Bool) → map removal_of (trace_to h k) ≡ removals_to h k
        → map removal_of (cond v (trace_to h k ++ trace_at h (suc k)) (trace_to h k)) ≡ cond v (removals_to h k ++ removed_at h (suc k) (removals_to h k)) (removals_to h k)
    by true e = map-append removal_of (trace_to h k) (trace_at h (suc k)) ∙ ap₂ (λ (xs ys : List Removal). xs ++ ys) e here
    by false e = e

-- of one step
taken_at : (h : MergedMap) (j : ℕ) → 1 ≤ j → j ≤ length h.steps → All (IsTakenAtStep h j) (trace_at h j)
taken_at h j one last = by (h.base.rules.ratio == 0) refl (at_step h j)
  where
    all : List Taken
    all = trace_edges h.base.rules.ratio (step_area h j) (step_number h j).made j [] (edges_before_sweep h j)

    by : (v : Bool) → (h.base.rules.ratio == 0) ≡ v
        → IsTraceOf h.base.rules.ratio (step_area h j) (step_number h j).made j (edges_before_sweep h j) (trace_at h j)
        (sweep h.base.rules.ratio (step_area h j) (step_number h j).made (edges_before_sweep h j)) (edges_after_sweep h j)
        → All (IsTakenAtStep h j) (trace_at h j)
    by true e k = subst (λ (v : Bool). All (IsTakenAtStep h j) (cond v [] all)) (sym e) (All-nil (IsTakenAtStep h j))
    by false e k = All-from_members (IsTakenAtStep h j) (trace_at h j) (λ t m.
        let at : t.step ≡ j = All-contains (λ u. u.step ≡ j) (trace_at h j) t k.steps m in
        record {
          from_one = omega arith;
          to_last = omega arith;
          to_k = omega arith;
          ratio = e;
          rule = subst (λ i. IsTakenByRule h.base.rules.ratio (step_area h i) (step_number h i).made t) (sym at)
              (All-contains (IsTakenByRule h.base.rules.ratio (step_area h j) (step_number h j).made) (trace_at h j) t k.rule m);
        })

pub trace_follows_rule : TraceFollowsRule
trace_follows_rule h zero = All-nil (IsTakenAtStep h zero)
trace_follows_rule h (suc k) = by (nat_lt k (length h.steps)) refl (trace_follows_rule h k)
  where
    later : All (IsTakenAtStep h k) (trace_to h k) → All (IsTakenAtStep h (suc k)) (trace_to h k)
    later = All-weaker (IsTakenAtStep h k) (IsTakenAtStep h (suc k))
        (λ t f. record { from_one = f.from_one; to_last = f.to_last; to_k = more t.step f.to_k; ratio = f.ratio; rule = f.rule }) (trace_to h k)
      where
        more : (n : ℕ) → n ≤ k → n ≤ suc k
        more n l = omega arith

    by : (v : Bool) → nat_lt k (length h.steps) ≡ v → All (IsTakenAtStep h k) (trace_to h k)
        → All (IsTakenAtStep h (suc k)) (cond v (trace_to h k ++ trace_at h (suc k)) (trace_to h k))
    by true e f =
        let l = ltb-true k (length h.steps) e in
        All-append (IsTakenAtStep h (suc k)) (trace_to h k) (trace_at h (suc k)) (later f) (taken_at h (suc k) (omega arith) (omega arith))
    by false e f = later f

-- ---- the sweep keeps segments apart

-- an edge's points do not change which keys the edges have
pub keys_stay : (before : List Edge) (e : Edge) (after : List Edge) (ps : List Point)
    → AllPairs (λ (e f : Edge). e.key ≢ f.key) (before ++ e ∷ after) → AllPairs (λ (e f : Edge). e.key ≢ f.key) (before ++ record e { points = ps } ∷ after)
keys_stay before e after ps h =
    mid_in (λ (e f : Edge). e.key ≢ f.key) before (record e { points = ps }) after (mid_out (λ (e f : Edge). e.key ≢ f.key) before e after h)
    (mid_before (λ (e f : Edge). e.key ≢ f.key) before e after h) (mid_after (λ (e f : Edge). e.key ≢ f.key) before e after h)

pub key_alone : (before : List Edge) (e : Edge) (after : List Edge) → AllPairs (λ (e f : Edge). e.key ≢ f.key) (before ++ e ∷ after)
    → All (λ f. e.key ≢ f.key) (before ++ after)
key_alone before e after h = All-append (λ f. e.key ≢ f.key) before after
    (All-weaker (λ f. f.key ≢ e.key) (λ f. e.key ≢ f.key) (λ f n s. n (sym s)) before (mid_before (λ (e f : Edge). e.key ≢ f.key) before e after h))
    (mid_after (λ (e f : Edge). e.key ≢ f.key) before e after h)

-- what is removable is free
pub removable_is_free : (ratio : ℕ) (area : ℤ) (others : List Seg) (a b c : Point) → is_removable ratio area others a b c ≡ true → is_free others a b c ≡ true
unfolding is_removable
removable_is_free ratio area others a b c h =
    ⊎_elim (λ e. or_left (area2 a b c == 0) (list_all (is_clear a b c) others) e)
    (λ e. or_right (area2 a b c == 0) (list_all (is_clear a b c) others) (and_parts (int_le (pos (ratio * area2 a b c)) area) (list_all (is_clear a b c) others) e).1)
    (or_cases (area2 a b c == 0) (int_le (pos (ratio * area2 a b c)) area && list_all (is_clear a b c) others) h)

-- what one list of edges leads to by the rule
lead_apart : (ratio : ℕ) (area : ℤ) (made : ℕ) (edges : List Edge) (ts : List Taken) (last : List Edge) → LeadTo edges ts last
    → All (IsTakenByRule ratio area made) ts → AllPairs (λ (e f : Edge). e.key ≢ f.key) edges
    → AllPairs AreApart (edge_segments edges) → AllPairs AreApart (edge_segments last)
lead_apart ratio area made edges [] last leads rule keys apart = subst (λ es. AllPairs AreApart (edge_segments es)) leads apart
lead_apart ratio area made edges (t ∷ ts) last leads rule keys apart =
    lead_apart ratio area made (edges_without t) ts last leads.1 (All-tail (IsTakenByRule ratio area made) t ts rule)
    (keys_stay t.before t.edge t.after (t.front ++ t.a ∷ t.c ∷ t.rest) here)
    (replaced_is_apart t.before t.after t.edge t.front t.rest t.a t.b t.c (key_alone t.before t.edge t.after here)
    (removable_is_free ratio area (other_segments t.before t.after t.front t.a t.c t.rest) t.a t.b t.c first.rule)
    (subst (λ ps. AllPairs AreApart (edge_segments (t.before ++ record t.edge { points = ps } ∷ t.after))) first.points
    (subst (λ es. AllPairs AreApart (edge_segments es)) (sym leads.0) apart)))
  where
    first : IsTakenByRule ratio area made t
    first = All-head (IsTakenByRule ratio area made) t ts rule

    here : AllPairs (λ (e f : Edge). e.key ≢ f.key) (edges_with t)
    here = subst (AllPairs (λ (e f : Edge). e.key ≢ f.key)) (sym leads.0) keys

pub sweep_keeps_apart : SweepKeepsApart
sweep_keeps_apart ratio area made edges keys apart =
    let h = follow_edges ratio area made 0 [] edges in
    lead_apart ratio area made edges (trace_edges ratio area made 0 [] edges) (swept_edges ratio area made [] edges) h.leads h.rule keys apart
