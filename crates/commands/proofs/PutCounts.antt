-- The vertices that the records of all steps bring back are as many as the steps removed.
use Rattle.std.proofs.Common.{◌≡◌, ℕ, ℤ, zero, suc, ◌+◌, ◌-◌, ◌<◌, ◌≤◌, inl, inr, Bool, true, false, cond, not, ◌&&◌, nat_lt, List, [], ◌∷◌, ◌++◌, flat_map, filter, length, length-append, All, refl, sym, ap, ap₂, ◌∙◌, arith}
use Rattle.std.specs.Prelude.{sum_by, ◌==◌, ◌||◌}
use Rattle.std.specs.List.{list_any}
use Rattle.std.proofs.lemmas.Bool.{lt-ltb, le-leb, cases_lt}
use Rattle.std.proofs.lemmas.List.{length-map}
use Rattle.std.proofs.lemmas.List.Elements.{All-head, All-tail}
use Rattle.std.proofs.lemmas.List.Sums.{sum_by-append, sum_by-cons}
use Rattle.lemmas.proofs.Counts.{sum_by-map}
use Rattle.tgap_model.specs.declared.geometry.Point.{Point}
use Rattle.tgap_model.specs.declared.slice.Edge.{Edge}
use Rattle.tgap_model.specs.declared.slice.Removal.{Removal}
use Rattle.tgap_model.specs.declared.record.Mend.{Mend}
use Rattle.tgap_model.specs.Base.{BaseMap, is_base}
use Rattle.tgap_model.specs.Partition.{IsPartition, base_segments}
use Rattle.tgap_model.specs.History.{history_of}
use Rattle.tgap_model.specs.Merged.{merged, step_number}
use Rattle.tgap_model.specs.Chains.{Chain, chain_points, chains_at}
use Rattle.tgap_model.specs.Removals.{edge_of, edges_of, has_side, is_removed, removals_to, without}
use Rattle.tgap_model.specs.Records.{has_step, is_needed, mend_of, pieces_from, puts_from, records_down, runs, step_record}
use Rattle.map_laws.proofs.ChainMembers.{Among}
use Rattle.map_laws.proofs.Lists.{among_map, members_all}
use Rattle.removal_laws.specs.Trace.{Taken, removal_of, edges_with, edges_without, edges_after_sweep, edges_before_sweep, step_area, trace_at}
use Rattle.removal_laws.specs.TraceLaws.{IsTakenByRule, LeadTo}
use Rattle.removal_laws.proofs.Less.{without_both}
use Rattle.removal_laws.proofs.StandOnce.{partition_has_removals}
use Rattle.removal_laws.proofs.Tracing.{at_step}
use Rattle.step_laws.proofs.StepRemovals.{listed_next, step_list}
use Rattle.record_laws.proofs.PutsBack.{listed_at, without_step}
use Rattle.tgap_build.proofs.WideEdges.{others_stay}
use Rattle.commands.specs.Grid.{point_count, put_count}

-- ---- sums

-- over all that is made of the members
sum_of_all : {A B : Type 0} (f : B → ℕ) (g : A → List B) (xs : List A) → sum_by f (flat_map g xs) ≡ sum_by (λ x. sum_by f (g x)) xs
sum_of_all f g [] = refl
sum_of_all f g (x ∷ xs) =
    sum_by-append f (g x) (flat_map g xs) ∙ ap (λ (n : ℕ). sum_by f (g x) + n) (sum_of_all f g xs) ∙ sym (sum_by-cons (λ y. sum_by f (g y)) x xs)

-- of two terms for each member
sum_of_both : {A : Type 0} (f g h : A → ℕ) (xs : List A) → ((x : A) → Among x xs → f x ≡ g x + h x) → sum_by f xs ≡ sum_by g xs + sum_by h xs
sum_of_both f g h [] each = refl
sum_of_both f g h (x ∷ xs) each =
    omega (
      arith,
      each x (inl refl),
      sum_of_both f g h xs (λ y n. each y (inr n)),
      sum_by-cons f x xs,
      sum_by-cons g x xs,
      sum_by-cons h x xs,
    )

-- ---- a sweep takes out one point after the other

points_in_parts : (before after : List Edge) (e : Edge) → point_count (before ++ e ∷ after) ≡ point_count before + (length e.points + point_count after)
points_in_parts before after e =
    sum_by-append (λ (d : Edge). length d.points) before (e ∷ after) ∙ ap (λ (n : ℕ). point_count before + n) (sum_by-cons (λ (d : Edge). length d.points) e after)

one_taken : (t : Taken) → t.edge.points ≡ t.front ++ t.a ∷ t.b ∷ t.c ∷ t.rest → point_count (edges_with t) ≡ point_count (edges_without t) + 1
one_taken t points =
    omega (
      arith,
      points_in_parts t.before t.after t.edge,
      points_in_parts t.before t.after (record t.edge { points = t.front ++ t.a ∷ t.c ∷ t.rest }),
      ap length points,
      length-append t.front (t.a ∷ t.b ∷ t.c ∷ t.rest),
      length-append t.front (t.a ∷ t.c ∷ t.rest),
    )

all_taken : (ratio : ℕ) (area : ℤ) (made : ℕ) (edges : List Edge) (ts : List Taken) (last : List Edge) → LeadTo edges ts last
    → All (IsTakenByRule ratio area made) ts → point_count edges ≡ point_count last + length ts
all_taken ratio area made edges [] last leads rule = omega (arith, ap point_count leads)
all_taken ratio area made edges (t ∷ ts) last leads rule =
    omega (
      arith,
      ap point_count leads.0,
      one_taken t (All-head (IsTakenByRule ratio area made) t ts rule).points,
      all_taken ratio area made (edges_without t) ts last leads.1 (All-tail (IsTakenByRule ratio area made) t ts rule),
    )

-- ---- the puts of a row

puts_and_rest : (now : List Removal) (i : ℕ) (points : List Point) → length points ≡ length (without now points) + length (puts_from now i points)
puts_and_rest now i [] = refl
puts_and_rest now i (p ∷ points) = by (is_removed now p) (puts_and_rest now (i + 1) points)
  where
    by : (v : Bool) → length points ≡ length (without now points) + length (puts_from now (i + 1) points)
        → length (p ∷ points) ≡ length (cond (not v) (p ∷ without now points) (without now points))
        + length ((cond v (record { at = i; point = p } ∷ []) []) ++ puts_from now (i + 1) points)
    by true e = omega (arith, e)
    by false e = omega (arith, e)

-- a mend that is not needed has no puts
unneeded : (loser : ℕ) (m : Mend) → is_needed loser m ≡ false → length m.puts ≡ 0
unneeded loser m e = elim (cases_lt 0 (length m.puts)) [
  | inl some ↦ (let clash : true ≡ false = ap (λ (b : Bool). ((b || nat_lt 1 (length m.pieces)) || list_any (λ p. p.side == loser) m.pieces)) (sym (lt-ltb 0 (length m.puts) some)) ∙ e in absurd cc)
  | inr none ↦ omega (arith, none)
]

-- ---- a step

module _ (m : BaseMap) (base : is_base m ≡ true) (planar : IsPartition (base_segments m)) (k : ℕ) (within : k < length (history_of m)) where
  abbrev before : List Removal
  before = removals_to (merged m) (suc k - 1)

  abbrev now : List Removal
  now = filter (λ (r : Removal). r.step == suc k) (removals_to (merged m) (suc k))

  some : 0 < suc k
  some = omega arith

  last : suc k ≤ length (history_of m)
  last = omega arith

  old : Chain → ℕ
  old c = length (edge_of (merged m) (suc k) before c).points

  new : Chain → ℕ
  new c = length (edge_of (merged m) (suc k) (removals_to (merged m) (suc k)) c).points

  abbrev mends : Chain → List Mend
  mends = mend_of (merged m) (suc k) (chains_at (merged m) (suc k - 1)) before now

  puts : Chain → ℕ
  puts c = sum_by (λ (d : Mend). length d.puts) (mends c)

  -- each edge loses the points that its mend brings back
  edge_puts : (c : Chain) → Among c (chains_at (merged m) (suc k)) → old c ≡ new c + puts c
  unfolding old new puts
  edge_puts c n = by (has_side (step_number (merged m) (suc k)).made e) refl
    where
      e : Edge
      e = edge_of (merged m) (suc k) before c

      mend : Mend
      mend = record {
        key = e.key;
        puts = puts_from now 0 e.points;
        pieces = pieces_from (merged m) (suc k) (e.left == (step_number (merged m) (suc k)).made) (chains_at (merged m) (suc k - 1)) before 0 (runs (chains_at (merged m) (suc k - 1)) c);
      }

      same_points : new c ≡ length (without now e.points)
      same_points = ap length (without_step (merged m) (suc k) (omega arith) last (chain_points m.arcs c))

      -- one that does not border the new face loses none
      stays : has_side (step_number (merged m) (suc k)).made e ≡ false → old c ≡ new c
      stays off =
          let removals = step_list m base planar (suc k) some last in
          let kept = members_all (λ (d : Edge). has_side (step_number (merged m) (suc k)).made d ≡ false → without removals d.points ≡ d.points)
          (edges_before_sweep (merged m) (suc k)) e (others_stay m base planar (suc k) some last removals refl)
          (among_map (edge_of (merged m) (suc k) before) (chains_at (merged m) (suc k)) c n) off in
          sym (ap (λ (rs : List Removal). length (without rs (chain_points m.arcs c))) (listed_next m base planar (suc k) some last)
          ∙ sym (ap length (without_both before removals (chain_points m.arcs c)))
          ∙ ap length kept)

      needed : (v : Bool) → is_needed (step_number (merged m) (suc k)).loser mend ≡ v → old c ≡ new c + sum_by (λ (d : Mend). length d.puts) (cond v (mend ∷ []) [])
      needed true f = omega (arith, same_points, puts_and_rest now 0 e.points, sum_by-cons (λ (d : Mend). length d.puts) mend [])
      needed false f = omega (arith, same_points, puts_and_rest now 0 e.points, unneeded (step_number (merged m) (suc k)).loser mend f)

      by : (b : Bool) → has_side (step_number (merged m) (suc k)).made e ≡ b
          → old c ≡ new c + sum_by (λ (d : Mend). length d.puts) (cond (b && is_needed (step_number (merged m) (suc k)).loser mend) (mend ∷ []) [])
      by true f = needed (is_needed (step_number (merged m) (suc k)).loser mend) refl
      by false f = omega (arith, stays f)

  -- as many as the step removes
  pub step_puts : put_count (step_record (merged m) (suc k)) ≡ length now
  unfolding old new puts
  step_puts =
      let chains = chains_at (merged m) (suc k) in
      let sums = sum_of_both old new puts chains edge_puts in
      let brought : put_count (step_record (merged m) (suc k)) ≡ sum_by puts chains = sum_of_all (λ (d : Mend). length d.puts) mends chains in
      let first : point_count (edges_before_sweep (merged m) (suc k)) ≡ sum_by old chains = sum_by-map (λ (e : Edge). length e.points) (edge_of (merged m) (suc k) before) chains in
      let second : point_count (edges_of (merged m) (suc k) (removals_to (merged m) (suc k)) chains) ≡ sum_by new chains
      = sum_by-map (λ (e : Edge). length e.points) (edge_of (merged m) (suc k) (removals_to (merged m) (suc k))) chains in
      let swept : edges_after_sweep (merged m) (suc k) ≡ edges_of (merged m) (suc k) (removals_to (merged m) (suc k)) chains
      = (partition_has_removals m base planar (suc k)).left some last in
      let taken = all_taken m.rules.ratio (step_area (merged m) (suc k)) (step_number (merged m) (suc k)).made (edges_before_sweep (merged m) (suc k)) (trace_at (merged m) (suc k))
      (edges_after_sweep (merged m) (suc k)) (at_step (merged m) (suc k)).leads (at_step (merged m) (suc k)).rule in
      omega (
        arith,
        sums,
        brought,
        first,
        second,
        ap point_count swept,
        taken,
        ap length (listed_next m base planar (suc k) some last),
        ap length (listed_at (merged m) k within),
        length-append (removals_to (merged m) k) now,
        length-append before (step_list m base planar (suc k) some last),
        length-map (trace_at (merged m) (suc k)) removal_of,
        ap (λ (i : ℕ). length (removals_to (merged m) i)) (let back : suc k - 1 ≡ k = omega arith in back),
      )

-- ---- all steps

none_first : (m : BaseMap) → length (removals_to (merged m) 0) ≡ 0
unfolding removals_to
none_first m = refl

pub all_puts : (m : BaseMap) → is_base m ≡ true → IsPartition (base_segments m) → (n : ℕ) → n ≤ length (history_of m)
    → sum_by put_count (records_down (merged m) n n) ≡ length (removals_to (merged m) n)
all_puts m base planar zero within = sym (none_first m)
all_puts m base planar (suc n) within = by (has_step (merged m) (suc n)) there (all_puts m base planar n (omega arith))
  where
    there : has_step (merged m) (suc n) ≡ true
    there = ap₂ (λ (a b : Bool). a && b) (le-leb 1 (suc n) (omega arith)) (le-leb (suc n) (length (history_of m)) within)

    back : suc n - 1 ≡ n
    back = omega arith

    by : (b : Bool) → b ≡ true → sum_by put_count (records_down (merged m) n n) ≡ length (removals_to (merged m) n)
        → sum_by put_count (cond b (step_record (merged m) (suc n) ∷ records_down (merged m) (suc n - 1) n) (records_down (merged m) (suc n - 1) n))
        ≡ length (removals_to (merged m) (suc n))
    by false e before = absurd cc
    by true e before =
        omega (
          arith,
          sum_by-cons put_count (step_record (merged m) (suc n)) (records_down (merged m) (suc n - 1) n),
          ap (λ (i : ℕ). sum_by put_count (records_down (merged m) i n)) back,
          before,
          step_puts m base planar n (omega arith),
          ap length (listed_at (merged m) n (omega arith)),
          length-append (removals_to (merged m) n) (filter (λ (r : Removal). r.step == suc n) (removals_to (merged m) (suc n))),
        )
