-- A packet of a planar partition has the form of its text.
use Rattle.std.proofs.Common.{◌≡◌, ℕ, zero, suc, ◌+◌, ◌-◌, ◌^◌, ◌<◌, ◌≤◌, ◌==◌, ◌&&◌, Bool, true, false, cond, inl, inr, nat_lt, List, [], ◌∷◌, ◌++◌, map, filter, length, eq-eqb, refl, ap, ◌∙◌, subst, arith, IsTrue}
use Rattle.std.specs.Prelude.{flat_map, nat_le}
use Rattle.std.specs.List.{list_all}
use Rattle.std.proofs.lemmas.Bool.{and_parts, and_from, le-leb, eqb-true, ltb-true}
use Rattle.std.proofs.lemmas.List.{length-map}
use Rattle.std.proofs.lemmas.List.Sums.{length-filter, count_by-le-length}
use Rattle.lemmas.specs.Sorting.{is_sorted_by}
use Rattle.lemmas.proofs.Sorting.{sorted_tail, sorted_next}
use Rattle.tgap_model.specs.declared.geometry.Point.{Point}
use Rattle.tgap_model.specs.declared.merge.MergeStep.{MergeStep}
use Rattle.tgap_model.specs.declared.slice.Edge.{Edge}
use Rattle.tgap_model.specs.declared.slice.Removal.{Removal}
use Rattle.tgap_model.specs.declared.record.Piece.{Piece}
use Rattle.tgap_model.specs.declared.record.Put.{Put}
use Rattle.tgap_model.specs.declared.record.Mend.{Mend}
use Rattle.tgap_model.specs.Base.{BaseMap, is_base, in_limits}
use Rattle.tgap_model.specs.Partition.{IsPartition, base_segments}
use Rattle.tgap_model.specs.History.{history_of}
use Rattle.tgap_model.specs.Merged.{MergedMap, merged, step_number}
use Rattle.tgap_model.specs.Chains.{Chain, chain_points, key, chains_at}
use Rattle.tgap_model.specs.Removals.{edge_of, edges_of, has_side, is_removed, removals_to, without}
use Rattle.tgap_model.specs.Slice.{left_of, right_of}
use Rattle.tgap_model.specs.Records.{puts_from, runs, pieces_from, is_needed, is_edge_between, step_record, has_step, records_down, packet_of, ends_with_place}
use Rattle.slice_forms.specs.SliceForms.{is_put_row, is_piece_row, is_mend_row, is_edge_row, is_record_row, goes_down, is_packet_row}
use Rattle.tgap_model.proofs.BaseFacts.{base_facts}
use Rattle.map_laws.proofs.ChainMembers.{Among, all_among}
use Rattle.map_laws.proofs.Lists.{members_all, all_from, kept_among, map_among, among_map}
use Rattle.grid_index.specs.Live.{IsLiveEdge}
use Rattle.tgap_build.proofs.Alive.{key_within}
use Rattle.tgap_build.proofs.EachLive.{before_live}
use Rattle.record_laws.specs.PieceLaws.{CutsIntoEdges}
use Rattle.record_laws.specs.RunLaws.{chain_of_run}
use Rattle.record_laws.proofs.PiecesAreEdges.{pieces_are_edges}
use Rattle.record_laws.proofs.PutsFit.{puts_length}
use Rattle.record_laws.proofs.StepFacts.{step_numbered, run_is_part, run_member}
use Rattle.commands.proofs.SliceForm.{few_ascend, number, class_small, room, left_small, right_small, edges_form, few_chains}

-- ---- lists

-- what comes of each member by itself, or nothing
abbrev some_of : {A B : Type 0} → (A → Bool) → (A → B) → List A → List B
some_of {A} {B} test f xs = flat_map (λ x. cond {A = List B} (test x) (f x ∷ []) []) xs

some_all : {A B : Type 0} (p : B → Bool) (test : A → Bool) (f : A → B) (xs : List A) → ((x : A) → Among x xs → p (f x) ≡ true) → list_all p (some_of test f xs) ≡ true
some_all p test f [] each = refl
some_all {A} {B} p test f (x ∷ xs) each = by (test x) (some_all p test f xs (λ y o. each y (inr o)))
  where
    by : (v : Bool) → list_all p (some_of test f xs) ≡ true → list_all p (cond {A = List B} v (f x ∷ []) [] ++ some_of test f xs) ≡ true
    by true rest = and_from _ _ (each x (inl refl)) rest
    by false rest = rest

some_few : {A B : Type 0} (test : A → Bool) (f : A → B) (xs : List A) → length (some_of test f xs) ≤ length xs
some_few test f [] = omega arith
some_few {A} {B} test f (x ∷ xs) = by (test x) (some_few test f xs)
  where
    by : (v : Bool) → length (some_of test f xs) ≤ length xs → length (cond {A = List B} v (f x ∷ []) [] ++ some_of test f xs) ≤ length (x ∷ xs)
    by true rest = omega (arith, rest)
    by false rest = omega (arith, rest)

-- ascending places are not above the last one
places_within : (n : ℕ) (ks : List ℕ) → is_sorted_by nat_lt ks ≡ true → ends_with_place n ks ≡ true → (i : ℕ) → Among i ks → i ≤ n
places_within n [] s e i o = absurd o
places_within n (k ∷ []) s e i (inl same) = let last = eqb-true k n e in omega (arith, last, same)
places_within n (k ∷ []) s e i (inr o) = absurd o
places_within n (k ∷ l ∷ ks) s e i (inl same) =
    let next = places_within n (l ∷ ks) (sorted_tail nat_lt k (l ∷ ks) s) e l (inl refl) in
    let less = ltb-true k l (sorted_next nat_lt k (l ∷ ks) s) in
    omega (arith, next, less, same)
places_within n (k ∷ l ∷ ks) s e i (inr o) = places_within n (l ∷ ks) (sorted_tail nat_lt k (l ∷ ks) s) e i o

-- puts at places that fit
puts_form : (now : List Removal) (i : ℕ) (points : List Point) → i + length points < 2 ^ 32 → list_all in_limits points ≡ true
    → list_all is_put_row (puts_from now i points) ≡ true
puts_form now i [] small near = refl
puts_form now i (p ∷ points) small near =
    let parts = and_parts (in_limits p) (list_all in_limits points) near in
    by (is_removed now p) (and_from _ _ (number i (omega (arith, small))) parts.0) (puts_form now (i + 1) points (omega (arith, small)) parts.1)
  where
    by : (v : Bool) → is_put_row (record { at = i; point = p }) ≡ true → list_all is_put_row (puts_from now (i + 1) points) ≡ true
        → list_all is_put_row (cond {A = List Put} v (record { at = i; point = p } ∷ []) [] ++ puts_from now (i + 1) points) ≡ true
    by true one rest = and_from _ _ one rest
    by false one rest = rest

module _ (m : BaseMap) (base : is_base m ≡ true) (planar : IsPartition (base_segments m)) (j : ℕ) (one : 1 ≤ j) (last : j ≤ length (history_of m)) where
  abbrev h : MergedMap
  h = merged m

  abbrev s : MergeStep
  s = step_number h j

  abbrev before : List Removal
  before = removals_to h (j - 1)

  abbrev now : List Removal
  now = filter (λ (r : Removal). r.step == j) (removals_to h j)

  within : j - 1 ≤ length (history_of m)
  within = omega (arith, last)

  -- ---- mends

  abbrev row : Chain → List Point
  row c = without before (chain_points m.arcs c)

  row_live : (c : Chain) → Among c (chains_at h j) → IsLiveEdge (edge_of h j before c)
  row_live c n =
      members_all IsLiveEdge (edges_of h j before (chains_at h j)) (edge_of h j before c) (before_live m base planar j (omega (arith, one)) last).each
      (among_map (edge_of h j before) (chains_at h j) c n)

  row_near : (c : Chain) → Among c (chains_at h j) → list_all in_limits (row c) ≡ true
  row_near c n = all_from in_limits (row c) (λ p o. members_all (λ p. IsTrue (in_limits p)) (row c) p (row_live c n).limits o)

  abbrev at_left : Chain → Bool
  at_left c = (edge_of h j before c).left == s.made

  abbrev pieces : Chain → List Piece
  pieces c = pieces_from h j (at_left c) (chains_at h (j - 1)) before 0 (runs (chains_at h (j - 1)) c)

  cuts : (c : Chain) → Among c (chains_at h j) → CutsIntoEdges h j (at_left c) c
  cuts c n = members_all (CutsIntoEdges h j (at_left c)) (chains_at h j) c (pieces_are_edges m base planar j one last (at_left c)) n

  -- the side of a piece is a label before the step
  side_small : (left : Bool) (parts : List Chain) (first : ℕ) (p : Piece) → Among p (pieces_from h j left (chains_at h (j - 1)) before first parts) → p.side < 2 ^ 32
  side_small left [] first p o = absurd o
  side_small left ([] ∷ parts) first p o = side_small left parts first p o
  side_small left ((d ∷ r) ∷ parts) first p (inl e) = subst (λ (q : Piece). q.side < 2 ^ 32) e (chosen left (either d.turned) (other d.turned))
    where
      either : (t : Bool) → left_of h (j - 1) (record d { turned = t }) < 2 ^ 32
      either true = right_small m base planar (j - 1) within d.arc
      either false = left_small m base planar (j - 1) within d.arc

      other : (t : Bool) → right_of h (j - 1) (record d { turned = t }) < 2 ^ 32
      other true = left_small m base planar (j - 1) within d.arc
      other false = right_small m base planar (j - 1) within d.arc

      chosen : (v : Bool) → left_of h (j - 1) d < 2 ^ 32 → right_of h (j - 1) d < 2 ^ 32 → cond v (left_of h (j - 1) d) (right_of h (j - 1) d) < 2 ^ 32
      chosen true x y = x
      chosen false x y = y
  side_small left ((d ∷ r) ∷ parts) first p (inr o) = side_small left parts _ p o

  -- its key is that of an edge before the step
  key_small : (c : Chain) → Among c (chains_at h j) → (p : Piece) → Among p (pieces c) → p.key < 2 ^ 32
  key_small c n p o =
      let among : Among p.key (map (λ r. key (chain_of_run (chains_at h (j - 1)) r)) (runs (chains_at h (j - 1)) c))
      = subst (λ (ks : List ℕ). Among p.key ks) (cuts c n).keys (among_map (λ (q : Piece). q.key) (pieces c) p o) in
      let r = map_among (λ r. key (chain_of_run (chains_at h (j - 1)) r)) (runs (chains_at h (j - 1)) c) p.key among in
      let member = run_member m base planar j one last r.0 (run_is_part m base planar j one last c n r.0 r.1) in
      omega (arith, r.2, key_within h (j - 1) (chain_of_run (chains_at h (j - 1)) r.0) member, (base_facts m base).few_arcs)

  last_small : (c : Chain) → Among c (chains_at h j) → (i : ℕ) → Among i (map (λ (p : Piece). p.last) (pieces c)) → i < 2 ^ 32 - 1
  last_small c n i o =
      omega (arith, places_within (length (row c) - 1) (map (λ (p : Piece). p.last) (pieces c)) (cuts c n).ascend (cuts c n).ends i o, (row_live c n).few)

  abbrev mend : Chain → Mend
  mend c = record { key = key c; puts = puts_from now 0 (row c); pieces = pieces c }

  mend_form : (c : Chain) → Among c (chains_at h j) → is_mend_row (mend c) ≡ true
  mend_form c n =
      let live = row_live c n in
      let few_pieces = few_ascend (2 ^ 32 - 1) (map (λ (p : Piece). p.last) (pieces c)) (cuts c n).ascend (last_small c n) in
      and_from _ _
      (and_from _ _
      (and_from _ _
      (and_from _ _ (number (key c) (omega (arith, key_within h j c n, (base_facts m base).few_arcs)))
      (number (length (mend c).puts) (omega (arith, puts_length now 0 (row c), live.few))))
      (number (length (pieces c)) (omega (arith, few_pieces, length-map (pieces c) (λ (p : Piece). p.last)))))
      (puts_form now 0 (row c) (omega (arith, live.few)) (row_near c n)))
      (all_from is_piece_row (pieces c) (λ p o.
      and_from _ _
      (and_from _ _ (number p.key (key_small c n p o))
      (number p.last (let l = last_small c n p.last (among_map (λ (q : Piece). q.last) (pieces c) p o) in omega (arith, l))))
      (number p.side (side_small (at_left c) (runs (chains_at h (j - 1)) c) 0 p o))))

  -- ---- the record

  abbrev needed : Chain → Bool
  needed c = has_side s.made (edge_of h j before c) && is_needed s.loser (mend c)

  mends_form : list_all is_mend_row (step_record (merged m) j).mends ≡ true
  mends_form = some_all is_mend_row needed mend (chains_at h j) mend_form

  few_mends : length (step_record (merged m) j).mends < 2 ^ 32
  few_mends = omega (arith, some_few needed mend (chains_at h j), few_chains m base planar j last)

  abbrev edges_before : List Edge
  edges_before = edges_of h (j - 1) before (chains_at h (j - 1))

  ended_form : list_all is_edge_row (step_record (merged m) j).ended ≡ true
  ended_form = all_from is_edge_row (step_record h j).ended (λ e o.
      all_among is_edge_row edges_before e (edges_form m base planar (j - 1) within) (kept_among (is_edge_between s.loser s.winner) edges_before e o))

  few_ended : length (step_record (merged m) j).ended < 2 ^ 32
  few_ended = omega (
    arith,
    length-filter (is_edge_between s.loser s.winner) edges_before,
    count_by-le-length (is_edge_between s.loser s.winner) edges_before,
    length-map (chains_at h (j - 1)) (edge_of h (j - 1) before),
    few_chains m base planar (j - 1) within,
  )

  pub record_form : is_record_row (step_record (merged m) j) ≡ true
  record_form =
      let r = step_record h j in
      let step = step_numbered m base planar j one last in
      let faces = room m base planar j last in
      and_from _ _
      (and_from _ _
      (and_from _ _
      (and_from _ _
      (and_from _ _
      (and_from _ _
      (and_from _ _
      (and_from _ _
      (and_from _ _ (number j (omega (arith, faces)))
      (number s.loser (omega (arith, faces, step.loser.1))))
      (number r.loser_class (class_small m base s.loser)))
      (number s.winner (omega (arith, faces, step.winner.1))))
      (number r.winner_class (class_small m base s.winner)))
      (number s.made (omega (arith, faces, step.made))))
      (number (length r.mends) few_mends))
      (number (length r.ended) few_ended))
      mends_form)
      ended_form

-- ---- packets

module _ (m : BaseMap) (base : is_base m ≡ true) (planar : IsPartition (base_segments m)) where
  there : (from : ℕ) → 1 ≤ from → from ≤ length (history_of m) → has_step (merged m) from ≡ true
  there from one last = and_from (nat_le 1 from) _ (le-leb 1 from one) (le-leb from (length (history_of m)) last)

  -- the records of some steps down
  down_form : (n from to : ℕ) → from ≡ to + n → from ≤ length (history_of m)
      → (list_all is_record_row (records_down (merged m) from n) ≡ true) × (goes_down from n (records_down (merged m) from n) ≡ true)
  down_form zero from to e last = (refl, refl)
  down_form (suc n) from to e last =
      let one : 1 ≤ from = omega (arith, e) in
      let rest = down_form n (from - 1) to (omega (arith, e)) (omega (arith, last)) in
      let first : has_step (merged m) from ≡ true = there from one last in
      let records = λ (v : Bool). cond v (step_record (merged m) from ∷ records_down (merged m) (from - 1) n) (records_down (merged m) (from - 1) n) in (
        ap (λ (v : Bool). list_all is_record_row (records v)) first ∙ and_from _ _ (record_form m base planar from one last) rest.0,
        ap (λ (v : Bool). goes_down from (suc n) (records v)) first ∙ and_from (from == from) _ (eq-eqb from from refl) rest.1,
      )

  pub packet_form : (from to : ℕ) → to ≤ from → from ≤ length (history_of m) → is_packet_row (packet_of (merged m) from to) ≡ true
  unfolding packet_of
  packet_form from to low last =
      let down = down_form (from - to) from to (omega (arith, low)) last in
      and_from _ _
      (and_from _ _
      (and_from _ _ (number from (omega (arith, room m base planar from last))) (le-leb to from low))
      down.0)
      down.1
