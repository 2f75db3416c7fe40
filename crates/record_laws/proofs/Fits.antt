-- The record of a step fits the slice after it, rule by rule.
use Rattle.std.proofs.Common.{◌≡◌, ◌≢◌, ◌⊎◌, inl, inr, ℕ, ◌+◌, ◌-◌, ◌<◌, ◌≤◌, ◌==◌, ◌&&◌, ◌||◌, Bool, true, false, not, nat_lt, cond, List, [], ◌∷◌, ◌++◌, map, filter, length, Option, Some, None, eq-eqb, ne_eqb, refl, sym, ap, ◌∙◌, subst, arith}
use Rattle.std.specs.Prelude.{⊤, flat_map}
use Rattle.std.specs.List.{list_all, list_any}
use Rattle.std.proofs.lemmas.Bool.{and_parts, and_from, or_cases, or_left, or_right, not_from_false, le-leb, eqb-true}
use Rattle.lemmas.specs.Sorting.{is_sorted_by}
use Rattle.lemmas.proofs.Orders.{nat_lt_order, order_by_key}
use Rattle.lemmas.proofs.Sorting.{filter-is_sorted, map-is_sorted}
use Rattle.tgap_model.specs.declared.geometry.Point.{Point}
use Rattle.tgap_model.specs.declared.merge.MergeStep.{MergeStep}
use Rattle.tgap_model.specs.declared.slice.Edge.{Edge}
use Rattle.tgap_model.specs.declared.slice.FaceRow.{FaceRow}
use Rattle.tgap_model.specs.declared.slice.Slice.{Slice}
use Rattle.tgap_model.specs.declared.slice.Removal.{Removal}
use Rattle.tgap_model.specs.declared.record.Piece.{Piece}
use Rattle.tgap_model.specs.declared.record.Mend.{Mend}
use Rattle.tgap_model.specs.declared.record.StepRecord.{StepRecord}
use Rattle.tgap_model.specs.Base.{BaseMap, is_base}
use Rattle.tgap_model.specs.Partition.{IsPartition, base_segments}
use Rattle.tgap_model.specs.History.{class_of, history_of}
use Rattle.tgap_model.specs.Merged.{MergedMap, merged, step_number, all_classes, live_faces}
use Rattle.tgap_model.specs.Chains.{Link, Chain, arc_number, chain_points, key, chains_at}
use Rattle.tgap_model.specs.Removals.{edge_of, has_side, removals_to, without}
use Rattle.tgap_model.specs.Slice.{left_of, right_of, face_row, slice, slice_at}
use Rattle.tgap_model.specs.Records.{runs, pieces_from, is_edge_between, is_needed, step_record, edge_before, fits_step, fits_faces, fits_mends, fits_puts, fits_pieces, fits_ended, fits_keys, keys_ascend, edge_with, has_one_side, puts_fit, ends_with_place, starts_after_zero, first_failure, broken_rule}
use Rattle.map_laws.proofs.ChainMembers.{Among, filter_among}
use Rattle.map_laws.proofs.ChainLinks.{chains_sorted}
use Rattle.map_laws.proofs.ChainsExist.{chains_exist}
use Rattle.map_laws.proofs.Lists.{all_members, all_from, among_map, map_among}
use Rattle.removal_laws.proofs.ChainEnds.{chain_arcs}
use Rattle.record_laws.specs.UndoLaws.{RecordsFit}
use Rattle.record_laws.proofs.EdgesUnswept.{row_first_free, row_last_free, row_two, row_apart}
use Rattle.record_laws.proofs.FaceRows.{made_there, not_there, loser_gone, winner_gone}
use Rattle.record_laws.proofs.Holders.{find_only, same_key}
use Rattle.record_laws.proofs.MapFacts.{numbered, based, long, even, ends_stay}
use Rattle.record_laws.proofs.PieceCuts.{chain_places_ascend, chain_places_some, chain_places_end}
use Rattle.record_laws.proofs.PutsBack.{without_step}
use Rattle.record_laws.proofs.PutsFit.{puts_ascend, puts_length, puts_fit_row}
use Rattle.record_laws.proofs.Refined.{step_mend, needs_mend}
use Rattle.record_laws.proofs.StepFacts.{few, step_numbered, left_next, right_next, made_from, arc_faces, chain_sides, sides_apart, run_links, run_within}
use Rattle.record_laws.proofs.StepRuns.{among_from}
use Rattle.record_laws.proofs.UndoStep.{undo_goes_back}

-- ---- tests in a row

-- where all pass none is the first that fails
none_fails : (i : ℕ) (tests : List Bool) → ((test : Bool) → Among test tests → test ≡ true) → first_failure i tests ≡ None
none_fails i [] each = refl
none_fails i (test ∷ tests) each =
    ap (λ (b : Bool). cond b (first_failure (i + 1) tests) (Some i)) (each test (inl refl)) ∙ none_fails (i + 1) tests (λ t o. each t (inr o))

-- seven tests
seven_pass : (a b c d e f g : Bool) → a ≡ true → b ≡ true → c ≡ true → d ≡ true → e ≡ true → f ≡ true → g ≡ true
    → first_failure 1 (a ∷ b ∷ c ∷ d ∷ e ∷ f ∷ g ∷ []) ≡ None
seven_pass a b c d e f g pa pb pc pd pe pf pg = none_fails 1 (a ∷ b ∷ c ∷ d ∷ e ∷ f ∷ g ∷ []) each
  where
    each : (test : Bool) → Among test (a ∷ b ∷ c ∷ d ∷ e ∷ f ∷ g ∷ []) → test ≡ true
    each t (inl s) = sym s ∙ pa
    each t (inr (inl s)) = sym s ∙ pb
    each t (inr (inr (inl s))) = sym s ∙ pc
    each t (inr (inr (inr (inl s)))) = sym s ∙ pd
    each t (inr (inr (inr (inr (inl s))))) = sym s ∙ pe
    each t (inr (inr (inr (inr (inr (inl s)))))) = sym s ∙ pf
    each t (inr (inr (inr (inr (inr (inr (inl s))))))) = sym s ∙ pg
    each t (inr (inr (inr (inr (inr (inr (inr o))))))) = absurd o

-- of two sides that differ one alone has the face
one_side : (a b : Bool) → (a || b) ≡ true → (a ≡ true → b ≡ true → ⊥) → ((a && not b) || (b && not a)) ≡ true
one_side true true e apart = absurd (apart refl refl)
one_side true false e apart = refl
one_side false true e apart = refl
one_side false false e apart = absurd cc

module _ (m : BaseMap) (base : is_base m ≡ true) (planar : IsPartition (base_segments m)) (j : ℕ) (one : 1 ≤ j) (last : j ≤ length (history_of m)) where
  abbrev h : MergedMap
  h = merged m

  abbrev k : ℕ
  k = j - 1

  abbrev s : MergeStep
  s = step_number h j

  abbrev here : Slice
  here = slice_at h j

  abbrev record_here : StepRecord
  record_here = step_record h j

  abbrev edge_here : Chain → Edge
  edge_here c = edge_of h j (removals_to h j) c

  abbrev edge_back : Chain → Edge
  edge_back c = edge_of h k (removals_to h k) c

  abbrev needed : Chain → Bool
  needed c = needs_mend m base planar j one last c

  abbrev mend : Chain → Mend
  mend c = step_mend m base planar j one last c

  up : k + 1 ≡ j
  up = omega (arith, one)

  -- ---- rule 1

  step_fits : fits_step here record_here ≡ true
  step_fits = and_from (j == j) _ (eq-eqb j j refl) (le-leb 1 j one)

  -- ---- rule 2

  abbrev rows : List FaceRow
  rows = map (face_row h) (live_faces h j)

  new_there : list_any (λ f. (f.face == s.made) && (f.class == class_of (all_classes h) s.winner)) rows ≡ true
  new_there = subst (λ (i : ℕ). list_any (λ f. (f.face == (step_number h i).made) && (f.class == class_of (all_classes h) (step_number h i).winner))
      (map (face_row h) (live_faces h i)) ≡ true) up (made_there m base k (few m base planar j one last))

  no_loser : list_any (λ r. r.face == s.loser) rows ≡ false
  no_loser = subst (λ (i : ℕ). list_any (λ r. r.face == (step_number h i).loser) (map (face_row h) (live_faces h i)) ≡ false) up
      (not_there m base k (few m base planar j one last) (step_number h (k + 1)).loser (loser_gone m base k (few m base planar j one last)))

  no_winner : list_any (λ r. r.face == s.winner) rows ≡ false
  no_winner = subst (λ (i : ℕ). list_any (λ r. r.face == (step_number h i).winner) (map (face_row h) (live_faces h i)) ≡ false) up
      (not_there m base k (few m base planar j one last) (step_number h (k + 1)).winner (winner_gone m base k (few m base planar j one last)))

  differ : (x y : ℕ) → x ≢ y → not (x == y) ≡ true
  differ x y ne = not_from_false (x == y) (ne_eqb x y ne)

  faces_fit : fits_faces here record_here ≡ true
  faces_fit =
      let w = step_numbered m base planar j one last in
      and_from _ (not (s.made == 0))
      (and_from _ (not (s.winner == 0))
      (and_from _ (not (s.loser == 0))
      (and_from _ (not (s.winner == s.made))
      (and_from _ (not (s.loser == s.made))
      (and_from _ (not (s.loser == s.winner))
      (and_from _ (not (list_any (λ r. r.face == s.winner) rows))
      (and_from _ (not (list_any (λ r. r.face == s.loser) rows)) new_there (not_from_false _ no_loser))
      (not_from_false _ no_winner))
      (differ s.loser s.winner w.differ))
      (differ s.loser s.made (λ e. omega (arith, w.loser.1, w.made, e))))
      (differ s.winner s.made (λ e. omega (arith, w.winner.1, w.made, e))))
      (differ s.loser 0 (λ e. omega (arith, w.loser.0, e))))
      (differ s.winner 0 (λ e. omega (arith, w.winner.0, e))))
      (differ s.made 0 (λ e. omega (arith, w.made, e)))

  -- ---- the mends of the record, and their edges

  -- what passes for the mend of each chain that needs one passes for all mends
  all_mends : (p : Mend → Bool) → ((c : Chain) → Among c (chains_at h j) → needed c ≡ true → p (mend c) ≡ true) → list_all p (step_record h j).mends ≡ true
  all_mends p each = all_from p (step_record h j).mends (λ w o.
      let c = among_from (λ (c : Chain). cond {A = List Mend} (needed c) (mend c ∷ []) []) (chains_at h j) w o in
      by c.0 c.1 (needed c.0) refl w c.2)
    where
      by : (c : Chain) → Among c (chains_at h j) → (v : Bool) → needed c ≡ v → (w : Mend) → Among w (cond {A = List Mend} v (mend c ∷ []) []) → p w ≡ true
      by c n true e w (inl f) = ap p (sym f) ∙ each c n e
      by c n true e w (inr o) = absurd o
      by c n false e w o = absurd o

  -- the mends stand in the order of their chains
  mends_of : (cs : List Chain) → flat_map (λ (c : Chain). cond {A = List Mend} (needed c) (mend c ∷ []) []) cs ≡ map mend (filter needed cs)
  mends_of [] = refl
  mends_of (c ∷ cs) = by (needed c) (mends_of cs)
    where
      by : (v : Bool) → flat_map (λ (c : Chain). cond {A = List Mend} (needed c) (mend c ∷ []) []) cs ≡ map mend (filter needed cs)
          → cond v (mend c ∷ []) [] ++ flat_map (λ (c : Chain). cond {A = List Mend} (needed c) (mend c ∷ []) []) cs ≡ map mend (cond v (c ∷ filter needed cs) (filter needed cs))
      by true e = ap (λ (ws : List Mend). mend c ∷ ws) e
      by false e = e

  mends_ascend : keys_ascend (map (λ m. m.key) (step_record h j).mends) ≡ true
  mends_ascend =
      ap (λ (ws : List Mend). is_sorted_by nat_lt (map (λ m. m.key) ws)) (mends_of (chains_at h j))
      ∙ map-is_sorted (λ (w : Mend). ⊤) (λ v w. nat_lt v.key w.key) nat_lt (λ w. w.key) (λ v w p q. refl) (map mend (filter needed (chains_at h j)))
      (all_members (λ (w : Mend). ⊤) (map mend (filter needed (chains_at h j))) (λ w o. tt))
      ∙ map-is_sorted (λ (c : Chain). ⊤) (λ c d. nat_lt (key c) (key d)) (λ v w. nat_lt v.key w.key) mend (λ c d p q. refl) (filter needed (chains_at h j))
      (all_members (λ (c : Chain). ⊤) (filter needed (chains_at h j)) (λ c o. tt))
      ∙ filter-is_sorted {P = λ (c : Chain). ⊤} (order_by_key key nat_lt_order) needed (chains_at h j) (all_members (λ (c : Chain). ⊤) (chains_at h j) (λ c o. tt))
      (chains_sorted h j (chains_at h j) (chains_exist h j))

  -- the edge with the key of a chain is the chain's
  edge_found : (c : Chain) → Among c (chains_at h j) → edge_with here (key c) ≡ Some (edge_here c)
  edge_found c n =
      find_only (λ (e : Edge). e.key == key c) (map edge_here (chains_at h j)) (edge_here c) (among_map edge_here (chains_at h j) c n) (eq-eqb (key c) (key c) refl)
      (λ e o t.
      let d = map_among edge_here (chains_at h j) e o in
      let same : d.0 ≡ c = same_key h j d.0 c d.1 n (ap (λ (x : Edge). x.key) d.2 ∙ eqb-true _ _ t) in
      sym d.2 ∙ ap edge_here same)

  -- ---- rule 3

  side_there : (c : Chain) → needed c ≡ true → has_side s.made (edge_of h j [] c) ≡ true
  side_there c e = (and_parts (has_side s.made (edge_of h j [] c)) (is_needed s.loser (mend c)) e).0

  mends_fit : fits_mends here record_here ≡ true
  mends_fit =
      and_from (keys_ascend (map (λ m. m.key) (step_record h j).mends)) _ mends_ascend
      (all_mends (λ w. elim (edge_with here w.key) [ None ↦ false | Some e ↦ has_one_side s.made e ]) (λ c n e.
      ap (λ (o : Option Edge). elim o [ None ↦ false | Some e ↦ has_one_side s.made e ]) (edge_found c n)
      ∙ one_side ((edge_of h j [] c).left == s.made) ((edge_of h j [] c).right == s.made) (side_there c e)
      (λ a b. sides_apart m base planar j one last c n (eqb-true _ _ a ∙ sym (eqb-true _ _ b)))))

  -- ---- rule 4

  abbrev now : List Removal
  now = filter (λ (r : Removal). r.step == j) (removals_to h j)

  abbrev row : Chain → List Point
  row c = without (removals_to h k) (chain_points m.arcs c)

  puts_there : (c : Chain) → Among c (chains_at h j) → puts_fit (edge_here c).points (mend c).puts ≡ true
  puts_there c n =
      ap (λ (ps : List Point). puts_fit ps (mend c).puts) (without_step h j one last (chain_points m.arcs c))
      ∙ puts_fit_row now (row c) (omega (arith, row_two m base planar j one last c n)) (row_first_free m base planar j one last c n)
      (row_last_free m base planar j one last c n) (row_apart m base planar j one last c n)

  puts_all_fit : fits_puts here record_here ≡ true
  puts_all_fit =
      all_mends (λ w. is_sorted_by nat_lt (map (λ p. p.at) w.puts) && elim (edge_with here w.key) [ None ↦ true | Some e ↦ puts_fit e.points w.puts ]) (λ c n e.
      and_from (is_sorted_by nat_lt (map (λ p. p.at) (mend c).puts)) _ (puts_ascend now 0 (row c))
      (ap (λ (o : Option Edge). elim o [ None ↦ true | Some e ↦ puts_fit e.points (mend c).puts ]) (edge_found c n) ∙ puts_there c n))

  -- ---- rule 5

  abbrev at_left : Chain → Bool
  at_left c = (edge_of h j [] c).left == s.made

  abbrev places : Chain → List ℕ
  places c = map (λ (p : Piece). p.last) (mend c).pieces

  member_up : (c : Chain) → Among c (chains_at h j) → Among c (chains_at h (k + 1))
  member_up c n = subst (λ (i : ℕ). Among c (chains_at h i)) (sym up) n

  places_ascend : (c : Chain) → Among c (chains_at h j) → is_sorted_by nat_lt (places c) ≡ true
  places_ascend c n =
      chain_places_ascend h k (numbered m base planar) (few m base planar j one last) (based m base planar) (even m base planar k) (long m base planar)
      (removals_to h k) (ends_stay m base planar k (omega (arith, few m base planar j one last))) j (at_left c) c (member_up c n)

  places_end : (c : Chain) → Among c (chains_at h j) → ends_with_place (length (row c) - 1) (places c) ≡ true
  places_end c n =
      chain_places_end h k (numbered m base planar) (few m base planar j one last) (based m base planar) (even m base planar k) (long m base planar)
      (removals_to h k) (ends_stay m base planar k (omega (arith, few m base planar j one last))) j (at_left c) c (member_up c n)

  places_some : (c : Chain) → Among c (chains_at h j) → starts_after_zero (places c) ≡ true
  places_some c n = by (places c) (places_end c n)
      (chain_places_some h k (numbered m base planar) (few m base planar j one last) (based m base planar) (even m base planar k) (long m base planar)
      (removals_to h k) (ends_stay m base planar k (omega (arith, few m base planar j one last))) j (at_left c) c (member_up c n))
    where
      by : (ns : List ℕ) → ends_with_place (length (row c) - 1) ns ≡ true → ((n : ℕ) → Among n ns → 0 < n) → starts_after_zero ns ≡ true
      by [] e low = absurd cc
      by (n ∷ ns) e low = le-leb 1 n (omega (arith, low n (inl refl)))

  points_count : (c : Chain) → length (edge_here c).points + length (mend c).puts ≡ length (row c)
  points_count c =
      ap (λ (ps : List Point). length ps + length (mend c).puts) (without_step h j one last (chain_points m.arcs c))
      ∙ puts_length now 0 (row c)

  -- the side of a piece is what became the new face
  merged_side : (c : Chain) → Among c (chains_at h j) → has_side s.made (edge_of h j [] c) ≡ true → (d : Link) → Among d c
      → let side = cond (at_left c) (left_of h k d) (right_of h k d) in ((side == s.loser) || (side == s.winner)) ≡ true
  merged_side c n t d o = by (at_left c) refl
    where
      either : (x : ℕ) → (x ≡ s.loser) ⊎ (x ≡ s.winner) → ((x == s.loser) || (x == s.winner)) ≡ true
      either x (inl e) = or_left (x == s.loser) (x == s.winner) (eq-eqb x s.loser e)
      either x (inr e) = or_right (x == s.loser) (x == s.winner) (eq-eqb x s.winner e)

      bounds : ((arc_number m.arcs d.arc).left ≤ length m.classes) × ((arc_number m.arcs d.arc).right ≤ length m.classes)
      bounds = arc_faces m base planar j one last d.arc (chain_arcs h j c n d o)

      chosen : (t : Bool) (x y : ℕ) → x ≤ length m.classes → y ≤ length m.classes → cond t x y ≤ length m.classes
      chosen true x y p q = p
      chosen false x y p q = q

      by : (v : Bool) → at_left c ≡ v → ((cond v (left_of h k d) (right_of h k d) == s.loser) || (cond v (left_of h k d) (right_of h k d) == s.winner)) ≡ true
      by true e = either (left_of h k d) (made_from m base planar j one last (cond d.turned (arc_number m.arcs d.arc).right (arc_number m.arcs d.arc).left)
          (chosen d.turned (arc_number m.arcs d.arc).right (arc_number m.arcs d.arc).left bounds.1 bounds.0)
          (sym (left_next m base planar j one last d) ∙ (chain_sides m base planar j one last j c n d o).0 ∙ eqb-true _ _ e))
      by false e = either (right_of h k d) (made_from m base planar j one last (cond d.turned (arc_number m.arcs d.arc).left (arc_number m.arcs d.arc).right)
          (chosen d.turned (arc_number m.arcs d.arc).left (arc_number m.arcs d.arc).right bounds.0 bounds.1)
          (sym (right_next m base planar j one last d) ∙ (chain_sides m base planar j one last j c n d o).1
          ∙ elim (or_cases (at_left c) ((edge_of h j [] c).right == s.made) t) [
            | inl f ↦ absurd (differs f e)
            | inr f ↦ eqb-true _ _ f
          ]))
        where
          differs : {b : Bool} → b ≡ true → b ≡ false → ⊥
          differs p q = cc

  sides_merge : (c : Chain) → Among c (chains_at h j) → has_side s.made (edge_of h j [] c) ≡ true
      → list_all (λ p. (p.side == s.loser) || (p.side == s.winner)) (mend c).pieces ≡ true
  sides_merge c n t = by (runs (chains_at h k) c) 0 (λ r o. o)
    where
      by : (parts : List Chain) (first : ℕ) → ((r : Chain) → Among r parts → Among r (runs (chains_at h k) c))
          → list_all (λ p. (p.side == s.loser) || (p.side == s.winner)) (pieces_from h j (at_left c) (chains_at h k) (removals_to h k) first parts) ≡ true
      by [] first sub = refl
      by ([] ∷ parts) first sub = let none = run_links m base planar j one last c n [] (sub [] (inl refl)) in absurd cc
      by ((d ∷ r) ∷ parts) first sub =
          and_from _ _ (merged_side c n t d (run_within m base planar j one last c n (d ∷ r) (sub (d ∷ r) (inl refl)) d (inl refl)))
          (by parts _ (λ q o. sub q (inr o)))

  pieces_fit : fits_pieces here record_here ≡ true
  pieces_fit =
      all_mends (λ w. let places = map (λ p. p.last) w.pieces in
      is_sorted_by nat_lt places && starts_after_zero places
      && elim (edge_with here w.key) [ None ↦ true | Some e ↦ ends_with_place (length e.points + length w.puts - 1) places ]
      && list_all (λ p. (p.side == s.loser) || (p.side == s.winner)) w.pieces) (λ c n e.
      and_from _ _
      (and_from _ _
      (and_from (is_sorted_by nat_lt (places c)) (starts_after_zero (places c)) (places_ascend c n) (places_some c n))
      (ap (λ (o : Option Edge). elim o [ None ↦ true | Some e ↦ ends_with_place (length e.points + length (mend c).puts - 1) (places c) ]) (edge_found c n)
      ∙ ap (λ (n : ℕ). ends_with_place (n - 1) (places c)) (points_count c) ∙ places_end c n))
      (sides_merge c n (side_there c e)))

  -- ---- rules 6 and 7

  back_sorted : is_sorted_by edge_before (map edge_back (chains_at h k)) ≡ true
  back_sorted =
      map-is_sorted (λ (c : Chain). ⊤) (λ c d. nat_lt (key c) (key d)) edge_before edge_back (λ c d p q. refl) (chains_at h k) (all_members (λ (c : Chain). ⊤) (chains_at h k) (λ c o. tt))
      ∙ chains_sorted h k (chains_at h k) (chains_exist h k)

  keys_of : (es : List Edge) → is_sorted_by edge_before es ≡ true → keys_ascend (map (λ e. e.key) es) ≡ true
  keys_of es e =
      map-is_sorted (λ (e : Edge). ⊤) edge_before nat_lt (λ e. e.key) (λ e f p q. refl) es (all_members (λ (e : Edge). ⊤) es (λ e o. tt)) ∙ e

  ended_fit : fits_ended here record_here ≡ true
  ended_fit =
      and_from (keys_ascend (map (λ e. e.key) (step_record h j).ended)) _
      (keys_of (step_record h j).ended
      (filter-is_sorted {P = λ (e : Edge). ⊤} {before = edge_before} (order_by_key (λ (e : Edge). e.key) nat_lt_order) (is_edge_between s.loser s.winner) (map edge_back (chains_at h k))
      (all_members (λ (e : Edge). ⊤) (map edge_back (chains_at h k)) (λ e o. tt)) back_sorted))
      (all_from (is_edge_between s.loser s.winner) (step_record h j).ended (λ e o. filter_among (is_edge_between s.loser s.winner) (map edge_back (chains_at h k)) e o))

  keys_fit : fits_keys (slice m j) record_here ≡ true
  unfolding slice
  keys_fit =
      ap (λ (t : Slice). keys_ascend (map (λ e. e.key) t.edges)) (undo_goes_back m base planar j one last)
      ∙ keys_of (map edge_back (chains_at h k)) back_sorted

  pub record_fits : broken_rule (slice m j) (step_record (merged m) j) ≡ None
  unfolding broken_rule slice
  record_fits =
      seven_pass (fits_step here record_here) (fits_faces here record_here) (fits_mends here record_here) (fits_puts here record_here)
      (fits_pieces here record_here) (fits_ended here record_here) (fits_keys (slice m j) record_here)
      step_fits faces_fit mends_fit puts_all_fit pieces_fit ended_fit keys_fit

pub records_fit : RecordsFit
records_fit m base planar j one last = record_fits m base planar j one last
