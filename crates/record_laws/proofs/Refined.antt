-- The edge of a chain after a step, led back by the step's record: it becomes the edges of the chains of its runs.
use Rattle.std.proofs.Common.{◌≡◌, ◌≢◌, inl, inr, ℕ, ◌+◌, ◌-◌, ◌≤◌, ◌==◌, ◌&&◌, ◌||◌, Bool, true, false, nat_lt, cond, List, [], ◌∷◌, ◌++◌, map, filter, take, drop, reverse, length, Option, Some, None, eq-eqb, ne_eqb, refl, sym, ap, ap₂, ◌∙◌, subst, arith}
use Rattle.std.specs.Prelude.{flat_map, find}
use Rattle.std.specs.List.{list_any}
use Rattle.std.proofs.lemmas.Bool.{and_cases, or_parts, eqb-false, ltb-true, ltb-false}
use Rattle.std.proofs.lemmas.List.{length-map, append-nil}
use Rattle.lemmas.proofs.Orders.{nat_lt_order, order_by_key}
use Rattle.tgap_model.specs.declared.geometry.Point.{Point}
use Rattle.tgap_model.specs.declared.merge.MergeStep.{MergeStep}
use Rattle.tgap_model.specs.declared.slice.Edge.{Edge}
use Rattle.tgap_model.specs.declared.slice.Removal.{Removal}
use Rattle.tgap_model.specs.declared.record.Piece.{Piece}
use Rattle.tgap_model.specs.declared.record.Mend.{Mend}
use Rattle.tgap_model.specs.declared.record.StepRecord.{StepRecord}
use Rattle.tgap_model.specs.Base.{BaseMap, is_base}
use Rattle.tgap_model.specs.Partition.{IsPartition, base_segments}
use Rattle.tgap_model.specs.History.{relabel, history_of}
use Rattle.tgap_model.specs.Merged.{MergedMap, merged, step_number}
use Rattle.tgap_model.specs.Chains.{Link, Chain, arc_number, chain_points, key, has_links, chains_at}
use Rattle.tgap_model.specs.Removals.{without, edge_of, has_side, removals_to}
use Rattle.tgap_model.specs.Slice.{left_of, right_of}
use Rattle.tgap_model.specs.Records.{puts_from, chain_of, runs, piece_of, pieces_from, is_needed, step_record, put_in, in_place_of, cut_piece, cut_pieces, mend_for, refined}
use Rattle.map_laws.proofs.ChainMembers.{Among}
use Rattle.map_laws.proofs.ChainLinks.{chains_sorted}
use Rattle.map_laws.proofs.ChainsExist.{chains_exist}
use Rattle.map_laws.proofs.Lists.{ArePairs, members_all, sorted_ascend, pairs_weaker}
use Rattle.map_laws.proofs.SlicesUnique.{edge_same}
use Rattle.removal_laws.proofs.ChainEnds.{chain_links}
use Rattle.removal_laws.proofs.StandOnce.{partition_has_removals}
use Rattle.record_laws.specs.RunLaws.{chain_of_run, is_turned_run}
use Rattle.record_laws.specs.PieceLaws.{CutsIntoEdges, cut_points}
use Rattle.record_laws.proofs.Merging.{left_back, right_back, replaced_side}
use Rattle.record_laws.proofs.PiecesAreEdges.{pieces_are_edges}
use Rattle.record_laws.proofs.PutsBack.{puts_come_back}
use Rattle.record_laws.proofs.StepFacts.{label_next, left_next, right_next, made_from, arc_faces, key_within, chain_sides, sides_apart, run_is_part, run_sides, whole_chain, whole_same, whole_ahead, runs_in_row, run_links, run_within}
use Rattle.record_laws.proofs.Unswept.{cons_head, cons_tail, unswept}

-- ---- the mend of a chain

module _ (needed : Chain → Bool) (mend : Chain → Mend) (keys : (c : Chain) → (mend c).key ≡ key c) where
  -- the mends of those that need one
  abbrev pub mends : List Chain → List Mend
  mends cs = flat_map (λ c. cond (needed c) (mend c ∷ []) []) cs

  abbrev found_in : ℕ → List Mend → Option Mend
  found_in i ms = find (λ m. m.key == i) ms

  none_found : (i : ℕ) (cs : List Chain) → ((d : Chain) → Among d cs → key d ≢ i) → found_in i (mends cs) ≡ None
  none_found i [] other = refl
  none_found i (d ∷ cs) other = by (needed d) (none_found i cs (λ e m. other e (inr m)))
    where
      by : (v : Bool) → found_in i (mends cs) ≡ None → found_in i (cond v (mend d ∷ []) [] ++ mends cs) ≡ None
      by true e = ap (λ (b : Bool). cond b (Some (mend d)) (found_in i (mends cs))) (ne_eqb (mend d).key i (λ f. other d (inl refl) (sym (keys d) ∙ f))) ∙ e
      by false e = e

  -- the mend with the key of a chain is its own, where it needs one
  pub mend_found : (cs : List Chain) → ArePairs (λ c d. key c ≢ key d) cs → (c : Chain) → Among c cs
      → find (λ m. m.key == key c) (mends cs) ≡ cond (needed c) (Some (mend c)) None
  mend_found [] pairs c m = absurd m
  mend_found (d ∷ cs) pairs c (inl e) =
      subst (λ (x : Chain). found_in (key x) (mends (d ∷ cs)) ≡ cond (needed x) (Some (mend x)) None) e
      (by (needed d) (none_found (key d) cs (λ x o f. pairs.0 x o (sym f))))
    where
      by : (v : Bool) → found_in (key d) (mends cs) ≡ None → found_in (key d) (cond v (mend d ∷ []) [] ++ mends cs) ≡ cond v (Some (mend d)) None
      by true e = ap (λ (b : Bool). cond b (Some (mend d)) (found_in (key d) (mends cs))) (eq-eqb (mend d).key (key d) (keys d))
      by false e = e
  mend_found (d ∷ cs) pairs c (inr m) = by (needed d) (mend_found cs pairs.1 c m)
    where
      by : (v : Bool) → found_in (key c) (mends cs) ≡ cond (needed c) (Some (mend c)) None
          → found_in (key c) (cond v (mend d ∷ []) [] ++ mends cs) ≡ cond (needed c) (Some (mend c)) None
      by true e = ap (λ (b : Bool). cond b (Some (mend d)) (found_in (key c) (mends cs))) (ne_eqb (mend d).key (key c) (λ f. pairs.0 c m (sym (keys d) ∙ f))) ∙ e
      by false e = e

-- the chains after some steps have different keys
pub keys_apart : (h : MergedMap) (i : ℕ) → ArePairs (λ c d. key c ≢ key d) (chains_at h i)
keys_apart h i =
    pairs_weaker (λ c d. nat_lt (key c) (key d) ≡ true) (λ c d. key c ≢ key d) (λ c d l e. omega (arith, ltb-true _ _ l, e)) (chains_at h i)
    (sorted_ascend (λ (c d : Chain). nat_lt (key c) (key d)) (order_by_key key nat_lt_order) (chains_at h i) (chains_sorted h i (chains_at h i) (chains_exist h i)))

none_long : {A : Type 0} (xs : List A) → length xs ≤ 0 → xs ≡ []
none_long [] l = refl
none_long (x ∷ xs) l = absurd (omega arith)

module _ (m : BaseMap) (base : is_base m ≡ true) (planar : IsPartition (base_segments m)) (j : ℕ) (one : 1 ≤ j) (last : j ≤ length (history_of m)) where
  abbrev h : MergedMap
  h = merged m

  abbrev k : ℕ
  k = j - 1

  abbrev s : MergeStep
  s = step_number h j

  abbrev finer : List Chain
  finer = chains_at h k

  abbrev before : List Removal
  before = removals_to h k

  abbrev now : List Removal
  now = filter (λ (r : Removal). r.step == j) (removals_to h j)

  abbrev record_here : StepRecord
  record_here = step_record h j

  -- the edge of a chain before the step, after it, and after it before its sweep
  abbrev edge_back : Chain → Edge
  edge_back c = edge_of h k before c

  abbrev edge_here : Chain → Edge
  edge_here c = edge_of h j (removals_to h j) c

  abbrev edge_unswept : Chain → Edge
  edge_unswept c = edge_of h j before c

  abbrev at_left : Chain → Bool
  at_left c = (edge_unswept c).left == s.made

  abbrev pub step_mend : Chain → Mend
  step_mend c = record {
    key = key c;
    puts = puts_from (filter (λ (r : Removal). r.step == j) (removals_to (merged m) j)) 0 (edge_of (merged m) j (removals_to (merged m) (j - 1)) c).points;
    pieces = pieces_from (merged m) j ((edge_of (merged m) j (removals_to (merged m) (j - 1)) c).left == (step_number (merged m) j).made)
        (chains_at (merged m) (j - 1)) (removals_to (merged m) (j - 1)) 0 (runs (chains_at (merged m) (j - 1)) c);
  }

  abbrev pub needs_mend : Chain → Bool
  needs_mend c = has_side (step_number (merged m) j).made (edge_of (merged m) j (removals_to (merged m) (j - 1)) c)
      && is_needed (step_number (merged m) j).loser (step_mend c)

  pub mends_are : (step_record (merged m) j).mends ≡ mends needs_mend step_mend (λ c. refl) (chains_at (merged m) j)
  mends_are = refl

  pub mend_is : (c : Chain) → Among c (chains_at (merged m) j)
      → mend_for (step_record (merged m) j) (edge_of (merged m) j (removals_to (merged m) j) c) ≡ cond (needs_mend c) (Some (step_mend c)) None
  mend_is c n = mend_found needs_mend step_mend (λ c. refl) (chains_at h j) (keys_apart h j) c n

  -- ---- one piece

  module _ (c : Chain) (n : Among c (chains_at h j)) where
    abbrev faces : Edge
    faces = edge_of h j [] c

    piece_edge : (d : Link) (r : Chain) (first : ℕ) (points : List Point) → Among (d ∷ r) (runs finer c)
        → (let p = piece_of h j (at_left c) finer before first d (d ∷ r) in
        let cut = take (p.last + 1 - first) (drop first points) in
        cond p.turned (reverse cut) cut ≡ without before (chain_points m.arcs (chain_of finer d.arc)))
        → cut_piece record_here (edge_here c) points first (piece_of h j (at_left c) finer before first d (d ∷ r)) ≡ edge_back (chain_of finer d.arc)
    piece_edge d r first points o cuts = by (is_turned_run finer (d ∷ r)) refl cuts
      where
        p : Piece
        p = piece_of h j (at_left c) finer before first d (d ∷ r)

        cut : List Point
        cut = take (p.last + 1 - first) (drop first points)

        f : Chain
        f = chain_of finer d.arc

        in_c : Among d c
        in_c = run_within m base planar j one last c n (d ∷ r) o d (inl refl)

        is_left : faces.left ≡ relabel s (left_of h k d)
        is_left = sym (chain_sides m base planar j one last j c n d in_c).0 ∙ left_next m base planar j one last d

        is_right : faces.right ≡ relabel s (right_of h k d)
        is_right = sym (chain_sides m base planar j one last j c n d in_c).1 ∙ right_next m base planar j one last d

        left_is : in_place_of s.made p.side faces.left ≡ left_of h k d
        left_is = left_back s (left_of h k d) (right_of h k d) faces.left faces.right is_left is_right (sides_apart m base planar j one last c n)

        right_is : in_place_of s.made p.side faces.right ≡ right_of h k d
        right_is = right_back s (left_of h k d) (right_of h k d) faces.left faces.right is_left is_right (sides_apart m base planar j one last c n)

        by : (b : Bool) → is_turned_run finer (d ∷ r) ≡ b → cond b (reverse cut) cut ≡ without before (chain_points m.arcs f)
            → cond {A = Edge} b
            (record { key = key f; left = in_place_of s.made p.side faces.right; right = in_place_of s.made p.side faces.left; points = reverse cut })
            (record { key = key f; left = in_place_of s.made p.side faces.left; right = in_place_of s.made p.side faces.right; points = cut })
            ≡ edge_back f
        by true t e =
            let sides = run_sides m base planar j one last (d ∷ r) (run_is_part m base planar j one last c n (d ∷ r) o) d (inl refl) true t in
            edge_same _ (edge_back f) refl (right_is ∙ sides.1) (left_is ∙ sides.0) e
        by false t e =
            let sides = run_sides m base planar j one last (d ∷ r) (run_is_part m base planar j one last c n (d ∷ r) o) d (inl refl) false t in
            edge_same _ (edge_back f) refl (left_is ∙ sides.0) (right_is ∙ sides.1) e

    -- all pieces, where they cut the points into those of the edges
    piece_edges : (parts : List Chain) (first : ℕ) (points : List Point) → ((r : Chain) → Among r parts → Among r (runs finer c))
        → cut_points points first (pieces_from h j (at_left c) finer before first parts)
        ≡ map (λ r. without before (chain_points m.arcs (chain_of_run finer r))) parts
        → cut_pieces record_here (edge_here c) points first (pieces_from h j (at_left c) finer before first parts)
        ≡ map (λ r. edge_back (chain_of_run finer r)) parts
    piece_edges [] first points sub cuts = refl
    piece_edges ([] ∷ parts) first points sub cuts = let none = run_links m base planar j one last c n [] (sub [] (inl refl)) in absurd cc
    piece_edges ((d ∷ r) ∷ parts) first points sub cuts =
        let p : Piece = piece_of h j (at_left c) finer before first d (d ∷ r) in
        let cut : List Point = take (p.last + 1 - first) (drop first points) in
        let head : List Point = cond p.turned (reverse cut) cut in
        let tail : List (List Point) = cut_points points p.last (pieces_from h j (at_left c) finer before p.last parts) in
        let f : List Point = without before (chain_points m.arcs (chain_of finer d.arc)) in
        let fs : List (List Point) = map (λ r. without before (chain_points m.arcs (chain_of_run finer r))) parts in
        ap₂ (λ (e : Edge) (es : List Edge). e ∷ es)
        (piece_edge d r first points (sub (d ∷ r) (inl refl)) (cons_head head f tail fs cuts))
        (piece_edges parts p.last points (λ q o. sub q (inr o)) (cons_tail head f tail fs cuts))

    cuts_here : CutsIntoEdges h j (at_left c) c
    cuts_here = members_all (CutsIntoEdges h j (at_left c)) (chains_at h j) c (pieces_are_edges m base planar j one last (at_left c)) n

    mended : cut_pieces record_here (edge_here c) (put_in (step_mend c).puts (edge_here c).points) 0 (step_mend c).pieces
        ≡ map (λ r. edge_back (chain_of_run finer r)) (runs finer c)
    mended =
        ap (λ (ps : List Point). cut_pieces record_here (edge_here c) ps 0 (step_mend c).pieces) (puts_come_back h j (chain_points m.arcs c) one last)
        ∙ piece_edges (runs finer c) 0 (without before (chain_points m.arcs c)) (λ r o. o) cuts_here.points

    -- ---- an edge without a mend

    abbrev plain : Edge
    plain = record (edge_here c) { left = in_place_of s.made s.winner faces.left; right = in_place_of s.made s.winner faces.right }

    plain_is : (edge_here c).points ≡ (edge_back c).points → (faces.left ≡ s.made → s.winner ≡ (edge_back c).left)
        → (faces.right ≡ s.made → s.winner ≡ (edge_back c).right) → plain ≡ edge_back c
    plain_is points left right =
        let l = label_next m base planar j one last (arc_number m.arcs (key c)).left in
        let r = label_next m base planar j one last (arc_number m.arcs (key c)).right in
        edge_same plain (edge_back c) refl
        (ap (in_place_of s.made s.winner) l ∙ replaced_side s (edge_back c).left s.winner (λ e. left (l ∙ e)))
        (ap (in_place_of s.made s.winner) r ∙ replaced_side s (edge_back c).right s.winner (λ e. right (r ∙ e)))
        points

    whole : runs finer c ≡ c ∷ [] → plain ≡ edge_back c → plain ∷ [] ≡ map (λ r. edge_back (chain_of_run finer r)) (runs finer c)
    whole e p =
        ap (λ (x : Edge). x ∷ []) (p ∙ ap edge_back (sym (whole_same m base planar j one last c n e)))
        ∙ sym (ap (map (λ r. edge_back (chain_of_run finer r))) e)

    -- where it does not border the new face
    away : has_side s.made (edge_unswept c) ≡ false → plain ∷ [] ≡ map (λ r. edge_back (chain_of_run finer r)) (runs finer c)
    away e =
        let parts = or_parts (faces.left == s.made) (faces.right == s.made) e in
        let l : faces.left ≢ s.made = eqb-false _ _ parts.0 in
        let r : faces.right ≢ s.made = eqb-false _ _ parts.1 in
        whole (whole_chain m base planar j one last c n l r)
        (plain_is (ap (λ (x : Edge). x.points) (unswept h j ((partition_has_removals m base planar j).left one last) c n e)) (λ f. absurd (l f)) (λ f. absurd (r f)))

    -- where nothing of it changes but the winner's face
    unchanged : is_needed s.loser (step_mend c) ≡ false → plain ∷ [] ≡ map (λ r. edge_back (chain_of_run finer r)) (runs finer c)
    unchanged e = whole single (plain_is points left right)
      where
        parts : ((nat_lt 0 (length (step_mend c).puts) || nat_lt 1 (length (step_mend c).pieces)) ≡ false) × (list_any (λ p. p.side == s.loser) (step_mend c).pieces ≡ false)
        parts = or_parts (nat_lt 0 (length (step_mend c).puts) || nat_lt 1 (length (step_mend c).pieces)) (list_any (λ p. p.side == s.loser) (step_mend c).pieces) e

        counts : (nat_lt 0 (length (step_mend c).puts) ≡ false) × (nat_lt 1 (length (step_mend c).pieces) ≡ false)
        counts = or_parts (nat_lt 0 (length (step_mend c).puts)) (nat_lt 1 (length (step_mend c).pieces)) parts.0

        points : (edge_here c).points ≡ (edge_back c).points
        points =
            sym (ap (λ (ps : List _). put_in ps (edge_here c).points) (none_long (step_mend c).puts (ltb-false _ _ counts.0)))
            ∙ puts_come_back h j (chain_points m.arcs c) one last

        few : length (runs finer c) ≤ 1
        few = omega (
          arith,
          ltb-false _ _ counts.1,
          ap length cuts_here.keys,
          length-map (step_mend c).pieces (λ (p : Piece). p.key),
          length-map (runs finer c) (λ (r : Chain). key (chain_of_run finer r)),
        )

        single : runs finer c ≡ c ∷ []
        single = by (runs finer c) few (runs_in_row m base planar j one last c n)
          where
            by : (rs : List Chain) → length rs ≤ 1 → flat_map (λ r. r) rs ≡ c → rs ≡ c ∷ []
            by [] l joined = let some = ap has_links joined ∙ chain_links h j c n in absurd cc
            by (r ∷ []) l joined = ap (λ (x : Chain). x ∷ []) (sym (append-nil r) ∙ joined)
            by (r ∷ q ∷ more) l joined = absurd (omega arith)

        -- the face on the new face's side is not the loser
        not_loser : (d : Link) × Among d c × (cond (at_left c) (left_of h k d) (right_of h k d) ≢ s.loser)
        not_loser = of_first c (chain_links h j c n)
            (ap (λ (rs : List Chain). list_any (λ (p : Piece). p.side == s.loser) (pieces_from h j (at_left c) finer before 0 rs)) (sym single) ∙ parts.1)
          where
            of_first : (x : Chain) → has_links x ≡ true → list_any (λ (p : Piece). p.side == s.loser) (pieces_from h j (at_left c) finer before 0 (x ∷ [])) ≡ false
                → (d : Link) × Among d x × (cond (at_left c) (left_of h k d) (right_of h k d) ≢ s.loser)
            of_first [] links t = absurd cc
            of_first (d ∷ r) links t =
                let side : ℕ = cond (at_left c) (left_of h k d) (right_of h k d) in
                (d, inl refl, eqb-false side s.loser (or_parts (side == s.loser) false t).0)

        ahead : (left_of h k not_loser.0 ≡ (edge_back c).left) × (right_of h k not_loser.0 ≡ (edge_back c).right)
        ahead = whole_ahead m base planar j one last c n single not_loser.0 not_loser.1

        left : faces.left ≡ s.made → s.winner ≡ (edge_back c).left
        left f =
            let here : at_left c ≡ true = eq-eqb faces.left s.made f in
            let other : (edge_back c).left ≢ s.loser = λ e. not_loser.2 (ap (λ (b : Bool). cond b (left_of h k not_loser.0) (right_of h k not_loser.0)) here ∙ ahead.0 ∙ e) in
            elim (made_from m base planar j one last (arc_number m.arcs (key c)).left (arc_faces m base planar j one last (key c) (key_within m base planar j one last j c n)).0
            (sym (label_next m base planar j one last (arc_number m.arcs (key c)).left) ∙ f)) [
              | inl a ↦ absurd (other a)
              | inr a ↦ sym a
            ]

        right : faces.right ≡ s.made → s.winner ≡ (edge_back c).right
        right f =
            let there : at_left c ≡ false = ne_eqb faces.left s.made (λ g. sides_apart m base planar j one last c n (g ∙ sym f)) in
            let other : (edge_back c).right ≢ s.loser = λ e. not_loser.2 (ap (λ (b : Bool). cond b (left_of h k not_loser.0) (right_of h k not_loser.0)) there ∙ ahead.1 ∙ e) in
            elim (made_from m base planar j one last (arc_number m.arcs (key c)).right (arc_faces m base planar j one last (key c) (key_within m base planar j one last j c n)).1
            (sym (label_next m base planar j one last (arc_number m.arcs (key c)).right) ∙ f)) [
              | inl a ↦ absurd (other a)
              | inr a ↦ sym a
            ]

    -- ---- the edge, led back

    pub refined_is : refined (step_record (merged m) j) (edge_of (merged m) j (removals_to (merged m) j) c)
        ≡ map (λ r. edge_of (merged m) (j - 1) (removals_to (merged m) (j - 1)) (chain_of_run (chains_at (merged m) (j - 1)) r)) (runs (chains_at (merged m) (j - 1)) c)
    refined_is = ap become (mend_is c n) ∙ by (needs_mend c) refl
      where
        become : Option Mend → List Edge
        become o = elim o [
          | None ↦ plain ∷ []
          | Some w ↦ cut_pieces record_here (edge_here c) (put_in w.puts (edge_here c).points) 0 w.pieces
        ]

        by : (b : Bool) → needs_mend c ≡ b → become (cond b (Some (step_mend c)) None) ≡ map (λ r. edge_back (chain_of_run finer r)) (runs finer c)
        by true e = mended
        by false e = elim (and_cases (has_side s.made (edge_unswept c)) (is_needed s.loser (step_mend c)) e) [
          | inl a ↦ away a
          | inr a ↦ unchanged a
        ]
