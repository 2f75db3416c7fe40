-- The pieces that are made of the edges before a step are those of its record, and their points in a row are those of the edge.
use Rattle.std.proofs.Common.{◌≡◌, ◌≢◌, ◌⊎◌, inl, inr, ℕ, ◌+◌, ◌-◌, ◌<◌, ◌≤◌, ◌==◌, ◌||◌, Bool, true, false, cond, List, [], ◌∷◌, map, fold, reverse, length, sum_by, refl, sym, ap, ap₂, ◌∙◌, arith}
use Rattle.std.proofs.lemmas.Bool.{cases_eq, eq-eqb, eqb-true, eqb-false, ne_eqb}
use Rattle.std.proofs.lemmas.List.{length-reverse}
use Rattle.std.proofs.lemmas.List.Sums.{sum_by-cons}
use Rattle.tgap_model.specs.declared.geometry.Point.{Point}
use Rattle.tgap_model.specs.declared.merge.MergeStep.{MergeStep}
use Rattle.tgap_model.specs.declared.slice.Edge.{Edge}
use Rattle.tgap_model.specs.declared.slice.Removal.{Removal}
use Rattle.tgap_model.specs.declared.record.Piece.{Piece}
use Rattle.tgap_model.specs.Base.{BaseMap, is_base}
use Rattle.tgap_model.specs.Partition.{IsPartition, base_segments}
use Rattle.tgap_model.specs.History.{relabel, history_of}
use Rattle.tgap_model.specs.Merged.{MergedMap, merged, step_number}
use Rattle.tgap_model.specs.Chains.{Link, Chain, arc_number, key, chain_points, chains_at}
use Rattle.tgap_model.specs.Removals.{edge_of, has_side, removals_to, without}
use Rattle.tgap_model.specs.Records.{chain_of, runs, pieces_from, piece_of, ends_with_place}
use Rattle.tgap_model.specs.Slice.{left_of, right_of}
use Rattle.map_laws.proofs.ChainMembers.{Among}
use Rattle.map_laws.proofs.Lists.{members_all}
use Rattle.point_rope.specs.Rows.{oriented, glued}
use Rattle.removal_laws.proofs.ChainEnds.{chain_arcs}
use Rattle.record_laws.specs.RunLaws.{chain_of_run, is_turned_run}
use Rattle.record_laws.specs.PieceLaws.{CutsIntoEdges}
use Rattle.record_laws.proofs.MapFacts.{numbered, based, long, even, ends_stay}
use Rattle.record_laws.proofs.PieceCuts.{part_points}
use Rattle.record_laws.proofs.PiecesAreEdges.{pieces_are_edges}
use Rattle.record_laws.proofs.StepFacts.{few, left_next, right_next, made_from, arc_faces, chain_sides, sides_apart, run_is_part, run_sides, run_within, run_links}
use Rattle.tgap_build.specs.declared.joined.OldEdge.{OldEdge}
use Rattle.tgap_build.specs.Changes.{part_pieces}
use Rattle.tgap_build.proofs.JoinedRows.{joined_is}

-- ---- the side of a piece

relabel_of : (s : MergeStep) (y : ℕ) → y ≡ s.loser → relabel s y ≡ s.made
relabel_of s y e = ap (λ (b : Bool). cond (b || (y == s.winner)) s.made y) (eq-eqb y s.loser e)

-- x is the face before the step at one side and y that at the other
one_side : (s : MergeStep) (x y : ℕ) → relabel s x ≡ s.made → relabel s y ≢ s.made → (x ≡ s.loser) ⊎ (x ≡ s.winner) → x ≡ cond ((x == s.loser) || (y == s.loser)) s.loser s.winner
one_side s x y new other from = elim (cases_eq x s.loser) [
  | inl e ↦ e ∙ sym (ap (λ (b : Bool). cond (b || (y == s.loser)) s.loser s.winner) (eq-eqb x s.loser e))
  | inr ne ↦
      (let away : (y == s.loser) ≡ false = ne_eqb y s.loser (λ e. other (relabel_of s y e)) in
      let won : x ≡ s.winner = elim from [ inl e ↦ absurd (ne e) | inr e ↦ e ] in
      won ∙ sym (ap₂ (λ (a b : Bool). cond (a || b) s.loser s.winner) (ne_eqb x s.loser ne) away))
]

or_comm : (a b : Bool) → (a || b) ≡ (b || a)
or_comm true true = refl
or_comm true false = refl
or_comm false true = refl
or_comm false false = refl

-- the old edge at a run
abbrev pub old_edge : List Chain → Chain → OldEdge
old_edge finer r = record { key = key (chain_of_run finer r); turned = is_turned_run finer r }

-- the last place of pieces tells how many points there are
places_sum : (count side : ℕ → ℕ) (n first : ℕ) (p : OldEdge) (parts : List OldEdge) → ends_with_place n (map (λ (q : Piece). q.last) (part_pieces count side first (p ∷ parts))) ≡ true
    → n ≡ first + sum_by (λ (p : OldEdge). count p.key - 1) (p ∷ parts)
places_sum count side n first p [] e = omega (arith, eqb-true _ _ e, sum_by-cons (λ (p : OldEdge). count p.key - 1) p [])
places_sum count side n first p (q ∷ parts) e =
    omega (arith, places_sum count side n (first + (count p.key - 1)) q parts e, sum_by-cons (λ (p : OldEdge). count p.key - 1) p (q ∷ parts))

module _ (m : BaseMap) (base : is_base m ≡ true) (planar : IsPartition (base_segments m)) (j : ℕ) (one : 1 ≤ j) (last : j ≤ length (history_of m)) where
  abbrev h : MergedMap
  h = merged m

  abbrev k : ℕ
  k = j - 1

  abbrev s : MergeStep
  s = step_number h j

  abbrev finer : List Chain
  finer = chains_at h k

  abbrev before : List Removal
  before = removals_to h k

  -- the points of a chain that are left before the step
  abbrev left : Chain → List Point
  left c = without before (chain_points m.arcs c)

  -- the face on the side of the new face before the step is the loser exactly where the edge of the run borders it
  pub side_is : (c : Chain) → Among c (chains_at (merged m) j) → (rs : List Removal) → has_side (step_number (merged m) j).made (edge_of (merged m) j rs c) ≡ true
      → (d : Link) (r : Chain) → Among (d ∷ r) (runs (chains_at (merged m) (j - 1)) c)
      → cond ((edge_of (merged m) j rs c).left == (step_number (merged m) j).made) (left_of (merged m) (j - 1) d) (right_of (merged m) (j - 1) d)
      ≡ cond (has_side (step_number (merged m) j).loser (edge_of (merged m) (j - 1) rs (chain_of (chains_at (merged m) (j - 1)) d.arc))) (step_number (merged m) j).loser (step_number (merged m) j).winner
  side_is c n rs borders d r o = by (faces.left == s.made) refl
    where
      faces : Edge
      faces = edge_of h j [] c

      x : ℕ
      x = left_of h k d

      y : ℕ
      y = right_of h k d

      in_c : Among d c
      in_c = run_within m base planar j one last c n (d ∷ r) o d (inl refl)

      is_left : faces.left ≡ relabel s x
      is_left = sym (chain_sides m base planar j one last j c n d in_c).0 ∙ left_next m base planar j one last d

      is_right : faces.right ≡ relabel s y
      is_right = sym (chain_sides m base planar j one last j c n d in_c).1 ∙ right_next m base planar j one last d

      apart : faces.left ≢ faces.right
      apart = sides_apart m base planar j one last c n

      within : d.arc < length m.arcs
      within = chain_arcs h j c n d in_c

      base_faces : (t : Bool) → (cond t (arc_number m.arcs d.arc).right (arc_number m.arcs d.arc).left ≤ length m.classes) × (cond t (arc_number m.arcs d.arc).left (arc_number m.arcs d.arc).right ≤ length m.classes)
      base_faces true = let f = arc_faces m base planar j one last d.arc within in (f.1, f.0)
      base_faces false = let f = arc_faces m base planar j one last d.arc within in (f.0, f.1)

      face_x : relabel s x ≡ s.made → (x ≡ s.loser) ⊎ (x ≡ s.winner)
      face_x = made_from m base planar j one last (cond d.turned (arc_number m.arcs d.arc).right (arc_number m.arcs d.arc).left) (base_faces d.turned).0

      face_y : relabel s y ≡ s.made → (y ≡ s.loser) ⊎ (y ≡ s.winner)
      face_y = made_from m base planar j one last (cond d.turned (arc_number m.arcs d.arc).left (arc_number m.arcs d.arc).right) (base_faces d.turned).1

      both : has_side s.loser (edge_of h k rs (chain_of finer d.arc)) ≡ ((x == s.loser) || (y == s.loser))
      both = of (is_turned_run finer (d ∷ r)) refl
        where
          of : (b : Bool) → is_turned_run finer (d ∷ r) ≡ b → has_side s.loser (edge_of h k rs (chain_of finer d.arc)) ≡ ((x == s.loser) || (y == s.loser))
          of true t =
              let sides = run_sides m base planar j one last (d ∷ r) (run_is_part m base planar j one last c n (d ∷ r) o) d (inl refl) true t in
              or_comm ((edge_of h k rs (chain_of finer d.arc)).left == s.loser) ((edge_of h k rs (chain_of finer d.arc)).right == s.loser)
              ∙ ap₂ (λ (a b : ℕ). (a == s.loser) || (b == s.loser)) (sym sides.0) (sym sides.1)
          of false t =
              let sides = run_sides m base planar j one last (d ∷ r) (run_is_part m base planar j one last c n (d ∷ r) o) d (inl refl) false t in
              ap₂ (λ (a b : ℕ). (a == s.loser) || (b == s.loser)) (sym sides.0) (sym sides.1)

      choose : Bool → ℕ
      choose b = cond b s.loser s.winner

      by : (b : Bool) → (faces.left == s.made) ≡ b → cond b x y ≡ cond (has_side s.loser (edge_of h k rs (chain_of finer d.arc))) s.loser s.winner
      by true e =
          let new : faces.left ≡ s.made = eqb-true faces.left s.made e in
          one_side s x y (sym is_left ∙ new) (λ q. apart (new ∙ sym q ∙ sym is_right)) (face_x (sym is_left ∙ new))
          ∙ ap (λ (b : Bool). cond b s.loser s.winner) (sym both)
      by false e =
          let new : faces.right ≡ s.made = eqb-true faces.right s.made (ap (λ (b : Bool). b || (faces.right == s.made)) (sym e) ∙ borders) in
          one_side s y x (sym is_right ∙ new) (λ q. eqb-false faces.left s.made e (is_left ∙ q)) (face_y (sym is_right ∙ new))
          ∙ ap (λ (b : Bool). cond b s.loser s.winner) (or_comm (y == s.loser) (x == s.loser) ∙ sym both)

  -- ---- all pieces

  run_length : (c : Chain) → Among c (chains_at h j) → (r : Chain) → Among r (runs finer c) → length (left r) ≡ length (left (chain_of_run finer r))
  run_length c n r o = by (is_turned_run finer r) (part_points h k (numbered m base planar) (few m base planar j one last) (based m base planar) (even m base planar k) (long m base planar)
      before (ends_stay m base planar k (omega (arith, last))) r (run_is_part m base planar j one last c n r o))
    where
      by : (b : Bool) → cond b (reverse (left r)) (left r) ≡ left (chain_of_run finer r) → length (left r) ≡ length (left (chain_of_run finer r))
      by true e = sym (length-reverse (left r)) ∙ ap length e
      by false e = ap length e

  module _ (c : Chain) (n : Among c (chains_at (merged m) j)) where
    abbrev at_left : Bool
    at_left = (edge_of h j before c).left == s.made

    -- the pieces of the runs, made of the edges of their chains
    pub pieces_are : has_side (step_number (merged m) j).made (edge_of (merged m) j (removals_to (merged m) (j - 1)) c) ≡ true → (count side : ℕ → ℕ)
        → ((r : Chain) → Among r (runs (chains_at (merged m) (j - 1)) c) → count (key (chain_of_run (chains_at (merged m) (j - 1)) r))
        ≡ length (without (removals_to (merged m) (j - 1)) (chain_points m.arcs (chain_of_run (chains_at (merged m) (j - 1)) r))))
        → ((r : Chain) → Among r (runs (chains_at (merged m) (j - 1)) c) → side (key (chain_of_run (chains_at (merged m) (j - 1)) r))
        ≡ cond (has_side (step_number (merged m) j).loser (edge_of (merged m) (j - 1) (removals_to (merged m) (j - 1)) (chain_of_run (chains_at (merged m) (j - 1)) r)))
        (step_number (merged m) j).loser (step_number (merged m) j).winner)
        → part_pieces count side 0 (map (old_edge (chains_at (merged m) (j - 1))) (runs (chains_at (merged m) (j - 1)) c))
        ≡ pieces_from (merged m) j ((edge_of (merged m) j (removals_to (merged m) (j - 1)) c).left == (step_number (merged m) j).made) (chains_at (merged m) (j - 1)) (removals_to (merged m) (j - 1)) 0
        (runs (chains_at (merged m) (j - 1)) c)
    pieces_are borders count side counts sides = by (runs finer c) 0 (λ r o. o)
      where
        piece : ℕ → ℕ → ℕ → Bool → Piece
        piece i last side turned = record { key = i; last = last; side = side; turned = turned }

        next : (p q : Piece) (ps : ℕ → List Piece) → p ≡ q → (p ∷ ps p.last) ≡ (q ∷ ps q.last)
        next p q ps e = ap (λ (x : Piece). x ∷ ps x.last) e

        by : (parts : List Chain) (first : ℕ) → ((r : Chain) → Among r parts → Among r (runs finer c))
            → part_pieces count side first (map (old_edge finer) parts) ≡ pieces_from h j at_left finer before first parts
        by [] first sub = refl
        by ([] ∷ parts) first sub = let none = run_links m base planar j one last c n [] (sub [] (inl refl)) in absurd cc
        by ((d ∷ r) ∷ parts) first sub =
            let o = sub (d ∷ r) (inl refl) in
            let p : Piece = record {
              key = key (chain_of finer d.arc);
              last = first + (count (key (chain_of finer d.arc)) - 1);
              side = side (key (chain_of finer d.arc));
              turned = is_turned_run finer (d ∷ r);
            } in
            let q : Piece = piece_of h j at_left finer before first d (d ∷ r) in
            let places : p.last ≡ q.last = ap (λ (i : ℕ). first + (i - 1)) (counts (d ∷ r) o ∙ sym (run_length c n (d ∷ r) o)) in
            let faces : p.side ≡ q.side = sides (d ∷ r) o ∙ sym (side_is c n before borders d r o) in
            let same : p ≡ q = ap₂ (λ (i f : ℕ). record { key = key (chain_of finer d.arc); last = i; side = f; turned = is_turned_run finer (d ∷ r) }) places faces in
            ap (λ (ps : List Piece). p ∷ ps) (by parts p.last (λ x m. sub x (inr m)))
            ∙ next p q (λ (i : ℕ). pieces_from h j at_left finer before i parts) same

    cuts_here : CutsIntoEdges h j at_left c
    cuts_here = members_all (CutsIntoEdges h j at_left) (chains_at h j) c (pieces_are_edges m base planar j one last at_left) n

    turns : (rs : List Chain) → map (is_turned_run finer) rs ≡ map (λ (p : OldEdge). p.turned) (map (old_edge finer) rs)
    turns [] = refl
    turns (r ∷ rs) = ap (λ (ts : List Bool). is_turned_run finer r ∷ ts) (turns rs)

    -- the points of the edges of the chains of its runs, one behind the other, are its own
    pub row_is : 0 < length (without (removals_to (merged m) (j - 1)) (chain_points m.arcs c)) → (points_of : OldEdge → List Point)
        → ((r : Chain) → Among r (runs (chains_at (merged m) (j - 1)) c) → points_of (old_edge (chains_at (merged m) (j - 1)) r)
        ≡ without (removals_to (merged m) (j - 1)) (chain_points m.arcs (chain_of_run (chains_at (merged m) (j - 1)) r)))
        → fold (λ (row : List Point) (p : OldEdge). glued row (oriented p.turned (points_of p))) [] (map (old_edge (chains_at (merged m) (j - 1))) (runs (chains_at (merged m) (j - 1)) c))
        ≡ without (removals_to (merged m) (j - 1)) (chain_points m.arcs c)
    row_is some points_of points =
        joined_is (left c) (pieces_from h j at_left finer before 0 (runs finer c)) (map (old_edge finer) (runs finer c)) points_of some
        (cuts_here.turned ∙ turns (runs finer c)) (cuts_here.points ∙ by (runs finer c) (λ r o. o)) cuts_here.ascend cuts_here.ends
      where
        by : (parts : List Chain) → ((r : Chain) → Among r parts → Among r (runs finer c))
            → map (λ r. without before (chain_points m.arcs (chain_of_run finer r))) parts ≡ map points_of (map (old_edge finer) parts)
        by [] sub = refl
        by (r ∷ parts) sub = ap₂ (λ (ps : List Point) (rows : List (List Point)). ps ∷ rows) (sym (points r (sub r (inl refl)))) (by parts (λ x m. sub x (inr m)))

    -- the last place is that of its last point
    pub places_are : (count side : ℕ → ℕ)
        → part_pieces count side 0 (map (old_edge (chains_at (merged m) (j - 1))) (runs (chains_at (merged m) (j - 1)) c))
        ≡ pieces_from (merged m) j ((edge_of (merged m) j (removals_to (merged m) (j - 1)) c).left == (step_number (merged m) j).made) (chains_at (merged m) (j - 1)) (removals_to (merged m) (j - 1)) 0
        (runs (chains_at (merged m) (j - 1)) c)
        → sum_by (λ (p : OldEdge). count p.key - 1) (map (old_edge (chains_at (merged m) (j - 1))) (runs (chains_at (merged m) (j - 1)) c))
        ≤ length (without (removals_to (merged m) (j - 1)) (chain_points m.arcs c))
    places_are count side same = by (map (old_edge finer) (runs finer c)) (ap (λ (ps : List Piece). ends_with_place (length (left c) - 1) (map (λ p. p.last) ps)) same ∙ cuts_here.ends)
      where
        by : (parts : List OldEdge) → ends_with_place (length (left c) - 1) (map (λ (q : Piece). q.last) (part_pieces count side 0 parts)) ≡ true
            → sum_by (λ (p : OldEdge). count p.key - 1) parts ≤ length (left c)
        by [] e = omega arith
        by (p ∷ parts) e = omega (arith, places_sum count side (length (left c) - 1) 0 p parts e)
