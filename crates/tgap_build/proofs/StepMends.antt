-- The mends of the edges that a step changes, or takes a point out of, are all mends of its record.
use Rattle.std.proofs.Common.{◌≡◌, inl, inr, ℕ, ◌+◌, ◌-◌, ◌<◌, ◌≤◌, ◌==◌, ◌&&◌, ◌||◌, Bool, true, false, cond, nat_lt, List, [], ◌∷◌, ◌++◌, map, filter, length, Contains, Option, refl, sym, ap, ap₂, ◌∙◌, subst, true≢false, arith}
use Rattle.std.specs.Prelude.{flat_map}
use Rattle.std.specs.List.{list_any}
use Rattle.std.proofs.lemmas.Bool.{eq-eqb, eqb-false, ne_eqb, or_parts, or_left, or_right, and_parts, ltb-false}
use Rattle.std.proofs.lemmas.List.{append-nil}
use Rattle.std.proofs.lemmas.List.Elements.{All-cons, All-nil}
use Rattle.tgap_model.specs.declared.geometry.Point.{Point}
use Rattle.tgap_model.specs.declared.merge.MergeStep.{MergeStep}
use Rattle.tgap_model.specs.declared.slice.Edge.{Edge}
use Rattle.tgap_model.specs.declared.slice.Removal.{Removal}
use Rattle.tgap_model.specs.declared.record.Mend.{Mend}
use Rattle.tgap_model.specs.declared.record.Piece.{Piece}
use Rattle.tgap_model.specs.declared.record.Put.{Put}
use Rattle.tgap_model.specs.Base.{BaseMap, is_base}
use Rattle.tgap_model.specs.Partition.{IsPartition, base_segments}
use Rattle.tgap_model.specs.History.{relabel, history_of}
use Rattle.tgap_model.specs.Merged.{MergedMap, merged, step_number}
use Rattle.tgap_model.specs.Chains.{Link, Chain, arc_number, chain_points, key, has_links, chains_at}
use Rattle.tgap_model.specs.Removals.{edge_of, has_side, is_removed, removals_to, without}
use Rattle.tgap_model.specs.Records.{puts_from, is_needed, runs, pieces_from, mend_of}
use Rattle.tgap_model.specs.Slice.{left_of, right_of}
use Rattle.map_laws.proofs.ChainMembers.{Among}
use Rattle.map_laws.proofs.Lists.{among_map}
use Rattle.removal_laws.proofs.ChainEnds.{chain_links, contained}
use Rattle.record_laws.specs.RunLaws.{chain_of_run}
use Rattle.record_laws.proofs.StepFacts.{step_numbered, label_next, run_is_part, run_member, runs_in_row, whole_chain, whole_same}
use Rattle.tgap_build.specs.declared.joined.OldEdge.{OldEdge}
use Rattle.tgap_build.specs.Table.{edge_with}
use Rattle.tgap_build.specs.Changes.{part_pieces, count_at, side_with, whole_of, made_of, is_changed, may_need, made_mends}
use Rattle.tgap_build.specs.Running.{has_point, has_any}
use Rattle.tgap_build.specs.OldEdges.{old_chain}
use Rattle.tgap_build.proofs.OldParts.{with_key, parts_read}
use Rattle.tgap_build.proofs.StepPieces.{old_edge, side_is, pieces_are}

filtered_flat : {A B : Type 0} (p : A → Bool) (f : A → List B) (xs : List A) → flat_map f (filter p xs) ≡ flat_map (λ x. cond (p x) (f x) []) xs
filtered_flat p f [] = refl
filtered_flat p f (x ∷ xs) = by (p x) (filtered_flat p f xs)
  where
    by : (b : Bool) → flat_map f (filter p xs) ≡ flat_map (λ x. cond (p x) (f x) []) xs
        → flat_map f (cond b (x ∷ filter p xs) (filter p xs)) ≡ cond b (f x) [] ++ flat_map (λ x. cond (p x) (f x) []) xs
    by true e = ap (λ ys. f x ++ ys) e
    by false e = e

flat_mapped : {A B C : Type 0} (f : B → List C) (g : A → B) (xs : List A) → flat_map f (map g xs) ≡ flat_map (λ x. f (g x)) xs
flat_mapped f g [] = refl
flat_mapped f g (x ∷ xs) = ap (λ ys. f (g x) ++ ys) (flat_mapped f g xs)

flat_same : {A B : Type 0} (f g : A → List B) (xs : List A) → ((x : A) → Among x xs → f x ≡ g x) → flat_map f xs ≡ flat_map g xs
flat_same f g [] same = refl
flat_same f g (x ∷ xs) same = ap₂ (λ ys zs. ys ++ zs) (same x (inl refl)) (flat_same f g xs (λ y m. same y (inr m)))

-- where none of the points goes none is put back
no_puts : (gone : List Point) (now : List Removal) → ((p : Point) → has_point gone p ≡ is_removed now p) → (i : ℕ) (points : List Point)
    → list_any (has_point gone) points ≡ false → puts_from now i points ≡ []
no_puts gone now same i [] none = refl
no_puts gone now same i (p ∷ points) none =
    let both = or_parts (has_point gone p) (list_any (has_point gone) points) none in
    ap₂ (λ (b : Bool) (ps : List Put). cond b (record { at = i; point = p } ∷ []) [] ++ ps) (sym (same p) ∙ both.0) (no_puts gone now same (i + 1) points both.1)

module _ (m : BaseMap) (base : is_base m ≡ true) (planar : IsPartition (base_segments m)) (k : ℕ) (some : 0 < k) (last : k ≤ length (history_of m)) where
  abbrev h : MergedMap
  h = merged m

  abbrev s : MergeStep
  s = step_number h k

  abbrev finer : List Chain
  finer = chains_at h (k - 1)

  abbrev before : List Removal
  before = removals_to h (k - 1)

  abbrev edge_now : Chain → Edge
  edge_now c = edge_of h k before c

  abbrev edge_back : Chain → Edge
  edge_back c = edge_of h (k - 1) before c

  -- ---- which edges border the new face

  relabel_loser : (x : ℕ) → (x == s.loser) ≡ true → relabel s x ≡ s.made
  relabel_loser x e = ap (λ (b : Bool). cond (b || (x == s.winner)) s.made x) e

  -- one that had the loser at a side
  pub loser_borders : (c : Chain) → has_side (step_number (merged m) k).loser (edge_of (merged m) (k - 1) (removals_to (merged m) (k - 1)) c) ≡ true
      → has_side (step_number (merged m) k).made (edge_of (merged m) k (removals_to (merged m) (k - 1)) c) ≡ true
  loser_borders c t = by ((edge_back c).left == s.loser) refl ((edge_back c).right == s.loser) refl t
    where
      by : (a : Bool) → ((edge_back c).left == s.loser) ≡ a → (b : Bool) → ((edge_back c).right == s.loser) ≡ b → (a || b) ≡ true → has_side s.made (edge_now c) ≡ true
      by true e b f u =
          or_left ((edge_now c).left == s.made) ((edge_now c).right == s.made)
          (eq-eqb (edge_now c).left s.made (label_next m base planar k some last (arc_number m.arcs (key c)).left ∙ relabel_loser (edge_back c).left e))
      by false e true f u =
          or_right ((edge_now c).left == s.made) ((edge_now c).right == s.made)
          (eq-eqb (edge_now c).right s.made (label_next m base planar k some last (arc_number m.arcs (key c)).right ∙ relabel_loser (edge_back c).right f))
      by false e false f u = absurd cc

  -- and one that is made of several
  many_border : (c : Chain) → Among c (chains_at h k) → nat_lt 1 (length (runs finer c)) ≡ true → has_side s.made (edge_now c) ≡ true
  many_border c n t = by (has_side s.made (edge_now c)) refl
    where
      by : (v : Bool) → has_side s.made (edge_now c) ≡ v → v ≡ true
      by true e = refl
      by false e =
          let off = or_parts ((edge_now c).left == s.made) ((edge_now c).right == s.made) e in
          let one = whole_chain m base planar k some last c n (eqb-false _ _ off.0) (eqb-false _ _ off.1) in
          absurd (true≢false (sym t ∙ ap (λ (rs : List Chain). nat_lt 1 (length rs)) one))

  pub changed_borders : (c : Chain) → Among c (chains_at (merged m) k) → is_changed (merged m) k c ≡ true
      → has_side (step_number (merged m) k).made (edge_of (merged m) k (removals_to (merged m) (k - 1)) c) ≡ true
  changed_borders c n t = by (nat_lt 1 (length (runs finer c))) refl t
    where
      by : (b : Bool) → nat_lt 1 (length (runs finer c)) ≡ b → (b || has_side s.loser (edge_back c)) ≡ true → has_side s.made (edge_now c) ≡ true
      by true e u = many_border c n e
      by false e u = loser_borders c u

  -- ---- edges of one piece

  pub one_run : (c : Chain) → Among c (chains_at (merged m) k) → nat_lt 1 (length (runs (chains_at (merged m) (k - 1)) c)) ≡ false → runs (chains_at (merged m) (k - 1)) c ≡ c ∷ []
  one_run c n e = by (runs finer c) (ltb-false 1 (length (runs finer c)) e) (runs_in_row m base planar k some last c n)
    where
      by : (rs : List Chain) → length rs ≤ 1 → flat_map (λ r. r) rs ≡ c → rs ≡ c ∷ []
      by [] l joined = let none = ap has_links joined ∙ chain_links h k c n in absurd cc
      by (r ∷ []) l joined = ap (λ (x : Chain). x ∷ []) (sym (append-nil r) ∙ joined)
      by (r ∷ q ∷ rs) l joined = absurd (omega arith)

  only : {A : Type 0} (x y : A) → Among x (y ∷ []) → x ≡ y
  only x y (inl e) = sym e
  only x y (inr o) = absurd o

  old_member : (c : Chain) → Among c (chains_at h k) → runs finer c ≡ c ∷ [] → Among c finer
  old_member c n one =
      subst (λ (d : Chain). Among d finer) (whole_same m base planar k some last c n one)
      (run_member m base planar k some last c (run_is_part m base planar k some last c n c (subst (Among c) (sym one) (inl refl))))

  -- its pieces are that one
  pub whole_is : (c : Chain) → Among c (chains_at (merged m) k) → runs (chains_at (merged m) (k - 1)) c ≡ c ∷ []
      → has_side (step_number (merged m) k).made (edge_of (merged m) k (removals_to (merged m) (k - 1)) c) ≡ true → (places : List (Option Edge)) (losing : List ℕ)
      → (edge_with places (key c)).points ≡ without (removals_to (merged m) (k - 1)) (chain_points m.arcs c)
      → list_any (λ i. i == key c) losing ≡ has_side (step_number (merged m) k).loser (edge_of (merged m) (k - 1) (removals_to (merged m) (k - 1)) c)
      → whole_of places (step_number (merged m) k) losing (key c) ≡ made_of (merged m) k c
  whole_is c n one borders places losing points side = ap (λ (ps : List Piece). record { key = key c; pieces = ps }) (
      ap (part_pieces (count_at places) (side_with s losing) 0) (sym parts)
      ∙ pieces_are m base planar k some last c n borders (count_at places) (side_with s losing) counts sides
      )
    where
      in_finer : Among c finer
      in_finer = old_member c n one

      same : chain_of_run finer c ≡ c
      same = whole_same m base planar k some last c n one

      p : OldEdge
      p = record { key = key c; turned = false }

      chain_is : old_chain finer p ≡ c
      chain_is = with_key h (k - 1) c in_finer

      parts : map (old_edge finer) (runs finer c) ≡ p ∷ []
      parts =
          ap (map (old_edge finer)) (one ∙ ap (λ (d : Chain). d ∷ []) (sym chain_is))
          ∙ parts_read h (k - 1) (p ∷ [])
          (All-cons (λ (p : OldEdge). Contains (map key finer) p.key) p [] (contained (map key finer) (key c) (among_map key finer c in_finer)) (All-nil (λ (p : OldEdge). Contains (map key finer) p.key)))

      run_of : (r : Chain) → Among r (runs finer c) → chain_of_run finer r ≡ c
      run_of r o = ap (chain_of_run finer) (only r c (subst (Among r) one o)) ∙ same

      counts : (r : Chain) → Among r (runs finer c) → count_at places (key (chain_of_run finer r)) ≡ length (without before (chain_points m.arcs (chain_of_run finer r)))
      counts r o =
          ap (λ (d : Chain). count_at places (key d)) (run_of r o)
          ∙ ap (λ (ps : List Point). length ps) points
          ∙ ap (λ (d : Chain). length (without before (chain_points m.arcs d))) (sym (run_of r o))

      sides : (r : Chain) → Among r (runs finer c) → side_with s losing (key (chain_of_run finer r)) ≡ cond (has_side s.loser (edge_back (chain_of_run finer r))) s.loser s.winner
      sides r o =
          ap (λ (d : Chain). side_with s losing (key d)) (run_of r o)
          ∙ ap (λ (b : Bool). cond b s.loser s.winner) side
          ∙ ap (λ (d : Chain). cond (has_side s.loser (edge_back d)) s.loser s.winner) (sym (run_of r o))

  -- ---- no mend

  -- an edge of one piece of the winner, of which no point goes, needs none
  unneeded : (c : Chain) → Among c (chains_at h k) → has_side s.made (edge_now c) ≡ true → is_changed h k c ≡ false → (puts : List Put) → puts ≡ []
      → is_needed s.loser (record { key = key c; puts = puts; pieces = (made_of h k c).pieces }) ≡ false
  unneeded c n borders none puts nothing =
      let both = or_parts (nat_lt 1 (length (runs finer c))) (has_side s.loser (edge_back c)) none in
      let one = one_run c n both.0 in
      ap (λ (ps : List Put). is_needed s.loser (record { key = key c; puts = ps; pieces = (made_of h k c).pieces })) nothing
      ∙ ap (λ (rs : List Chain). is_needed s.loser (record { key = key c; puts = []; pieces = pieces_from h k ((edge_now c).left == s.made) finer before 0 rs })) one
      ∙ by c (chain_links h k c n) (λ d r e. first d r e one both.1)
    where
      at_left : Bool
      at_left = (edge_now c).left == s.made

      first : (d : Link) (r : Chain) → c ≡ d ∷ r → runs finer c ≡ c ∷ [] → has_side s.loser (edge_back c) ≡ false
          → (cond at_left (left_of h (k - 1) d) (right_of h (k - 1) d) == s.loser) ≡ false
      first d r e one off =
          let o : Among (d ∷ r) (runs finer c) = subst (Among (d ∷ r)) (sym one) (inl e) in
          let held : chain_of_run finer (d ∷ r) ≡ c = ap (chain_of_run finer) (sym e) ∙ whole_same m base planar k some last c n one in
          ap (λ (x : ℕ). x == s.loser)
          (side_is m base planar k some last c n before borders d r o
          ∙ ap (λ (f : Chain). cond (has_side s.loser (edge_back f)) s.loser s.winner) held
          ∙ ap (λ (b : Bool). cond b s.loser s.winner) off)
          ∙ ne_eqb s.winner s.loser (λ e. (step_numbered m base planar k some last).differ (sym e))

      by : (x : Chain) → has_links x ≡ true → ((d : Link) (r : Chain) → x ≡ d ∷ r → (cond at_left (left_of h (k - 1) d) (right_of h (k - 1) d) == s.loser) ≡ false)
          → is_needed s.loser (record { key = key c; puts = []; pieces = pieces_from h k at_left finer before 0 (x ∷ []) }) ≡ false
      by [] links known = absurd cc
      by (d ∷ r) links known = ap (λ (b : Bool). b || false) (known d r refl)

  -- ---- all mends

  module _ (places : List (Option Edge)) (points : (c : Chain) → Among c (chains_at (merged m) k) → (edge_with places (key c)).points ≡ (edge_of (merged m) k (removals_to (merged m) (k - 1)) c).points)
      (gone : List Point) (now : List Removal) (same : (p : Point) → has_point gone p ≡ is_removed now p) where
    one_mend : (c : Chain) → Among c (chains_at h k) → cond (may_need h k gone c) (made_mends places s.loser now (made_of h k c)) [] ≡ mend_of h k finer before now c
    one_mend c n = by (may_need h k gone c) refl
      where
        mend : List Put → Mend
        mend puts = record { key = key c; puts = puts; pieces = (made_of h k c).pieces }

        listed : List Put → List Mend
        listed puts = cond (is_needed s.loser (mend puts)) (mend puts ∷ []) []

        borders : Bool
        borders = has_side s.made (edge_now c)

        needs : Bool
        needs = is_needed s.loser (mend (puts_from now 0 (edge_now c).points))

        by : (b : Bool) → may_need h k gone c ≡ b → cond b (made_mends places s.loser now (made_of h k c)) [] ≡ cond (borders && needs) (mend (puts_from now 0 (edge_now c).points) ∷ []) []
        by true t =
            ap (λ (ps : List Point). listed (puts_from now 0 ps)) (points c n)
            ∙ ap (λ (b : Bool). cond (b && needs) (mend (puts_from now 0 (edge_now c).points) ∷ []) []) (sym (of (is_changed h k c) refl t))
          where
            of : (b : Bool) → is_changed h k c ≡ b → (b || (has_any gone (edge_now c) && borders)) ≡ true → borders ≡ true
            of true e u = changed_borders c n e
            of false e u = (and_parts (has_any gone (edge_now c)) borders u).1
        by false t =
            let both = or_parts (is_changed h k c) (has_any gone (edge_now c) && borders) t in
            sym (off borders refl (has_any gone (edge_now c)) refl both.0 both.1)
          where
            off : (a : Bool) → borders ≡ a → (b : Bool) → has_any gone (edge_now c) ≡ b → is_changed h k c ≡ false → (b && a) ≡ false
                → cond (a && needs) (mend (puts_from now 0 (edge_now c).points) ∷ []) [] ≡ []
            off false e b f unchanged u = refl
            off true e true f unchanged u = absurd cc
            off true e false f unchanged u =
                ap (λ (b : Bool). cond b (mend (puts_from now 0 (edge_now c).points) ∷ []) [])
                (unneeded c n e unchanged (puts_from now 0 (edge_now c).points) (no_puts gone now same 0 (edge_now c).points f))

    pub mends_all : flat_map (made_mends places (step_number (merged m) k).loser now) (map (made_of (merged m) k) (filter (may_need (merged m) k gone) (chains_at (merged m) k)))
        ≡ flat_map (mend_of (merged m) k (chains_at (merged m) (k - 1)) (removals_to (merged m) (k - 1)) now) (chains_at (merged m) k)
    mends_all =
        flat_mapped (made_mends places s.loser now) (made_of h k) (filter (may_need h k gone) (chains_at h k))
        ∙ filtered_flat (may_need h k gone) (λ c. made_mends places s.loser now (made_of h k c)) (chains_at h k)
        ∙ flat_same (λ c. cond (may_need h k gone c) (made_mends places s.loser now (made_of h k c)) []) (mend_of h k finer before now) (chains_at h k) one_mend
