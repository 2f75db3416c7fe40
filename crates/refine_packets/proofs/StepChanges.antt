-- What the mends of a step change in a window, chain by chain.
use Rattle.std.proofs.Common.{◌≡◌, inl, inr, ℕ, suc, ◌-◌, ◌<◌, ◌≤◌, ◌==◌, Bool, true, false, not, cond, int_le, List, [], ◌∷◌, ◌++◌, map, filter, fold, length, IsPermutation, Option, Some, None, refl, sym, ap, ap₂, ◌∙◌, subst, arith}
use Rattle.std.specs.Prelude.{flat_map}
use Rattle.std.specs.List.{list_any}
use Rattle.std.specs.Option.{is_some, option_to_list}
use Rattle.std.proofs.lemmas.List.{append_assoc, append-nil, length-map, map-append}
use Rattle.std.proofs.lemmas.List.Elements.{filter-append}
use Rattle.std.proofs.lemmas.List.Folds.{flat_map-map}
use Rattle.lemmas.specs.Sorting.{sort_by}
use Rattle.lemmas.proofs.Permutations.{IsPermutation-filter}
use Rattle.lemmas.proofs.Sorting.{sort_by-permutation}
use Rattle.std.proofs.lemmas.Bool.{and_parts, and_from, not-true, not_from_false, false_from_ne_true, true≢false}
use Rattle.tgap_model.specs.declared.geometry.Point.{Point}
use Rattle.tgap_model.specs.declared.geometry.Window.{Window}
use Rattle.tgap_model.specs.declared.slice.Removal.{Removal}
use Rattle.tgap_model.specs.declared.merge.MergeStep.{MergeStep}
use Rattle.tgap_model.specs.declared.slice.Edge.{Edge}
use Rattle.tgap_model.specs.declared.slice.Slice.{Slice}
use Rattle.tgap_model.specs.declared.record.Piece.{Piece}
use Rattle.tgap_model.specs.declared.record.Mend.{Mend}
use Rattle.tgap_model.specs.declared.record.StepRecord.{StepRecord}
use Rattle.tgap_model.specs.Base.{BaseMap, is_base, same_point}
use Rattle.tgap_model.specs.Partition.{IsPartition, base_segments}
use Rattle.tgap_model.specs.History.{history_of}
use Rattle.tgap_model.specs.Merged.{MergedMap, merged, step_number}
use Rattle.tgap_model.specs.Chains.{Chain, chain_points, key, chains_at}
use Rattle.tgap_model.specs.Removals.{edge_of, is_removed, removals_to, without}
use Rattle.tgap_model.specs.Slice.{meets_window, window_of, slice}
use Rattle.tgap_model.specs.Records.{runs, step_record, put_in, in_place_of, cut_pieces, refined, edge_before, edge_with}
use Rattle.tgap_model.specs.WindowRecords.{window_at, has_key, window_step}
use Rattle.map_laws.proofs.ChainMembers.{Among, any_among, filter_among, among_left}
use Rattle.map_laws.proofs.Lists.{members_all, any_from, kept_among, among_kept, among_flat}
use Rattle.removal_laws.specs.Trace.{removal_of, trace_at}
use Rattle.removal_laws.proofs.ChainEnds.{contained, among_contained}
use Rattle.removal_laws.proofs.ListedVertices.{removals_next}
use Rattle.std.proofs.lemmas.List.Sorted.{Contains-permutation}
use Rattle.record_laws.specs.RunLaws.{chain_of_run}
use Rattle.record_laws.specs.PieceLaws.{CutsIntoEdges}
use Rattle.record_laws.proofs.PiecesAreEdges.{pieces_are_edges}
use Rattle.record_laws.proofs.Refined.{refined_is, step_mend, needs_mend, mend_is}
use Rattle.record_laws.proofs.StepFacts.{key_within, run_is_part, run_member, runs_in_row, whole_same}
use Rattle.record_laws.proofs.UndoStep.{edges_back}
use Rattle.window_laws.proofs.Filters.{filter-flat_map, flat_map-filter, flat_map-agree}
use Rattle.window_laws.proofs.WindowEdges.{key_there, window_comes_are}
use Rattle.refine_packets.specs.declared.changes.Changes.{Changes}
use Rattle.refine_packets.specs.Near.{seen}
use Rattle.refine_packets.specs.Walk.{bare, bare_at, pieces_in, with_mend, with_whole, no_changes, changes_by}
use Rattle.refine_packets.proofs.InWindow.{chain_there, found_there, piece_there}
use Rattle.refine_packets.proofs.Lists.{flat_map-conditional, any_found, found_among, among_given}

-- ---- all mends

module _ (there before : Slice) where
  -- what each of the four lists gets of a mend
  abbrev pub of_mend : {X : Type 0} → (Mend → Edge → List X) → (Mend → List X) → Mend → List X
  of_mend some none w = elim (edge_with there w.key) [ None ↦ none w | Some e ↦ some w e ]

  abbrev pub mends_of : List Mend → List Mend
  mends_of ws = flat_map (of_mend (λ w e. w ∷ []) (λ w. [])) ws

  abbrev pub gone_of : List Mend → List Edge
  gone_of ws = flat_map (of_mend (λ w e. e ∷ []) (λ w. [])) ws

  abbrev pub kept_of : List Mend → List Edge
  kept_of ws = flat_map (of_mend (λ w e. pieces_in before w.pieces) (λ w. [])) ws

  abbrev pub come_of : List Mend → List Edge
  come_of ws = flat_map (of_mend (λ w e. []) (λ w. pieces_in before w.pieces)) ws

  after_all : (c : Changes) (ws : List Mend)
      → fold (with_mend there before) c ws
      ≡ record { mends = c.mends ++ mends_of ws; gone = c.gone ++ map bare (gone_of ws); kept = c.kept ++ map bare (kept_of ws); comes = c.comes ++ come_of ws }
  after_all c [] =
      sym (ap₂ (λ (ws : List Mend) (es : List Edge). record { mends = ws; gone = es; kept = c.kept ++ []; comes = c.comes ++ [] }) (append-nil c.mends) (append-nil c.gone)
      ∙ ap₂ (λ (xs ys : List Edge). record { mends = c.mends; gone = c.gone; kept = xs; comes = ys }) (append-nil c.kept) (append-nil c.comes))
  after_all c (w ∷ ws) = by (edge_with there w.key) (λ d. after_all d ws)
    where
      one : Option Edge → Changes
      one o = elim o [
        | None ↦ record { mends = c.mends; gone = c.gone; kept = c.kept; comes = c.comes ++ pieces_in before w.pieces }
        | Some e ↦ record { mends = c.mends ++ w ∷ []; gone = c.gone ++ bare e ∷ []; kept = c.kept ++ map bare (pieces_in before w.pieces); comes = c.comes }
      ]

      of : {X : Type 0} → (Edge → List X) → List X → Option Edge → List X
      of some none o = elim o [ None ↦ none | Some e ↦ some e ]

      by : (o : Option Edge)
          → ((d : Changes) → fold (with_mend there before) d ws ≡ record { mends = d.mends ++ mends_of ws; gone = d.gone ++ map bare (gone_of ws); kept = d.kept ++ map bare (kept_of ws); comes = d.comes ++ come_of ws })
          → fold (with_mend there before) (one o) ws ≡ record {
            mends = c.mends ++ (of (λ e. w ∷ []) [] o ++ mends_of ws);
            gone = c.gone ++ map bare (of (λ e. e ∷ []) [] o ++ gone_of ws);
            kept = c.kept ++ map bare (of (λ e. pieces_in before w.pieces) [] o ++ kept_of ws);
            comes = c.comes ++ (of (λ e. []) (pieces_in before w.pieces) o ++ come_of ws);
          }
      by None rest =
          rest (one None)
          ∙ ap (λ (es : List Edge). record { mends = c.mends ++ mends_of ws; gone = c.gone ++ map bare (gone_of ws); kept = c.kept ++ map bare (kept_of ws); comes = es })
          (append_assoc c.comes (pieces_in before w.pieces) (come_of ws))
      by (Some e) rest =
          rest (one (Some e))
          ∙ ap₂ (λ (xs : List Mend) (es : List Edge). record { mends = xs; gone = es; kept = (c.kept ++ map bare (pieces_in before w.pieces)) ++ map bare (kept_of ws); comes = c.comes ++ come_of ws })
          (append_assoc c.mends (w ∷ []) (mends_of ws)) (append_assoc c.gone (bare e ∷ []) (map bare (gone_of ws)))
          ∙ ap (λ (es : List Edge). record { mends = c.mends ++ w ∷ mends_of ws; gone = c.gone ++ bare e ∷ map bare (gone_of ws); kept = es; comes = c.comes ++ come_of ws })
          (append_assoc c.kept (map bare (pieces_in before w.pieces)) (map bare (kept_of ws))
          ∙ ap (λ (es : List Edge). c.kept ++ es) (sym (map-append bare (pieces_in before w.pieces) (kept_of ws))))

  pub changes_are : (ws : List Mend) → changes_by there before ws ≡ record { mends = mends_of ws; gone = map bare (gone_of ws); kept = map bare (kept_of ws); comes = come_of ws }
  changes_are ws = after_all no_changes ws

  -- the mends are those of the edges that are there
  pub mends_there : (ws : List Mend) → mends_of ws ≡ filter (λ w. has_key there.edges w.key) ws
  mends_there [] = refl
  mends_there (w ∷ ws) = by (edge_with there w.key) (any_found (λ (e : Edge). e.key == w.key) there.edges) (mends_there ws)
    where
      by : (o : Option Edge) → has_key there.edges w.key ≡ is_some o → mends_of ws ≡ filter (λ w. has_key there.edges w.key) ws
          → elim o [ None ↦ [] | Some e ↦ w ∷ [] ] ++ mends_of ws ≡ cond (has_key there.edges w.key) (w ∷ filter (λ w. has_key there.edges w.key) ws) (filter (λ w. has_key there.edges w.key) ws)
      by None e rest = rest ∙ ap (λ (b : Bool). cond b (w ∷ filter (λ w. has_key there.edges w.key) ws) (filter (λ w. has_key there.edges w.key) ws)) (sym e)
      by (Some x) e rest =
          ap (λ (xs : List Mend). w ∷ xs) rest
          ∙ ap (λ (b : Bool). cond b (w ∷ filter (λ w. has_key there.edges w.key) ws) (filter (λ w. has_key there.edges w.key) ws)) (sym e)

  -- the edges that go are some of those that are there
  pub gone_among : (ws : List Mend) (e : Edge) → Among e (gone_of ws) → Among e there.edges
  gone_among ws e o =
      let w = among_given (of_mend (λ w e. e ∷ []) (λ w. [])) ws e o in
      by w.0.key (edge_with there w.0.key) refl w.2
    where
      by : (i : ℕ) (x : Option Edge) → edge_with there i ≡ x → Among e (elim x [ None ↦ [] | Some g ↦ g ∷ [] ]) → Among e there.edges
      by i None f o = absurd o
      by i (Some g) f (inl s) = found_among (λ (x : Edge). x.key == i) there.edges e (f ∙ ap (λ (x : Edge). Some x) s)
      by i (Some g) f (inr o) = absurd o

-- and those that are kept are some of the window before the step
pub kept_among_before : (h : MergedMap) (area : Window) (j : ℕ) (there : Slice) (ws : List Mend) (e : Edge)
    → Among e (kept_of there (window_at h area (j - 1)) ws) → Among e (window_at h area (j - 1)).edges
kept_among_before h area j there ws e o =
    let w = among_given (of_mend there (window_at h area (j - 1)) (λ w e. pieces_in (window_at h area (j - 1)) w.pieces) (λ w. [])) ws e o in
    by w.0 (edge_with there w.0.key) w.2
  where
    by : (w : Mend) (x : Option Edge) → Among e (elim x [ None ↦ [] | Some g ↦ pieces_in (window_at h area (j - 1)) w.pieces ]) → Among e (window_at h area (j - 1)).edges
    by w None o = absurd o
    by w (Some g) o = piece_there h area (j - 1) w.pieces e o

-- ---- what a step takes out of an edge

-- a test that some of fewer pass
any_kept : {A : Type 0} (p q r : A → Bool) (xs : List A) → ((x : A) → q x ≡ true → r x ≡ true) → list_any p (filter q xs) ≡ true → list_any p (filter r xs) ≡ true
any_kept p q r xs weaker some =
    let x = any_among p (filter q xs) some in
    any_from p (filter r xs) x.0 (among_kept r xs x.0 (kept_among q xs x.0 x.1) (weaker x.0 (filter_among q xs x.0 x.1))) x.2

-- an edge that meets the window after a step met it before, where it is one
meets_before : (h : MergedMap) (j : ℕ) → 1 ≤ j → j ≤ length h.steps → (area : Window) (c : Chain)
    → meets_window area (edge_of h j (removals_to h j) c) ≡ true → meets_window area (edge_of h (j - 1) (removals_to h (j - 1)) c) ≡ true
meets_before h j one last area c met =
    let a = and_parts _ (list_any (λ (p : Point). int_le area.y0 p.y) after) met in
    let b = and_parts _ (list_any (λ (p : Point). int_le p.y area.y1) after) a.0 in
    let d = and_parts (list_any (λ (p : Point). int_le p.x area.x1) after) (list_any (λ (p : Point). int_le area.x0 p.x) after) b.0 in
    and_from _ _ (and_from _ _ (and_from _ _ (more (λ p. int_le p.x area.x1) d.0) (more (λ p. int_le area.x0 p.x) d.1)) (more (λ p. int_le p.y area.y1) b.1)) (more (λ p. int_le area.y0 p.y) a.1)
  where
    points : List Point
    points = chain_points h.base.arcs c

    after : List Point
    after = without (removals_to h j) points

    up : suc (j - 1) ≡ j
    up = omega (arith, one)

    next : removals_to h j ≡ removals_to h (j - 1) ++ map removal_of (trace_at h j)
    next = subst (λ (i : ℕ). removals_to h i ≡ removals_to h (j - 1) ++ map removal_of (trace_at h i)) up (removals_next h (j - 1) (omega (arith, one, last)))

    left : (p : Point) → not (is_removed (removals_to h j) p) ≡ true → not (is_removed (removals_to h (j - 1)) p) ≡ true
    left p stays = not_from_false (is_removed (removals_to h (j - 1)) p) (false_from_ne_true (is_removed (removals_to h (j - 1)) p) (λ t.
        let r = any_among (λ (r : Removal). same_point r.point p) (removals_to h (j - 1)) t in
        let gone : is_removed (removals_to h j) p ≡ true
        = any_from (λ (r : Removal). same_point r.point p) (removals_to h j) r.0 (subst (λ (rs : List Removal). Among r.0 rs) (sym next) (among_left (removals_to h (j - 1)) (map removal_of (trace_at h j)) r.0 r.1)) r.2 in
        true≢false (sym gone ∙ not-true (is_removed (removals_to h j) p) stays)))

    more : (t : Point → Bool) → list_any t (without (removals_to h j) points) ≡ true → list_any t (without (removals_to h (j - 1)) points) ≡ true
    more t some = any_kept t (λ p. not (is_removed (removals_to h j) p)) (λ p. not (is_removed (removals_to h (j - 1)) p)) points left some

-- ---- chain by chain

module _ (m : BaseMap) (base : is_base m ≡ true) (planar : IsPartition (base_segments m)) (j : ℕ) (one : 1 ≤ j) (last : j ≤ length (history_of m)) (area : Window) where
  abbrev pub h : MergedMap
  h = merged m

  abbrev pub k : ℕ
  k = j - 1

  abbrev pub s : MergeStep
  s = step_number h j

  abbrev pub cs : List Chain
  cs = chains_at h j

  abbrev pub finer : List Chain
  finer = chains_at h k

  abbrev pub edge_here : Chain → Edge
  edge_here c = edge_of h j (removals_to h j) c

  abbrev pub edge_back : Chain → Edge
  edge_back c = edge_of h k (removals_to h k) c

  abbrev pub record_here : StepRecord
  record_here = step_record h j

  abbrev pub meets : Edge → Bool
  meets e = meets_window area e

  abbrev pub there : Slice
  there = window_at h area j

  abbrev pub before : Slice
  before = window_at h area k

  abbrev pub needed : Chain → Bool
  needed c = needs_mend m base planar j one last c

  abbrev pub mend_at : Chain → Mend
  mend_at c = step_mend m base planar j one last c

  -- the edges before the step that its edge becomes, of those in the window
  abbrev pub back_in : Chain → List Edge
  back_in c = filter meets (refined record_here (edge_here c))

  -- the edge, with the winner in place of the new face
  abbrev pub plain : Edge → Edge
  plain e = record e { left = in_place_of s.made s.winner e.left; right = in_place_of s.made s.winner e.right }

  -- the pieces of a mend that are in the window
  pub pieces_are : (c : Chain) → Among c cs → pieces_in before (mend_at c).pieces ≡ back_in c
  pieces_are c n =
      sym (flat_map-map at (λ (p : Piece). p.key) (mend_at c).pieces)
      ∙ ap (flat_map at) cuts.keys
      ∙ flat_map-map at (λ r. key (chain_of_run finer r)) (runs finer c)
      ∙ by_runs (runs finer c) (λ r o. o)
      ∙ ap (filter meets) (sym (refined_is m base planar j one last c n))
    where
      at : ℕ → List Edge
      at i = option_to_list (edge_with before i)

      cuts : CutsIntoEdges h j ((edge_of h j (removals_to h k) c).left == s.made) c
      cuts = members_all (CutsIntoEdges h j ((edge_of h j (removals_to h k) c).left == s.made)) cs c (pieces_are_edges m base planar j one last ((edge_of h j (removals_to h k) c).left == s.made)) n

      by_runs : (rs : List Chain) → ((r : Chain) → Among r rs → Among r (runs finer c))
          → flat_map (λ r. at (key (chain_of_run finer r))) rs ≡ filter meets (map (λ r. edge_back (chain_of_run finer r)) rs)
      by_runs [] sub = refl
      by_runs (r ∷ rs) sub =
          ap (λ (o : Option Edge). option_to_list o ++ flat_map (λ r. at (key (chain_of_run finer r))) rs)
          (found_there h area k (chain_of_run finer r) (run_member m base planar j one last r (run_is_part m base planar j one last c n r (sub r (inl refl)))))
          ∙ by (meets (edge_back (chain_of_run finer r))) (by_runs rs (λ q o. sub q (inr o)))
        where
          by : (b : Bool) → flat_map (λ r. at (key (chain_of_run finer r))) rs ≡ filter meets (map (λ r. edge_back (chain_of_run finer r)) rs)
              → option_to_list (cond b (Some (edge_back (chain_of_run finer r))) None) ++ flat_map (λ r. at (key (chain_of_run finer r))) rs
              ≡ cond b (edge_back (chain_of_run finer r) ∷ filter meets (map (λ r. edge_back (chain_of_run finer r)) rs)) (filter meets (map (λ r. edge_back (chain_of_run finer r)) rs))
          by true e = ap (λ (es : List Edge). edge_back (chain_of_run finer r) ∷ es) e
          by false e = e

  -- an edge without a mend has the winner in place of the new face, and meets the window as before
  pub unmended : (c : Chain) → Among c cs → needed c ≡ false → back_in c ≡ cond (meets (edge_here c)) (plain (edge_here c) ∷ []) []
  unmended c n e =
      ap (λ (o : Option Mend). filter meets (elim o [ None ↦ plain (edge_here c) ∷ [] | Some w ↦ pieces w ]))
      (mend_is m base planar j one last c n ∙ ap (λ (b : Bool). cond b (Some (mend_at c)) None) e)
    where
      pieces : Mend → List Edge
      pieces w = cut_pieces record_here (edge_here c) (put_in w.puts (edge_here c).points) 0 w.pieces

  -- ---- an edge that stays one piece

  -- one piece is the whole chain
  single : (c : Chain) → Among c cs → length (mend_at c).pieces ≡ 1 → runs finer c ≡ c ∷ []
  single c n few = by (runs finer c) (omega (
    arith,
    few,
    ap length cuts.keys,
    length-map (mend_at c).pieces (λ (p : Piece). p.key),
    length-map (runs finer c) (λ (r : Chain). key (chain_of_run finer r)),
  )) (runs_in_row m base planar j one last c n)
    where
      cuts : CutsIntoEdges h j ((edge_of h j (removals_to h k) c).left == s.made) c
      cuts = members_all (CutsIntoEdges h j ((edge_of h j (removals_to h k) c).left == s.made)) cs c (pieces_are_edges m base planar j one last ((edge_of h j (removals_to h k) c).left == s.made)) n

      by : (rs : List Chain) → length rs ≡ 1 → flat_map (λ r. r) rs ≡ c → rs ≡ c ∷ []
      by [] l joined = absurd (omega (arith, l))
      by (r ∷ []) l joined = ap (λ (x : Chain). x ∷ []) (sym (append-nil r) ∙ joined)
      by (r ∷ q ∷ more) l joined = absurd (omega (arith, l))

  -- its edge before the step is that of the same chain
  pub one_piece : (c : Chain) → Among c cs → length (mend_at c).pieces ≡ 1 → meets (edge_here c) ≡ true → pieces_in before (mend_at c).pieces ≡ edge_back c ∷ []
  one_piece c n few met =
      pieces_are c n
      ∙ ap (filter meets) (refined_is m base planar j one last c n
      ∙ ap (map (λ r. edge_back (chain_of_run finer r))) (single c n few)
      ∙ ap (λ (x : Chain). edge_back x ∷ []) (whole_same m base planar j one last c n (single c n few)))
      ∙ ap (λ (b : Bool). cond {A = List Edge} b (edge_back c ∷ []) []) (meets_before h j one last area c met)

  -- the key of a mend is the number of an arc
  pub mend_within : (w : Mend) → Among w (step_record (merged m) j).mends → w.key < length m.arcs
  mend_within w o =
      let given = among_given (λ c. cond (needed c) (mend_at c ∷ []) []) cs w o in
      of given.0 given.1 (needed given.0) given.2
    where
      of : (d : Chain) → Among d cs → (b : Bool) → Among w (cond b (mend_at d ∷ []) []) → w.key < length m.arcs
      of d n true (inl same) = subst (λ (x : Mend). x.key < length m.arcs) same (key_within m base planar j one last j d n)
      of d n true (inr none) = absurd none
      of d n false none = absurd none

  -- a mend of it, where it is in the window, tells of this edge after the step and before it
  pub whole_taken : (w : Mend) → Among w (step_record (merged m) j).mends → length w.pieces ≡ 1 → has_key there.edges w.key ≡ true → (c : Changes)
      → with_whole (bare_at h j w.key) (bare_at h k w.key) c w ≡ with_mend there before c w
  unfolding window_of
  whole_taken w o few known c =
      let given = among_given (λ c. cond (needed c) (mend_at c ∷ []) []) cs w o in
      of given.0 given.1 (needed given.0) given.2
    where
      of : (d : Chain) → Among d cs → (b : Bool) → Among w (cond b (mend_at d ∷ []) []) → with_whole (bare_at h j w.key) (bare_at h k w.key) c w ≡ with_mend there before c w
      of d n true (inl same) = subst (λ (x : Mend). length x.pieces ≡ 1 → has_key there.edges x.key ≡ true → with_whole (bare_at h j x.key) (bare_at h k x.key) c x ≡ with_mend there before c x) same
          (λ few known.
          let met : meets (edge_here d) ≡ true = sym (key_there m base planar j one last area d n) ∙ known in
          let found : edge_with there (key d) ≡ Some (edge_here d) = found_there h area j d n ∙ ap (λ (b : Bool). cond {A = Option Edge} b (Some (edge_here d)) None) met in
          sym (ap₂ (λ (o : Option Edge) (es : List Edge). elim o [
            | None ↦ record { mends = c.mends; gone = c.gone; kept = c.kept; comes = c.comes ++ es }
            | Some e ↦ record { mends = c.mends ++ mend_at d ∷ []; gone = c.gone ++ bare e ∷ []; kept = c.kept ++ map bare es; comes = c.comes }
          ]) found (one_piece d n few met)))
          few known
      of d n true (inr none) = absurd none
      of d n false none = absurd none

  -- ---- the parts of a chain in what changes

  abbrev pub gone_part : Chain → List Edge
  gone_part c = cond (meets (edge_here c)) (cond (needed c) (edge_here c ∷ []) []) []

  abbrev pub left_part : Chain → List Edge
  left_part c = cond (meets (edge_here c)) (cond (needed c) [] (edge_here c ∷ [])) []

  abbrev pub kept_part : Chain → List Edge
  kept_part c = cond (meets (edge_here c)) (cond (needed c) (back_in c) []) []

  abbrev pub come_part : Chain → List Edge
  come_part c = cond (meets (edge_here c)) [] (back_in c)

  -- what one of the lists is, if its part of each chain is known
  by_chains : (some : Mend → Edge → List Edge) (none : Mend → List Edge) (part : Chain → List Edge)
      → ((c : Chain) → Among c cs → cond (needed c) (elim (seen area (edge_here c)) [ None ↦ none (mend_at c) | Some e ↦ some (mend_at c) e ]) [] ≡ part c)
      → flat_map (λ w. elim (edge_with there w.key) [ None ↦ none w | Some e ↦ some w e ]) record_here.mends ≡ flat_map part cs
  by_chains some none part each =
      flat_map-conditional needed mend_at (λ w. elim (edge_with there w.key) [ None ↦ none w | Some e ↦ some w e ]) cs
      ∙ flat_map-agree (λ c. cond (needed c) (elim (edge_with there (key c)) [ None ↦ none (mend_at c) | Some e ↦ some (mend_at c) e ]) []) part cs (λ c n.
      ap (λ (o : Option Edge). cond (needed c) (elim o [ None ↦ none (mend_at c) | Some e ↦ some (mend_at c) e ]) []) (found_there h area j c n) ∙ each c n)

  pub gone_is : gone_of there before record_here.mends ≡ flat_map gone_part cs
  gone_is = by_chains (λ w e. e ∷ []) (λ w. []) gone_part (λ c n. by (meets (edge_here c)) (needed c) (edge_here c))
    where
      by : (b v : Bool) (e : Edge) → cond v (elim (cond b (Some e) None) [ None ↦ [] | Some e ↦ e ∷ [] ]) [] ≡ cond b (cond v (e ∷ []) []) []
      by true true e = refl
      by true false e = refl
      by false true e = refl
      by false false e = refl

  pub kept_is : kept_of there before record_here.mends ≡ flat_map kept_part cs
  kept_is = by_chains (λ w e. pieces_in before w.pieces) (λ w. []) kept_part (λ c n. by (meets (edge_here c)) (needed c) (edge_here c) (pieces_are c n))
    where
      by : (b v : Bool) (e : Edge) {xs ys : List Edge} → xs ≡ ys → cond v (elim (cond b (Some e) None) [ None ↦ [] | Some e ↦ xs ]) [] ≡ cond b (cond v ys []) []
      by true true e same = same
      by true false e same = refl
      by false true e same = refl
      by false false e same = refl

  pub come_is : come_of there before record_here.mends ≡ flat_map come_part cs
  come_is = by_chains (λ w e. []) (λ w. pieces_in before w.pieces) come_part (λ c n. by c (meets (edge_here c)) (needed c) refl (pieces_are c n) (unmended c n))
    where
      by : (c : Chain) (b v : Bool) {xs ys : List Edge} → needed c ≡ v → xs ≡ ys → (needed c ≡ false → ys ≡ cond b (plain (edge_here c) ∷ []) [])
          → cond v (elim (cond b (Some (edge_here c)) None) [ None ↦ xs | Some e ↦ [] ]) [] ≡ cond b [] ys
      by c true true is same free = refl
      by c true false is same free = refl
      by c false true is same free = same
      by c false false is same free = sym (free is)

  -- ---- the edges that come

  ended_in : List Edge
  ended_in = filter meets record_here.ended

  -- both kinds of the law are these
  pub coming_raw : filter meets (flat_map (refined record_here) (filter (λ e. not (meets e)) (map edge_here cs)) ++ record_here.ended)
      ≡ come_of there before record_here.mends ++ filter meets record_here.ended
  coming_raw =
      filter-append meets (flat_map (refined record_here) (filter (λ e. not (meets e)) (map edge_here cs))) record_here.ended
      ∙ ap (λ (es : List Edge). es ++ filter meets record_here.ended)
      (filter-flat_map meets (refined record_here) (filter (λ e. not (meets e)) (map edge_here cs))
      ∙ sym (flat_map-filter (λ e. not (meets e)) (λ e. filter meets (refined record_here e)) (map edge_here cs))
      ∙ flat_map-map (λ e. cond (not (meets e)) (filter meets (refined record_here e)) []) edge_here cs
      ∙ flat_map-agree (λ c. cond (not (meets (edge_here c))) (back_in c) []) come_part cs (λ c n. by (meets (edge_here c)) (back_in c))
      ∙ sym come_is)
    where
      by : (b : Bool) (es : List Edge) → cond (not b) es [] ≡ cond b [] es
      by true es = refl
      by false es = refl

  pub comes_sorted : (window_step (merged m) area j).comes ≡ sort_by edge_before (come_of there before record_here.mends ++ filter meets record_here.ended)
  unfolding slice
  comes_sorted = window_comes_are m base planar j one last area ∙ ap (sort_by edge_before) coming_raw

  pub comes_permuted : IsPermutation (come_of there before record_here.mends ++ filter (meets_window area) (step_record (merged m) j).ended) (window_step (merged m) area j).comes
  comes_permuted = subst (IsPermutation (come_of there before record_here.mends ++ filter meets record_here.ended)) (sym comes_sorted)
      (sort_by-permutation edge_before (come_of there before record_here.mends ++ filter meets record_here.ended))

  -- ---- all edges before the step

  -- they are what each chain becomes, and the ended ones
  pub before_permuted : IsPermutation (flat_map back_in cs ++ filter (meets_window area) (step_record (merged m) j).ended) (window_at (merged m) area (j - 1)).edges
  unfolding window_of
  before_permuted =
      subst (λ (es : List Edge). IsPermutation es (filter meets (map edge_back finer)))
      (filter-append meets (flat_map (refined record_here) (map edge_here cs)) record_here.ended
      ∙ ap (λ (es : List Edge). es ++ filter meets record_here.ended)
      (filter-flat_map meets (refined record_here) (map edge_here cs) ∙ flat_map-map (λ e. filter meets (refined record_here e)) edge_here cs))
      (IsPermutation-filter meets (flat_map (refined record_here) (map edge_here cs) ++ record_here.ended) (map edge_back finer)
      (subst (IsPermutation (flat_map (refined record_here) (map edge_here cs) ++ record_here.ended)) (edges_back m base planar j one last)
      (sort_by-permutation edge_before (flat_map (refined record_here) (map edge_here cs) ++ record_here.ended))))

  -- an edge of the window without a mend stays in it
  pub stays_there : (i : ℕ) → has_key (window_at (merged m) area j).edges i ≡ true → has_key (gone_of there before record_here.mends) i ≡ false
      → has_key (window_at (merged m) area (j - 1)).edges i ≡ true
  stays_there i known none =
      let e = any_among (λ (e : Edge). e.key == i) there.edges known in
      let c = chain_there h area j e.0 e.1 in
      let met : meets (edge_here c.0) ≡ true = ap meets c.2 ∙ c.3 in
      let number : (key c.0 == i) ≡ true = ap (λ (x : Edge). x.key == i) c.2 ∙ e.2 in
      by c.0 c.1 met number (needed c.0) refl
    where
      by : (c : Chain) → Among c cs → meets (edge_here c) ≡ true → (key c == i) ≡ true → (b : Bool) → needed c ≡ b → has_key (window_at (merged m) area (j - 1)).edges i ≡ true
      by c n met number true is =
          let here : Among (edge_here c) (gone_part c)
          = subst (Among (edge_here c)) (sym (ap₂ (λ (a b : Bool). cond {A = List Edge} a (cond b (edge_here c ∷ []) []) []) met is)) (inl refl) in
          let gone : has_key (gone_of there before record_here.mends) i ≡ true
          = any_from (λ e. e.key == i) (gone_of there before record_here.mends) (edge_here c) (subst (Among (edge_here c)) (sym gone_is) (among_flat gone_part cs c (edge_here c) n here)) number in
          absurd (true≢false (sym gone ∙ none))
      by c n met number false is =
          let here : Among (plain (edge_here c)) (back_in c)
          = subst (Among (plain (edge_here c))) (sym (unmended c n is ∙ ap (λ (b : Bool). cond {A = List Edge} b (plain (edge_here c) ∷ []) []) met)) (inl refl) in
          let all : Among (plain (edge_here c)) (flat_map back_in cs ++ filter meets record_here.ended)
          = among_left (flat_map back_in cs) (filter meets record_here.ended) (plain (edge_here c)) (among_flat back_in cs c (plain (edge_here c)) n here) in
          any_from (λ e. e.key == i) before.edges (plain (edge_here c))
          (among_contained before.edges (plain (edge_here c))
          (Contains-permutation (flat_map back_in cs ++ filter meets record_here.ended) before.edges (plain (edge_here c)) before_permuted
          (contained (flat_map back_in cs ++ filter meets record_here.ended) (plain (edge_here c)) all))) number

  -- and those after it, chain by chain
  pub there_is : (window_at (merged m) area j).edges ≡ flat_map (λ c. cond (meets_window area (edge_of (merged m) j (removals_to (merged m) j) c)) (edge_of (merged m) j (removals_to (merged m) j) c ∷ []) []) (chains_at (merged m) j)
  unfolding window_of
  there_is = each cs
    where
      each : (ds : List Chain) → filter meets (map edge_here ds) ≡ flat_map (λ c. cond (meets (edge_here c)) (edge_here c ∷ []) []) ds
      each [] = refl
      each (c ∷ ds) = by (meets (edge_here c)) (each ds)
        where
          by : (b : Bool) → filter meets (map edge_here ds) ≡ flat_map (λ c. cond (meets (edge_here c)) (edge_here c ∷ []) []) ds
              → cond b (edge_here c ∷ filter meets (map edge_here ds)) (filter meets (map edge_here ds)) ≡ cond b (edge_here c ∷ []) [] ++ flat_map (λ c. cond (meets (edge_here c)) (edge_here c ∷ []) []) ds
          by true e = ap (λ (es : List Edge). edge_here c ∷ es) e
          by false e = e
