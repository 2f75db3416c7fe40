-- The edges of the chains after a step of the history, before any are joined: those before it with the labels that the step gives,
-- less those whose two faces become one.
use Rattle.std.proofs.Common.{◌≡◌, ℕ, suc, ◌+◌, ◌-◌, ◌<◌, ◌==◌, ◌&&◌, not, Bool, true, false, cond, List, [], ◌∷◌, map, filter, length, get_or, All, inl, inr, refl, sym, ap, ap₂, ◌∙◌, subst, arith}
use Rattle.tgap_model.specs.declared.slice.Edge.{Edge}
use Rattle.tgap_model.specs.declared.slice.Removal.{Removal}
use Rattle.tgap_model.specs.History.{relabel, AreNumbered}
use Rattle.tgap_model.specs.Merged.{MergedMap, label_at, step_number, is_border}
use Rattle.tgap_model.specs.Chains.{arc_number, Chain, key, chains_at}
use Rattle.tgap_model.specs.Removals.{edge_of, edges_of}
use Rattle.map_laws.specs.ChainLaws.{has_base_faces, IsEven, HasEvenSides, chains_left}
use Rattle.map_laws.proofs.ChainMembers.{Among, joined_among}
use Rattle.map_laws.proofs.ChainLinks.{chains_border}
use Rattle.map_laws.proofs.ChainsExist.{chains_exist}
use Rattle.map_laws.proofs.Lists.{members_all, kept_among}
use Rattle.map_laws.proofs.JoinTests.{key_of}
use Rattle.map_laws.proofs.MergeSteps.{label_next}
use Rattle.map_laws.proofs.ChainsStep.{goes, link_vanishes}
use Rattle.removal_laws.proofs.ChainEnds.{chain_links}
use Rattle.step_laws.proofs.StepEdges.{relabelled_edge, merged_edges}
use Rattle.step_laws.proofs.EdgesAlong.{HasSides, even_sides}

-- what a test before the step and one after it say of an arc that is a border before it
gone_or_left : (b c g : Bool) → b ≡ true → (b && not c) ≡ g → c ≡ not g
gone_or_left true true g e f = ap not f
gone_or_left true false g e f = ap not f
gone_or_left false c g e f = absurd cc

-- the edges of some chains with other labels, less those whose faces become one, are those of the chains that stay
merged_by : (g : ℕ → ℕ) (f later : Chain → Edge) (stays : Chain → Bool) (cs : List Chain)
    → ((c : Chain) → Among c cs → (not (g (f c).left == g (f c).right) ≡ stays c) × (later c ≡ relabelled_edge g (f c)))
    → merged_edges g (map f cs) ≡ map later (filter stays cs)
merged_by g f later stays [] same = refl
merged_by g f later stays (c ∷ cs) same =
    let here = same c (inl refl) in
    ap (λ (v : Bool). map (relabelled_edge g) (cond v (f c ∷ differ (map f cs)) (differ (map f cs)))) here.0
    ∙ by (stays c) (merged_by g f later stays cs (λ d m. same d (inr m))) here.1
  where
    differ : List Edge → List Edge
    differ es = filter (λ (e : Edge). not (g e.left == g e.right)) es

    by : (v : Bool) → merged_edges g (map f cs) ≡ map later (filter stays cs) → later c ≡ relabelled_edge g (f c)
        → map (relabelled_edge g) (cond v (f c ∷ differ (map f cs)) (differ (map f cs))) ≡ map later (cond v (c ∷ filter stays cs) (filter stays cs))
    by true e same = ap₂ (λ (x : Edge) (xs : List Edge). x ∷ xs) (sym same) e
    by false e same = e

module _ (h : MergedMap) (k : ℕ) (small : k < length h.steps) where
  -- the labels after the step
  label_up : (f : ℕ) → label_at h (k + 1) f ≡ relabel (step_number h (k + 1)) (label_at h k f)
  label_up f =
      let next : k + 1 ≡ suc k = omega arith in
      let back : k ≡ k + 1 - 1 = omega arith in
      ap (λ (n : ℕ). label_at h n f) next ∙ label_next h.steps k (record { loser = 0; winner = 0; made = 0 }) f small
      ∙ ap (λ (n : ℕ). relabel (get_or h.steps n (record { loser = 0; winner = 0; made = 0 })) (label_at h k f)) back

  -- the faces of an edge, and of each link
  pub edge_up : (rs : List Removal) (c : Chain) → edge_of h (k + 1) rs c ≡ relabelled_edge (relabel (step_number h (k + 1))) (edge_of h k rs c)
  edge_up rs c = ap₂ (λ (l r : ℕ). record (edge_of h k rs c) { left = l; right = r })
      (label_up (arc_number h.base.arcs (key c)).left) (label_up (arc_number h.base.arcs (key c)).right)

  -- a chain along which the faces stay the same before the step is one after it
  pub sides_up : (l r : ℕ) (c : Chain) → HasSides h k l r c
      → HasSides h (k + 1) (relabel (step_number h (k + 1)) l) (relabel (step_number h (k + 1)) r) c
  sides_up l r c s d m =
      let here = s d m in (
        label_up (cond d.turned (arc_number h.base.arcs d.arc).right (arc_number h.base.arcs d.arc).left) ∙ ap (relabel (step_number h (k + 1))) here.0,
        label_up (cond d.turned (arc_number h.base.arcs d.arc).left (arc_number h.base.arcs d.arc).right) ∙ ap (relabel (step_number h (k + 1))) here.1,
      )

  module _ (numbered : AreNumbered (length h.base.classes) h.steps) (faces : All (λ a. has_base_faces h a ≡ true) h.base.arcs) (even : HasEvenSides h k) where
    -- the two faces of its edge become one exactly where it goes
    faces_differ : (c : Chain) → Among c (chains_at h k) → is_border h (k + 1) (arc_number h.base.arcs (key c)) ≡ not (goes h k numbered small faces even c)
    faces_differ c m =
        let low = key_of c (chain_links h k c m) in
        let border = (chains_border h k (chains_at h k) (chains_exist h k) low.0 (joined_among (chains_at h k) c low.0 m low.1)).border in
        subst (λ (i : ℕ). is_border h (k + 1) (arc_number h.base.arcs i) ≡ not (goes h k numbered small faces even c)) low.2
        (gone_or_left (is_border h k (arc_number h.base.arcs low.0.arc)) (is_border h (k + 1) (arc_number h.base.arcs low.0.arc)) (goes h k numbered small faces even c)
        border (link_vanishes h k numbered small faces even c m low.0 low.1))

    -- so the edges of the chains that are left are those before, with their new labels, less those whose faces become one
    pub merged_left : (rs : List Removal)
        → merged_edges (relabel (step_number h (k + 1))) (edges_of h k rs (chains_at h k)) ≡ edges_of h (k + 1) rs (chains_left h k)
    merged_left rs =
        merged_by (relabel (step_number h (k + 1))) (edge_of h k rs) (edge_of h (k + 1) rs) (λ c. not (goes h k numbered small faces even c)) (chains_at h k)
        (λ c m. (
          ap₂ (λ (l r : ℕ). not (l == r)) (sym (label_up (arc_number h.base.arcs (key c)).left)) (sym (label_up (arc_number h.base.arcs (key c)).right))
              ∙ faces_differ c m,
          edge_up rs c,
        ))

    -- along them the faces stay the same after the step
    pub left_sides : (c : Chain) → Among c (chains_left h k) → HasSides h (k + 1) (edge_of h (k + 1) [] c).left (edge_of h (k + 1) [] c).right c
    left_sides c m =
        let old = kept_among (λ c. not (goes h k numbered small faces even c)) (chains_at h k) c m in
        let same = edge_up [] c in
        subst (λ (e : Edge). HasSides h (k + 1) e.left e.right c) (sym same)
        (sides_up (edge_of h k [] c).left (edge_of h k [] c).right c (even_sides h k c (members_all (IsEven h k) (chains_at h k) c even old)))
