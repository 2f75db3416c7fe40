-- Along a chain the faces at the left and at the right stay the same.
use Rattle.std.proofs.Common.{◌≡◌, ◌≢◌, inl, inr, ⊎_elim, ℕ, Bool, true, false, not, cond, ◌==◌, List, [], ◌∷◌, filter, map, length, refl, sym, ap, ◌∙◌, subst, arith}
use Rattle.std.specs.Prelude.{count_by, flat_map, None}
use Rattle.std.specs.List.{AllZip}
use Rattle.std.proofs.lemmas.Bool.{eqb-true, eqb-false, not-true, not-false}
use Rattle.lemmas.proofs.Counts.{sum_by-map, count_by-cons}
use Rattle.tgap_model.specs.declared.geometry.Point.{Point}
use Rattle.tgap_model.specs.declared.slice.Removal.{Removal}
use Rattle.tgap_model.specs.Base.{BaseMap, is_base}
use Rattle.tgap_model.specs.Partition.{Spoke, spokes_of, base_segments, node_fault}
use Rattle.tgap_model.specs.Merged.{MergedMap, merged, label_at, is_border}
use Rattle.tgap_model.specs.Chains.{Link, Chain, arc_number, degree, link_start, link_end, key, are_chains, chains_at}
use Rattle.tgap_model.specs.Removals.{edge_of, removals_to}
use Rattle.tgap_model.specs.Slice.{left_of, right_of, IsEdgeOf, slice}
use Rattle.map_laws.proofs.ChainMembers.{Among}
use Rattle.map_laws.proofs.ChainWalks.{row_spread}
use Rattle.map_laws.proofs.ChainLinks.{key_among, IsWholeChain, chains_whole}
use Rattle.map_laws.proofs.ChainEnds.{turn, turn_start, turn_border, IsBorderLink, IsWayOn}
use Rattle.map_laws.proofs.ChainsExist.{chains_exist}
use Rattle.slice_laws.specs.SliceLaws.{KeepsFaces, ChainsKeepFaces, SlicesAreSlices}
use Rattle.slice_laws.proofs.Members.{two_members, kept_counts}
use Rattle.slice_laws.proofs.BaseParts.{arcs_have_segments}
use Rattle.slice_laws.proofs.NodeLinks.{arc_spoke, links_at, arc_spokes, link_listed, ends_are_links, numbers_lead_all}
use Rattle.slice_laws.proofs.NodeRings.{node_counts, two_opposed}
use Rattle.map_laws.proofs.Lists.{all_members, among_kept}

-- ---- a link turned round

turned_choice : {A : Type 0} (g : A → ℕ) (t : Bool) (a b : A) → g (cond (not t) a b) ≡ g (cond t b a)
turned_choice g true a b = refl
turned_choice g false a b = refl

module _ (h : MergedMap) (k : ℕ) where
  -- a link turned round has its faces exchanged
  turn_left : (d : Link) → left_of h k (turn d) ≡ right_of h k d
  turn_left d = turned_choice (label_at h k) d.turned (arc_number h.base.arcs d.arc).right (arc_number h.base.arcs d.arc).left

  turn_right : (d : Link) → right_of h k (turn d) ≡ left_of h k d
  turn_right d = turned_choice (label_at h k) d.turned (arc_number h.base.arcs d.arc).left (arc_number h.base.arcs d.arc).right

  -- its faces are one exactly where its arc borders none
  same_faces : (t : Bool) (l r : ℕ) → l ≡ r → label_at h k (cond t r l) ≡ label_at h k (cond t l r)
  same_faces true l r e = ap (label_at h k) (sym e)
  same_faces false l r e = ap (label_at h k) e

  inside_faces : (d : Link) → is_border h k (arc_number h.base.arcs d.arc) ≡ false → left_of h k d ≡ right_of h k d
  inside_faces d e = by d.turned (eqb-true _ _ (not-false _ e))
    where
      by : (t : Bool) → label_at h k (arc_number h.base.arcs d.arc).left ≡ label_at h k (arc_number h.base.arcs d.arc).right
          → label_at h k (cond t (arc_number h.base.arcs d.arc).right (arc_number h.base.arcs d.arc).left)
          ≡ label_at h k (cond t (arc_number h.base.arcs d.arc).left (arc_number h.base.arcs d.arc).right)
      by true e = sym e
      by false e = e

  pub border_faces : (d : Link) → is_border h k (arc_number h.base.arcs d.arc) ≡ true → left_of h k d ≢ right_of h k d
  border_faces d e = by d.turned (eqb-false _ _ (not-true _ e))
    where
      by : (t : Bool) → label_at h k (arc_number h.base.arcs d.arc).left ≢ label_at h k (arc_number h.base.arcs d.arc).right
          → label_at h k (cond t (arc_number h.base.arcs d.arc).right (arc_number h.base.arcs d.arc).left)
          ≢ label_at h k (cond t (arc_number h.base.arcs d.arc).left (arc_number h.base.arcs d.arc).right)
      by true n e = n (sym e)
      by false n e = n e

-- ---- the links at a node

-- the links of border arcs that start at a node
abbrev pub borders_at : BaseMap → ℕ → Point → List Link
borders_at m k v = filter (λ (d : Link). is_border (merged m) k (arc_number m.arcs d.arc)) (links_at v 0 m.arcs)

module _ (m : BaseMap) (base : is_base m ≡ true) (nodes : (v : Point) → node_fault (base_segments m) v ≡ None) (k : ℕ) where
  -- as many links at a node have a face at the left as have it at the right
  links_count : (v : Point) (f : ℕ)
      → count_by (λ d. left_of (merged m) k d == f) (links_at v 0 m.arcs) ≡ count_by (λ d. right_of (merged m) k d == f) (links_at v 0 m.arcs)
  links_count v f =
      let spoke : Link → Spoke = λ (d : Link). arc_spoke (arc_number m.arcs d.arc) d.turned in
      let spokes : flat_map (spokes_of v) (base_segments m) ≡ map spoke (links_at v 0 m.arcs)
      = arc_spokes v (arc_number m.arcs) 0 m.arcs (numbers_lead_all m.arcs) (arcs_have_segments m base) in
      let l : Spoke → Bool = λ (s : Spoke). label_at (merged m) k s.left == f in
      let r : Spoke → Bool = λ (s : Spoke). label_at (merged m) k s.right == f in
      sym (sum_by-map (λ s. cond (l s) 1 0) spoke (links_at v 0 m.arcs)) ∙ ap (count_by l) (sym spokes)
      ∙ node_counts (label_at (merged m) k) f (base_segments m) v (nodes v)
      ∙ ap (count_by r) spokes ∙ sum_by-map (λ s. cond (r s) 1 0) spoke (links_at v 0 m.arcs)

  -- and among those of border arcs
  borders_count : (v : Point) (f : ℕ)
      → count_by (λ d. left_of (merged m) k d == f) (borders_at m k v) ≡ count_by (λ d. right_of (merged m) k d == f) (borders_at m k v)
  borders_count v f = omega (
    arith,
    links_count v f,
    kept_counts (λ d. left_of (merged m) k d == f) (λ d. right_of (merged m) k d == f)
        (λ (d : Link). is_border (merged m) k (arc_number m.arcs d.arc))
        (λ d e. ap (λ (x : ℕ). x == f) (inside_faces (merged m) k d e)) (links_at v 0 m.arcs),
  )

  -- a link of a border arc that starts at the node is one of them
  border_listed : (v : Point) (d : Link) → IsBorderLink (merged m) k d → link_start m.arcs d ≡ v → Among d (borders_at m k v)
  border_listed v d b s =
      among_kept (λ (d : Link). is_border (merged m) k (arc_number m.arcs d.arc)) (links_at v 0 m.arcs) d
      (link_listed v (arc_number m.arcs) 0 m.arcs (numbers_lead_all m.arcs) d (omega arith) (omega (arith, b.within)) s) b.border

  -- two of them that alone are there
  two_borders : (v : Point) (x y : Link) → degree (merged m) k v ≡ 2 → IsBorderLink (merged m) k x → IsBorderLink (merged m) k y
      → link_start m.arcs x ≡ v → link_start m.arcs y ≡ v → x ≢ y
      → (left_of (merged m) k x ≡ right_of (merged m) k y) × (left_of (merged m) k y ≡ right_of (merged m) k x)
  two_borders v x y two bx by sx sy apart =
      two_opposed (left_of (merged m) k) (right_of (merged m) k) x y (border_faces (merged m) k x bx.border)
      (border_faces (merged m) k y by.border) (λ f.
      ⊎_elim
      (λ e. subst (λ ds. count_by (λ d. left_of (merged m) k d == f) ds ≡ count_by (λ d. right_of (merged m) k d == f) ds) e (borders_count v f))
      (λ e. exchanged f (subst (λ ds. count_by (λ d. left_of (merged m) k d == f) ds ≡ count_by (λ d. right_of (merged m) k d == f) ds) e (borders_count v f)))
      (two_members (borders_at m k v) x y (sym number ∙ two) (border_listed v x bx sx) (border_listed v y by sy) apart))
    where
      number : degree (merged m) k v ≡ length (borders_at m k v)
      number = ends_are_links v (is_border (merged m) k) (arc_number m.arcs) 0 m.arcs (numbers_lead_all m.arcs)

      exchanged : (f : ℕ) → count_by (λ d. left_of (merged m) k d == f) (y ∷ x ∷ []) ≡ count_by (λ d. right_of (merged m) k d == f) (y ∷ x ∷ [])
          → count_by (λ d. left_of (merged m) k d == f) (x ∷ y ∷ []) ≡ count_by (λ d. right_of (merged m) k d == f) (x ∷ y ∷ [])
      exchanged f e = turned_count (λ d. left_of (merged m) k d == f) ∙ e ∙ sym (turned_count (λ d. right_of (merged m) k d == f))
        where
          turned_count : (p : Link → Bool) → count_by p (x ∷ y ∷ []) ≡ count_by p (y ∷ x ∷ [])
          turned_count p = omega (arith, count_by-cons p x (y ∷ []), count_by-cons p y [], count_by-cons p y (x ∷ []), count_by-cons p x [])

  -- from a link to its way on the faces stay
  pub way_on_faces : (d e : Link) → IsWayOn (merged m) k d e
      → (left_of (merged m) k d ≡ left_of (merged m) k e) × (right_of (merged m) k d ≡ right_of (merged m) k e)
  way_on_faces d e w =
      let both = two_borders (link_end m.arcs d) (turn d) e w.two (turn_border w.from) w.to (turn_start m.arcs d) (sym w.meets) w.apart in
      (sym (both.1 ∙ turn_right (merged m) k d), sym (turn_left (merged m) k d) ∙ both.0)

-- ---- chains

module _ (m : BaseMap) (base : is_base m ≡ true) (nodes : (v : Point) → node_fault (base_segments m) v ≡ None) (k : ℕ) where
  -- the links of a whole chain have the faces of its least arc, which has the direction of the chain
  chain_faces : (d : Link) (chain : Chain) → IsWholeChain (merged m) k d chain → (removals : List Removal)
      → KeepsFaces (merged m) k removals (d ∷ chain)
  chain_faces d chain w removals =
      let first = key_among d chain in
      let ahead : first.0.turned ≡ false = w.directed first.0 first.1 first.2 in
      let h : MergedMap = merged m in
      record {
        left = all_members (λ e. left_of h k e ≡ (edge_of h k removals (d ∷ chain)).left) (d ∷ chain) (λ e n.
            row_spread (IsWayOn h k) (λ l. left_of h k l ≡ (edge_of h k removals (d ∷ chain)).left)
            (λ x y u p. sym (way_on_faces m base nodes k x y u).0 ∙ p) (λ x y u p. (way_on_faces m base nodes k x y u).0 ∙ p)
            d chain first.0 e w.row first.1 (of_least h first.0 (key (d ∷ chain)) ahead first.2).0 n);
        right = all_members (λ e. right_of h k e ≡ (edge_of h k removals (d ∷ chain)).right) (d ∷ chain) (λ e n.
            row_spread (IsWayOn h k) (λ l. right_of h k l ≡ (edge_of h k removals (d ∷ chain)).right)
            (λ x y u p. sym (way_on_faces m base nodes k x y u).1 ∙ p) (λ x y u p. (way_on_faces m base nodes k x y u).1 ∙ p)
            d chain first.0 e w.row first.1 (of_least h first.0 (key (d ∷ chain)) ahead first.2).1 n);
      }
    where
      of_least : (h : MergedMap) (e : Link) (i : ℕ) → e.turned ≡ false → e.arc ≡ i
          → (left_of h k e ≡ label_at h k (arc_number h.base.arcs i).left) × (right_of h k e ≡ label_at h k (arc_number h.base.arcs i).right)
      of_least h e i t s = (
        ap (λ (b : Bool). label_at h k (cond b (arc_number h.base.arcs e.arc).right (arc_number h.base.arcs e.arc).left)) t
            ∙ ap (λ (j : ℕ). label_at h k (arc_number h.base.arcs j).left) s,
        ap (λ (b : Bool). label_at h k (cond b (arc_number h.base.arcs e.arc).left (arc_number h.base.arcs e.arc).right)) t
            ∙ ap (λ (j : ℕ). label_at h k (arc_number h.base.arcs j).right) s,
      )

  pub chains_faces : (cs : List Chain) → are_chains (merged m) k cs ≡ true → (removals : List Removal) → (c : Chain) → Among c cs
      → KeepsFaces (merged m) k removals c
  chains_faces cs t removals c n =
      let w = chains_whole (merged m) k cs t c n in
      subst (KeepsFaces (merged m) k removals) (sym w.2) (chain_faces w.0 w.1 w.3 removals)

-- ---- the laws

pub chains_keep_faces : ChainsKeepFaces
chains_keep_faces m base planar k removals =
    all_members (KeepsFaces (merged m) k removals) (chains_at (merged m) k)
    (chains_faces m base planar.arcs.nodes k (chains_at (merged m) k) (chains_exist (merged m) k) removals)

-- the edges of chains are edges of them, where the faces stay the same
edges_zip : (h : MergedMap) (k : ℕ) (removals : List Removal) (cs : List Chain) → ((c : Chain) → Among c cs → KeepsFaces h k removals c)
    → AllZip (IsEdgeOf h k removals) cs (map (edge_of h k removals) cs)
edges_zip h k removals [] keeps = tt
edges_zip h k removals (c ∷ cs) keeps =
    let here = keeps c (inl refl) in
    (record { key = refl; points = refl; left = here.left; right = here.right }, edges_zip h k removals cs (λ d n. keeps d (inr n)))

pub slices_are_slices : SlicesAreSlices
unfolding slice
slices_are_slices m base planar k =
    record {
      step = refl;
      faces = refl;
      chains = chains_at (merged m) k;
      are_chains = chains_exist (merged m) k;
      edges = edges_zip (merged m) k (removals_to (merged m) k) (chains_at (merged m) k)
          (chains_faces m base planar.arcs.nodes k (chains_at (merged m) k) (chains_exist (merged m) k) (removals_to (merged m) k));
    }
