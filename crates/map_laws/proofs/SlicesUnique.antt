-- Two slices of a map after the same steps, less the same vertices, are one.
use Rattle.std.proofs.Common.{◌≡◌, inr, inl, ℕ, List, [], ◌∷◌, refl, sym, ap, ◌∙◌, subst}
use Rattle.std.specs.List.{AllZip}
use Rattle.std.proofs.lemmas.List.Elements.{All-head}
use Rattle.tgap_model.specs.declared.geometry.Point.{Point}
use Rattle.tgap_model.specs.declared.slice.Edge.{Edge}
use Rattle.tgap_model.specs.declared.slice.FaceRow.{FaceRow}
use Rattle.tgap_model.specs.declared.slice.Slice.{Slice}
use Rattle.tgap_model.specs.declared.slice.Removal.{Removal}
use Rattle.tgap_model.specs.Merged.{MergedMap}
use Rattle.tgap_model.specs.Chains.{Link, Chain}
use Rattle.tgap_model.specs.Slice.{left_of, right_of, IsEdgeOf}
use Rattle.map_laws.specs.ChainLaws.{SlicesAreUnique}
use Rattle.map_laws.proofs.ChainMembers.{Among}
use Rattle.map_laws.proofs.ChainLinks.{chains_whole}
use Rattle.map_laws.proofs.ChainsUnique.{chains_unique}

-- an edge is its key, its faces and its points
pub edge_same : (e f : Edge) → e.key ≡ f.key → e.left ≡ f.left → e.right ≡ f.right → e.points ≡ f.points → e ≡ f
edge_same e f a b c d =
    let make : ℕ → ℕ → ℕ → List Point → Edge = λ (i l r : ℕ) (ps : List Point). record { key = i; left = l; right = r; points = ps } in
    let s : make e.key e.left e.right e.points ≡ make f.key f.left f.right f.points = cc in
    s

-- a slice is its step, its faces and its edges
slice_same : (s t : Slice) → s.step ≡ t.step → s.faces ≡ t.faces → s.edges ≡ t.edges → s ≡ t
slice_same s t a b c =
    let make : ℕ → List FaceRow → List Edge → Slice = λ (i : ℕ) (fs : List FaceRow) (es : List Edge). record { step = i; faces = fs; edges = es } in
    let e : make s.step s.faces s.edges ≡ make t.step t.faces t.edges = cc in
    e

module _ (h : MergedMap) (k : ℕ) (removals : List Removal) where
  -- a chain that has a first link has one edge
  one_edge : (d : Link) (chain : Chain) (e f : Edge) → IsEdgeOf h k removals (d ∷ chain) e → IsEdgeOf h k removals (d ∷ chain) f → e ≡ f
  one_edge d chain e f u v =
      edge_same e f (u.key ∙ sym v.key)
      (sym (All-head (λ l. left_of h k l ≡ e.left) d chain u.left) ∙ All-head (λ l. left_of h k l ≡ f.left) d chain v.left)
      (sym (All-head (λ l. right_of h k l ≡ e.right) d chain u.right) ∙ All-head (λ l. right_of h k l ≡ f.right) d chain v.right)
      (u.points ∙ sym v.points)

  -- so chains that have first links have one list of edges
  one_list : (cs : List Chain) (es fs : List Edge) → ((c : Chain) → Among c cs → (d : Link) × (chain : Chain) × (c ≡ d ∷ chain))
      → AllZip (IsEdgeOf h k removals) cs es → AllZip (IsEdgeOf h k removals) cs fs → es ≡ fs
  one_list [] [] [] first u v = refl
  one_list [] [] (f ∷ fs) first u v = absurd v
  one_list [] (e ∷ es) fs first u v = absurd u
  one_list (c ∷ cs) [] fs first u v = absurd u
  one_list (c ∷ cs) (e ∷ es) [] first u v = absurd v
  one_list (c ∷ cs) (e ∷ es) (f ∷ fs) first u v =
      let w = first c (inl refl) in
      let same : e ≡ f = one_edge w.0 w.1 e f (subst (λ c. IsEdgeOf h k removals c e) w.2 u.0) (subst (λ c. IsEdgeOf h k removals c f) w.2 v.0) in
      ap (λ x. x ∷ es) same ∙ ap (λ xs. f ∷ xs) (one_list cs es fs (λ c m. first c (inr m)) u.1 v.1)

-- at most one slice has the faces and edges of a map after k steps, less the listed vertices
pub slices_unique : SlicesAreUnique
slices_unique h k removals s t u v =
    let same : v.chains ≡ u.chains = chains_unique h k v.chains u.chains v.are_chains u.are_chains in
    slice_same s t (u.step ∙ sym v.step) (u.faces ∙ sym v.faces)
    (one_list h k removals u.chains s.edges t.edges
    (λ c m. let w = chains_whole h k u.chains u.are_chains c m in (w.0, w.1, w.2))
    u.edges (subst (λ cs. AllZip (IsEdgeOf h k removals) cs t.edges) same v.edges))
