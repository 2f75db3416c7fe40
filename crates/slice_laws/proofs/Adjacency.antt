-- Two faces are adjacent in a slice where base faces of theirs are at the sides of an arc.
use Rattle.std.proofs.Common.{◌≡◌, ◌≢◌, inl, inr, ℕ, Bool, true, false, cond, not, ◌&&◌, ◌||◌, ◌==◌, List, refl, sym, ap, ◌∙◌, subst, subst₂, ◌<◌, None, length}
use Rattle.std.specs.List.{list_any}
use Rattle.std.proofs.lemmas.Bool.{and_parts, or_cases, eqb-true, ne_eqb}
use Rattle.tgap_model.specs.declared.geometry.Point.{Point}
use Rattle.tgap_model.specs.declared.base.BaseArc.{BaseArc}
use Rattle.tgap_model.specs.declared.slice.Removal.{Removal}
use Rattle.tgap_model.specs.Base.{BaseMap, is_base}
use Rattle.tgap_model.specs.Partition.{base_segments, node_fault}
use Rattle.tgap_model.specs.History.{is_between}
use Rattle.tgap_model.specs.Merged.{merged, label_at, labelled_at, is_border}
use Rattle.tgap_model.specs.Chains.{Link, Chain, arc_number, key, are_chains, chains_at}
use Rattle.tgap_model.specs.Removals.{edge_of, edges_of, removals_to}
use Rattle.tgap_model.specs.Records.{is_edge_between}
use Rattle.tgap_model.specs.Slice.{slice, left_of, right_of}
use Rattle.map_laws.proofs.ChainMembers.{any_among}
use Rattle.map_laws.proofs.ChainLinks.{key_among, chains_whole}
use Rattle.map_laws.proofs.ChainsExist.{chains_exist}
use Rattle.slice_laws.specs.SliceLaws.{FacesAreAdjacent}
use Rattle.slice_laws.proofs.Coverage.{number_among, among_number, border_in_chain}
use Rattle.slice_laws.proofs.EvenSides.{chains_faces}
use Rattle.map_laws.proofs.Lists.{members_all, any_from, map_among, among_map}

-- two faces at two sides
abbrev are_between : ℕ → ℕ → ℕ → ℕ → Bool
are_between f g l r = ((l == f) && (r == g)) || ((l == g) && (r == f))

-- it does not matter which side is which
exchanged : (f g l r : ℕ) → are_between f g l r ≡ true → are_between f g r l ≡ true
exchanged f g l r h = swap (l == f) (r == g) (l == g) (r == f) h
  where
    swap : (a b c d : Bool) → ((a && b) || (c && d)) ≡ true → ((d && c) || (b && a)) ≡ true
    swap a b true true h = refl
    swap true true true false h = refl
    swap true true false true h = refl
    swap true true false false h = refl
    swap true false true false h = absurd cc
    swap true false false d h = absurd cc
    swap false b true false h = absurd cc
    swap false b false d h = absurd cc

-- they are two
two_labels : (f g l r : ℕ) → f ≢ g → are_between f g l r ≡ true → l ≢ r
two_labels f g l r apart h e =
    elim (or_cases ((l == f) && (r == g)) _ h) [
      | inl s ↦ (let b = and_parts _ _ s in apart (sym (eqb-true _ _ b.0) ∙ e ∙ eqb-true _ _ b.1))
      | inr s ↦ (let b = and_parts _ _ s in apart (sym (eqb-true _ _ b.1) ∙ sym e ∙ eqb-true _ _ b.0))
    ]

module _ (m : BaseMap) (base : is_base m ≡ true) (nodes : (v : Point) → node_fault (base_segments m) v ≡ None) (k : ℕ)
    (cs : List Chain) (t : are_chains (merged m) k cs ≡ true) (removals : List Removal) (f g : ℕ) where
  -- the faces of an edge are those of its least arc
  from_edge : list_any (is_edge_between f g) (edges_of (merged m) k removals cs) ≡ true
      → list_any (λ a. is_between f g (labelled_at (merged m) k a)) m.arcs ≡ true
  from_edge h =
      let e = any_among (is_edge_between f g) (edges_of (merged m) k removals cs) h in
      let c = map_among (edge_of (merged m) k removals) cs e.0 e.1 in
      let w = chains_whole (merged m) k cs t c.0 c.1 in
      let least = key_among w.0 w.1 in
      let within : key c.0 < length m.arcs = subst (λ i. i < length m.arcs) (least.2 ∙ sym (ap key w.2)) (w.3.border least.0 least.1).within in
      any_from (λ a. is_between f g (labelled_at (merged m) k a)) m.arcs (arc_number m.arcs (key c.0)) (number_among m.arcs (key c.0) within)
      (ap (is_edge_between f g) c.2 ∙ e.2)

  -- a link has the two faces at its sides where its arc has
  link_between : (d : Link)
      → are_between f g (label_at (merged m) k (arc_number m.arcs d.arc).left) (label_at (merged m) k (arc_number m.arcs d.arc).right) ≡ true
      → are_between f g (left_of (merged m) k d) (right_of (merged m) k d) ≡ true
  link_between d h = by d.turned
    where
      by : (s : Bool) → are_between f g (label_at (merged m) k (cond s (arc_number m.arcs d.arc).right (arc_number m.arcs d.arc).left))
          (label_at (merged m) k (cond s (arc_number m.arcs d.arc).left (arc_number m.arcs d.arc).right)) ≡ true
      by true = exchanged f g (label_at (merged m) k (arc_number m.arcs d.arc).left) (label_at (merged m) k (arc_number m.arcs d.arc).right) h
      by false = h

  -- an arc with different labels is a border, so it stands in a chain
  from_arc : f ≢ g → list_any (λ a. is_between f g (labelled_at (merged m) k a)) m.arcs ≡ true
      → list_any (is_edge_between f g) (edges_of (merged m) k removals cs) ≡ true
  from_arc apart h =
      let a = any_among (λ a. is_between f g (labelled_at (merged m) k a)) m.arcs h in
      let n = among_number m.arcs a.0 a.1 in
      let between : is_between f g (labelled_at (merged m) k (arc_number m.arcs n.0)) ≡ true
      = ap (λ (x : BaseArc). is_between f g (labelled_at (merged m) k x)) n.2 ∙ a.2 in
      let border : is_border (merged m) k (arc_number m.arcs n.0) ≡ true = ap not (ne_eqb _ _ (two_labels f g _ _ apart between)) in
      let p = border_in_chain (merged m) k cs t n.0 n.1 border in
      let keeps = chains_faces m base nodes k cs t removals p.0 p.1 in
      any_from (is_edge_between f g) (edges_of (merged m) k removals cs) (edge_of (merged m) k removals p.0)
      (among_map (edge_of (merged m) k removals) cs p.0 p.1)
      (subst₂ (λ l r. are_between f g l r ≡ true) (members_all (λ d. left_of (merged m) k d ≡ (edge_of (merged m) k removals p.0).left) p.0 p.2 keeps.left p.3)
      (members_all (λ d. right_of (merged m) k d ≡ (edge_of (merged m) k removals p.0).right) p.0 p.2 keeps.right p.3)
      (link_between p.2 (ap (λ (i : ℕ). is_between f g (labelled_at (merged m) k (arc_number m.arcs i))) p.4 ∙ between)))

pub faces_are_adjacent : FacesAreAdjacent
unfolding slice
faces_are_adjacent m base planar k f g apart = (
  from_edge m base planar.arcs.nodes k (chains_at (merged m) k) (chains_exist (merged m) k) (removals_to (merged m) k) f g,
  from_arc m base planar.arcs.nodes k (chains_at (merged m) k) (chains_exist (merged m) k) (removals_to (merged m) k) f g apart,
)
