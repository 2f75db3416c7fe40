-- How many edges end at a node: by the counts that are stored, and by the chains.
use Rattle.std.proofs.Common.{◌≡◌, inl, inr, ℕ, suc, ◌+◌, ◌<◌, ◌≤◌, ◌==◌, Bool, true, cond, List, [], ◌∷◌, sum_by, length, get_or, Option, Some, None, refl, sym, ap, ap₂, ◌∙◌, subst, arith}
use Rattle.std.proofs.lemmas.Bool.{cases_eq, eq-eqb, ne_eqb, false_from_ne_true}
use Rattle.std.proofs.lemmas.List.Sums.{sum_by-cons}
use Rattle.tgap_model.specs.declared.geometry.Point.{Point}
use Rattle.tgap_model.specs.declared.base.BaseArc.{BaseArc}
use Rattle.tgap_model.specs.Base.{same_point}
use Rattle.tgap_model.specs.Merged.{MergedMap}
use Rattle.tgap_model.specs.Chains.{arc_number, ends_at, degree, Link, Chain, chain_start, chain_end, has_links}
use Rattle.tgap_model.proofs.Points.{same_point-true, same_point-from}
use Rattle.map_laws.proofs.ChainMembers.{Among}
use Rattle.map_laws.proofs.Lists.{members_all, sum_less}
use Rattle.map_laws.proofs.JoinEnds.{chain_ends, border_ends, link_ends}
use Rattle.map_laws.proofs.JoinSteps.{arc_sum, AreJoined}
use Rattle.edge_forest.specs.declared.net.Current.{Current}
use Rattle.edge_forest.specs.declared.growth.Growth.{Growth}
use Rattle.edge_forest.specs.Edges.{chains_of}
use Rattle.edge_forest.specs.Nodes.{node_at}
use Rattle.edge_forest.specs.Net.{row_at, row_ends}
use Rattle.edge_forest.specs.Rows.{end_points}
use Rattle.edge_forest.specs.Growth.{rows_of, IsStored}
use Rattle.edge_forest.specs.Growth as stored
use Rattle.edge_forest.proofs.Attached.{first_point_of, last_point_of}
use Rattle.edge_forest.proofs.Family.{row_sum, family_sum}
use Rattle.edge_forest.proofs.WalkedArcs.{chain_arcs_below}

-- ---- a path has no more ends at a point than its arcs have

module _ (arcs : List BaseArc) (p : Point) where
  abbrev ends : Link → ℕ
  ends e = ends_at p (arc_number arcs e.arc)

  last_less : (d : Link) (c : Chain) → cond {A = ℕ} (same_point (chain_end arcs (d ∷ c)) p) 1 0 ≤ sum_by (λ (e : Link). ends_at p (arc_number arcs e.arc)) (d ∷ c)
  last_less d [] = omega (arith, sum_by-cons ends d [], link_ends arcs p d)
  last_less d (e ∷ c) = omega (arith, sum_by-cons ends d (e ∷ c), last_less e c)

  pub path_ends_less : (c : Chain) → has_links c ≡ true → chain_ends arcs p c ≤ sum_by (λ (e : Link). ends_at p (arc_number arcs e.arc)) c
  path_ends_less [] h = absurd cc
  path_ends_less (d ∷ []) h = omega (arith, sum_by-cons ends d [], link_ends arcs p d)
  path_ends_less (d ∷ e ∷ c) h = omega (arith, sum_by-cons ends d (e ∷ c), link_ends arcs p d, last_less e c)

-- so joined paths have no more ends at a point than its degree
pub ends_at_most : (h : MergedMap) (k : ℕ) (J : Point → Type 0) (cs : List Chain) → AreJoined h k J cs → (p : Point)
    → sum_by (chain_ends h.base.arcs p) cs ≤ degree h k p
ends_at_most h k J cs a p =
    omega (
      arith,
      sum_less (chain_ends h.base.arcs p) (arc_sum (λ i. ends_at p (arc_number h.base.arcs i))) cs
          (λ c m. path_ends_less h.base.arcs p c (a.paths c m).links),
      a.covers (λ i. ends_at p (arc_number h.base.arcs i)),
      border_ends h k p,
    )

-- ---- what is stored

module _ (k : ℕ) (g : Growth) (w : IsStored k g) where
  abbrev arcs : List BaseArc
  arcs = g.base.arcs

  abbrev chains : List Chain
  chains = chains_of g.edges.items

  within : (i : ℕ) (r : Current) → row_at (rows_of g) i ≡ Some r → (d : Link) → Among d (get_or chains r.id []) → d.arc < length arcs
  within i r e d m =
      members_all (λ (d : Link). d.arc < length arcs) (get_or chains r.id []) d
      (chain_arcs_below (length arcs) g.edges.items (λ i l. (w.edges i l).parts) (r.id + 1) r.id (omega arith) (w.of_edges i r e).id) m

  pub first_point : (i : ℕ) (r : Current) → row_at (rows_of g) i ≡ Some r → (d : Point) → get_or (end_points g.base.arcs) r.first d ≡ chain_start g.base.arcs (get_or (chains_of g.edges.items) r.id [])
  first_point i r e d =
      ap (λ (n : ℕ). get_or (end_points arcs) n d) (w.rows i r e).first ∙ first_point_of arcs (get_or chains r.id []) d (w.rows i r e).links (within i r e)

  pub last_point : (i : ℕ) (r : Current) → row_at (rows_of g) i ≡ Some r → (d : Point) → get_or (end_points g.base.arcs) r.last d ≡ chain_end g.base.arcs (get_or (chains_of g.edges.items) r.id [])
  last_point i r e d =
      ap (λ (n : ℕ). get_or (end_points arcs) n d) (w.rows i r e).last ∙ last_point_of arcs (get_or chains r.id []) d (w.rows i r e).links (within i r e)

  pub end_within : (x : ℕ) → x < length g.net.ends.items → x < length (end_points g.base.arcs)
  end_within x l = omega (arith, l, w.net.nodes_count, w.nodes.count)

  module _ (n x : ℕ) (inside : x < length (end_points g.base.arcs)) (at : node_at g.nodes x ≡ n) (p : Point) (is : get_or (end_points g.base.arcs) x p ≡ p) where
    -- an arc end is at the node exactly where its point is that of the node
    node_test : (y : ℕ) → y < length (end_points arcs) → (q : Point) → get_or (end_points arcs) y p ≡ q → (node_at g.nodes y == n) ≡ same_point q p
    node_test y l q e = elim (cases_eq (node_at g.nodes y) n) [
      | inl s ↦ eq-eqb (node_at g.nodes y) n s ∙ sym (same_point-from q p (sym e ∙ (w.nodes.same y x p l inside).0 (s ∙ sym at) ∙ is))
      | inr ne ↦
          ne_eqb (node_at g.nodes y) n ne
          ∙ sym (false_from_ne_true (same_point q p) (λ t. ne ((w.nodes.same y x p l inside).1 (e ∙ same_point-true q p t ∙ sym is) ∙ at)))
    ]

    row_count : (i : ℕ) (r : Current) → row_at (rows_of g) i ≡ Some r → row_ends g.nodes n (Some r) ≡ chain_ends arcs p (get_or chains r.id [])
    row_count i r e =
        ap₂ (λ (a b : Bool). cond {A = ℕ} a 1 0 + cond {A = ℕ} b 1 0)
        (node_test r.first (end_within r.first (w.net.first i r e).0) (chain_start arcs (get_or chains r.id [])) (first_point i r e p))
        (node_test r.last (end_within r.last (w.net.last i r e).0) (chain_end arcs (get_or chains r.id [])) (last_point i r e p))

    rows_count : (rows : List (Option Current)) → ((i : ℕ) (r : Current) → row_at rows i ≡ Some r → row_ends g.nodes n (Some r) ≡ chain_ends arcs p (get_or chains r.id []))
        → sum_by (row_ends g.nodes n) rows ≡ sum_by (row_sum chains (chain_ends arcs p)) rows
    rows_count [] same = refl
    rows_count (None ∷ rows) same =
        omega (arith, rows_count rows (λ i r e. same (suc i) r e), sum_by-cons (row_ends g.nodes n) None rows, sum_by-cons (row_sum chains (chain_ends arcs p)) None rows)
    rows_count (Some r ∷ rows) same =
        omega (
          arith,
          same 0 r refl,
          rows_count rows (λ i r e. same (suc i) r e),
          sum_by-cons (row_ends g.nodes n) (Some r) rows,
          sum_by-cons (row_sum chains (chain_ends arcs p)) (Some r) rows,
        )

    -- the count of the node is the number of ends of chains at its point
    pub count_is : get_or g.net.counts.items n 0 ≡ sum_by (chain_ends g.base.arcs p) (stored.family_of g)
    count_is =
        w.net.counted n (subst (λ (m : ℕ). m < length g.nodes.places.items) at (w.nodes.below x inside))
        ∙ rows_count (rows_of g) row_count
        ∙ sym (family_sum chains (chain_ends arcs p) (rows_of g))
