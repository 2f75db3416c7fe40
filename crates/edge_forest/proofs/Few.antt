-- There are never more than twice as many edges as arcs.
use Rattle.std.proofs.Common.{◌≡◌, ◌≢◌, inl, inr, ℕ, ◌+◌, ◌*◌, ◌-◌, ◌<◌, ◌≤◌, ◌^◌, Bool, true, false, cond, List, [], ◌∷◌, ◌++◌, map, length, set, Option, Some, None, refl, sym, ap, ◌∙◌, arith}
use Rattle.std.specs.List.{range_with_len}
use Rattle.std.proofs.lemmas.List.FromFn.{length-range_with_len}
use Rattle.tgap_model.specs.declared.base.BaseArc.{BaseArc}
use Rattle.edge_forest.specs.declared.edge.ForestEdge.{ForestEdge}
use Rattle.std.proofs.lemmas.List.{length-set, length-map, get_or-set_same, get_or-set_other}
use Rattle.std.proofs.lemmas.List.Sums.{sum_by-cons, sum_by-set}
use Rattle.tgap_model.specs.declared.merge.MergeStep.{MergeStep}
use Rattle.tgap_model.specs.Base.{BaseMap}
use Rattle.tgap_model.specs.Chains.{Chain}
use Rattle.tgap_model.proofs.BaseFacts.{base_facts}
use Rattle.edge_forest.specs.declared.net.Current.{Current}
use Rattle.edge_forest.specs.declared.face_labels.Sides.{Sides}
use Rattle.edge_forest.specs.declared.growth.Growth.{Growth}
use Rattle.edge_forest.specs.Edges.{chains_of, chain_of}
use Rattle.edge_forest.specs.FaceLabels.{sides_of}
use Rattle.edge_forest.specs.Rows.{attached, joined_row}
use Rattle.edge_forest.specs.Net.{row_at}
use Rattle.edge_forest.specs.Growth.{rows_of, present, is_row_between, relabel_row, row_after, IsFew, IsStored, IsJoinedAt, IsSettled}
use Rattle.edge_forest.proofs.Nets.{read_within}
use Rattle.edge_forest.proofs.Chains.{chains_count}

-- one where there is a row
abbrev one : Option Current → ℕ
one row = cond (elim row [ None ↦ false | Some r ↦ true ]) 1 0

taken : (rows : List (Option Current)) (i : ℕ) (r : Current) → row_at rows i ≡ Some r → present (set rows i None) + 1 ≡ present rows
taken rows i r e = omega (arith, sum_by-set one rows i None None (read_within rows i r e), ap one e)

put : (rows : List (Option Current)) (i : ℕ) (r : Current) → i < length rows → row_at rows i ≡ None → present (set rows i (Some r)) ≡ present rows + 1
put rows i r l e = omega (arith, sum_by-set one rows i (Some r) None l, ap one e)

pub few_small : (k : ℕ) (g : Growth) → IsStored k g → IsFew g → length g.edges.items < 2 ^ 32 - 1
few_small k g w few = omega (arith, few, (base_facts g.base w.base).few_arcs)

pub joined_few : (k : ℕ) (g g' : Growth) (n : ℕ) → IsStored k g → IsJoinedAt g n g' → IsFew g → IsFew g'
joined_few k g g' n w j few = elim j.change [
  | inl u ↦ omega (
    arith,
    few,
    ap present u.rows,
    ap (λ (m : BaseMap). length m.arcs) j.base,
    ap length u.chains,
    chains_count g.edges.items,
    chains_count g'.edges.items,
  )
  | inr u ↦
      let m = u.0 in
      let t = u.1.meeting in
      let rows = rows_of g in
      let ne : m.key ≢ m.other_key = λ e. absurd (omega (arith, e, t.less)) in
      let li = read_within rows m.key m.one t.one in
      let lj = read_within rows m.other_key m.other t.other in
      let other : row_at (set rows m.key None) m.other_key ≡ Some m.other = get_or-set_other rows m.key m.other_key None None (λ e. ne (sym e)) ∙ t.other in
      let free : row_at (set (set rows m.key None) m.other_key None) m.key ≡ None
      = get_or-set_other (set rows m.key None) m.other_key m.key None None ne ∙ get_or-set_same rows m.key None None li in
      let size : m.key < length (set (set rows m.key None) m.other_key None) = omega (arith, li, length-set (set rows m.key None) m.other_key None, length-set rows m.key None) in
      omega (
        arith,
        few,
        ap present u.1.rows,
        put (set (set rows m.key None) m.other_key None) m.key (joined_row m.one_ends m.other_ends (length g.edges.items) m.one m.other) size free,
        taken (set rows m.key None) m.other_key m.other other,
        taken rows m.key m.one t.one,
        ap (λ (m : BaseMap). length m.arcs) j.base,
        ap length u.1.chains,
        longer (attached m.one_ends m.other_ends (chain_of g.edges.items m.one.id) (chain_of g.edges.items m.other.id)) (chains_of g.edges.items),
        chains_count g.edges.items,
        chains_count g'.edges.items,
      )
]
  where
    longer : (c : Chain) (cs : List Chain) → length (cs ++ c ∷ []) ≡ length cs + 1
    longer c [] = refl
    longer c (d ∷ cs) = omega (arith, longer c cs)

pub settled_few : (s : MergeStep) (g g' : Growth) (touched : List ℕ) → IsSettled s g g' touched → IsFew g → IsFew g'
settled_few s g g' touched w few =
    omega (
      arith,
      few,
      ap present w.rows,
      fewer (rows_of g),
      ap (λ (m : BaseMap). length m.arcs) w.base,
      ap length w.chains,
      chains_count g.edges.items,
      chains_count g'.edges.items,
    )
  where
    sides : Sides
    sides = sides_of g.labels s

    less : (row : Option Current) → one (row_after sides row) ≤ one row
    less None = omega arith
    less (Some r) = by (is_row_between sides r)
      where
        by : (b : Bool) → one (cond b None (Some (relabel_row sides r))) ≤ 1
        by true = omega arith
        by false = omega arith

    fewer : (rows : List (Option Current)) → present (map (row_after sides) rows) ≤ present rows
    fewer [] = omega arith
    fewer (row ∷ rows) = omega (arith, less row, fewer rows, sum_by-cons one row rows, sum_by-cons one (row_after sides row) (map (row_after sides) rows))

-- at the start each arc is an edge
pub few_at_start : (arcs : List BaseArc) (edges : List ForestEdge) (rows : List (Option Current)) (n : ℕ) (edge : ℕ → ForestEdge) → edges ≡ map edge (range_with_len 0 n)
    → (row : ℕ → Option Current) → rows ≡ map row (range_with_len 0 n) → n ≡ length arcs → length edges + present rows ≤ 2 * length arcs
few_at_start arcs edges rows n edge e row r count =
    omega (
      arith,
      ap length e,
      length-map (range_with_len 0 n) edge,
      ap length r,
      length-map (range_with_len 0 n) row,
      length-range_with_len 0 n,
      at_most rows,
      count,
    )
  where
    at_most : (rows : List (Option Current)) → present rows ≤ length rows
    at_most [] = omega arith
    at_most (row ∷ rows) = omega (arith, at_most rows, sum_by-cons one row rows, single row)
      where
        single : (row : Option Current) → one row ≤ 1
        single None = omega arith
        single (Some r) = omega arith
