-- The rows of the arcs, with their arc ends, are a net.
use Rattle.std.proofs.Common.{◌≡◌, ◌≢◌, ◌⊎◌, inl, inr, ℕ, ◌+◌, ◌*◌, ◌/◌, ◌<◌, ◌==◌, List, [], ◌∷◌, map, count_by, length, get_or, Option, Some, None, refl, sym, ap, ◌∙◌, subst, arith}
use Rattle.std.specs.Prelude.{unwrap_or}
use Rattle.std.specs.List.{range_with_len, All}
use Rattle.std.proofs.Math.ListN.{get_or-eq_default}
use Rattle.std.proofs.Math.Seq.{take_all}
use Rattle.std.proofs.lemmas.Bool.{cases_eq, cases_lt}
use Rattle.std.proofs.lemmas.List.Elements.{All-from_get_or}
use Rattle.std.proofs.lemmas.List.FromFn.{get_or-map-range_with_len, length-map-range_with_len}
use Rattle.tgap_model.specs.declared.base.BaseArc.{BaseArc}
use Rattle.edge_forest.specs.declared.nodes.Nodes.{Nodes}
use Rattle.edge_forest.specs.declared.net.Current.{Current}
use Rattle.edge_forest.specs.Nodes.{AreNodes}
use Rattle.edge_forest.specs.Net.{row_at, key_at, IsNetOf}
use Rattle.edge_forest.specs.Rows.{end_points}
use Rattle.edge_forest.specs.Start.{arc_current, arc_row}
use Rattle.edge_forest.proofs.StartLists.{ends_counted}

pub end_points_length : (arcs : List BaseArc) → length (end_points arcs) ≡ 2 * length arcs
end_points_length [] = refl
end_points_length (a ∷ arcs) = omega (arith, end_points_length arcs)

module _ (arcs : List BaseArc) where
  abbrev arc_rows : List (Option Current)
  arc_rows = map (arc_row arcs) (range_with_len 0 (length arcs))

  -- the row of each arc
  pub row_of : (i : ℕ) → i < length arcs → row_at (map (arc_row arcs) (range_with_len 0 (length arcs))) i ≡ arc_row arcs i
  row_of i l = get_or-map-range_with_len (arc_row arcs) 0 (length arcs) i i None l (omega arith)

  -- and no others
  pub row_is : (i : ℕ) (r : Current) → row_at (map (arc_row arcs) (range_with_len 0 (length arcs))) i ≡ Some r → (i < length arcs) × (r ≡ arc_current arcs i)
  row_is i r e = elim (cases_lt i (length arcs)) [
    | inl l ↦ (l, ap (λ (o : Option Current). unwrap_or o r) (sym e ∙ row_of i l))
    | inr m ↦
        let none : row_at arc_rows i ≡ None = get_or-eq_default arc_rows None (omega (arith, m, length-map-range_with_len (arc_row arcs) 0 (length arcs))) in
        absurd (cc)
  ]

  abbrev arc_ends : List (Option ℕ)
  arc_ends = map (λ x. Some (x / 2)) (range_with_len 0 (2 * length arcs))

  key_of : (x : ℕ) → x < 2 * length arcs → key_at arc_ends x ≡ Some (x / 2)
  key_of x l = get_or-map-range_with_len (λ x. Some (x / 2)) 0 (2 * length arcs) x x None l (omega arith)

  key_is : (x i : ℕ) → key_at arc_ends x ≡ Some i → (x < 2 * length arcs) × (i ≡ x / 2)
  key_is x i e = elim (cases_lt x (2 * length arcs)) [
    | inl l ↦ (l, ap (λ (o : Option ℕ). unwrap_or o i) (sym e ∙ key_of x l))
    | inr m ↦
        let none : key_at arc_ends x ≡ None = get_or-eq_default arc_ends None (omega (arith, m, length-map-range_with_len (λ x. Some (x / 2)) 0 (2 * length arcs))) in
        absurd (cc)
  ]

  half : (i : ℕ) → (2 * i) / 2 ≡ i
  half i = omega arith

  half_more : (i : ℕ) → (2 * i + 1) / 2 ≡ i
  half_more i = omega arith

  module _ (nodes : Nodes) (are : AreNodes (end_points arcs) nodes) where
    pub places : length nodes.node_of.items ≡ 2 * length arcs
    places = are.count ∙ end_points_length arcs

    pub nodes_below : All (λ node. node < length nodes.places.items) nodes.node_of.items
    nodes_below = All-from_get_or (λ (node : ℕ). node < length nodes.places.items) nodes.node_of.items 0 (λ x l. are.below x (omega (arith, l, are.count)))

    pub arc_net : (counts : List ℕ) → length counts ≡ length nodes.places.items
        → ((g : ℕ) → g < length nodes.places.items → get_or counts g 0 ≡ count_by (λ node. node == g) nodes.node_of.items)
        → IsNetOf nodes (map (arc_row arcs) (range_with_len 0 (length arcs))) (map (λ x. Some (x / 2)) (range_with_len 0 (2 * length arcs))) counts
    arc_net counts many counted = record {
      ends_count = omega (arith, ends_length, rows_length);
      nodes_count = omega (arith, ends_length, places);
      counts_count = many;
      below = λ x l. are.below x (omega (arith, l, ends_length, end_points_length arcs));
      first = λ i r e.
          let w = row_is i r e in
          subst (λ (r : Current). (r.first < length arc_ends) × (key_at arc_ends r.first ≡ Some i)) (sym w.1)
          (omega (arith, w.0, ends_length), key_of (2 * i) (omega (arith, w.0)) ∙ ap (λ (n : ℕ). Some n) (half i));
      last = λ i r e.
          let w = row_is i r e in
          subst (λ (r : Current). (r.last < length arc_ends) × (key_at arc_ends r.last ≡ Some i)) (sym w.1)
          (omega (arith, w.0, ends_length), key_of (2 * i + 1) (omega (arith, w.0)) ∙ ap (λ (n : ℕ). Some n) (half_more i));
      apart = λ i r e. subst (λ (r : Current). r.first ≢ r.last) (sym (row_is i r e).1) (λ s. absurd (omega (arith, s)));
      keyed = λ x i e. let w = key_is x i e in (arc_current arcs i, row_of i (omega (arith, w.0, w.1)), end_is x i w.1);
      counted = λ g l.
          counted g l
          ∙ ap (λ (ns : List ℕ). count_by (λ node. node == g) ns) (sym (take_all (2 * length arcs) nodes.node_of.items (omega (arith, places))))
          ∙ sym (ends_counted nodes arcs g (length arcs) (omega (arith, places)));
    }
      where
        ends_length : length arc_ends ≡ 2 * length arcs
        ends_length = length-map-range_with_len (λ x. Some (x / 2)) 0 (2 * length arcs)

        rows_length : length arc_rows ≡ length arcs
        rows_length = length-map-range_with_len (arc_row arcs) 0 (length arcs)

        end_is : (x i : ℕ) → i ≡ x / 2 → (2 * i ≡ x) ⊎ (2 * i + 1 ≡ x)
        end_is x i e = elim (cases_eq (2 * i) x) [ inl s ↦ inl s | inr ne ↦ inr (omega (arith, e, ne)) ]
