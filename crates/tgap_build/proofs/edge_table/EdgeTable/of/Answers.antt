-- Before the first edge the table is empty; then one more has come.
use Rattle.std.proofs.Common.{◌≡◌, ◌∷◌, ◌++◌, [], ℕ, ◌<◌, List, map, length, All, IsPermutation, Option, None, replicate, refl, sym, ap, ap₂, ◌∙◌, subst, subst₂, arith, IsTrue}
use Rattle.std.proofs.lemmas.List.{append-nil, length-replicate}
use Rattle.std.proofs.lemmas.List.Elements.{All-head, All-tail}
use Rattle.std.proofs.lemmas.List.Sorted.{IsPermutation-sym}
use Rattle.tgap_model.specs.declared.slice.Edge.{Edge}
use Rattle.tgap_model.specs.Base.{in_limits}
use Rattle.grid_index.specs.Keyed.{edges_in}
use Rattle.grid_index.specs.Live.{without_keys}
use Rattle.edge_forest.specs.declared.face_labels.FaceLabels.{FaceLabels}
use Rattle.edge_forest.specs.FaceLabels.{IsCurrent}
use Rattle.tgap_build.specs.Table.{faced, labelled_edges, IsTableOf}
use Rattle.tgap_build.proofs.EdgeTables.{ascending, IsPutting, put_next}
use Rattle.tgap_build.proofs.KeyedEdges.{ascending_same}
use Rattle.tgap_build.proofs.TableChanges.{empty_table, empty_putting, first_current, first_faced}
use Rattle.tgap_build.proofs.edge_table.EdgeTable.of.Goals as goal

none_left : (es : List Edge) → length es ≡ 0 → es ≡ []
none_left [] e = refl
none_left (x ∷ es) e = absurd (omega (arith, e))

abbrev IsWithinLimits : Edge → Type 0
IsWithinLimits e = All (λ p. IsTrue (in_limits p)) e.points

pub loop-edge-init : goal.loop-edge-init
loop-edge-init c =
    let t = c.in_ok-of.field-0 in
    let rest : c.into_iter-edge-iterator.result.rest.items ≡ c.args.edges = c.into_iter-edge-iterator.ensures.into_iter_gives.0 ∙ c.into_vec-edge-items.ensures in
    let places = c.in_ok-empty_places.ensures in
    let lists = c.in_ok-empty_lists.ensures in
    record {
      table = subst (λ (ls : List (List ℕ)). IsTableOf t ls c.in_ok-empty_places.field-0.items) (sym lists)
          (subst (IsTableOf t (replicate c.args.faces [])) (sym places) (empty_table t c.args.keys c.args.faces c.in_ok-of.ensures.labels c.in_ok-of.ensures.same));
      putting = subst (IsPutting c.args.edges (edges_in c.in_ok-empty_places.field-0.items)) (sym rest)
          (subst (λ (ps : List (Option Edge)). IsPutting c.args.edges (edges_in ps) c.args.edges) (sym places) (empty_putting c.args.keys c.args.edges c.requires.ascending));
      labels = refl;
      places = ap length places ∙ length-replicate c.args.keys None;
      lists = ap length lists ∙ length-replicate c.args.faces [];
      below = subst (All (λ (e : Edge). e.key < c.args.keys)) (sym rest) c.requires.keys;
      near = subst (All IsWithinLimits) (sym rest) c.requires.near;
      sides = subst (All (λ (e : Edge). (e.left < c.args.faces) × (e.right < c.args.faces))) (sym rest) c.requires.sides;
    }

pub put-requires-clause-left : goal.put-requires-clause-left
put-requires-clause-left c =
    let t = c.in_ok-of.field-0 in
    let left = ap (λ (e : Edge). e.left) c.in_ok-edge.ensures in
    let sides = All-head (λ (e : Edge). (e.left < c.args.faces) × (e.right < c.args.faces)) c.in-Some.edge c.next.new.self.rest.items
    (subst (All (λ (e : Edge). (e.left < c.args.faces) × (e.right < c.args.faces))) c.in-Some.ensures.steps.0 c.loop-edge.invariant.sides) in (
      omega (arith, sides.0, c.loop-edge.invariant.lists, left),
      subst₂ IsCurrent (sym c.loop-edge.invariant.labels) (sym left)
          (first_current t c.args.keys c.args.faces c.in_ok-of.ensures.labels c.in_ok-of.ensures.same c.in-Some.edge.left sides.0),
    )

pub put-requires-clause-right : goal.put-requires-clause-right
put-requires-clause-right c =
    let t = c.in_ok-of.field-0 in
    let right = ap (λ (e : Edge). e.right) c.in_ok-edge.ensures in
    let sides = All-head (λ (e : Edge). (e.left < c.args.faces) × (e.right < c.args.faces)) c.in-Some.edge c.next.new.self.rest.items
    (subst (All (λ (e : Edge). (e.left < c.args.faces) × (e.right < c.args.faces))) c.in-Some.ensures.steps.0 c.loop-edge.invariant.sides) in (
      omega (arith, sides.1, c.loop-edge.invariant.lists, right),
      subst₂ IsCurrent (sym c.loop-edge.invariant.labels) (sym right)
          (first_current t c.args.keys c.args.faces c.in_ok-of.ensures.labels c.in_ok-of.ensures.same c.in-Some.edge.right sides.1),
    )

pub loop-edge-preserved : goal.loop-edge-preserved
loop-edge-preserved c =
    let e = c.in-Some.edge in
    let rest = c.next.new.self.rest.items in
    let now = labelled_edges c.loop-edge.table in
    let before = c.loop-edge.invariant in
    record {
      table = c.in_ok-put.ensures.table;
      putting = put_next c.args.edges now (labelled_edges c.put.new.self) rest e (subst (IsPutting c.args.edges now) c.in-Some.ensures.steps.0 before.putting)
          (subst (λ (f : Edge). IsPermutation (without_keys (f.key ∷ []) now ++ f ∷ []) (labelled_edges c.put.new.self)) c.in_ok-edge.ensures c.in_ok-put.ensures.moved);
      labels = c.put.ensures.labels ∙ before.labels;
      places = c.in_ok-put.ensures.room.places ∙ before.places;
      lists = c.in_ok-put.ensures.room.lists ∙ before.lists;
      below = All-tail (λ (e : Edge). e.key < c.args.keys) e rest (subst (All (λ (e : Edge). e.key < c.args.keys)) c.in-Some.ensures.steps.0 before.below);
      near = All-tail IsWithinLimits e rest (subst (All IsWithinLimits) c.in-Some.ensures.steps.0 before.near);
      sides = All-tail (λ (e : Edge). (e.left < c.args.faces) × (e.right < c.args.faces)) e rest
          (subst (All (λ (e : Edge). (e.left < c.args.faces) × (e.right < c.args.faces))) c.in-Some.ensures.steps.0 before.sides);
    }

pub returns-clause-edges : goal.returns-clause-edges
returns-clause-edges c =
    let table = c.loop-edge.table in
    let before = c.loop-edge.invariant in
    let none : c.loop-edge.edge-iterator.rest.items ≡ [] = none_left c.loop-edge.edge-iterator.rest.items (omega (arith, c.in-None.ensures.steps.0, c.loop-edge.edge-iterator.rest.ok.0)) in
    let moved : IsPermutation c.args.edges (labelled_edges table)
    = subst (IsPermutation c.args.edges) (ap (λ (es : List Edge). labelled_edges table ++ es) none ∙ append-nil (labelled_edges table)) before.putting.moved in
    let same = ascending_same (labelled_edges table) c.args.edges (ascending table.places.items before.table.keyed) c.requires.ascending (IsPermutation-sym c.args.edges (labelled_edges table) moved) in
    ap₂ (λ (u : FaceLabels) (es : List Edge). map (faced u) es) before.labels same
    ∙ first_faced c.in_ok-of.field-0 c.args.keys c.args.faces c.in_ok-of.ensures.labels c.in_ok-of.ensures.same c.args.edges c.requires.sides
