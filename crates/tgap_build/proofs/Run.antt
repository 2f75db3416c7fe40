-- The edges that are kept after the removal of a step.
use Rattle.std.proofs.Common.{◌≡◌, ℕ, ◌+◌, Bool, true, List, length, sym, ap, ◌∙◌, subst}
use Rattle.tgap_model.specs.declared.slice.Removal.{Removal}
use Rattle.tgap_model.specs.Base.{BaseMap}
use Rattle.tgap_model.specs.History.{history_of}
use Rattle.tgap_model.specs.Merged.{merged, is_live}
use Rattle.tgap_model.specs.Chains.{chains_at}
use Rattle.tgap_model.specs.Removals.{edges_of}
use Rattle.edge_forest.specs.declared.edge.ForestEdge.{ForestEdge}
use Rattle.edge_forest.specs.declared.face_labels.FaceLabels.{FaceLabels}
use Rattle.edge_forest.specs.FaceLabels.{HasLabel}
use Rattle.edge_forest.specs.Forest.{EdgeForest, IsForest}
use Rattle.tgap_build.specs.declared.edge_table.EdgeTable.{EdgeTable}
use Rattle.tgap_build.specs.Running.{AreRunning}
use Rattle.tgap_build.specs.Table.{table_edges, IsTable, HaveSameRoom}

-- a forest in which vertices were removed
same_forest : (f g : EdgeForest) → IsForest f → g.base ≡ f.base → g.made ≡ f.made → g.closed ≡ f.closed → g.edges ≡ f.edges → IsForest g
same_forest f g w base made closed same = by g.base g.made g.closed g.edges base made closed same
  where
    by : (b : BaseMap) (n : ℕ) (c : Bool) (es : List ForestEdge) → b ≡ f.base → n ≡ f.made → c ≡ f.closed → es ≡ f.edges
        → IsForest (record { base = b; made = n; closed = c; edges = es; removed = g.removed })
    by b n c es eb en ec ee = rw (eb, en, ec, ee) (record {
      base = w.base;
      partition = w.partition;
      steps = w.steps;
      edges = w.edges;
      low = w.low;
      ranges = λ i l. let r = w.ranges i l in record { order = r.order; growing = r.growing; done = r.done; last = r.last };
      once = w.once;
      chains = w.chains;
    })

-- the same edges beside another forest of the map
pub running_on : (f g : EdgeForest) (k : ℕ) (removals : List Removal) (t : EdgeTable) → IsForest g → g.base ≡ f.base → AreRunning f k removals t → AreRunning g k removals t
running_on f g k removals t w base r = record {
  forest = w;
  table = r.table;
  edges = r.edges ∙ ap (λ (m : BaseMap). edges_of (merged m) k removals (chains_at (merged m) k)) (sym base);
  places = r.places ∙ ap (λ (m : BaseMap). length m.arcs) (sym base);
  lists = r.lists ∙ ap (λ (m : BaseMap). length m.classes + length (history_of m) + 1) (sym base);
  outside = r.outside;
  labels = λ face live. r.labels face (subst (λ (m : BaseMap). is_live (merged m) k face ≡ true) base live);
}

-- a table with the same labels and other points
pub running_table : (f : EdgeForest) (k : ℕ) (removals removals' : List Removal) (t t' : EdgeTable) → IsTable t' → t'.labels ≡ t.labels → HaveSameRoom t t'
    → table_edges t' ≡ edges_of (merged f.base) k removals' (chains_at (merged f.base) k) → AreRunning f k removals t → AreRunning f k removals' t'
running_table f k removals removals' t t' table labels room is r = record {
  forest = r.forest;
  table = table;
  edges = is;
  places = room.places ∙ r.places;
  lists = room.lists ∙ r.lists;
  outside = subst (λ (l : FaceLabels). HasLabel l 0) (sym labels) r.outside;
  labels = λ face live. subst (λ (l : FaceLabels). HasLabel l face) (sym labels) (r.labels face live);
}

-- vertices were taken out of the forest and of the table
pub running_less : (f g : EdgeForest) (k : ℕ) (removals removals' : List Removal) (t t' : EdgeTable) → IsForest f → g.base ≡ f.base → g.made ≡ f.made → g.closed ≡ f.closed → g.edges ≡ f.edges
    → IsTable t' → t'.labels ≡ t.labels → HaveSameRoom t t' → table_edges t' ≡ edges_of (merged f.base) k removals' (chains_at (merged f.base) k)
    → AreRunning f k removals t → AreRunning g k removals' t'
running_less f g k removals removals' t t' w base made closed same table labels room is r =
    running_on f g k removals' t' (same_forest f g w base made closed same) base (running_table f k removals removals' t t' table labels room is r)
