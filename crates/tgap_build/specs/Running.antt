-- The edges of the last step, which are kept while the history is run.
use Rattle.std.specs.Prelude.{◌≡◌, ℕ, ◌+◌, Bool, true, not, List, filter, length}
use Rattle.std.specs.List.{list_any}
use Rattle.tgap_model.specs.declared.geometry.Point.{Point}
use Rattle.tgap_model.specs.declared.merge.MergeStep.{MergeStep}
use Rattle.tgap_model.specs.declared.slice.Edge.{Edge}
use Rattle.tgap_model.specs.declared.slice.Removal.{Removal}
use Rattle.tgap_model.specs.Base.{same_point}
use Rattle.tgap_model.specs.History.{relabel}
use Rattle.tgap_model.specs.Merged.{merged, is_live}
use Rattle.tgap_model.specs.Chains.{chains_at}
use Rattle.tgap_model.specs.Removals.{edges_of}
use Rattle.edge_forest.specs.FaceLabels.{HasLabel}
use Rattle.edge_forest.specs.Forest.{EdgeForest, IsForest, last_step}
use Rattle.tgap_build.specs.declared.edge_table.EdgeTable.{EdgeTable}
use Rattle.tgap_build.specs.Table.{table_edges, IsTable}

-- ---- the list

-- The edges of the table are those after k steps, less the listed vertices, and each face that is live then, and the outside, has its
-- label. The table has a place for each arc, and a list for each face of the history.
pub record AreRunning (f : EdgeForest) (k : ℕ) (removals : List Removal) (t : EdgeTable) : Type 0 where
  pub forest : IsForest f
  pub table : IsTable t
  pub edges : table_edges t ≡ edges_of (merged f.base) k removals (chains_at (merged f.base) k)
  pub places : length t.places.items ≡ length f.base.arcs
  pub lists : length t.beside.items ≡ length f.base.classes + last_step f + 1
  pub outside : HasLabel t.labels 0
  pub labels : (g : ℕ) → is_live (merged f.base) k g ≡ true → HasLabel t.labels g

-- ---- a step

-- the edge with its faces after the step
abbrev pub relabelled : MergeStep → Edge → Edge
relabelled s e = record { key = e.key; left = relabel s e.left; right = relabel s e.right; points = e.points }

-- ---- the removal

-- the point is one of these
abbrev pub has_point : List Point → Point → Bool
has_point points p = list_any (λ q. same_point q p) points

-- the edge less these points
abbrev pub less : List Point → Edge → Edge
less gone e = record { key = e.key; left = e.left; right = e.right; points = filter (λ p. not (has_point gone p)) e.points }

-- the edge has one of these points
abbrev pub has_any : List Point → Edge → Bool
has_any gone e = list_any (has_point gone) e.points
