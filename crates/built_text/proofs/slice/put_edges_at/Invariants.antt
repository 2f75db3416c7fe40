use Rattle.std.proofs.Common.{◌≡◌, ◌++◌, List, map, take}
use Rattle.tgap_model.specs.declared.slice.Removal.{Removal}
use Rattle.tgap_model.specs.Merged.{merged}
use Rattle.tgap_model.specs.Removals.{edges_of}
use Rattle.line_forms.specs.Texts.{lines}
use Rattle.wire_text.specs.SliceTexts.{edge_words}
use Rattle.edge_forest.specs.Edges.{chain_of}
use Rattle.tgap_build.specs.Built.{AreGone}
use Rattle.built_text.proofs.slice.put_edges_at.Given as goal

-- the lines of the edges so far
abbrev pub invariant-loop-id : goal.invariant-loop-id
invariant-loop-id l = (removals : List Removal) → AreGone l.forest l.k removals
    → l.out ≡ l.fn.out ++ lines (map edge_words (edges_of (merged l.forest.base) l.k removals (map (chain_of l.forest.edges) (take l.id-index l.ids))))
