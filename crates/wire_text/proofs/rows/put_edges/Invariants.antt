use Rattle.std.proofs.Common.{◌≡◌, ◌++◌, map, take}
use Rattle.line_forms.specs.Texts.{lines}
use Rattle.wire_text.specs.SliceTexts.{edge_words}
use Rattle.wire_text.proofs.rows.put_edges.Given as goal

-- the lines of the edges so far
abbrev pub invariant-loop-edge : goal.invariant-loop-edge
invariant-loop-edge l = l.out ≡ l.fn.out ++ lines (map edge_words (take l.edge-index l.edges))
