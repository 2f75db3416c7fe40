use Rattle.std.proofs.Common.{◌≡◌, ◌++◌, map, take, length, codes}
use Rattle.line_forms.specs.Texts.{line, lines}
use Rattle.map_forms.specs.Listing.{count_words, arc_words}
use Rattle.area_listing.proofs.write.put_arcs.Given as goal

-- the line of their number, and the lines of the arcs so far
abbrev pub invariant-loop-arc : goal.invariant-loop-arc
invariant-loop-arc l = l.out ≡ l.fn.out ++ line (count_words (codes "arcs") (length l.arcs)) ++ lines (map arc_words (take l.arc-index l.arcs))
