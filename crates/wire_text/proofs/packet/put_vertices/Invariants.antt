use Rattle.std.proofs.Common.{◌≡◌, ◌++◌, map, take}
use Rattle.line_forms.specs.Texts.{lines}
use Rattle.wire_text.specs.SliceTexts.{put_words}
use Rattle.wire_text.proofs.packet.put_vertices.Given as goal

-- the lines of the vertices so far
abbrev pub invariant-loop-put : goal.invariant-loop-put
invariant-loop-put l = l.out ≡ l.fn.out ++ lines (map put_words (take l.put-index l.puts))
