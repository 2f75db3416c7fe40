-- the triangle is clear of all chunks where it is clear of those that are left
use Rattle.std.proofs.Common.{◌≡◌, drop}
use Rattle.std.specs.List.{list_all}
use Rattle.tgap_model.specs.Clear.{is_clear}
use Rattle.vertex_drop.specs.Chunks.{joined}
use Rattle.vertex_drop.proofs.chunk.are_chunks_clear.Given as goal

abbrev pub invariant-loop-chunk : goal.invariant-loop-chunk
invariant-loop-chunk l = list_all (is_clear l.t.a l.t.b l.t.c) (joined (drop l.chunk-index l.chunks)) ≡ list_all (is_clear l.t.a l.t.b l.t.c) (joined l.chunks)
