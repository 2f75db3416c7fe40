use Rattle.std.proofs.Common.{length, ap, ◌∙◌, arith}
use Rattle.chunked_row.specs.Chunks.{starts_from}
use Rattle.chunked_row.proofs.Places.{starts_size, start_at}
use Rattle.chunked_row.proofs.chunks.Chunks.start.Goals as goal

pub index-requires : goal.index-requires
index-requires c = omega (arith, c.self.inside.starts.ok.0, starts_size c.self.inside.starts.items c.self.inside.chunks.items c.self.invariant, ap length c.self.view_is, c.requires)

pub returns : goal.returns
returns c = c.index.ensures ∙ start_at c.self.inside.starts.items c.args.self.now c.args.chunk c.index.result.now (c.self.invariant ∙ ap (starts_from 0) c.self.view_is) c.requires
