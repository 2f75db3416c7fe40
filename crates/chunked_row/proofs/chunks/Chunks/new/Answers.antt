use Rattle.std.proofs.Common.{◌∙◌, ap, sym}
use Rattle.chunked_row.specs.Chunks.{starts_from}
use Rattle.chunked_row.proofs.chunks.Chunks.new.Goals as goal

pub invariant_of-result : goal.invariant_of-result
unfolding starts_from
invariant_of-result c = c.new-2.ensures.items ∙ sym (ap (starts_from 0) c.new.ensures.items)
