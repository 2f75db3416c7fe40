use Rattle.std.proofs.Common.{sym, ap, ◌∙◌, length}
use Rattle.point_rope.specs.Runs.{joined, starts_from}
use Rattle.point_rope.proofs.Places.{no_starts}
use Rattle.point_rope.proofs.runs.Runs.new.Goals as goal

pub invariant_of-result : goal.invariant_of-result
invariant_of-result c = record {
  begin = c.new-2.ensures.items ∙ sym (ap (starts_from 0) c.new.ensures.items ∙ no_starts);
  counted = sym (ap (λ runs. length (joined runs)) c.new.ensures.items);
}
