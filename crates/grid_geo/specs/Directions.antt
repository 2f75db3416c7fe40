-- The order of two directions round a node.
use Rattle.std.specs.Prelude.{if◌then◌else◌}
use Rattle.std.specs.declared.cmp.Ordering.{Ordering}
use Rattle.std.specs.declared.cmp.Ordering.TheVariants.{Less, Equal, Greater}
use Rattle.tgap_model.specs.declared.geometry.Point.{Point}
use Rattle.tgap_model.specs.Segment.{turns_before}

-- which of the directions from o to p and from o to q comes first
abbrev pub order_round : Point → Point → Point → Ordering
order_round o p q = if turns_before o p q then Less else (if turns_before o q p then Greater else Equal)
