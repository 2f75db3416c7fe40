-- The order of two segments on a vertical line.
use Rattle.std.specs.Prelude.{if◌then◌else◌}
use Rattle.std.specs.declared.cmp.Ordering.{Ordering}
use Rattle.std.specs.declared.cmp.Ordering.TheVariants.{Less, Equal, Greater}
use Rattle.tgap_model.specs.declared.geometry.Seg.{Seg}
use Rattle.tgap_model.specs.Segment.{Line, is_higher}

-- which of two segments is higher on a line that crosses both
abbrev pub order_on_line : Line → Seg → Seg → Ordering
order_on_line l s t = if is_higher l s t then Greater else (if is_higher l t s then Less else Equal)
