-- When two segments that share an end meet nowhere else.
use Rattle.std.specs.Prelude.{Bool, ◌&&◌, ◌||◌, not, pos}
use Rattle.std.specs.Ordering.{int_eq}
use Rattle.tgap_model.specs.declared.geometry.Point.{Point}
use Rattle.tgap_model.specs.declared.geometry.Seg.{Seg}
use Rattle.tgap_model.specs.declared.geometry.Shared.{Shared}
use Rattle.tgap_model.specs.Point.{side}

-- the point is not on the line of the segment
abbrev pub leaves_line : Seg → Point → Bool
leaves_line s w = not (int_eq (side s.a s.b w) (pos 0))

-- they share an end, and the other end of the second is not on the line of the first
abbrev pub parts_at_end : Seg → Seg → Shared → Bool
parts_at_end s t shared = ((shared.aa || shared.ba) && leaves_line s t.b) || ((shared.ab || shared.bb) && leaves_line s t.a)
