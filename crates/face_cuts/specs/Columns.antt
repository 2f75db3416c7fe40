-- Segments that are looked up by their abscissas.
use Rattle.std.specs.Prelude.{◌≡◌, pos, List, map, All}
use Rattle.std.specs.Int.{int_min, int_max}
use Rattle.tgap_model.specs.declared.geometry.Seg.{Seg}
use Rattle.tgap_model.specs.declared.geometry.Window.{Window}
use Rattle.tgap_model.specs.Bounds.{HasNearEnds}
use Rattle.face_cuts.specs.declared.columns.Columns.{Columns}

-- the abscissas of a segment as a box: each ordinate is 0
abbrev pub span_box : Seg → Window
span_box s = record { x0 = int_min s.a.x s.b.x; y0 = pos 0; x1 = int_max s.a.x s.b.x; y1 = pos 0 }

-- the least abscissa of a segment, in the same way
abbrev pub line_box : Seg → Window
line_box s = record { x0 = int_min s.a.x s.b.x; y0 = pos 0; x1 = int_min s.a.x s.b.x; y1 = pos 0 }

-- segments within the limits of a map, with their boxes
pub record AreColumns (segments : List Seg) (columns : Columns) : Type 0 where
  pub held : columns.segments ≡ segments
  pub boxes : columns.boxes ≡ map span_box segments
  pub near : All HasNearEnds segments
