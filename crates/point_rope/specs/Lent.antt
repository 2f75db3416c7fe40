-- The points of an edge that is lent.
use Rattle.std.specs.Prelude.{List}
use Rattle.tgap_model.specs.declared.geometry.Point.{Point}
use Rattle.point_rope.specs.declared.edge_row.Row.{Row}
use Rattle.point_rope.specs.declared.edge_row.Row.TheVariants.{Points, Runs}

abbrev pub row_points : Row → List Point
row_points (Points points) = points.now
row_points (Runs rope) = rope.now
