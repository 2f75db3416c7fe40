-- An arc alone, and a coordinate alone.
use Rattle.std.specs.Prelude.{ℕ, ℤ, neg_ℤ, Bool, List, nat_le, Option, Some, None, Result, Ok, if◌then◌else◌}
use Rattle.std.specs.Option.{ok_or}
use Rattle.serde_json.specs.Data.{Data}
use Rattle.tgap_model.specs.declared.geometry.Point.{Point}
use Rattle.tgap_model.specs.declared.fault.MapFault.{MapFault}
use Rattle.tgap_model.specs.declared.fault.MapFault.TheVariants.{Shape, ArcShort}
use Rattle.tgap_model.specs.declared.limits.TheConstants.{MAX_COORDINATE}
use Rattle.tgap_model.specs.Base.{within}
use Rattle.line_forms.specs.Lines.{◌>>=◌}
use Rattle.line_forms.specs.Json.{ensured, try_fold, items_of}
use Rattle.topology_forms.specs.Topology.{no_positions, position_read}

-- the points of arc number a
unfoldable pub arc_points : Bool → ℕ → Data → Result (List Point) MapFault
arc_points deltas a d = do
  positions ← ok_or (items_of d) (Shape 6 a)
  arc ← try_fold (position_read deltas a) no_positions positions
  long ← ensured (nat_le 2 arc.count) (ArcShort a)
  Ok arc.points

-- a coordinate within the limits
abbrev pub coordinate_of : ℤ → Option ℤ
coordinate_of z = if within (neg_ℤ MAX_COORDINATE) MAX_COORDINATE z then Some z else None
