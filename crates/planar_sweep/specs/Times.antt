-- When a segment is in the row of the sweep. A time is four times an abscissa and one of four: at an abscissa the upright segments come
-- in (0), those that end there leave and those that begin there come in (2), and the upright ones leave (3).
use Rattle.std.specs.Prelude.{ℤ, pos, ◌+ℤ◌, ◌*ℤ◌, ◌<ℤ◌, ◌≤ℤ◌, if◌then◌else◌}
use Rattle.tgap_model.specs.declared.geometry.Seg.{Seg}
use Rattle.planar_sweep.specs.Over.{is_slanted}

-- the times at which a forward segment comes in and leaves
abbrev pub time_in : Seg → ℤ
time_in s = if is_slanted s then pos 4 *ℤ s.a.x +ℤ pos 2 else pos 4 *ℤ s.a.x

abbrev pub time_out : Seg → ℤ
time_out s = if is_slanted s then pos 4 *ℤ s.b.x +ℤ pos 2 else pos 4 *ℤ s.b.x +ℤ pos 3

-- it is in the row at this time
abbrev pub IsInRow : ℤ → Seg → Type 0
IsInRow time s = (time_in s ≤ℤ time) × (time <ℤ time_out s)
