-- the triangle is clear of all segments where it is clear of those that are left
use Rattle.std.proofs.Common.{◌≡◌, ◌-◌, drop}
use Rattle.std.specs.List.{list_all}
use Rattle.tgap_model.specs.Clear.{is_clear}
use Rattle.tgap_model.specs.Removals.{path}
use Rattle.vertex_drop.proofs.triangle.is_path_clear.Given as goal

abbrev pub invariant-loop-i : goal.invariant-loop-i
invariant-loop-i l = list_all (is_clear l.t.a l.t.b l.t.c) (path (drop (l.i - 1) l.points)) ≡ list_all (is_clear l.t.a l.t.b l.t.c) (path l.points)
