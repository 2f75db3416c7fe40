use Rattle.std.proofs.Common.{◌≡◌, ◌-◌, ◌≤◌}
use Rattle.tgap_model.specs.declared.limits.TheConstants.{MAX_POINTS}
use Rattle.map_forms.specs.Listing.{arcs_at}
use Rattle.plain_io.specs.Fronts.{in_front}
use Rattle.area_listing.proofs.section.arcs_at.Given as goal

abbrev pub invariant-loop : goal.invariant-loop
invariant-loop l = record {
  read : in_front l.arcs (arcs_at l.version l.faces l.points (l.n - l.counter) l.lines) ≡ arcs_at l.version l.faces 0 l.n l.fn.lines;
  few : l.points ≤ MAX_POINTS;
}
