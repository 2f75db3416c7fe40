use Rattle.std.proofs.Common.{◌≡◌, ◌-◌}
use Rattle.map_forms.specs.Listing.{classes_at}
use Rattle.area_listing.proofs.Loops.{with_fronts}
use Rattle.area_listing.proofs.section.classes_at.Given as goal

abbrev pub invariant-loop-class : goal.invariant-loop-class
invariant-loop-class l = with_fronts l.weights l.compat (classes_at l.n l.class (l.n - l.class) l.lines) ≡ classes_at l.n 0 l.n l.fn.lines
