use Rattle.std.proofs.Common.{◌≡◌, ◌-◌}
use Rattle.line_forms.specs.ListingLines.{points_at}
use Rattle.map_forms.specs.Version.{coordinate_of}
use Rattle.plain_io.specs.Fronts.{with_front}
use Rattle.area_listing.proofs.row.points_at.Given as goal

abbrev pub invariant-loop : goal.invariant-loop
invariant-loop l = with_front l.points (points_at (coordinate_of l.version) (l.n - l.counter) l.words) ≡ points_at (coordinate_of l.version) l.n l.fn.words
