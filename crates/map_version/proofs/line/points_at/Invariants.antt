use Rattle.std.proofs.Common.{◌≡◌, ◌-◌}
use Rattle.tgap_model.specs.declared.limits.TheConstants.{MAX_COORDINATE}
use Rattle.line_forms.specs.ListingLines.{points_at}
use Rattle.plain_io.specs.Fronts.{with_front}
use Rattle.map_version.proofs.line.points_at.Given as goal

-- the points so far stand in front of those that are left
abbrev pub invariant-loop : goal.invariant-loop
invariant-loop l = with_front l.points (points_at MAX_COORDINATE (l.n - l.counter) l.words) ≡ points_at MAX_COORDINATE l.n l.fn.words
