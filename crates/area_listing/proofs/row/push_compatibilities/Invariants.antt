use Rattle.std.proofs.Common.{◌≡◌, ◌-◌}
use Rattle.tgap_model.specs.declared.limits.TheConstants.{MAX_COMPATIBILITY}
use Rattle.line_forms.specs.ListingLines.{naturals_at}
use Rattle.plain_io.specs.Fronts.{with_front}
use Rattle.area_listing.proofs.row.push_compatibilities.Given as goal

abbrev pub invariant-loop : goal.invariant-loop
invariant-loop l = with_front l.compat (naturals_at 0 MAX_COMPATIBILITY (l.n - l.counter) l.words) ≡ with_front l.fn.compat (naturals_at 0 MAX_COMPATIBILITY l.n l.fn.words)
