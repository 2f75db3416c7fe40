use Rattle.std.proofs.Common.{◌≡◌, length}
use Rattle.arc_places.proofs.borders.Borders.empty.Given as goal

-- so many faces have a row
abbrev pub invariant-loop : goal.invariant-loop
invariant-loop l = length l.arcs.items ≡ l.counter
