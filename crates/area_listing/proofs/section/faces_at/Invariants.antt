use Rattle.std.proofs.Common.{◌≡◌, ◌+◌, ◌-◌}
use Rattle.map_forms.specs.Listing.{faces_at}
use Rattle.plain_io.specs.Fronts.{in_front}
use Rattle.area_listing.proofs.section.faces_at.Given as goal

abbrev pub invariant-loop-before : goal.invariant-loop-before
invariant-loop-before l = in_front l.all (faces_at l.classes (l.before + 1) (l.n - l.before) l.lines) ≡ faces_at l.classes 1 l.n l.fn.lines
