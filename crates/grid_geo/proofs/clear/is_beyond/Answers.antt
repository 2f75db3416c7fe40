use Rattle.std.proofs.Common.{◌∙◌}
use Rattle.std.specs.Int.{w8}
use Rattle.std.proofs.lemmas.Int.{to_z-of_z}
use Rattle.grid_geo.proofs.Triangles.{first_and, second_and}
use Rattle.grid_geo.proofs.clear.is_beyond.Goals as goal

pub returns-then-lies_away : goal.returns-then-lies_away
returns-then-lies_away c w e =
    let inner = to_z-of_z w8 c.args.inner c.ranges.inner ∙ e in
    second_and (c.lies_away.ensures w inner) c.if-lies_away.true (c.lies_away-then-lies_away.ensures w inner)

pub returns-else-lies_away : goal.returns-else-lies_away
returns-else-lies_away c w e =
    let inner = to_z-of_z w8 c.args.inner c.ranges.inner ∙ e in
    first_and _ (c.lies_away.ensures w inner) c.if-lies_away.false
