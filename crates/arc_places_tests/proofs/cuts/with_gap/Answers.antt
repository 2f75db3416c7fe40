use Rattle.std.proofs.Common.{◌∙◌, List, length, nat_lt, ap}
use Rattle.tgap_model.specs.declared.geometry.Point.{Point}
use Rattle.arc_places.specs.Slots.{arcs_in}
use Rattle.arc_places_tests.proofs.Gaps.{gap_in}
use Rattle.arc_places_tests.proofs.cuts.with_gap.Goals as goal

pub returns-clause-arcs : goal.returns-clause-arcs
returns-clause-arcs c =
    ap arcs_in c.in_ok-insert.ensures.items
    ∙ gap_in c.args.slots.items c.min-place.result (record { left = 0; right = 0; points = c.new.result }) (ap (λ (points : List Point). nat_lt 0 (length points)) c.new.ensures)
