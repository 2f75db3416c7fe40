use Rattle.std.proofs.Common.{◌≡◌, ◌∙◌, sym, ap, to_z, of_z, arith}
use Rattle.std.specs.Int.{w64}
use Rattle.std.proofs.lemmas.Int.{ints}
use Rattle.topology_forms.specs.Rings.{start_named}
use Rattle.ring_sides.specs.Arcs.{are_at}
use Rattle.ring_sides.proofs.RingLoops.{collapsed_from}
use Rattle.ring_sides.proofs.arcs.Arcs.is_collapsed.Goals as goal

pub returns-in-Some : goal.returns-in-Some
returns-in-Some c =
    let i = c.in-Some.first.now in
    let arcs = c.args.self.now in
    let ring = c.args.ring.now in
    let same : to_z w64 (of_z w64 i) ≡ i = omega (arith, ints) in
    let at : c.start.result ≡ start_named arcs i = c.start.ensures ∙ ap (start_named arcs) same in
    c.are_at.ensures ∙ ap (are_at arcs ring) at ∙ sym (collapsed_from arcs ring i (sym c.in-Some.ensures.value))
