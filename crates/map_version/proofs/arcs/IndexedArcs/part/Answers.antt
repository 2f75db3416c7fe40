use Rattle.std.proofs.Common.{◌≡◌, ◌∙◌, List, length, sym, ap, subst, arith}
use Rattle.tgap_model.specs.declared.base.BaseArc.{BaseArc}
use Rattle.arc_places.specs.Places.{listed}
use Rattle.arc_places.specs.Borders.{CoversFaces, bordering}
use Rattle.map_version.specs.Indexed.{AreIndexed}
use Rattle.map_version.specs.Labels.{passed_over}
use Rattle.map_version.proofs.Moves.{all_written}
use Rattle.map_version.proofs.Relisting.{passed_counted, passed_places}
use Rattle.map_version.proofs.arcs.IndexedArcs.part.Goals as goal

pub invariant_of-result : goal.invariant_of-result
invariant_of-result c =
    let slots = c.self.inside.slots.items in
    let new = c.args.new in
    let moved = c.args.moved.now in
    let there : c.pass_over.new.slots ≡ passed_over new moved slots = c.in_ok-pass_over.ensures.slots ∙ ap (passed_over new moved) c.deref_mut.ensures.value in
    let written = all_written slots c.pass_over.new.slots c.self.inside.slots.len
    (omega (arith, c.self.inside.slots.ok.0, c.pass_over.auto.slots, ap (length {A = BaseArc}) c.deref_mut.ensures.value)) (omega (arith, c.self.inside.slots.ok.0)) in
    subst (λ (xs : List BaseArc). AreIndexed xs c.self.inside.places c.pass_over.new.borders c.self.inside.counts) (sym (written ∙ there))
    (record {
      by_point = passed_places (listed c.self.inside.places) new moved slots c.self.invariant.by_point;
      by_face = subst (CoversFaces (bordering c.pass_over.new.borders)) there c.in_ok-pass_over.ensures.borders;
      counted = passed_counted new moved slots c.self.inside.counts c.self.invariant.counted;
    })
