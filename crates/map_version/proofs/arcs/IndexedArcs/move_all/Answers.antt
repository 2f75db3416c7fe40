use Rattle.std.proofs.Common.{◌≡◌, ◌∙◌, false, List, length, sym, ap, subst, arith}
use Rattle.tgap_model.specs.declared.base.BaseArc.{BaseArc}
use Rattle.edit_laws.specs.Edits.{has_point, move_all}
use Rattle.arc_places.specs.Slots.{arcs_in}
use Rattle.arc_places.specs.Places.{listed}
use Rattle.arc_places.specs.Borders.{bordering}
use Rattle.map_version.specs.Indexed.{AreIndexed, Indexed, arcs_of}
use Rattle.map_version.proofs.Counting.{counted_moved}
use Rattle.map_version.proofs.InSlots.{has_in, move_in, moved_borders}
use Rattle.map_version.proofs.Moves.{points_apart, covers_moved, all_written}
use Rattle.map_version.proofs.arcs.IndexedArcs.move_all.Goals as goal

pub move_listed-requires-clause-apart : goal.move_listed-requires-clause-apart
move_listed-requires-clause-apart c = points_apart c.args.old.now c.args.new (arcs_of c.args.self) c.requires.there c.requires.free

pub invariant_of-result : goal.invariant_of-result
invariant_of-result c =
    let old = c.args.old.now in
    let new = c.args.new in
    let slots = c.self.inside.slots.items in
    let moved_there : c.move_listed.new.arcs ≡ move_all old new slots = c.move_listed.ensures ∙ ap (move_all old new) c.deref_mut.ensures.value in
    let written = all_written slots c.move_listed.new.arcs c.self.inside.slots.len
    (omega (arith, c.self.inside.slots.ok.0, c.move_listed.auto.arcs, ap (length {A = BaseArc}) c.deref_mut.ensures.value)) (omega (arith, c.self.inside.slots.ok.0)) in
    let free : has_point new slots ≡ false = sym (has_in new slots) ∙ (ap (λ (x : Indexed). has_point new (arcs_of x)) c.self.view_is ∙ c.requires.free) in
    subst (λ (xs : List BaseArc). AreIndexed xs c.pass.new.self c.self.inside.borders c.self.inside.counts) (sym (written ∙ moved_there))
    (record {
      by_point = covers_moved (listed c.self.inside.places) (listed c.pass.new.self) old new slots c.self.invariant.by_point
          (points_apart old new (arcs_of c.args.self) c.requires.there c.requires.free) free c.in_ok-pass.ensures;
      by_face = moved_borders (bordering c.self.inside.borders) old new slots c.self.invariant.by_face;
      counted = counted_moved old new slots c.self.inside.counts c.self.invariant.counted;
    })

pub returns-clause-arcs : goal.returns-clause-arcs
returns-clause-arcs c =
    let old = c.args.old.now in
    let new = c.args.new in
    let slots = c.self.inside.slots.items in
    let moved_there : c.move_listed.new.arcs ≡ move_all old new slots = c.move_listed.ensures ∙ ap (move_all old new) c.deref_mut.ensures.value in
    let written = all_written slots c.move_listed.new.arcs c.self.inside.slots.len
    (omega (arith, c.self.inside.slots.ok.0, c.move_listed.auto.arcs, ap (length {A = BaseArc}) c.deref_mut.ensures.value)) (omega (arith, c.self.inside.slots.ok.0)) in
    ap arcs_in (written ∙ moved_there) ∙ (move_in old new slots ∙ ap (λ (x : Indexed). move_all old new (arcs_of x)) c.self.view_is)
