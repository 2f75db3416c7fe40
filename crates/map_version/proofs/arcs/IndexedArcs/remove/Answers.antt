use Rattle.std.proofs.Common.{◌<◌, ◌≤◌, ◌-◌, ◌∙◌, List, length, remove, sym, ap, subst, arith}
use Rattle.std.proofs.lemmas.List.Edits.{length-remove}
use Rattle.tgap_model.specs.declared.geometry.Point.{Point}
use Rattle.tgap_model.specs.declared.base.BaseArc.{BaseArc}
use Rattle.tgap_model.specs.Chains.{arc_number}
use Rattle.edit_laws.specs.Edits.{with_points}
use Rattle.arc_places.specs.Slots.{arcs_in, number_of}
use Rattle.arc_places.specs.Places.{listed}
use Rattle.arc_places.specs.Borders.{bordering}
use Rattle.map_version.specs.Indexed.{AreIndexed, Indexed, arcs_of}
use Rattle.map_version.specs.Positions.{changed_at}
use Rattle.map_version.proofs.Firsts.{written_is_changed}
use Rattle.map_version.proofs.Counting.{count_in, counted_changed, points_within}
use Rattle.map_version.proofs.InSlots.{changed_borders, changed_in, there}
use Rattle.map_version.proofs.Moves.{covers_removed}
use Rattle.map_version.proofs.arcs.IndexedArcs.remove.Goals as goal

pub overflow_sub-counts : goal.overflow_sub-counts
overflow_sub-counts c =
    let slots = c.self.inside.slots.items in
    let i = c.args.place.slot in
    let lt = subst (λ (x : Indexed). i < length x.slots) (sym c.self.view_is) c.requires.slot in
    let at = subst (λ (x : Indexed). c.args.place.at < length (arc_number x.slots i).points) (sym c.self.view_is) c.requires.at in
    let some = points_within slots i lt in
    let all = count_in slots in
    let points = c.self.invariant.counted.points_are in
    omega arith

pub invariant_of-result : goal.invariant_of-result
invariant_of-result c =
    let slots = c.self.inside.slots.items in
    let i = c.args.place.slot in
    let change = λ (points : List Point). remove points c.args.place.at in
    let counts = c.self.inside.counts in
    let lt = subst (λ (x : Indexed). i < length x.slots) (sym c.self.view_is) c.requires.slot in
    let at = subst (λ (x : Indexed). c.args.place.at < length (arc_number x.slots i).points) (sym c.self.view_is) c.requires.at in
    let two = subst (λ (x : Indexed). 2 ≤ length (arc_number x.slots i).points) (sym c.self.view_is) c.requires.some in
    let here = there (arc_number slots i) (omega arith) in
    let fewer = length-remove (arc_number slots i).points c.args.place.at at in
    let some = points_within slots i lt in
    let all = count_in slots in
    let points = c.self.invariant.counted.points_are in
    let written = written_is_changed i change slots c.index_mut.result.now c.remove_in.new.arc lt c.index_mut.ensures.value c.remove_in.ensures in
    subst (λ (xs : List BaseArc). AreIndexed xs c.self.inside.places c.self.inside.borders (record { arcs = counts.arcs; points = counts.points - 1 })) (sym written)
    (record {
      by_point = covers_removed (listed c.self.inside.places) i c.args.place.at slots c.self.invariant.by_point;
      by_face = changed_borders (bordering c.self.inside.borders) i change slots here c.self.invariant.by_face;
      counted = counted_changed slots i change counts (counts.points - 1) lt here (omega arith) (omega arith) c.self.invariant.counted;
    })

pub returns-clause-arcs : goal.returns-clause-arcs
returns-clause-arcs c =
    let slots = c.self.inside.slots.items in
    let i = c.args.place.slot in
    let change = λ (points : List Point). remove points c.args.place.at in
    let lt = subst (λ (x : Indexed). i < length x.slots) (sym c.self.view_is) c.requires.slot in
    let at = subst (λ (x : Indexed). c.args.place.at < length (arc_number x.slots i).points) (sym c.self.view_is) c.requires.at in
    let two = subst (λ (x : Indexed). 2 ≤ length (arc_number x.slots i).points) (sym c.self.view_is) c.requires.some in
    let fewer = length-remove (arc_number slots i).points c.args.place.at at in
    ap arcs_in (written_is_changed i change slots c.index_mut.result.now c.remove_in.new.arc lt c.index_mut.ensures.value c.remove_in.ensures)
    ∙ (changed_in slots i change lt (there (arc_number slots i) (omega arith)) (there (with_points (arc_number slots i) (change (arc_number slots i).points)) (omega arith))
    ∙ ap (λ (x : Indexed). changed_at (number_of x.slots i) change (arcs_of x)) c.self.view_is)
