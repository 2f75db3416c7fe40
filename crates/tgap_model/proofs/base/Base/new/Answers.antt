use Rattle.std.proofs.Common.{◌≡◌, None, true, false, if◌then◌else◌, Some, length, sym, ◌∙◌}
use Rattle.tgap_model.specs.Base.{BaseMap, all_faces_bordered}
use Rattle.tgap_model.specs.Parts.{are_parts}
use Rattle.tgap_model.proofs.Parts.{checked-not_parts, checked-not_bordered, is_base-bordered, is_base-again, checked-again, parts-unmarked, parts-arcs}
use Rattle.tgap_model.proofs.base.Base.new.Goals as goal

pub returns-then-not-are_parts : goal.returns-then-not-are_parts
returns-then-not-are_parts c =
    let m : BaseMap = record { transform = c.args.transform; rules = c.args.rules; classes = c.args.classes; arcs = c.args.arcs } in
    let no_parts : are_parts m.rules m.classes m.arcs ≡ false = cc in
    checked-not_parts m c.read_transform-transform.ensures.words no_parts

pub with_borders-requires-clause-classes : goal.with_borders-requires-clause-classes
with_borders-requires-clause-classes c =
    let parts : are_parts c.args.rules c.args.classes c.args.arcs ≡ true = cc in
    parts-unmarked c.args.rules c.args.classes c.args.arcs parts

pub with_borders-requires-clause-arcs : goal.with_borders-requires-clause-arcs
with_borders-requires-clause-arcs c =
    let parts : are_parts c.args.rules c.args.classes c.as_slice-3.result.now ≡ true = cc in
    parts-arcs c.args.rules c.args.classes c.as_slice-3.result.now parts

pub returns-in_err-classes : goal.returns-in_err-classes
returns-in_err-classes c =
    let m : BaseMap = record { transform = c.args.transform; rules = c.args.rules; classes = c.args.classes; arcs = c.args.arcs } in
    let none : None ≡ (if all_faces_bordered (length m.classes) m.arcs then Some m.classes else None) = sym c.in_err-classes.was ∙ rw c.as_slice-3.ensures at c.with_borders.ensures in
    let h = checked-not_bordered m c.read_transform-transform.ensures.words none in
    cc

pub invariant_of-result : goal.invariant_of-result
invariant_of-result c =
    let m : BaseMap = record { transform = c.args.transform; rules = c.args.rules; classes = c.args.classes; arcs = c.args.arcs } in
    let parts : are_parts m.rules m.classes m.arcs ≡ true = cc in
    let some = rw c.as_slice-3.ensures at c.in_ok-classes.ensures in
    let h = is_base-again m c.in_ok-classes.classes (is_base-bordered m c.in_ok-classes.classes c.read_transform-transform.ensures.words parts some) in
    rw c.of.ensures (rw c.read_transform-transform.ensures.same h)

pub returns : goal.returns
returns c =
    let m : BaseMap = record { transform = c.args.transform; rules = c.args.rules; classes = c.args.classes; arcs = c.args.arcs } in
    let parts : are_parts m.rules m.classes m.arcs ≡ true = cc in
    let some = rw c.as_slice-3.ensures at c.in_ok-classes.ensures in
    rw c.of.ensures (rw c.read_transform-transform.ensures.same (checked-again m c.in_ok-classes.classes (is_base-bordered m c.in_ok-classes.classes c.read_transform-transform.ensures.words parts some)))
