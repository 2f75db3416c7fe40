-- The place of the two classes is within the table.
use Rattle.std.proofs.Common.{ap, arith, length}
use Rattle.face_merge.proofs.Start.{place_within}
use Rattle.face_merge.proofs.merging.compatibility.Goals as goal

pub overflow_mul-row : goal.overflow_mul-row
overflow_mul-row c =
    let inside = place_within c.args.rules.now c.len.result c.args.class c.args.other c.requires.rules c.len.ensures (omega (arith, c.requires.class, c.len.ensures)) (omega (arith, c.requires.other, c.len.ensures)) in
    omega (arith, inside)

pub overflow_add-result : goal.overflow_add-result
overflow_add-result c =
    let inside = place_within c.args.rules.now c.len.result c.args.class c.args.other c.requires.rules c.len.ensures (omega (arith, c.requires.class, c.len.ensures)) (omega (arith, c.requires.other, c.len.ensures)) in
    omega (arith, inside)

pub offset_bounds-as_slice-row : goal.offset_bounds-as_slice-row
offset_bounds-as_slice-row c =
    let inside = place_within c.args.rules.now c.len.result c.args.class c.args.other c.requires.rules c.len.ensures (omega (arith, c.requires.class, c.len.ensures)) (omega (arith, c.requires.other, c.len.ensures)) in
    omega (arith, inside)

pub bounds-as_slice-row : goal.bounds-as_slice-row
bounds-as_slice-row c =
    let inside = place_within c.args.rules.now c.len.result c.args.class c.args.other c.requires.rules c.len.ensures (omega (arith, c.requires.class, c.len.ensures)) (omega (arith, c.requires.other, c.len.ensures)) in
    omega (arith, inside, ap length c.as_slice.ensures)
