use Rattle.std.proofs.Common.{◌∙◌, ◌==◌, map, get_or, sym, ap, eqb-true, rules, arith}
use Rattle.std.specs.Ordering.{is_lt, nat_cmp}
use Rattle.std.proofs.lemmas.List.{get_or_default}
use Rattle.ring_walk.specs.declared.side.Way.TheVariants.{Along}
use Rattle.std.proofs.lemmas.List.Sorted.{IsPartitionPoint-from_clause}
use Rattle.std.proofs.lemmas.Cmp.{nat_cmp_total}
use Rattle.face_cuts.specs.declared.face_sides.FaceSide.{FaceSide}
use Rattle.face_cuts.proofs.Cases.{not_held}
use Rattle.face_cuts.proofs.SortedRows.{none_after, none_before, parted_by_key, number_ties}
use Rattle.face_cuts.proofs.face_sides.sides_of_face.Goals as goal

abbrev none : FaceSide
none = record { face = 0; side = record { span = 0; way = Along } }

pub loop-place-init : goal.loop-place-init
loop-place-init c =
    let rows = c.args.rows.now in
    let key = λ (r : FaceSide). r.face in
    let at = λ (r : FaceSide). r.face == c.args.face in
    let first = c.partition_point-first.result in
    let part = IsPartitionPoint-from_clause (λ (r : FaceSide). is_lt (nat_cmp r.face c.args.face)) rows first c.partition_point-first.ensures.partitioned
    (parted_by_key key nat_cmp nat_cmp_total rows c.requires c.args.face) (λ a r f' q. search rules) in
    record {
      reached = omega arith;
      found = c.new-found.ensures.items ∙ ap (map (λ (row : FaceSide). row.side)) (sym (none_before key nat_cmp nat_cmp_total rows c.requires c.args.face at (λ r. number_ties r.face c.args.face) first part));
    }

pub returns-then-rows-place : goal.returns-then-rows-place
returns-then-rows-place c =
    let rows = c.args.rows.now in
    let key = λ (r : FaceSide). r.face in
    let at = λ (r : FaceSide). r.face == c.args.face in
    let first = c.partition_point-first.result in
    let part = IsPartitionPoint-from_clause (λ (r : FaceSide). is_lt (nat_cmp r.face c.args.face)) rows first c.partition_point-first.ensures.partitioned
    (parted_by_key key nat_cmp nat_cmp_total rows c.requires c.args.face) (λ a r f' q. search rules) in
    let i = c.loop-place.place in
    let r = get_or rows i none in
    c.loop-place.invariant.found
    ∙ ap (map (λ (row : FaceSide). row.side)) (none_after key nat_cmp nat_cmp_total rows c.requires c.args.face at (λ r. number_ties r.face c.args.face) first part i r c.loop-place.invariant.reached c.loop-place-test.true
    (get_or_default rows i none r c.loop-place-test.true) (not_held (r.face == c.args.face) (λ e. c.if-rows-place.true (eqb-true r.face c.args.face e))))
