-- The step is one of the history, and what its keys leave is what is stored after it.
use Rattle.std.proofs.Common.{◌≡◌, ◌≤◌, ◌*◌, [], length, count_by, sym, ap, subst}
use Rattle.std.specs.Vec.{vec_capacity}
use Rattle.edge_forest.specs.declared.face_labels.Sides.{Sides}
use Rattle.edge_forest.specs.Settle.{is_ending}
use Rattle.edge_forest.specs.FaceLabels.{label_of}
use Rattle.edge_forest.proofs.Continued.{ended_continued}
use Rattle.edge_forest.proofs.Settled.{step_small, sides_known, sides_differ, sides_listed, made_within, settled, stored}
use Rattle.edge_forest.proofs.settle.settle.Goals as goal

pub sides-sides-requires-clause-loser : goal.sides-sides-requires-clause-loser
sides-sides-requires-clause-loser c =
    (sides_known c.args.growth.now c.args.low c.args.step.now c.requires.step.0 c.requires.step.1 c.requires.next c.requires.rest).0.face

pub sides-sides-requires-clause-winner : goal.sides-sides-requires-clause-winner
sides-sides-requires-clause-winner c =
    (sides_known c.args.growth.now c.args.low c.args.step.now c.requires.step.0 c.requires.step.1 c.requires.next c.requires.rest).1.face

pub settle_keys-requires-clause-low : goal.settle_keys-requires-clause-low
settle_keys-requires-clause-low c = step_small c.args.growth.now c.args.low c.args.step.now c.requires.step.0 c.requires.step.1 c.requires.next c.requires.rest

pub settle_keys-requires-clause-apart : goal.settle_keys-requires-clause-apart
settle_keys-requires-clause-apart c =
    rw c.sides-sides.ensures (sides_differ c.args.growth.now c.args.low c.args.step.now c.requires.step.0 c.requires.step.1 c.requires.next c.requires.rest)

pub settle_keys-requires-clause-room : goal.settle_keys-requires-clause-room
settle_keys-requires-clause-room c =
    subst (λ (sides : Sides). (c.args.touched.now.items ≡ [])
    × (2 * count_by (is_ending sides c.args.growth.now.net.rows.items) c.args.keys.now ≤ vec_capacity c.args.touched.now)) (sym c.sides-sides.ensures) c.requires.room

pub merge-requires-clause-winner : goal.merge-requires-clause-winner
merge-requires-clause-winner c =
    rw c.settle_keys.ensures.labels (sides_known c.args.growth.now c.args.low c.args.step.now c.requires.step.0 c.requires.step.1 c.requires.next c.requires.rest).1

pub merge-requires-clause-made : goal.merge-requires-clause-made
merge-requires-clause-made c =
    rw c.settle_keys.ensures.labels (made_within c.args.growth.now c.args.low c.args.step.now c.requires.step.0 c.requires.step.1 c.requires.next c.requires.rest)

pub drop_keys-requires : goal.drop_keys-requires
drop_keys-requires c =
    rw (c.settle_keys.ensures.keys, c.sides-sides.ensures)
    (sides_listed c.args.growth.now c.args.low c.args.step.now c.requires.step.0 c.requires.step.1 c.requires.next c.requires.rest).0

pub returns-clause-settled : goal.returns-clause-settled
returns-clause-settled c =
    let after = c.settle_keys.ensures in
    settled c.args.growth.now c.args.low c.args.step.now c.requires.step.0 c.requires.step.1 c.requires.next c.requires.rest c.args.keys.now c.requires.keys c.requires.listed
    _ after.base after.nodes c.settle_keys.new.touched.items (rw c.sides-sides.ensures at after.settling)

pub returns-clause-stored : goal.returns-clause-stored
returns-clause-stored c =
    let after = c.settle_keys.ensures in
    let merged = c.merge.ensures in
    let known = sides_known c.args.growth.now c.args.low c.args.step.now c.requires.step.0 c.requires.step.1 c.requires.next c.requires.rest in
    let differ = sides_differ c.args.growth.now c.args.low c.args.step.now c.requires.step.0 c.requires.step.1 c.requires.next c.requires.rest in
    stored c.args.growth.now c.args.low c.args.step.now c.requires.step.0 c.requires.step.1 c.requires.next c.requires.rest c.args.keys.now c.requires.keys c.requires.listed
    (record c.settle_keys.new.growth { labels = c.merge.new.self; keys = c.drop_keys.new.lists }) after.base after.nodes c.settle_keys.new.touched.items
    (rw c.sides-sides.ensures at after.settling) after.net (rw after.labels at merged.faces) (rw after.labels at merged.labels)
    ((rw after.labels at merged.follow) known.0 (λ e. differ (ap (label_of c.args.growth.now.labels) (sym e))))
    (rw (after.keys, c.sides-sides.ensures) at c.drop_keys.ensures)

pub returns-clause-continued : goal.returns-clause-continued
returns-clause-continued c =
    let after = c.settle_keys.ensures.settling in
    ended_continued c.args.low (step_small c.args.growth.now c.args.low c.args.step.now c.requires.step.0 c.requires.step.1 c.requires.next c.requires.rest)
    c.args.growth.now.edges.items c.settle_keys.new.growth.edges.items after.edge_count after.edges

pub returns-clause-count : goal.returns-clause-count
returns-clause-count c =
    subst (λ (sides : Sides). length c.settle_keys.new.touched.items ≤ 2 * count_by (is_ending sides c.args.growth.now.net.rows.items) c.args.keys.now)
    c.sides-sides.ensures c.settle_keys.ensures.count
