use Rattle.std.proofs.Common.{◌∙◌, ◌||◌, Some, sym, subst, subst₂}
use Rattle.ring_walk.specs.declared.side.Side.{Side}
use Rattle.ring_walk.specs.Sides.{same_side, start_of}
use Rattle.face_cuts.specs.Spokes.{IsSpoke}
use Rattle.face_cuts.proofs.LastSpokes.{later_spoke}
use Rattle.arc_places.specs.SlotTables.{AreLast, spans_in}
use Rattle.arc_places.proofs.LastOf.{seen_in_front, seen_behind}
use Rattle.arc_places.proofs.front.with_spoke.Goals as goal

pub returns-then-is_before-clause-spokes : goal.returns-then-is_before-clause-spokes
returns-then-is_before-clause-spokes c =
    let spans = spans_in c.args.table.now in
    let v = start_of spans c.args.x in
    record {
      before = subst (IsSpoke spans v) (sym c.later-then-is_before.ensures) (later_spoke spans c.requires.spans v c.args.spoke c.args.front.before c.requires.spoke c.requires.front.before);
      last = subst (IsSpoke spans v) (sym c.later.ensures) (later_spoke spans c.requires.spans v c.args.spoke c.args.front.last c.requires.spoke c.requires.front.last);
    }

pub returns-then-is_before-clause-seen : goal.returns-then-is_before-clause-seen
returns-then-is_before-clause-seen c = λ seen l.
    let spans = spans_in c.args.table.now in
    let v = start_of spans c.args.x in
    subst₂ (λ (s t : Side). AreLast spans v c.args.x (λ u. seen u || same_side u c.args.spoke) (record { before = Some s; last = Some t })) (sym c.later-then-is_before.ensures) (sym c.later.ensures)
    (seen_in_front spans c.requires.spans v c.args.x c.args.spoke seen c.args.front c.requires.spoke (sym c.is_before.ensures ∙ c.if-is_before.true) l)

pub returns-else-is_before-clause-spokes : goal.returns-else-is_before-clause-spokes
returns-else-is_before-clause-spokes c =
    let spans = spans_in c.args.table.now in
    let v = start_of spans c.args.x in
    record {
      before = c.requires.front.before;
      last = subst (IsSpoke spans v) (sym c.later.ensures) (later_spoke spans c.requires.spans v c.args.spoke c.args.front.last c.requires.spoke c.requires.front.last);
    }

pub returns-else-is_before-clause-seen : goal.returns-else-is_before-clause-seen
returns-else-is_before-clause-seen c = λ seen l.
    let spans = spans_in c.args.table.now in
    let v = start_of spans c.args.x in
    subst (λ (t : Side). AreLast spans v c.args.x (λ u. seen u || same_side u c.args.spoke) (record { before = c.args.front.before; last = Some t })) (sym c.later.ensures)
    (seen_behind spans c.requires.spans v c.args.x c.args.spoke seen c.args.front c.requires.spoke (sym c.is_before.ensures ∙ c.if-is_before.false) l)
