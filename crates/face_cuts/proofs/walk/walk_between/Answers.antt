use Rattle.std.proofs.Common.{◌≡◌, ◌∙◌, ◌+◌, ◌-◌, ◌*◌, ◌==◌, suc, true, false, length, refl, sym, subst, eq-eqb, eqb-true, arith}
use Rattle.ring_walk.specs.Sides.{face_of}
use Rattle.ring_walk.specs.Rings.{next_side}
use Rattle.ring_walk.specs.Spans.{IsSide}
use Rattle.face_cuts.specs.Sectors.{spans_of}
use Rattle.face_cuts.specs.Walks.{walk_between}
use Rattle.face_cuts.proofs.Cases.{not_held}
use Rattle.face_cuts.proofs.SpansOfArcs.{count_spans, next_of_arc}
use Rattle.face_cuts.proofs.WalkRows.{longer, walk_back, walk_ends, walk_none, walk_on, walked_all, walked_more, walked_none, within_more}
use Rattle.face_cuts.proofs.walk.walk_between.Goals as goal

pub loop-preserved : goal.loop-preserved
loop-preserved g c =
    let arcs = g.T.ArcTable.arcs c.args.table.now in
    let spans = spans_of arcs in
    let f = c.args.face in
    let s = c.loop.side in
    let t = c.next-side.result in
    let m = 2 * length spans - (c.loop.counter + 1) in
    let k : 2 * length spans - c.loop.counter ≡ suc m = omega (arith, c.loop-test.true, c.count-end.ensures, count_spans arcs) in
    let face : (face_of spans s == f) ≡ true = eq-eqb (face_of spans s) f (sym c.face_of.ensures ∙ c.if-face_of-face.false) in
    let pushed = c.in_ok-push.ensures.items in
    record {
      side = subst (IsSide (length arcs)) (sym c.next-side.ensures) (next_of_arc arcs s c.loop.invariant.side);
      within = within_more (length arcs) c.loop.walk.items c.push.new.self.items s pushed c.loop.invariant.within c.loop.invariant.side;
      long = longer c.loop.walk.items c.push.new.self.items s c.loop.counter pushed c.loop.invariant.long;
      rest = walked_more spans f c.args.start c.args.end c.loop.walk.items c.push.new.self.items s pushed m (2 * length spans - c.loop.counter) t (walk_between spans f c.args.start c.args.end) k
          (walk_on spans f c.args.start c.args.end s t m c.next-side.ensures face (sym c.is.ensures ∙ c.if-is.false) (sym c.is-in-loop.ensures ∙ c.if-is-2.false)) c.loop.invariant.rest;
    }

pub returns-then-face_of-face-clause-value : goal.returns-then-face_of-face-clause-value
returns-then-face_of-face-clause-value g c =
    let arcs = g.T.ArcTable.arcs c.args.table.now in
    let spans = spans_of arcs in
    let f = c.args.face in
    let s = c.loop.side in
    let m = 2 * length spans - (c.loop.counter + 1) in
    let k : 2 * length spans - c.loop.counter ≡ suc m = omega (arith, c.loop-test.true, c.count-end.ensures, count_spans arcs) in
    let other : (face_of spans s == f) ≡ false = not_held (face_of spans s == f) (λ e. c.if-face_of-face.true (c.face_of.ensures ∙ eqb-true (face_of spans s) f e)) in
    walked_none spans f c.args.start c.args.end c.loop.walk.items m (2 * length spans - c.loop.counter) s (walk_between spans f c.args.start c.args.end) k
    (walk_none spans f c.args.start c.args.end s (next_side spans s) m refl other) c.loop.invariant.rest

pub returns-then-is-clause-value : goal.returns-then-is-clause-value
returns-then-is-clause-value g c =
    let arcs = g.T.ArcTable.arcs c.args.table.now in
    let spans = spans_of arcs in
    let f = c.args.face in
    let s = c.loop.side in
    let m = 2 * length spans - (c.loop.counter + 1) in
    let k : 2 * length spans - c.loop.counter ≡ suc m = omega (arith, c.loop-test.true, c.count-end.ensures, count_spans arcs) in
    let face : (face_of spans s == f) ≡ true = eq-eqb (face_of spans s) f (sym c.face_of.ensures ∙ c.if-face_of-face.false) in
    walked_all spans f c.args.start c.args.end c.loop.walk.items c.push.new.self.items s c.in_ok-push.ensures.items m (2 * length spans - c.loop.counter) (walk_between spans f c.args.start c.args.end) k
    (walk_ends spans f c.args.start c.args.end s c.next-side.result m c.next-side.ensures face (sym c.is.ensures ∙ c.if-is.true)) c.loop.invariant.rest

pub returns-then-is-2-clause-value : goal.returns-then-is-2-clause-value
returns-then-is-2-clause-value g c =
    let arcs = g.T.ArcTable.arcs c.args.table.now in
    let spans = spans_of arcs in
    let f = c.args.face in
    let s = c.loop.side in
    let m = 2 * length spans - (c.loop.counter + 1) in
    let k : 2 * length spans - c.loop.counter ≡ suc m = omega (arith, c.loop-test.true, c.count-end.ensures, count_spans arcs) in
    let face : (face_of spans s == f) ≡ true = eq-eqb (face_of spans s) f (sym c.face_of.ensures ∙ c.if-face_of-face.false) in
    walked_none spans f c.args.start c.args.end c.loop.walk.items m (2 * length spans - c.loop.counter) s (walk_between spans f c.args.start c.args.end) k
    (walk_back spans f c.args.start c.args.end s c.next-side.result m c.next-side.ensures face (sym c.is.ensures ∙ c.if-is.false) (sym c.is-in-loop.ensures ∙ c.if-is-2.true)) c.loop.invariant.rest
