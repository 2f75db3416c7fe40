use Rattle.std.proofs.Common.{◌≡◌, None, List, length, take, sym, subst, All}
use Rattle.std.proofs.lemmas.List.{length-map, take_all, take_more}
use Rattle.tgap_model.specs.declared.base.BaseArc.{BaseArc}
use Rattle.ring_walk.specs.declared.side.Side.{Side}
use Rattle.ring_walk.specs.declared.side.Way.TheVariants.{Along}
use Rattle.ring_walk.specs.Spans.{IsSide}
use Rattle.face_cuts.specs.Cuts.{lines_of}
use Rattle.face_cuts.specs.NewRings.{IsLeast, IsLeastOf}
use Rattle.face_cuts.proofs.LeastSegments.{least_none, least_some}
use Rattle.face_cuts.proofs.new_ring.least_leaning.Goals as goal

abbrev none : Side
none = record { span = 0; way = Along }

pub loop-side-preserved : goal.loop-side-preserved
loop-side-preserved g c =
    let row = c.args.row.now in
    let k = c.loop-side.side-index in
    subst (λ (r : List Side). IsLeast (lines_of (g.T.ArcTable.arcs c.args.table.now)) r c.lesser-least.result) (sym (take_more row k none c.loop-side-test.true))
    (c.lesser-least.ensures (take k row) c.loop-side.invariant)

pub returns-in-Some-clause-value : goal.returns-in-Some-clause-value
returns-in-Some-clause-value g c =
    let lines = lines_of (g.T.ArcTable.arcs c.args.table.now) in
    let long : length (g.T.ArcTable.arcs c.args.table.now) ≡ length lines = sym (length-map (g.T.ArcTable.arcs c.args.table.now) (λ (a : BaseArc). a.points)) in
    let least : IsLeast lines (take c.loop-side.side-index c.args.row.now) c.loop-side.least = c.loop-side.invariant in
    let all : take c.loop-side.side-index c.args.row.now ≡ c.args.row.now = take_all c.loop-side.side-index c.args.row.now c.loop-side-test.false in
    least_some lines c.args.row.now c.in-Some.found (subst (λ n. All (IsSide n) c.args.row.now) long c.requires.row.sides)
    (subst (λ (r : List Side). IsLeastOf lines r c.in-Some.found) all (subst (IsLeast lines (take c.loop-side.side-index c.args.row.now)) c.in-Some.is least))

pub returns-in-None-clause-value : goal.returns-in-None-clause-value
returns-in-None-clause-value g c =
    let lines = lines_of (g.T.ArcTable.arcs c.args.table.now) in
    let least : IsLeast lines (take c.loop-side.side-index c.args.row.now) c.loop-side.least = c.loop-side.invariant in
    let all : take c.loop-side.side-index c.args.row.now ≡ c.args.row.now = take_all c.loop-side.side-index c.args.row.now c.loop-side-test.false in
    least_none lines c.args.row.now (subst (λ (r : List Side). IsLeast lines r None) all (subst (IsLeast lines (take c.loop-side.side-index c.args.row.now)) c.in-None.is least))
