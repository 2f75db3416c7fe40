use Rattle.std.proofs.Common.{◌≡◌, ◌∙◌, Bool, Result, Ok, Err, sym}
use Rattle.std.specs.Prelude.{IfOk}
use Rattle.tgap_model.specs.declared.failure.Memory.{Memory}
use Rattle.face_cuts.specs.Cuts.{goes_over, is_at_left, lines_of}
use Rattle.face_cuts.specs.SideSets.{has}
use Rattle.face_cuts.proofs.OverRings.{set_common, over_common, over_least}
use Rattle.face_cuts.proofs.new_ring.NewRing.goes_over.Goals as goal

-- what is told in other words
as_told : (r : Result Bool Memory) (b other : Bool) → IfOk r (λ x. x ≡ b) → b ≡ other → IfOk r (λ x. x ≡ other)
as_told (Ok x) b other h e = h ∙ e
as_told (Err m) b other h e = h

pub returns-then-has_any : goal.returns-then-has_any
returns-then-has_any g c =
    let ring = c.args.self.now in
    let common = set_common ring.walk.now c.args.row.now (has c.args.on_walk.now) c.requires.set in
    sym (over_common (lines_of (g.T.ArcTable.arcs c.args.table.now)) ring.points.now ring.walk.now c.args.row.now (sym common ∙ sym c.has_any.ensures ∙ c.if-has_any.true))

pub returns-in-Some : goal.returns-in-Some
returns-in-Some g c =
    let ring = c.args.self.now in
    let common = set_common ring.walk.now c.args.row.now (has c.args.on_walk.now) c.requires.set in
    let over = over_least (lines_of (g.T.ArcTable.arcs c.args.table.now)) ring.points.now ring.walk.now c.args.row.now _ (sym common ∙ sym c.has_any.ensures ∙ c.if-has_any.false) (sym c.least_leaning.ensures.value ∙ c.in-Some.is) in
    as_told c.is_at_left.result (is_at_left (lines_of (g.T.ArcTable.arcs c.args.table.now)) ring.points.now ring.walk.now c.in-Some.probe) (goes_over (lines_of (g.T.ArcTable.arcs c.args.table.now)) ring.points.now ring.walk.now c.args.row.now) c.is_at_left.ensures (sym over)
