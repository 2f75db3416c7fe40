use Rattle.face_cuts.proofs.Faces.{faces_more}
use Rattle.face_cuts.proofs.parting.Parting.arcs.Goals as goal

pub loop-number-preserved : goal.loop-number-preserved
loop-number-preserved c =
    let made = c.in_ok-arc_after.ensures in
    faces_more c.args.arcs.now c.args.self.now.face c.args.self.now.new c.args.self.now.moved.now c.loop-number.number c.index-arcs-number.result c.in_ok-arc_after.field-0 c.loop-number.made c.push.new.self
    c.loop-number-test.true c.index-arcs-number.is made.left made.right made.points c.loop-number.invariant c.in_ok-push.ensures
