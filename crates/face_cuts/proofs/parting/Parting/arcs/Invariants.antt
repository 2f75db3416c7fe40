use Rattle.std.proofs.Common.{◌≡◌, take}
use Rattle.face_cuts.specs.Cuts.{with_faces}
use Rattle.face_cuts.specs.NewRings.{told_face}
use Rattle.face_cuts.proofs.parting.Parting.arcs.Given as goal

-- the arcs so far
abbrev pub invariant-loop-number : goal.invariant-loop-number
invariant-loop-number l = l.made ≡ with_faces (told_face l.arcs l.self.face l.self.new l.self.moved.now) 0 (take l.number l.arcs)
