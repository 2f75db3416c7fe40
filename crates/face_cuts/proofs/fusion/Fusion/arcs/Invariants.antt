use Rattle.std.proofs.Common.{◌≡◌, map, take}
use Rattle.face_cuts.specs.Fusions.{others, relabelled, renumbered}
use Rattle.face_cuts.proofs.fusion.Fusion.arcs.Given as goal

-- the arcs so far
abbrev pub invariant-loop-arc : goal.invariant-loop-arc
invariant-loop-arc l = l.made ≡ map (relabelled (renumbered l.self.faces l.self.kept l.self.gone)) (others l.self.kept l.self.gone (take l.arc-index l.arcs))
