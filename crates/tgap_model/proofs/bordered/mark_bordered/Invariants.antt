use Rattle.std.proofs.Common.{◌≡◌, take}
use Rattle.std.specs.List.{list_any}
use Rattle.tgap_model.specs.Base.{borders_face}
use Rattle.tgap_model.specs.Marks.{marked}
use Rattle.tgap_model.proofs.bordered.mark_bordered.Given as goal

-- the faces of the arcs so far have their marks
abbrev pub invariant-loop-arc : goal.invariant-loop-arc
invariant-loop-arc l = l.classes ≡ marked (λ f. list_any (borders_face f) (take l.arc-index l.arcs)) 1 l.initial.classes
