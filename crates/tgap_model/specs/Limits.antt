-- What is counted, with its limit and its name in a text.
use Rattle.std.specs.Prelude.{ℕ, List, codes}
use Rattle.tgap_model.specs.declared.limits.TheConstants.{MAX_CLASSES, MAX_FACES, MAX_ARCS, MAX_POINTS}
use Rattle.tgap_model.specs.declared.fault.LimitKind.{LimitKind}
use Rattle.tgap_model.specs.declared.fault.LimitKind.TheVariants.{Classes, Faces, Arcs, Points}

abbrev pub limit_of : LimitKind → ℕ
limit_of Classes = MAX_CLASSES
limit_of Faces = MAX_FACES
limit_of Arcs = MAX_ARCS
limit_of Points = MAX_POINTS

abbrev pub limit_word : LimitKind → List ℕ
limit_word Classes = codes "classes"
limit_word Faces = codes "faces"
limit_word Arcs = codes "arcs"
limit_word Points = codes "points"
