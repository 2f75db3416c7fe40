-- The parts of a listing, as they are written one after another.
use Rattle.std.specs.Prelude.{ℕ, List, ◌∷◌, map, length, codes}
use Rattle.tgap_model.specs.declared.base.Rules.{Rules}
use Rattle.tgap_model.specs.declared.base.BaseArc.{BaseArc}
use Rattle.line_forms.specs.Words.{Row}
use Rattle.map_forms.specs.Listing.{count_words, class_rows, face_rows, arc_words}

-- the ratio and the classes
abbrev pub rules_rows : Rules → List Row
rules_rows r =
    count_words (codes "ratio") r.ratio ∷ count_words (codes "classes") (length r.weights)
    ∷ class_rows (length r.weights) 0 r.weights r.compat

-- the number of the faces, and each face
abbrev pub all_face_rows : List ℕ → List Row
all_face_rows classes = count_words (codes "faces") (length classes) ∷ face_rows 1 classes

-- the number of the arcs, and each arc
abbrev pub all_arc_rows : List BaseArc → List Row
all_arc_rows arcs = count_words (codes "arcs") (length arcs) ∷ map arc_words arcs
