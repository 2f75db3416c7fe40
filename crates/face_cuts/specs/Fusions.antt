-- Two faces that become one.
use Rattle.std.specs.Prelude.{ℕ, ◌-◌, ◌==◌, Bool, ◌&&◌, ◌||◌, not, nat_le, List, map, filter, length, take, set, slice_index, Result, Ok, if◌then◌else◌}
use Rattle.std.specs.List.{list_any}
use Rattle.tgap_model.specs.declared.base.BaseArc.{BaseArc}
use Rattle.tgap_model.specs.Base.{BaseMap, borders_face}
use Rattle.face_cuts.specs.Outcomes.{◌>>=◌, ensured}

-- the number is that of a face from 1 on
abbrev pub is_face : BaseMap → ℕ → Bool
is_face m f = nat_le 1 f && nat_le f (length m.classes)

-- the arc has the two faces as its sides
abbrev pub is_between : ℕ → ℕ → BaseArc → Bool
is_between f g a = ((a.left == f) && (a.right == g)) || ((a.left == g) && (a.right == f))

-- the arcs without those between the two faces
abbrev pub others : ℕ → ℕ → List BaseArc → List BaseArc
others f g arcs = filter (λ a. not (is_between f g a)) arcs

-- the number of a face that was h, where f and g are one: that of f
abbrev pub joined : ℕ → ℕ → ℕ → ℕ
joined f g h = if h == g then f else h

-- The number of a face that was h, where g became a part of f. The number of g is free then, and of n faces the last one gets it.
abbrev pub renumbered : ℕ → ℕ → ℕ → ℕ → ℕ
renumbered n f g h = if joined f g h == n then g else joined f g h

-- the arc with other sides
abbrev pub relabelled : (ℕ → ℕ) → BaseArc → BaseArc
relabelled label a = record a { left = label a.left; right = label a.right }

-- The classes without that of g, in whose place there is that of the last face.
abbrev pub classes_without : ℕ → List ℕ → List ℕ
classes_without g classes = take (length classes - 1) (set classes (g - 1) (slice_index classes (length classes - 1)))

-- The map in which face g is a part of face f. The arcs between the two are taken out, and the others close up. Cause 2: one of the two is no
-- face; 13: no arc is between them; 14: no other arc has one of them as a side.
unfoldable pub fuse_faces : BaseMap → ℕ → ℕ → Result BaseMap ℕ
fuse_faces m f g = do
  faces ← ensured (is_face m f && is_face m g) 2
  between ← ensured (list_any (is_between f g) m.arcs) 13
  border ← ensured (list_any (λ a. borders_face f a || borders_face g a) (others f g m.arcs)) 14
  Ok (record m { classes = classes_without g m.classes; arcs = map (relabelled (renumbered (length m.classes) f g)) (others f g m.arcs) })
