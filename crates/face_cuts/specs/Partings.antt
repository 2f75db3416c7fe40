-- Faces of sides, told by notes of those that go over.
use Rattle.std.specs.Prelude.{ℕ, ◌==◌, false, ◌&&◌, get_or, if◌then◌else◌}
use Rattle.face_cuts.specs.declared.parting.Parting.{Parting}

-- the face afterwards of the side with this number, which was beside face h
abbrev pub parted : Parting → ℕ → ℕ → ℕ
parted p h i = if (h == p.face) && get_or p.moved.now i false then p.new else h
