-- The versions of a listing: the word of each in the first line, and its limits.
use Rattle.std.specs.Prelude.{ℕ, ℤ, neg_ℤ, Bool, ◌&&◌, List, [], ◌∷◌, bytes_eq, codes, Option, Some, None, if◌then◌else◌}
use Rattle.tgap_model.specs.declared.geometry.Point.{Point}
use Rattle.tgap_model.specs.declared.limits.TheConstants.{MAX_COORDINATE, MAX_COORDINATE_1, MAX_POINTS, MAX_POINTS_1}
use Rattle.tgap_model.specs.Base.{within}
use Rattle.line_forms.specs.Words.{Row, ◌>>=◌, after_word, ended}
use Rattle.map_forms.specs.declared.version.Version.{Version}
use Rattle.map_forms.specs.declared.version.Version.TheVariants.{One, Two}

abbrev pub version_word : Version → List ℕ
version_word One = codes "1"
version_word Two = codes "2"

-- the greatest coordinate; the least is its negative
abbrev pub coordinate_of : Version → ℤ
coordinate_of One = MAX_COORDINATE_1
coordinate_of Two = MAX_COORDINATE

-- the greatest number of points over all arcs
abbrev pub points_of : Version → ℕ
points_of One = MAX_POINTS_1
points_of Two = MAX_POINTS

-- both coordinates are from -most to most
abbrev pub in_square : ℤ → Point → Bool
in_square most p = within (neg_ℤ most) most p.x && within (neg_ℤ most) most p.y

-- the name of the format, and the version
abbrev pub heading_words : Version → Row
heading_words v = codes "tgap" ∷ version_word v ∷ []

-- the version that the next word names, and what stands after it
abbrev pub version_at : Row → Option (Version × Row)
version_at [] = None
version_at (w ∷ row) =
    if bytes_eq w (version_word One) then Some (One, row) else if bytes_eq w (version_word Two) then Some (Two, row) else None

-- the version that a row of the name and a version tells
unfoldable pub read_heading : Row → Option Version
read_heading row = do
  start ← after_word (codes "tgap") row
  version ← version_at start
  ended version.0 version.1
