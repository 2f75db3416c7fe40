-- Laws of the faces down a line: they still agree where a vertex is taken out.
use Rattle.std.specs.Prelude.{◌≡◌, ◌≢◌, ℕ, ℤ, true, List, [], ◌∷◌, ◌++◌, map, All, AllPairs}
use Rattle.tgap_model.specs.declared.geometry.Point.{Point}
use Rattle.tgap_model.specs.declared.slice.Edge.{Edge}
use Rattle.tgap_model.specs.Segment.{Line, IsBetweenColumns}
use Rattle.tgap_model.specs.Partition.{AreApart, edge_segments, sides, stack, agree_from}
use Rattle.removal_laws.specs.ReplaceLaws.{is_free, other_segments}
use Rattle.removal_laws.specs.Trace.{swept_edges}

-- down the line the faces of the edges agree
abbrev pub AgreeOn : Line → List Edge → Type 0
AgreeOn l edges = agree_from 0 (map sides (stack l (edge_segments edges))) ≡ true

-- Where segments are apart, the faces down a line between whole abscissas still agree when b is taken out of an edge between a and c.
abbrev pub ReplacedAgrees : Type 0
ReplacedAgrees =
    (before after : List Edge) (e : Edge) (front rest : List Point) (a b c : Point)
    → All (λ f. e.key ≢ f.key) (before ++ after)
    → is_free (other_segments before after front a c rest) a b c ≡ true
    → AllPairs AreApart (edge_segments (before ++ record e { points = front ++ a ∷ b ∷ c ∷ rest } ∷ after))
    → (l : Line) → IsBetweenColumns l
    → AgreeOn l (before ++ record e { points = front ++ a ∷ b ∷ c ∷ rest } ∷ after)
    → AgreeOn l (before ++ record e { points = front ++ a ∷ c ∷ rest } ∷ after)

-- where segments are apart, the faces down a line between whole abscissas still agree after a sweep
abbrev pub SweepKeepsFaces : Type 0
SweepKeepsFaces =
    (ratio : ℕ) (area : ℤ) (made : ℕ) (edges : List Edge) → AllPairs (λ e f. e.key ≢ f.key) edges → AllPairs AreApart (edge_segments edges)
    → (l : Line) → IsBetweenColumns l → AgreeOn l edges → AgreeOn l (swept_edges ratio area made [] edges)
