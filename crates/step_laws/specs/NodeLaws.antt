-- Laws of the faces round a node: they still agree where a vertex is taken out.
use Rattle.std.specs.Prelude.{◌≡◌, ℕ, ℤ, true, List, [], ◌∷◌, ◌++◌, None}
use Rattle.tgap_model.specs.declared.geometry.Point.{Point}
use Rattle.tgap_model.specs.declared.slice.Edge.{Edge}
use Rattle.tgap_model.specs.Partition.{edge_segments, node_fault}
use Rattle.removal_laws.specs.ReplaceLaws.{is_free, other_segments}
use Rattle.removal_laws.specs.Trace.{swept_edges}
use Rattle.removal_laws.specs.StandLaws.{AreSound}

-- round the node the faces of the edges agree
abbrev pub AgreeRound : Point → List Edge → Type 0
AgreeRound v edges = node_fault (edge_segments edges) v ≡ None

-- The faces round a node of sound edges still agree when b is taken out of an edge between a and c.
abbrev pub ReplacedAgreesRound : Type 0
ReplacedAgreesRound =
    (before after : List Edge) (e : Edge) (front rest : List Point) (a b c : Point)
    → AreSound (before ++ record e { points = front ++ a ∷ b ∷ c ∷ rest } ∷ after)
    → is_free (other_segments before after front a c rest) a b c ≡ true
    → (v : Point) → AgreeRound v (before ++ record e { points = front ++ a ∷ b ∷ c ∷ rest } ∷ after)
    → AgreeRound v (before ++ record e { points = front ++ a ∷ c ∷ rest } ∷ after)

-- the faces round a node of sound edges still agree after a sweep
abbrev pub SweepKeepsNodes : Type 0
SweepKeepsNodes =
    (ratio : ℕ) (area : ℤ) (made : ℕ) (edges : List Edge) → AreSound edges
    → (v : Point) → AgreeRound v edges → AgreeRound v (swept_edges ratio area made [] edges)
