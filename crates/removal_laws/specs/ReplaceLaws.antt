-- Laws of the replacement of two segments in a row, a-b and b-c, by the one segment a-c.
use Rattle.std.specs.Prelude.{◌≡◌, ◌≢◌, Bool, true, ◌||◌, ◌==◌, List, [], ◌∷◌, ◌++◌, All, AllPairs}
use Rattle.std.specs.List.{list_all}
use Rattle.tgap_model.specs.declared.geometry.Point.{Point}
use Rattle.tgap_model.specs.declared.geometry.Seg.{Seg}
use Rattle.tgap_model.specs.declared.slice.Edge.{Edge}
use Rattle.tgap_model.specs.Point.{area2}
use Rattle.tgap_model.specs.Clear.{is_clear}
use Rattle.tgap_model.specs.Removals.{path, live_segments}
use Rattle.tgap_model.specs.Partition.{AreApart, edge_segments}

-- the points a, b and c are on one line, or their triangle is clear of all these segments
abbrev pub is_free : List Seg → Point → Point → Point → Bool
is_free others a b c = (area2 a b c == 0) || list_all (is_clear a b c) others

-- Of an edge with the points `front`, a, b, c and `rest`, among others: the live segments but a-b and b-c.
abbrev pub other_segments : List Edge → List Edge → List Point → Point → Point → List Point → List Seg
other_segments before after front a c rest = live_segments before ++ live_segments after ++ path (front ++ a ∷ []) ++ path (c ∷ rest)

-- Where segments of edges have no point in common but permitted ones, this stays so when b is taken out of an edge between a and c.
abbrev pub ReplacedIsApart : Type 0
ReplacedIsApart =
    (before after : List Edge) (e : Edge) (front rest : List Point) (a b c : Point)
    → All (λ f. e.key ≢ f.key) (before ++ after)
    → is_free (other_segments before after front a c rest) a b c ≡ true
    → AllPairs AreApart (edge_segments (before ++ record e { points = front ++ a ∷ b ∷ c ∷ rest } ∷ after))
    → AllPairs AreApart (edge_segments (before ++ record e { points = front ++ a ∷ c ∷ rest } ∷ after))
