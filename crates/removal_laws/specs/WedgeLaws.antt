-- Laws of the directions in which segments leave an end of the segment that takes the place of two: seen from there, the vertex that
-- is taken out and the vertex behind it have one place among the others.
use Rattle.std.specs.Prelude.{◌≡◌, true, List, ◌∷◌, ◌++◌, Contains, ◌⊎◌}
use Rattle.tgap_model.specs.declared.geometry.Point.{Point}
use Rattle.tgap_model.specs.declared.geometry.Seg.{Seg}
use Rattle.tgap_model.specs.declared.slice.Edge.{Edge}
use Rattle.tgap_model.specs.Segment.{turns_before}
use Rattle.removal_laws.specs.ReplaceLaws.{is_free, other_segments}
use Rattle.removal_laws.specs.StandLaws.{AreSound}

-- one of these segments joins the two points
abbrev pub AreJoined : List Seg → Point → Point → Type 0
AreJoined segments o r = (s : Seg) × Contains segments s × (((s.a ≡ o) × (s.b ≡ r)) ⊎ ((s.a ≡ r) × (s.b ≡ o)))

-- in the order of directions from o, point r comes before or behind both p and q
abbrev pub ComeAlike : Point → Point → Point → Point → Type 0
ComeAlike o p q r = (turns_before o q r ≡ turns_before o p r) × (turns_before o r q ≡ turns_before o r p)

-- it comes behind p and before q
abbrev pub ComesBetween : Point → Point → Point → Point → Type 0
ComesBetween o p q r = (turns_before o p r ≡ true) × (turns_before o r q ≡ true)

-- Round o, points p and q have one place among the others: each of these comes before or behind both; or the order begins between p and
-- q, so that one of the two is its first point and the other its last one.
abbrev pub HaveOnePlace : Point → Point → Point → (Point → Type 0) → Type 0
HaveOnePlace o p q Other =
    ((r : Point) → Other r → ComeAlike o p q r)
    ⊎ (((r : Point) → Other r → ComesBetween o p q r)
    ⊎ ((r : Point) → Other r → ComesBetween o q p r))

-- Where b is taken out of an edge of sound edges between a and c, the directions to b and to c have one place at a among those of the
-- other segments that end there, and so have those to b and to a at c.
abbrev pub NeighboursHaveOnePlace : Type 0
NeighboursHaveOnePlace =
    (before after : List Edge) (e : Edge) (front rest : List Point) (a b c : Point)
    → AreSound (before ++ record e { points = front ++ a ∷ b ∷ c ∷ rest } ∷ after)
    → is_free (other_segments before after front a c rest) a b c ≡ true
    → HaveOnePlace a b c (AreJoined (other_segments before after front a c rest) a)
    × HaveOnePlace c b a (AreJoined (other_segments before after front a c rest) c)
