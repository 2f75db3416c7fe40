-- What the bytes of a request so far tell of its head and of what it asks for.
use Rattle.std.specs.Prelude.{◌≡◌, ℕ, List}
use Rattle.httparse.specs.Grammar.{RequestHead}
use Rattle.http_face.specs.declared.head.HeadAsks.{HeadAsks}
use Rattle.http_face.specs.declared.head.HeadAsks.TheVariants as asks
use Rattle.http_face.specs.declared.head.HeadEnds.{HeadEnds}
use Rattle.http_face.specs.declared.head.HeadEnds.TheVariants.{Whole, More, Bad}
use Rattle.http_face.specs.Heads.{StartsWith, ends_of, TellsHead}
use Rattle.http_face.specs.Routes.{route_of}

-- what is told, without what is asked for
abbrev pub asks_ends : HeadAsks → HeadEnds
asks_ends (asks.Whole size body close asked) = Whole size body close
asks_ends asks.More = More
asks_ends (asks.Bad status) = Bad status

-- what is told of the head: `TellsHead`, and of a whole one that it asks for this route
abbrev pub TellsAsks : List ℕ → HeadAsks → Type 0
TellsAsks bytes (asks.Whole size body close asked) =
    (h : RequestHead) × StartsWith bytes h × (ends_of h ≡ Whole size body close) × (asked ≡ route_of h.method h.target)
TellsAsks bytes asks.More = TellsHead bytes More
TellsAsks bytes (asks.Bad status) = TellsHead bytes (Bad status)
