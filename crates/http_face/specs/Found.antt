-- What the reader of heads hands on inside this crate.
use Rattle.std.specs.Prelude.{◌≡◌, ℕ, List, map}
use Rattle.httparse.specs.declared.spans.HeaderSpan.{HeaderSpan}
use Rattle.httparse.specs.Grammar.{RequestHead}
use Rattle.httparse.specs.Spans.{header_bytes}
use Rattle.http_face.specs.declared.head.HeadEnds.TheVariants.{Whole, More, Bad}
use Rattle.http_face.specs.declared.head_reading.Found.{Found}
use Rattle.http_face.specs.declared.head_reading.Found.TheVariants as found
use Rattle.http_face.specs.Heads.{Header, StartsWith, ends_of, TellsHead}

-- the headers that these spans cover
abbrev pub headers_at : List ℕ → List HeaderSpan → List Header
headers_at bytes spans = map (header_bytes bytes) spans

-- what is told of this whole head
abbrev pub TellsWhole : RequestHead → Found → Type 0
TellsWhole h (found.Whole size body close method target) =
    (ends_of h ≡ Whole size body close) × (method.now ≡ h.method) × (target.now ≡ h.target)
TellsWhole h found.More = ends_of h ≡ More
TellsWhole h (found.Bad status) = ends_of h ≡ Bad status

-- what is told of the bytes; where a head is whole, its method and target too
abbrev pub TellsFound : List ℕ → Found → Type 0
TellsFound bytes (found.Whole size body close method target) =
    (h : RequestHead) × StartsWith bytes h × TellsWhole h (found.Whole size body close method target)
TellsFound bytes found.More = TellsHead bytes More
TellsFound bytes (found.Bad status) = TellsHead bytes (Bad status)
