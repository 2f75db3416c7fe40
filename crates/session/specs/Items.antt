-- What comes in on a connection, cut into requests with their bodies (RFC 9112, sections 2.1, 6 and 9.6).
use Rattle.std.specs.Prelude.{◌≡◌, ℕ, ◌≤◌, ◌<◌, ◌⊎◌, Bool, true, false, List, [], ◌∷◌, ◌++◌, length, Ok, ⊤}
use Rattle.httparse.specs.Grammar.{RequestHead, IsRequestHead, print_request}
use Rattle.http_face.specs.declared.head.TheConstants.{MAX_HEAD_BYTES}
use Rattle.http_face.specs.declared.head.HeadEnds.TheVariants.{More, Bad}
use Rattle.http_face.specs.declared.request.Route.{Route as RouteTo}
use Rattle.http_face.specs.Heads.{headers_of, body_of, closes, TellsHead}
use Rattle.http_face.specs.Routes.{route_of}

-- a request by its head and its body, or a head at fault by the status of its reply
pub data Item : Type 0 where
  Request : RequestHead → List ℕ → Item
  Fault : ℕ → Item

-- The bytes of an item. A head at fault is left where it stands, since nothing is read after it.
abbrev pub item_bytes : Item → List ℕ
item_bytes (Request head body) = print_request head ++ body
item_bytes (Fault status) = []

-- a whole head without a fault, with a body of the length that it announces
pub record IsRequest (head : RequestHead) (body : List ℕ) : Type 0 where
  pub valid : IsRequestHead head
  pub short : length (print_request head) ≤ MAX_HEAD_BYTES
  pub whole : body_of (headers_of head) ≡ Ok (length body)

-- a request, or a head at fault that is what the rest of the bytes begins with
abbrev pub IsItem : List ℕ → Item → Type 0
IsItem rest (Request head body) = IsRequest head body
IsItem rest (Fault status) = TellsHead rest (Bad status)

-- the connection ends after the reply to it, as the request asks or because the head is at fault
abbrev pub is_closing : Item → Bool
is_closing (Request head body) = closes head.minor (headers_of head)
is_closing (Fault status) = true

-- it is a head at fault
abbrev pub is_fault : Item → Bool
is_fault (Request head body) = false
is_fault (Fault status) = true

-- what is asked: a route, with the body of the request; or nothing, where the head is at fault
pub data Asked : Type 0 where
  Route : RouteTo → List ℕ → Asked
  FaultyHead : ℕ → Asked

abbrev pub asked_of : Item → Asked
asked_of (Request head body) = Route (route_of head.method head.target) body
asked_of (Fault status) = FaultyHead status

-- the items are as they have to be before that rest, and none follows one after which the connection ends
abbrev pub AreItems : List ℕ → List Item → Type 0
AreItems rest [] = ⊤
AreItems rest (item ∷ items) = IsItem rest item × (is_closing item ≡ true → items ≡ []) × AreItems rest items

-- a whole head without a fault stands there, and less than the body that it announces
pub record LacksBody (rest : List ℕ) : Type 0 where
  pub head : RequestHead
  pub body : List ℕ
  pub size : ℕ
  pub valid : IsRequestHead head
  pub short : length (print_request head) ≤ MAX_HEAD_BYTES
  pub announced : body_of (headers_of head) ≡ Ok size
  pub lacks : length body < size
  pub bytes_are : rest ≡ print_request head ++ body

-- less than a request: its head is unfinished, or its body is
abbrev pub IsPart : List ℕ → Type 0
IsPart rest = TellsHead rest More ⊎ LacksBody rest
