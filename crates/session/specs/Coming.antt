-- What the bytes that are held begin with, and what comes next on a connection.
use Rattle.std.specs.Prelude.{◌≡◌, ℕ, ◌+◌, ◌<◌, ◌≤◌, ⊤, ◌⊎◌, Bool, true, false, List, ◌++◌, length}
use Rattle.httparse.specs.Grammar.{RequestHead, print_request}
use Rattle.tgap_model.specs.Faults.{Rises}
use Rattle.http_face.specs.declared.head.TheConstants.{BAD_REQUEST, CONTENT_TOO_LARGE}
use Rattle.http_face.specs.declared.head.HeadEnds.TheVariants.{More, Bad}
use Rattle.http_face.specs.declared.head.HeadAsks.TheVariants.{Whole}
use Rattle.http_face.specs.Asks.{TellsAsks}
use Rattle.http_face.specs.Heads.{headers_of, closes, TellsHead}
use Rattle.http_face.specs.Routes.{route_of}
use Rattle.session.specs.declared.room.TheConstants.{ROOM}
use Rattle.session.specs.declared.coming.NextRequest.{NextRequest}
use Rattle.session.specs.declared.coming.Coming.{Coming}
use Rattle.session.specs.declared.coming.Coming.TheVariants.{Head, Fault, Part}
use Rattle.session.specs.declared.coming.Arrival.{Arrival}
use Rattle.session.specs.declared.coming.Arrival.TheVariants as arrival
use Rattle.session.specs.Items.{IsRequest, IsPart}

-- a request stands at the front of these bytes, with its head and its body of these sizes, which asks for this
pub record BeginsWith (bytes : List ℕ) (next : NextRequest) : Type 0 where
  pub head : RequestHead
  pub body : List ℕ
  pub rest : List ℕ
  pub request : IsRequest head body
  pub bytes_are : bytes ≡ print_request head ++ (body ++ rest)
  pub head_size : next.head ≡ length (print_request head)
  pub body_size_is : next.body ≡ length body
  pub closing : next.close ≡ closes head.minor (headers_of head)
  pub asks : next.asked ≡ route_of head.method head.target

-- a head at fault stands there, with the status of the reply to it
pub record BeginsAtFault (bytes : List ℕ) (status : ℕ) : Type 0 where
  pub fault : TellsHead bytes (Bad status)
  pub either : (status ≡ BAD_REQUEST) ⊎ (status ≡ CONTENT_TOO_LARGE)

-- a whole and good head stands there, which announces a body of this size and asks for this
abbrev pub BeginsHead : List ℕ → NextRequest → Type 0
BeginsHead bytes next = TellsAsks bytes (Whole next.head next.body next.close next.asked)

abbrev pub IsComing : List ℕ → Coming → Type 0
IsComing bytes (Head next) = BeginsHead bytes next
IsComing bytes (Fault status) = BeginsAtFault bytes status
IsComing bytes Part = TellsHead bytes More

-- there is room for what is awaited: for the whole request, or for more of its head
abbrev pub HasRoom : List ℕ → Coming → Type 0
HasRoom held (Head next) = next.head + next.body ≤ ROOM
HasRoom held (Fault status) = ⊤
HasRoom held Part = length held < ROOM

abbrev pub IsArrival : List ℕ → Arrival → Type 0
IsArrival bytes (arrival.Request next) = BeginsWith bytes next
IsArrival bytes (arrival.Fault status) = BeginsAtFault bytes status
IsArrival bytes arrival.End = IsPart bytes
IsArrival bytes arrival.Failed = IsPart bytes

-- the input is at its end
abbrev pub is_end : Arrival → Bool
is_end (arrival.Request next) = false
is_end (arrival.Fault status) = false
is_end arrival.End = true
is_end arrival.Failed = false

-- the count of failed takes rises where the input failed, and else it stays
abbrev pub CountsArrival : Arrival → ℕ → ℕ → Type 0
CountsArrival (arrival.Request next) before now = now ≡ before
CountsArrival (arrival.Fault status) before now = now ≡ before
CountsArrival arrival.End before now = now ≡ before
CountsArrival arrival.Failed before now = Rises before now
