-- The head of a request (RFC 9112, sections 2, 3, 5, 6 and 9.6), and what the bytes of a request so far tell of it.
use Rattle.std.specs.Prelude.{◌≡◌, ℕ, ◌<◌, ◌≤◌, ◌⊎◌, Bool, ◌&&◌, ◌||◌, not, ◌==◌, nat_lt, nat_le, List, [], ◌∷◌, length, take, drop, map, codes, Result, Ok, Err, if◌then◌else◌}
use Rattle.std.specs.List.{filter, list_any, list_all, slice_split}
use Rattle.std.specs.Char.{is_ascii_digit}
use Rattle.std.specs.Str.{str_eq_ignore_ascii_case}
use Rattle.std.specs.Str.Parse.{digits_value}
use Rattle.httparse.specs.Grammar.{trim_ows, RequestHead, print_request, ReadsRequest, HasNoRequest, NeverHasRequest, EndsInTarget, MayBecomeRequest}
use Rattle.httparse.specs.Spans.{name_and_value, RequestOverflows, RequestExceeds}
use Rattle.http_face.specs.declared.head.TheConstants.{MAX_HEAD_BYTES, MAX_HEADERS, MAX_BODY_BYTES, BAD_REQUEST, CONTENT_TOO_LARGE}
use Rattle.http_face.specs.declared.head.HeadEnds.{HeadEnds}
use Rattle.http_face.specs.declared.head.HeadEnds.TheVariants.{Whole, More, Bad}
use Rattle.http_face.specs.declared.head.HeadState.{HeadState}
use Rattle.http_face.specs.declared.head.HeadState.TheVariants.{Whole as WholeHead, More as MoreBytes, Bad as BadHead}

-- ---- what a head says

-- a header: its name, and its value without the spaces and tabs around it
abbrev pub Header : Type 0
Header = List ℕ × List ℕ

-- the headers of a head, in order
abbrev pub headers_of : RequestHead → List Header
headers_of h = map name_and_value h.fields

-- the header has this name, whatever the case of its ASCII letters
abbrev pub is_named : List ℕ → Header → Bool
is_named name header = str_eq_ignore_ascii_case header.0 name

-- the values of the headers of this name, in order
abbrev pub values_of : List ℕ → List Header → List (List ℕ)
values_of name headers = map (λ header. header.1) (filter (is_named name) headers)

-- one to ten decimal digits
abbrev pub is_length : List ℕ → Bool
is_length value = nat_le 1 (length value) && nat_le (length value) 10 && list_all is_ascii_digit value

-- how many bytes the body has by the one length that is given, or the status of what is wrong with that
abbrev pub body_of_value : List ℕ → Result ℕ ℕ
body_of_value value =
    if not (is_length value) then Err BAD_REQUEST
    else if nat_lt MAX_BODY_BYTES (digits_value 10 value) then Err CONTENT_TOO_LARGE
    else Ok (digits_value 10 value)

-- how many bytes the body has by the lengths that are given: without one the body is empty, and two are a fault
abbrev pub body_of_values : List (List ℕ) → Result ℕ ℕ
body_of_values [] = Ok 0
body_of_values (value ∷ []) = body_of_value value
body_of_values (value ∷ second ∷ more) = Err BAD_REQUEST

-- How many bytes the body has by the headers, or the status of the first fault: more than 64 headers, a transfer encoding,
-- and then what is wrong with the lengths.
abbrev pub body_of : List Header → Result ℕ ℕ
body_of headers =
    if nat_lt MAX_HEADERS (length headers) then Err BAD_REQUEST
    else if list_any (is_named (codes "transfer-encoding")) headers then Err BAD_REQUEST
    else body_of_values (values_of (codes "content-length") headers)

-- the member of a list is the word close, whatever its case and the spaces and tabs around it
abbrev pub is_close : List ℕ → Bool
is_close member = str_eq_ignore_ascii_case (trim_ows member) (codes "close")

-- the header is a `Connection` with the member close; its members stand between commas
abbrev pub asks_to_close : Header → Bool
asks_to_close header = is_named (codes "connection") header && list_any is_close (slice_split (λ b. b == 44) header.1)

-- the connection ends after the reply: the version is HTTP/1.0, or a header asks for it
abbrev pub closes : ℕ → List Header → Bool
closes minor headers = minor == 0 || list_any asks_to_close headers

-- what is told of a whole head of this length
abbrev pub told_of : ℕ → Bool → Result ℕ ℕ → HeadEnds
told_of size close (Ok body) = Whole size body close
told_of size close (Err status) = Bad status

abbrev pub ends_of : RequestHead → HeadEnds
ends_of h = told_of (length (print_request h)) (closes h.minor (headers_of h)) (body_of (headers_of h))

-- ---- what the bytes of a request so far tell

-- the bytes begin with a whole head, whose length is within the limit of 8,192 bytes
pub record StartsWith (bytes : List ℕ) (h : RequestHead) : Type 0 where
  pub rest : List ℕ
  pub reads : ReadsRequest bytes h rest
  pub short : length (print_request h) ≤ MAX_HEAD_BYTES

-- a whole head stands at the front of which this is told
abbrev pub HasHead : List ℕ → HeadEnds → Type 0
HasHead bytes told = (h : RequestHead) × StartsWith bytes h × (ends_of h ≡ told)

-- More than 64 whole header lines stand at the front, and each head that the bytes may yet begin with has more than 64
-- headers too.
pub record HasManyHeaders (bytes : List ℕ) : Type 0 where
  pub lines : RequestExceeds MAX_HEADERS bytes
  pub heads : RequestOverflows MAX_HEADERS bytes

-- There is no head yet, the bytes are fewer than 8,192, and some bytes can follow that make a head; or the bytes end in
-- a target, whose test for UTF-8 waits for its end.
pub record IsUnfinished (bytes : List ℕ) : Type 0 where
  pub few : length bytes < MAX_HEAD_BYTES
  pub none : HasNoRequest bytes
  pub may : MayBecomeRequest bytes

-- No head can follow, there are more than 64 headers, or 8,192 bytes have come and no head ends among them.
abbrev pub IsHopeless : List ℕ → Type 0
IsHopeless bytes =
    NeverHasRequest bytes ⊎ HasManyHeaders bytes
    ⊎ ((MAX_HEAD_BYTES ≤ length bytes) × HasNoRequest (take MAX_HEAD_BYTES bytes))

-- What is told of the head: of a whole head what it says; that it is unfinished; or the status of its fault, which is in
-- the whole head, or is 400 where no good head can come.
abbrev pub TellsHead : List ℕ → HeadEnds → Type 0
TellsHead bytes (Whole size body close) = HasHead bytes (Whole size body close)
TellsHead bytes More = IsUnfinished bytes
TellsHead bytes (Bad status) = HasHead bytes (Bad status) ⊎ ((status ≡ BAD_REQUEST) × IsHopeless bytes)

-- The reader of heads leaves it open in two cases whether fewer than 8,192 bytes without a head are unfinished or at fault,
-- and both may be told there. The bytes end in the target of a request and no continuation of them has a head, as where
-- the target can no more become UTF-8: it may be refused at once, or only at its end. Or more than 64 header lines
-- are whole, so that every head that can follow has too many: it may be refused at once, or only when it is whole.
pub record IsOpen (bytes : List ℕ) : Type 0 where
  pub few : length bytes < MAX_HEAD_BYTES
  pub none : HasNoRequest bytes
  pub either : (EndsInTarget bytes × NeverHasRequest bytes) ⊎ HasManyHeaders bytes

-- a state without the method and the target
abbrev pub state_ends : HeadState → HeadEnds
state_ends (WholeHead head) = Whole head.length head.body head.close
state_ends MoreBytes = More
state_ends (BadHead status) = Bad status

-- what is told of the head with its method and its target: `TellsHead`, and both are those of the head
abbrev pub TellsState : List ℕ → HeadState → Type 0
TellsState bytes (WholeHead head) =
    (h : RequestHead) × StartsWith bytes h × (ends_of h ≡ Whole head.length head.body head.close)
    × (head.method ≡ h.method) × (head.target ≡ h.target)
TellsState bytes MoreBytes = TellsHead bytes More
TellsState bytes (BadHead status) = TellsHead bytes (Bad status)

-- A good head stands at the front: so many bytes are its text, so many are announced for its body, and it asks for the end of
-- the connection or not.
pub record IsGoodHead (bytes : List ℕ) (h : RequestHead) (size body : ℕ) (close : Bool) : Type 0 where
  pub reads : ReadsRequest bytes h (drop size bytes)
  pub size_is : length (print_request h) ≡ size
  pub body_is : body_of (headers_of h) ≡ Ok body
  pub close_is : closes h.minor (headers_of h) ≡ close

-- what is told keeps the limits: a whole head, its body, and the bytes that are unfinished
abbrev pub IsWithinLimits : List ℕ → HeadEnds → Type 0
IsWithinLimits bytes (Whole size body close) = (size ≤ MAX_HEAD_BYTES) × (size ≤ length bytes) × (body ≤ MAX_BODY_BYTES)
IsWithinLimits bytes More = length bytes < MAX_HEAD_BYTES
IsWithinLimits bytes (Bad status) = (status ≡ BAD_REQUEST) ⊎ (status ≡ CONTENT_TOO_LARGE)
