-- What stands at the front of the bytes that are held.
use Rattle.std.proofs.Common.{◌≡◌, ℕ, ◌+◌, ◌≤◌, ◌<◌, Bool, List, [], ◌++◌, length, take, drop, Option, Some, None, Result, Ok, Err, sym, ap, ◌∙◌, arith, append_assoc, length-append, take-append-drop, length-take-le, IfSome, subst}
use Rattle.std.proofs.lemmas.List.{append-nil}
use Rattle.httparse.specs.Grammar.{print_request}
use Rattle.http_face.specs.declared.head.HeadAsks.TheVariants as asks
use Rattle.http_face.specs.declared.request.Route.{Route}
use Rattle.http_face.specs.Asks.{TellsAsks}
use Rattle.http_face.specs.declared.head.HeadEnds.TheVariants.{Whole}
use Rattle.http_face.specs.Heads.{headers_of, body_of, closes, told_of}
use Rattle.http_face.proofs.HeadLaws.{starts_stays}
use Rattle.session.specs.Items.{LacksBody}
use Rattle.session.specs.declared.coming.NextRequest.{NextRequest}
use Rattle.session.specs.Coming.{BeginsWith, BeginsHead}
use Rattle.session.specs.Reading.{Received}

-- what a whole head tells of it
told_whole : (n : ℕ) (c : Bool) (r : Result ℕ ℕ) (size body : ℕ) (close : Bool)
    → told_of n c r ≡ Whole size body close → (size ≡ n) × (r ≡ Ok body) × (close ≡ c)
told_whole n c (Ok b) size body close e = (cc, cc, cc)
told_whole n c (Err s) size body close e = (cc, cc, cc)

-- where the body is there too, a request begins
pub whole_begins : (bytes : List ℕ) (size body : ℕ) (close : Bool) (asked : Route)
    → TellsAsks bytes (asks.Whole size body close asked) → size + body ≤ length bytes → BeginsWith bytes (record { head = size; body = body; close = close; asked = asked })
whole_begins bytes size body close asked (h, starts, is, asks_is) fits =
    let told = told_whole (length (print_request h)) (closes h.minor (headers_of h)) (body_of (headers_of h)) size body close is in
    let rest = starts.rest in
    let all : length bytes ≡ length (print_request h) + length rest = ap length starts.reads.1 ∙ length-append (print_request h) rest in
    let there : body ≤ length rest = omega (arith, told.0) in
    let len : length (take body rest) ≡ body = length-take-le body rest there in
    record {
      head = h;
      body = take body rest;
      rest = drop body rest;
      request = record { valid = starts.reads.0; short = starts.short; whole = told.1 ∙ ap Ok (sym len) };
      bytes_are = starts.reads.1 ∙ ap (λ xs. print_request h ++ xs) (sym (take-append-drop body rest));
      head_size = told.0;
      body_size_is = sym len;
      closing = told.2;
      asks = asks_is;
    }

-- where it is not, it lacks
pub whole_lacks : (bytes : List ℕ) (size body : ℕ) (close : Bool) (asked : Route)
    → TellsAsks bytes (asks.Whole size body close asked) → length bytes < size + body → LacksBody bytes
whole_lacks bytes size body close asked (h, starts, is, asks_is) few =
    let told = told_whole (length (print_request h)) (closes h.minor (headers_of h)) (body_of (headers_of h)) size body close is in
    let rest = starts.rest in
    let all : length bytes ≡ length (print_request h) + length rest = ap length starts.reads.1 ∙ length-append (print_request h) rest in
    record {
      head = h;
      body = rest;
      size = body;
      valid = starts.reads.0;
      short = starts.short;
      announced = told.1;
      lacks = omega (arith, told.0);
      bytes_are = starts.reads.1;
    }

-- a head stays, where bytes follow
pub head_stays : (bytes more : List ℕ) (next : NextRequest) → BeginsHead bytes next → BeginsHead (bytes ++ more) next
head_stays bytes more next (h, starts, is, asks_is) = (h, starts_stays bytes more h starts, is, asks_is)

-- and where bytes were taken
pub head_received : (before now : Option (List ℕ)) (held room : List ℕ) (next : NextRequest) → Received before now held room → BeginsHead held next → BeginsHead room next
head_received before now held room next (p, f, e) head = subst (λ b. BeginsHead b next) (sym e) (head_stays held p next head)

-- nothing was taken
pub received_nothing : (taken : Option (List ℕ)) (held : List ℕ) → Received taken taken held held
received_nothing None held = ([], tt, sym (append-nil held))
received_nothing (Some before) held = ([], ap Some (sym (append-nil before)), sym (append-nil held))

-- what was taken once, and then again
pub received_more : (a b c : Option (List ℕ)) (x y z : List ℕ) → Received a b x y → Received b c y z → Received a c x z
received_more None b c x y z (p, f, e) (q, g, d) = (p ++ q, tt, d ∙ ap (λ xs. xs ++ q) e ∙ append_assoc x p q)
received_more (Some before) b c x y z (p, f, e) (q, g, d) =
    let g' : c ≡ Some ((before ++ p) ++ q) = (let P = λ (o : Option (List ℕ)). IfSome o (λ t. c ≡ Some (t ++ q)) in subst P f g) in
    (p ++ q, g' ∙ ap Some (append_assoc before p q), d ∙ ap (λ xs. xs ++ q) e ∙ append_assoc x p q)
