-- The bytes of a reply (RFC 9112, section 4; RFC 9110, section 15).
use Rattle.std.specs.Prelude.{◌≡◌, ◌↔◌, ℕ, Bool, true, false, ◌==◌, List, [], ◌∷◌, ◌++◌, length, codes, decimal, Option, Some, None, IsTrue, IsSome, if◌then◌else◌}
use Rattle.std.specs.List.{list_any}
use Rattle.http_face.specs.declared.request.Allow.{Allow}
use Rattle.http_face.specs.declared.reply.Reply.{Reply}
use Rattle.http_face.specs.Routes.{method_word}

-- what a status is called; nothing, where no reply has that status
abbrev pub reason_of : ℕ → List ℕ
reason_of status =
    if status == 200 then codes "OK"
    else if status == 400 then codes "Bad Request"
    else if status == 404 then codes "Not Found"
    else if status == 405 then codes "Method Not Allowed"
    else if status == 409 then codes "Conflict"
    else if status == 413 then codes "Content Too Large"
    else if status == 422 then codes "Unprocessable Content"
    else if status == 500 then codes "Internal Server Error"
    else if status == 503 then codes "Service Unavailable"
    else if status == 507 then codes "Insufficient Storage"
    else []

-- the statuses of replies
abbrev pub is_status : ℕ → Bool
is_status status = list_any (λ s. s == status) (200 ∷ 400 ∷ 404 ∷ 405 ∷ 409 ∷ 413 ∷ 422 ∷ 500 ∷ 503 ∷ 507 ∷ [])

-- a line of a head, with its end
abbrev pub head_line : List ℕ → List ℕ
head_line text = text ++ codes "\r\n"

-- the header that names the method that the path takes, where there is one
abbrev pub allow_line : Option Allow → List ℕ
allow_line None = []
allow_line (Some method) = head_line (codes "Allow: " ++ method_word method)

-- the header that says that the connection ends, where it does
abbrev pub close_line : Bool → List ℕ
close_line true = head_line (codes "Connection: close")
close_line false = []

-- the head of a reply to a body of this length, and the empty line after it
abbrev pub reply_head : ℕ → ℕ → Option Allow → Bool → ℕ → List ℕ
reply_head status pin allow close size =
    head_line (codes "HTTP/1.1 " ++ decimal status ++ codes " " ++ reason_of status)
    ++ head_line (codes "Content-Type: text/plain")
    ++ head_line (codes "Tgap-Version: " ++ decimal pin)
    ++ allow_line allow ++ close_line close
    ++ head_line (codes "Content-Length: " ++ decimal size)
    ++ head_line []

-- the bytes of a reply
abbrev pub reply_text : Reply → List ℕ
reply_text r = reply_head r.status r.pin r.allow r.close (length r.body) ++ r.body

-- a reply that can be sent: its status is one of the list, and a method is named exactly with 405
pub record IsReply (r : Reply) : Type 0 where
  pub status : IsTrue (is_status r.status)
  pub allow : IsSome r.allow ↔ (r.status ≡ 405)

-- the reply where there was no memory to answer a request
abbrev pub memory_reply : ℕ → Bool → Reply
memory_reply pin close = record { status = 503; pin = pin; allow = None; close = close; body = codes "memory\n" }
