-- The pieces of a reply's head, one after another.
use Rattle.std.proofs.Common.{◌≡◌, ℕ, List, [], ◌++◌, codes, append_assoc}
use Rattle.http_face.specs.Replies.{head_line}

regroup : (version status space reason end type name pin allow close length size : List ℕ)
    → (((((((((((version ++ status) ++ space) ++ reason) ++ (end ++ type ++ end ++ name)) ++ pin) ++ end) ++ allow) ++ close) ++ length) ++ size) ++ (end ++ end))
    ≡ ((version ++ status ++ space ++ reason) ++ end) ++ (type ++ end) ++ ((name ++ pin) ++ end) ++ allow ++ close ++ ((length ++ size) ++ end) ++ end
regroup version status space reason end type name pin allow close length size = simp append_assoc

pub head_text : (status reason pin allow close size : List ℕ)
    → (((((((((((codes "HTTP/1.1 " ++ status) ++ codes " ") ++ reason) ++ codes "\r\nContent-Type: text/plain\r\nTgap-Version: ") ++ pin) ++ codes "\r\n") ++ allow) ++ close)
    ++ codes "Content-Length: ") ++ size) ++ codes "\r\n\r\n")
    ≡ head_line (codes "HTTP/1.1 " ++ status ++ codes " " ++ reason)
    ++ head_line (codes "Content-Type: text/plain")
    ++ head_line (codes "Tgap-Version: " ++ pin)
    ++ allow ++ close
    ++ head_line (codes "Content-Length: " ++ size)
    ++ head_line []
head_text status reason pin allow close size =
    regroup (codes "HTTP/1.1 ") status (codes " ") reason (codes "\r\n") (codes "Content-Type: text/plain") (codes "Tgap-Version: ") pin allow close (codes "Content-Length: ") size
