-- The definitions on small cases.
use Rattle.std.proofs.Common.{refl}
use Rattle.std.specs.Prelude.{◌≡◌, pos, negsuc, ℕ, true, false, List, [], ◌∷◌, ◌++◌, codes, Some, None, Ok, Err}
use Rattle.httparse.specs.Grammar.{RequestHead, crlf, print_request, trim_ows}
use Rattle.std.specs.Fmt.{digits}
use Rattle.std.specs.Str.{is_utf8, chars}
use lib.Utf8.{encode}
use Rattle.line_forms.specs.Texts.{number_of}
use Rattle.http_face.specs.declared.head.HeadEnds.TheVariants.{Whole}
use Rattle.http_face.specs.declared.request.Allow.TheVariants.{Get, Post}
use Rattle.http_face.specs.declared.request.Route.TheVariants as route
use Rattle.http_face.specs.Heads.{Header, body_of, closes, ends_of}
use Rattle.http_face.specs.Routes.{route_of}
use Rattle.http_face.specs.Replies.{reply_text, memory_reply}

-- ---- heads

abbrev header : List ℕ → List ℕ → List Header
header name value = (name, value) ∷ []

lengths : (body_of [] ≡ Ok 0)
    × (body_of (header (codes "Content-Length") (codes "17")) ≡ Ok 17)
    × (body_of (header (codes "content-LENGTH") (codes "0000000017")) ≡ Ok 17)
    × (body_of (header (codes "Content-Length") (codes "1048576")) ≡ Ok 1048576)
    × (body_of (header (codes "Content-Length") (codes "1048577")) ≡ Err 413)
    × (body_of (header (codes "Content-Length") (codes "9999999999")) ≡ Err 413)
    × (body_of (header (codes "Content-Length") (codes "00000000017")) ≡ Err 400)
    × (body_of (header (codes "Content-Length") (codes "+17")) ≡ Err 400)
    × (body_of (header (codes "Content-Length") (codes "")) ≡ Err 400)
    × (body_of (header (codes "Content-Length") (codes "17") ++ header (codes "Host") (codes "t") ++ header (codes "Content-Length") (codes "17")) ≡ Err 400)
    × (body_of (header (codes "Content-Length") (codes "1048577") ++ header (codes "TRANSFER-Encoding") (codes "chunked")) ≡ Err 400)
lengths = (refl, refl, refl, refl, refl, refl, refl, refl, refl, refl, refl)

ends : (closes 0 [] ≡ true) × (closes 1 [] ≡ false)
    × (closes 1 (header (codes "Connection") (codes "close")) ≡ true)
    × (closes 1 (header (codes "Connection") (codes "keep-alive")) ≡ false)
    × (closes 1 (header (codes "connection") (codes "upgrade \t,\t CLOSE , x")) ≡ true)
    × (closes 1 (header (codes "connection") (codes "close x")) ≡ false)
unfolding trim_ows
ends = (refl, refl, refl, refl, refl, refl)

abbrev edit_head : RequestHead
edit_head = record {
  blank = [];
  method = codes "POST";
  target = codes "/edit";
  minor = 1;
  line_end = crlf;
  fields = record { name = codes "Host"; raw = codes " t"; end = crlf }
      ∷ record { name = codes "Content-Length"; raw = codes " 17"; end = crlf } ∷ [];
  last = crlf;
}

edit : (print_request edit_head ≡ codes "POST /edit HTTP/1.1\r\nHost: t\r\nContent-Length: 17\r\n\r\n") × (ends_of edit_head ≡ Whole 52 17 false)
unfolding print_request trim_ows
edit = (refl, refl)

-- ---- routes

get_paths : (route_of (codes "GET") (codes "/info") ≡ route.Info)
    × (route_of (codes "GET") (codes "/info?a=/b") ≡ route.Info)
    × (route_of (codes "GET") (codes "/slice/0") ≡ route.Slice 0)
    × (route_of (codes "GET") (codes "/slice/4294967295") ≡ route.Slice 4294967295)
    × (route_of (codes "GET") (codes "/slice/4294967296") ≡ route.BadNumber)
    × (route_of (codes "GET") (codes "/slice/01") ≡ route.BadNumber)
    × (route_of (codes "GET") (codes "/slice/%31") ≡ route.BadNumber)
    × (route_of (codes "GET") (codes "/packet/3/1") ≡ route.Packet 3 1)
    × (route_of (codes "GET") (codes "/packet/3/x") ≡ route.BadNumber)
unfolding is_utf8 chars encode digits number_of
get_paths = (refl, refl, refl, refl, refl, refl, refl, refl, refl)

windows :
    (route_of (codes "GET") (codes "/window/0/12/-2/30/4") ≡ route.Window 0 (record { x0 = pos 12; y0 = negsuc 1; x1 = pos 30; y1 = pos 4 }))
    × (route_of (codes "GET") (codes "/window/0/-2147483648/0/2147483648/0") ≡ route.Window 0 (record { x0 = negsuc 2147483647; y0 = pos 0; x1 = pos 2147483648; y1 = pos 0 }))
    × (route_of (codes "GET") (codes "/window/0/0/0/2147483649/0") ≡ route.BadNumber)
    × (route_of (codes "GET") (codes "/window/0/1/0/0/0") ≡ route.BadNumber)
    × (route_of (codes "GET") (codes "/window/0/0/1/0/0") ≡ route.BadNumber)
    × (route_of (codes "GET") (codes "/window/0/1/0/0") ≡ route.NoRoute)
unfolding is_utf8 chars encode digits number_of
windows = (refl, refl, refl, refl, refl, refl)

-- the packets of windows
window_packets :
    (route_of (codes "GET") (codes "/window-packet/3/1/12/-2/30/4") ≡ route.WindowPacket 3 1 (record { x0 = pos 12; y0 = negsuc 1; x1 = pos 30; y1 = pos 4 }))
    × (route_of (codes "GET") (codes "/window-packet/1/3/0/0/0/0") ≡ route.WindowPacket 1 3 (record { x0 = pos 0; y0 = pos 0; x1 = pos 0; y1 = pos 0 }))
    × (route_of (codes "GET") (codes "/window-packet/3/x/0/0/0/0") ≡ route.BadNumber)
    × (route_of (codes "GET") (codes "/window-packet/3/1/0/0/2147483649/0") ≡ route.BadNumber)
    × (route_of (codes "GET") (codes "/window-packet/1/3/1/0/0/0") ≡ route.BadNumber)
    × (route_of (codes "GET") (codes "/window-packet/1/3/0/1/0/0") ≡ route.BadNumber)
    × (route_of (codes "POST") (codes "/window-packet/3/x/0/0/0/0") ≡ route.WrongMethod Get)
    × (route_of (codes "GET") (codes "/window-packet/3/1/0/0/0") ≡ route.NoRoute)
unfolding is_utf8 chars encode digits number_of
window_packets = (refl, refl, refl, refl, refl, refl, refl, refl)

topologies : (route_of (codes "GET") (codes "/topo/0") ≡ route.Topo 0)
    × (route_of (codes "GET") (codes "/topo/4294967295?a") ≡ route.Topo 4294967295)
    × (route_of (codes "GET") (codes "/topo/4294967296") ≡ route.BadNumber)
    × (route_of (codes "GET") (codes "/topo/00") ≡ route.BadNumber)
    × (route_of (codes "POST") (codes "/topo/x") ≡ route.WrongMethod Get)
    × (route_of (codes "GET") (codes "/topo") ≡ route.NoRoute)
    × (route_of (codes "GET") (codes "/topo/") ≡ route.NoRoute)
    × (route_of (codes "GET") (codes "/topo/0/1") ≡ route.NoRoute)
unfolding is_utf8 chars encode digits number_of
topologies = (refl, refl, refl, refl, refl, refl, refl, refl)

posts : (route_of (codes "POST") (codes "/pin") ≡ route.Pin)
    × (route_of (codes "POST") (codes "/pin/9") ≡ route.PinSeen 9)
    × (route_of (codes "POST") (codes "/edit") ≡ route.Edit)
    × (route_of (codes "GET") (codes "/edit") ≡ route.WrongMethod Post)
    × (route_of (codes "DELETE") (codes "/info") ≡ route.WrongMethod Get)
    × (route_of (codes "POST") (codes "/slice/01") ≡ route.WrongMethod Get)
    × (route_of (codes "get") (codes "/info") ≡ route.WrongMethod Get)
unfolding is_utf8 chars encode digits number_of
posts = (refl, refl, refl, refl, refl, refl, refl)

no_paths : (route_of (codes "GET") (codes "/nothing") ≡ route.NoRoute)
    × (route_of (codes "DELETE") (codes "/nothing") ≡ route.NoRoute)
    × (route_of (codes "GET") (codes "/info/") ≡ route.NoRoute)
    × (route_of (codes "GET") (codes "/") ≡ route.NoRoute)
    × (route_of (codes "GET") (codes "info") ≡ route.NoRoute)
    × (route_of (codes "GET") (codes "//info") ≡ route.NoRoute)
    × (route_of (codes "GET") (codes "/slice/") ≡ route.NoRoute)
    × (route_of (codes "GET") (codes "/slice/1/") ≡ route.NoRoute)
    × (route_of (codes "GET") (codes "/slice?step=1") ≡ route.NoRoute)
    × (route_of (codes "GET") (codes "/%69nfo") ≡ route.NoRoute)
    × (route_of (codes "GET") (codes "/info?" ++ 255 ∷ []) ≡ route.NoRoute)
unfolding is_utf8 chars encode
no_paths = (refl, refl, refl, refl, refl, refl, refl, refl, refl, refl, refl)

-- ---- replies

info_reply : reply_text (record { status = 200; pin = 0; allow = None; close = false; body = codes "version 0 steps 1 faces 2 arcs 3 points 10\n" })
    ≡ codes "HTTP/1.1 200 OK\r\nContent-Type: text/plain\r\nTgap-Version: 0\r\nContent-Length: 43\r\n\r\nversion 0 steps 1 faces 2 arcs 3 points 10\n"
unfolding digits
info_reply = refl

wrong_method_reply : reply_text (record { status = 405; pin = 7; allow = Some Get; close = true; body = codes "wrong method\n" })
    ≡ codes "HTTP/1.1 405 Method Not Allowed\r\nContent-Type: text/plain\r\nTgap-Version: 7\r\nAllow: GET\r\nConnection: close\r\nContent-Length: 13\r\n\r\nwrong method\n"
unfolding digits
wrong_method_reply = refl

no_memory_reply : reply_text (memory_reply 12 true)
    ≡ codes "HTTP/1.1 503 Service Unavailable\r\nContent-Type: text/plain\r\nTgap-Version: 12\r\nConnection: close\r\nContent-Length: 7\r\n\r\nmemory\n"
unfolding digits
no_memory_reply = refl
