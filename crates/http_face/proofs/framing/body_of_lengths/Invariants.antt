use Rattle.std.proofs.Common.{◌≡◌, take, codes, option_map, option_to_list}
use Rattle.http_face.specs.Heads.{values_of}
use Rattle.http_face.specs.Found.{headers_at}
use Rattle.http_face.proofs.framing.body_of_lengths.Given as goal

-- what was found is the one length of the headers so far
abbrev pub invariant-loop-header : goal.invariant-loop-header
invariant-loop-header l =
    values_of (codes "content-length") (headers_at l.bytes (take l.header-index l.headers)) ≡ option_to_list (option_map (λ v. v.now) l.found)
