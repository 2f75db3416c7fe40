use Rattle.std.proofs.Common.{◌≡◌, ◌==◌, length}
use Rattle.std.specs.List.{list_any, slice_split}
use Rattle.http_face.specs.Heads.{is_close}
use Rattle.http_face.proofs.framing.has_close.Given as goal

-- no member so far is the word
abbrev pub invariant-loop-member : goal.invariant-loop-member
invariant-loop-member l = list_any is_close l.members ≡ list_any is_close (slice_split (λ b. b == 44) l.value)

abbrev pub decreases-loop-member : goal.decreases-loop-member
decreases-loop-member l = length l.members
