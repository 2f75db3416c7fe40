-- The links are those by the arcs so far.
use Rattle.std.proofs.Common.{◌≡◌, ℕ, take}
use Rattle.face_merge.specs.Links.{length_at}
use Rattle.face_merge.specs.Linking.{link_of}
use Rattle.face_merge.proofs.links.Links.between.Given as goal

abbrev pub invariant-loop-arc : goal.invariant-loop-arc
invariant-loop-arc l = (f g : ℕ) → length_at l.links f g ≡ link_of (take l.arc-index l.arcs) f g
