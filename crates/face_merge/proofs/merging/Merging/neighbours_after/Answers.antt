-- One more link leads to a neighbour, or to the winner.
use Rattle.std.proofs.Common.{◌≡◌, ◌++◌, [], ◌∷◌}
use Rattle.face_merge.specs.declared.links.Link.{Link}
use Rattle.face_merge.proofs.Beside.{places_more, places_same}
use Rattle.face_merge.proofs.merging.Merging.neighbours_after.Goals.{then-link-pair+in_ok-push, else-link-pair}
use Rattle.face_merge.proofs.merging.Merging.neighbours_after.Goals as goal

pub loop-link-preserved : goal.loop-link-preserved
loop-link-preserved c =
    let r = c.args.self.now in
    let pair = c.args.pair.now in
    let links = c.args.links.now in
    let i = c.loop-link.link-index in
    let d : Link = record { slot = 0; length = 0 } in
    elim c.if-link-pair.branch [
      | then-link-pair+in_ok-push w ↦
          let pushed : c.if-link-pair.places.items ≡ c.loop-link.places.items ++ w.neighbour_after.result ∷ [] = cc (w.places-is, w.in_ok-push.ensures.items) in
          rw pushed (places_more r pair links i d c.loop-link.places.items w.neighbour_after.result c.loop-link-test.true w.neighbour_after.ensures.slot w.neighbour_after.ensures.neighbour c.loop-link.invariant)
      | else-link-pair w ↦
          let same : c.if-link-pair.places.items ≡ c.loop-link.places.items = cc (w.places-is) in
          rw same (places_same r pair links i d c.loop-link.places.items c.loop-link-test.true w.if-link-pair.false c.loop-link.invariant)
    ]
