-- Only the edges whose boxes meet the area have segments near it.
use Rattle.std.proofs.Common.{◌≡◌, List, IfOk, ap, ◌∙◌, subst}
use Rattle.std.specs.List.{flat_map}
use Rattle.grid_index.specs.declared.live.SegmentPlace.{SegmentPlace}
use Rattle.grid_index.specs.Live.{near_segments}
use Rattle.tgap_build.specs.Sought.{segments_in}
use Rattle.tgap_build.proofs.BoxedEdges.{near_is}
use Rattle.tgap_build.proofs.live_ropes.LiveRopesLiveTable.near.Goals as goal

pub returns-clause-near : goal.returns-clause-near
returns-clause-near c =
    let area = c.args.area in
    let places = c.self.inside.places.now in
    let all = ap (flat_map (segments_in area places)) (c.as_slice.ensures ∙ c.in_ok-keys.ensures)
    ∙ near_is area places c.self.inside.boxes.now c.self.invariant.2 ∙ ap (near_segments area) c.self.view_is in
    subst (λ (ss : List SegmentPlace). IfOk c.segments_of.result (λ (places : List SegmentPlace). places ≡ ss)) all c.segments_of.ensures
