use Rattle.std.proofs.Common.{ℕ, ◌<◌, ◌^◌, List, length, All, sym, ◌∙◌, subst, arith}
use Rattle.std.proofs.lemmas.List.Elements.{All-weaker}
use Rattle.grid_index.specs.Near.{near_boxes}
use Rattle.grid_index.proofs.Meeting.{near_below}
use Rattle.grid_index.proofs.segments.SegmentBoxes.near.Goals as goal

pub narrowed-requires : goal.narrowed-requires
narrowed-requires c =
    let area = c.args.area.now in
    let boxes = c.self.inside.tree in
    let few = c.self.invariant in
    subst (λ (places : List ℕ). All (λ n. n < 2 ^ 32) places) (sym (c.deref.ensures.value ∙ c.in_ok-places.ensures))
    (All-weaker (λ n. n < length boxes) (λ n. n < 2 ^ 32) (λ n l. omega (arith, few)) (near_boxes area boxes) (near_below area boxes))
