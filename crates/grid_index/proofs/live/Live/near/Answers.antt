use Rattle.std.proofs.Common.{◌≡◌, ◌<◌, ◌∙◌, ap, List, map, AllPairs, IsPermutation}
use Rattle.std.specs.List.{flat_map}
use Rattle.std.proofs.lemmas.Result.{IfOk-weaker}
use Rattle.grid_index.specs.declared.live.SegmentPlace.{SegmentPlace}
use Rattle.grid_index.specs.declared.segments.Entry.{Entry}
use Rattle.grid_index.specs.Live.{near_segments}
use Rattle.grid_index.specs.Slots.{held, entry_of, entry_near}
use Rattle.grid_index.proofs.Living.{entries_ascend, near_of_entries}
use Rattle.grid_index.proofs.live.Live.near.Goals as goal

pub returns : goal.returns
returns c =
    let edges = c.self.inside.edges in
    let area = c.args.area in
    IfOk-weaker c.near.result
    (λ (found : List SegmentPlace). (es : List Entry) → IsPermutation es (held c.self.inside.slots) → AllPairs (λ e f. e.key < f.key) es → found ≡ flat_map (entry_near area) es)
    (λ (found : List SegmentPlace). found ≡ near_segments area c.args.self.now)
    (λ found h. h (map entry_of edges) c.self.invariant.held (entries_ascend edges c.self.invariant.live.ascending) ∙ near_of_entries area edges ∙ ap (near_segments area) c.self.view_is)
    c.near.ensures
