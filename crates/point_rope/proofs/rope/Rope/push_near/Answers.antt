use Rattle.std.proofs.Common.{◌-◌, ◌++◌, ◌≡◌, ℕ, List, map, take, option_to_list, ap, ◌∙◌}
use Rattle.std.proofs.lemmas.Result.{on_ok_weaker}
use Rattle.tgap_model.specs.declared.geometry.Point.{Point}
use Rattle.grid_index.specs.Near.{boxes_near, near_boxes}
use Rattle.grid_index.specs.Live.{segment_boxes}
use Rattle.point_rope.specs.Ends.{last_one}
use Rattle.point_rope.specs.Runs.{joined}
use Rattle.point_rope.proofs.NearRuns.{segment_of, found_both}
use Rattle.point_rope.proofs.rope.Rope.push_near.Goals as goal

pub returns : goal.returns
returns c =
    let full = joined c.self.inside.full in
    let last = c.self.inside.last.items in
    let area = c.args.area.now in
    let of = segment_of c.args.key in
    let place = c.count-place.result in
    let end = c.in_ok-end.end in
    let first = c.push_near_runs.new.found in
    let seam = c.push_seam.new.found in
    let is : option_to_list end ≡ last_one full = c.in_ok-end.ensures.end ∙ ap (λ (runs : List (List Point)). last_one (joined runs)) c.as_slice.ensures in
    let begun = c.in_ok-end.ensures.found ∙ ap (λ (runs : List (List Point)). c.args.found.now ++ map of (near_boxes area (segment_boxes (joined runs)))) c.as_slice.ensures in
    let between : seam ≡ first ++ map of (boxes_near area (place - 1) (segment_boxes (option_to_list end ++ take 1 last))) =
    c.in_ok-push_seam.ensures ∙ ap (λ (n : ℕ). first ++ map of (boxes_near area n (segment_boxes (option_to_list end ++ take 1 c.deref.result.now)))) c.saturating_sub.ensures
    ∙ ap (λ (ps : List Point). first ++ map of (boxes_near area (place - 1) (segment_boxes (option_to_list end ++ take 1 ps)))) c.deref.ensures.value in
    on_ok_weaker c.push_near_of.result
    (λ h. found_both c.args.key area end full last place c.args.found.now first seam c.push_near_of.new.found is c.count-place.ensures begun between
    (h ∙ ap (λ (ps : List Point). seam ++ map of (boxes_near area place (segment_boxes ps))) c.deref-2.ensures.value)
    ∙ ap (λ (ps : List Point). c.args.found.now ++ map of (near_boxes area (segment_boxes ps))) c.self.view_is)
    c.push_near_of.ensures
