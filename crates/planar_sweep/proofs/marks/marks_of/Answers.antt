-- The marks of both ends of all segments are there, and sorting orders their keys.
use Rattle.std.proofs.Common.{rules, ◌++◌, List, length, map, filter, ap, ◌∙◌, subst, IsPermutation}
use Rattle.std.specs.List.{range_with_len}
use Rattle.std.proofs.lemmas.Fn.{always_returns_same}
use Rattle.lemmas.proofs.Ascending.{ascending_by_key}
use Rattle.planar_sweep.specs.declared.marks.Mark.{Mark}
use Rattle.planar_sweep.specs.Ends.{front_mark, last_mark, is_loose}
use Rattle.planar_sweep.proofs.marks.marks_of.Goals as goal

pub returns : goal.returns
returns c =
    let segments = c.args.segments.now in
    let marks = c.sort_unstable_by_key.new.self.items in
    let fronts = map (front_mark segments) (range_with_len 0 (length segments)) in
    let lasts = filter (is_loose segments) (map (last_mark segments) (range_with_len 0 (length segments))) in
    record {
      moved = subst (λ (ms : List Mark). IsPermutation ms marks)
          (c.in_ok-push_lasts.ensures ∙ ap (λ (ms : List Mark). ms ++ lasts) (c.in_ok-push_fronts.ensures ∙ ap (λ (ms : List Mark). ms ++ fronts) c.in_ok-marks.ensures.items))
          c.sort_unstable_by_key.ensures.permutation;
      ascend = ascending_by_key (λ m. m.key) _ (c.sort_unstable_by_key.ensures.sorted (λ m. m.key) (always_returns_same _ _ _ (λ a r f' k. search rules)));
    }
