-- The doubtful segments suffice for the others, and the least by number is the least of all.
use Rattle.std.proofs.Common.{◌≡◌, ◌<◌, ℕ, Bool, false, List, map, length, All, sym, ap, ◌∙◌, subst}
use Rattle.std.specs.List.{filter}
use Rattle.std.proofs.lemmas.List.Elements.{All-filter}
use Rattle.grid_index.proofs.Ordering.{order_below}
use Rattle.planar_apart.specs.Rows.{numbered}
use Rattle.planar_apart.specs.Doubts.{is_doubtful}
use Rattle.planar_apart.proofs.Doubts.{suffice}
use Rattle.planar_apart.proofs.Numbers.{row_proper, least_by_number, least_is_first}
use Rattle.planar_apart.proofs.search.least_pair.Goals as goal

pub row_of-requires-clause-inside : goal.row_of-requires-clause-inside
row_of-requires-clause-inside c =
    let segments = c.args.segments.now in
    let order = c.in_ok-order.order.items in
    let doubts = c.in_ok-doubts.doubts.items in
    let inside = order_below (length segments) order c.in_ok-order.ensures in
    let few_are = c.in_ok-numbers.ensures ∙ ap (filter (is_doubtful c.deref-2.result.now)) c.deref.ensures.value ∙ ap (λ (ds : List Bool). filter (is_doubtful ds) order) c.deref-2.ensures.value in
    subst (λ (numbers : List ℕ). All (λ i. i < length segments) numbers) (sym (c.deref-3.ensures.value ∙ few_are)) (All-filter (is_doubtful doubts) (λ i. i < length segments) order inside)

pub row_of-requires-2-clause-inside : goal.row_of-requires-2-clause-inside
row_of-requires-2-clause-inside c =
    let segments = c.args.segments.now in
    let order = c.in_ok-order.order.items in
    subst (λ (numbers : List ℕ). All (λ i. i < length segments) numbers) (sym c.deref-4.ensures.value) (order_below (length segments) order c.in_ok-order.ensures)

pub least_by_number-requires-clause-doubtful : goal.least_by_number-requires-clause-doubtful
least_by_number-requires-clause-doubtful c =
    let segments = c.args.segments.now in
    let order = c.in_ok-order.order.items in
    let doubts = c.in_ok-doubts.doubts.items in
    let inside = order_below (length segments) order c.in_ok-order.ensures in
    let few_are = c.in_ok-numbers.ensures ∙ ap (filter (is_doubtful c.deref-2.result.now)) c.deref.ensures.value ∙ ap (λ (ds : List Bool). filter (is_doubtful ds) order) c.deref-2.ensures.value in
    let few_is = c.as_slice-few.ensures ∙ c.in_ok-doubtful.ensures ∙ ap (map (numbered segments)) (c.deref-3.ensures.value ∙ few_are) in
    record {
      boxes_are = c.in_ok-few_tree.ensures ∙ c.in_ok-row_boxes.ensures;
      proper = row_proper segments (filter (is_doubtful doubts) order) c.as_slice-few.result.now (All-filter (is_doubtful doubts) (λ i. i < length segments) order inside) few_is c.requires.proper;
    }

pub least_by_number-requires-clause-row : goal.least_by_number-requires-clause-row
least_by_number-requires-clause-row c =
    let segments = c.args.segments.now in
    let order = c.in_ok-order.order.items in
    let row_is = c.as_slice-row.ensures ∙ c.in_ok-numbered.ensures ∙ ap (map (numbered segments)) c.deref-4.ensures.value in
    record {
      boxes_are = c.in_ok-tree.ensures ∙ c.in_ok-row_boxes-2.ensures;
      proper = row_proper segments order c.as_slice-row.result.now (order_below (length segments) order c.in_ok-order.ensures) row_is c.requires.proper;
    }

pub least_by_number-requires-clause-suffice : goal.least_by_number-requires-clause-suffice
least_by_number-requires-clause-suffice c =
    let segments = c.args.segments.now in
    let order = c.in_ok-order.order.items in
    let doubts = c.in_ok-doubts.doubts.items in
    let inside = order_below (length segments) order c.in_ok-order.ensures in
    let few_are = c.in_ok-numbers.ensures ∙ ap (filter (is_doubtful c.deref-2.result.now)) c.deref.ensures.value ∙ ap (λ (ds : List Bool). filter (is_doubtful ds) order) c.deref-2.ensures.value in
    let few_is = c.as_slice-few.ensures ∙ c.in_ok-doubtful.ensures ∙ ap (map (numbered segments)) (c.deref-3.ensures.value ∙ few_are) in
    let row_is = c.as_slice-row.ensures ∙ c.in_ok-numbered.ensures ∙ ap (map (numbered segments)) c.deref-4.ensures.value in
    λ i short e. suffice segments doubts order c.as_slice-row.result.now c.as_slice-few.result.now inside row_is few_is c.in_ok-doubts.ensures i short
    (subst (λ (ds : List Bool). is_doubtful ds i ≡ false) c.deref-5.ensures.value e)

pub returns : goal.returns
returns c =
    let segments = c.args.segments.now in
    let order = c.in_ok-order.order.items in
    let row_is = c.as_slice-row.ensures ∙ c.in_ok-numbered.ensures ∙ ap (map (numbered segments)) c.deref-4.ensures.value in
    least_is_first segments c.least_by_number.result (least_by_number segments order c.as_slice-row.result.now c.in_ok-order.ensures row_is c.least_by_number.result c.least_by_number.ensures)
