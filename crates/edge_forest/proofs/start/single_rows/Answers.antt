-- One more row.
use Rattle.std.proofs.Common.{◌++◌, ◌∷◌, [], Some, List, Option, ◌+◌, ◌*◌, sym, ap, ap₂, ◌∙◌, arith}
use Rattle.std.proofs.lemmas.List.{get_or_default}
use Rattle.std.proofs.lemmas.List.FromFn.{map-range_with_len_more}
use Rattle.tgap_model.specs.declared.base.BaseArc.{BaseArc}
use Rattle.edge_forest.specs.declared.net.Current.{Current}
use Rattle.edge_forest.specs.Start.{arc_row}
use Rattle.edge_forest.proofs.start.single_rows.Goals as goal

pub loop-i-preserved : goal.loop-i-preserved
loop-i-preserved c =
    let i = c.loop-i.i in
    let arcs = c.args.arcs.now in
    let no_arc : BaseArc = record { left = 0; right = 0; points = [] } in
    let left = get_or_default arcs i c.index-arcs-i.result no_arc c.loop-i-test.true in
    let right = get_or_default arcs i c.index-arcs-i-in-loop-i.result no_arc c.loop-i-test.true in
    c.in_ok-push.ensures.items
    ∙ ap₂ (λ (a b : BaseArc). c.loop-i.rows.items ++ Some (record { id = i; first = 2 * i; last = 2 * i + 1; left = a.left; right = b.right }) ∷ []) left right
    ∙ ap (λ (rows : List (Option Current)). rows ++ arc_row arcs i ∷ []) c.loop-i.invariant
    ∙ sym (map-range_with_len_more (arc_row arcs) 0 i i (omega arith))
