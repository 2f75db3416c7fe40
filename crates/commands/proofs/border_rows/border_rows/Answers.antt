use Rattle.std.proofs.Common.{◌≡◌, List, length, take, slice_index, ◌∙◌, arith}
use Rattle.std.proofs.lemmas.Result.{IfOk-weaker}
use Rattle.std.proofs.lemmas.List.Elements.{recursion_from_All}
use Rattle.tgap_model.specs.declared.border.BorderRow.{BorderRow}
use Rattle.tgap_model.specs.History.{label_after}
use Rattle.commands.specs.Border.{border_by}
use Rattle.tgap_model.proofs.BaseFacts.{ArcFacts, base_facts, each_arc}
use Rattle.face_tree.specs.Tree.{AreLabels}
use Rattle.commands.proofs.Sides.{same_border, sides_below}
use Rattle.commands.proofs.border_rows.border_rows.Goals as goal

pub rows_of-requires-clause-few : goal.rows_of-requires-clause-few
rows_of-requires-clause-few c =
    let k = base_facts c.args.base.now c.arcs.ensures.base in
    rw (c.as_slice.ensures, c.arcs.ensures.value) (omega (arith, k.few_arcs))

pub rows_of-requires-clause-labelled : goal.rows_of-requires-clause-labelled
rows_of-requires-clause-labelled c =
    let m = c.args.base.now in
    let are : AreLabels (length m.classes) (take c.args.step c.args.steps.now) c.in_ok-labels.labels.items = rw c.in_ok-tree.ensures at c.in_ok-labels.ensures in
    rw (c.as_slice.ensures, c.arcs.ensures.value, c.as_slice-2.ensures.value)
    (sides_below (length m.classes) _ m.arcs (each_arc m (base_facts m c.arcs.ensures.base)) (omega (arith, are.count)))

pub returns : goal.returns
returns c =
    let m = c.args.base.now in
    let steps = take c.args.step c.args.steps.now in
    let are : AreLabels (length m.classes) steps c.in_ok-labels.labels.items = rw c.in_ok-tree.ensures at c.in_ok-labels.ensures in
    let sides = recursion_from_All (ArcFacts (length m.classes)) m.arcs (each_arc m (base_facts m c.arcs.ensures.base)) in
    let same = same_border (length m.classes) (slice_index c.in_ok-labels.labels.items) (label_after steps) 0 m.arcs sides are.value in
    let rows = rw (c.as_slice.ensures, c.arcs.ensures.value, c.as_slice-2.ensures.value) at c.rows_of.ensures in
    IfOk-weaker c.rows_of.result _ (λ (rows : List BorderRow). rows ≡ border_by (label_after steps) 0 m.arcs) (λ r e. e ∙ same) rows
