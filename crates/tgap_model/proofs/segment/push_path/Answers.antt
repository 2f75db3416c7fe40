use Rattle.std.proofs.Common.{◌++◌, List, ap, ◌∙◌, sym}
use Rattle.std.proofs.lemmas.List.{append-nil}
use Rattle.tgap_model.specs.declared.segment.LabelledSegment.{LabelledSegment}
use Rattle.tgap_model.proofs.Segments.{path_end}
use Rattle.tgap_model.proofs.segment.push_path.Goals as goal

pub returns : goal.returns
returns c =
    let arc = c.args.arc.now in
    let items = c.loop-i.segments.items in
    let points = c.as_slice-points.result.now in
    let none = path_end c.args.number arc.left arc.right points c.loop-i.i c.loop-i.invariant.0 c.loop-i-test.false in
    sym (append-nil items) ∙ ap (λ (rest : List LabelledSegment). items ++ rest) (sym none) ∙ c.loop-i.invariant.1 ∙ rw (c.as_slice-points.ensures) cc
