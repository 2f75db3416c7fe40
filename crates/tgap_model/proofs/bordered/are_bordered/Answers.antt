use Rattle.std.proofs.Common.{◌%◌, map, ap, ◌∙◌}
use Rattle.std.specs.List.{list_any, list_all}
use Rattle.std.specs.Prelude.{nat_le}
use Rattle.tgap_model.specs.Base.{borders_face}
use Rattle.tgap_model.specs.declared.bordered.TheConstants.{MARK}
use Rattle.tgap_model.proofs.Marks.{all-marked, map-marked}
use Rattle.tgap_model.proofs.bordered.are_bordered.Goals as goal

pub returns-clause-value : goal.returns-clause-value
returns-clause-value c =
    c.are_marked-is_each_marked.ensures
    ∙ ap (list_all (nat_le MARK)) c.mark_bordered.ensures
    ∙ all-marked (λ f. list_any (borders_face f) c.args.arcs.now) 1 c.args.classes.now c.requires.classes

pub returns-clause-same : goal.returns-clause-same
returns-clause-same c =
    c.take_marks_off.ensures
    ∙ ap (map (λ k. k % MARK)) c.mark_bordered.ensures
    ∙ map-marked (λ f. list_any (borders_face f) c.args.arcs.now) 1 c.args.classes.now c.requires.classes
