-- Of a generated map no file is told.
use Rattle.std.proofs.Common.{map}
use Rattle.std.specs.Prelude.{string_bytes}
use Rattle.commands.specs.Answers.{Failed, outcome_from}
use Rattle.commands.proofs.GridLine.{grid_answers}
use Rattle.commands.proofs.answer.answer.Goals as goal

pub returns-in-Some-Grid-clause-answers : goal.returns-in-Some-Grid-clause-answers
returns-in-Some-Grid-clause-answers g c =
    let before = g.F.Files.faults c.args.files.now in
    grid_answers (map string_bytes c.args.words.now) (g.F.Files.told c.args.files.now) (Failed before before) c.in-Some-Grid.size.rows (outcome_from c.answer-in-Some-Grid.result)
    (rw c.in-Some-Grid.field-0-is at c.in-Some-Grid.ensures) c.answer-in-Some-Grid.ensures
