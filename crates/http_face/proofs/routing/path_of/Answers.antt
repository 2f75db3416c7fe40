use Rattle.std.proofs.Common.{sym, ◌∙◌, arith}
use Rattle.std.proofs.lemmas.Str.Pattern.{find_char}
use Rattle.http_face.proofs.Paths.{path_to, path_whole}
use Rattle.http_face.proofs.routing.path_of.Goals as goal

pub returns-in-Some : goal.returns-in-Some
returns-in-Some c =
    let found = rw c.in-Some.is at (find_char 63 c.args.target.now c.find.result c.find.ensures.cases (omega arith)) in
    c.range.ensures.value ∙ path_to c.args.target.now c.in-Some.end found

pub returns-in-None : goal.returns-in-None
returns-in-None c =
    let none = rw c.in-None.is at (find_char 63 c.args.target.now c.find.result c.find.ensures.cases (omega arith)) in
    sym (path_whole c.args.target.now none)
