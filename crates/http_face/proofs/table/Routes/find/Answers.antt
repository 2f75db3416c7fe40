use Rattle.std.proofs.Common.{sym, ap, ◌∙◌}
use Rattle.matchit.specs.Seek.{first}
use Rattle.http_face.proofs.TableLaws.{text_of}
use Rattle.http_face.proofs.TableFinds.{row_is, texts_are, none_is, ok_gives, err_gives}
use Rattle.http_face.proofs.table.Routes.find.Goals as goal

pub returns-clause-row : goal.returns-clause-row
returns-clause-row c =
    let path = c.args.path.now in
    let table = ap (λ rows. first rows path) c.args.self.now.table in
    ok_gives _ _ _ c.at.result c.ok.result c.ok.ensures.value c.at.ensures.found c.at.ensures.path
    (λ m found same. rw same (row_is path _ (text_of path c.type_inv.path) (sym table ∙ found)))

pub returns-clause-texts : goal.returns-clause-texts
returns-clause-texts c =
    let path = c.args.path.now in
    let table = ap (λ rows. first rows path) c.args.self.now.table in
    ok_gives _ _ _ c.at.result c.ok.result c.ok.ensures.value c.at.ensures.found c.at.ensures.path
    (λ m found same. rw same (texts_are path _ (text_of path c.type_inv.path) c.utf8.path (sym table ∙ found)))

pub returns-clause-none : goal.returns-clause-none
returns-clause-none c =
    let path = c.args.path.now in
    let table = ap (λ rows. first rows path) c.args.self.now.table in
    err_gives c.at.result c.ok.result c.ok.ensures.value c.at.ensures.missing (λ missing. none_is path (text_of path c.type_inv.path) (sym table ∙ missing))
