-- The link is lost where the two faces have it between them, and goes to the other face otherwise.
use Rattle.std.proofs.Common.{◌≡◌, ◌∙◌, sym, None, Some}
use Rattle.face_merge.specs.Links.{length_at}
use Rattle.face_merge.proofs.Joined.{passed_none, passed_on, four_changes}
use Rattle.face_merge.proofs.links.Links.pass.Goals as goal

pub returns-in_default : goal.returns-in_default
returns-in_default c =
    let e : length_at c.args.self.now c.args.from c.args.other ≡ None = sym c.remove.ensures.length ∙ c.in_default.is in
    passed_none (length_at c.args.self.now) (length_at c.remove.new.self) c.args.from c.args.to c.args.other c.requires.paired e c.remove.ensures.others

pub returns-in_ok-add-2 : goal.returns-in_ok-add-2
returns-in_ok-add-2 c =
    let e : length_at c.args.self.now c.args.from c.args.other ≡ Some c.in-Some.length = sym c.remove.ensures.length ∙ c.in-Some.is in
    let new = four_changes (length_at c.args.self.now) (length_at c.remove.new.self) (length_at c.remove-2.new.self) (length_at c.add.new.self) (length_at c.add-then-other-to.new.self)
    c.args.from c.args.to c.args.other c.in-Some.length c.remove.ensures.others c.remove-2.ensures.others c.in_ok-add.ensures c.in_ok-add-2.ensures in
    passed_on (length_at c.args.self.now) (length_at c.add-then-other-to.new.self) c.args.from c.args.to c.args.other c.in-Some.length c.requires.apart c.requires.paired e c.if-other-to.true new
