-- What is kept at the desk is what was kept there.
use Rattle.std.proofs.Common.{◌≡◌, ◌∙◌, sym, ap, subst}
use Rattle.session.specs.Desks.{texts_of}
use Rattle.session.specs.Keeping.{IsDeskOf}
use Rattle.session.specs.Versions.{seen_of}
use Rattle.session.proofs.connection.serve_connection_at.Goals as goal

pub returns-in_default-new-clause-desk : goal.returns-in_default-new-clause-desk
returns-in_default-new-clause-desk g c =
    let kept : c.in-Some.fittings.kept ≡ c.args.desk.now = ap texts_of (sym c.in-Some.is) ∙ c.desk.view_is ∙ c.furnish.ensures in
    subst (IsDeskOf (seen_of c.args.seat.now)) (sym kept) c.requires.desk

pub converse-requires-clause-texts : goal.converse-requires-clause-texts
converse-requires-clause-texts g c κs within =
    let kept : c.in-Some.fittings.kept ≡ c.args.desk.now = ap texts_of (sym c.in-Some.is) ∙ c.desk.view_is ∙ c.furnish.ensures in
    subst (IsDeskOf (seen_of c.args.seat.now)) (sym kept) c.requires.desk
