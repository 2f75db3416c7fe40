-- What is built is of the map that was checked, and has the batch.
use Rattle.std.proofs.Common.{◌≡◌, ◌∙◌, ℕ, List, Ok, sym, ap, subst}
use Rattle.std.specs.Arc.{arc_value}
use Rattle.edit_laws.specs.Edits.{edited}
use Rattle.http_face.specs.declared.request.Route.TheVariants.{Edit as EditRoute}
use Rattle.session.specs.Items.{Route as RouteAsked}
use Rattle.session.specs.Turns.{IsTurned}
use Rattle.session.proofs.Edits.{if_ok}
use Rattle.session.proofs.edit.publish_built.Goals as goal

pub returns-clause-turned : goal.returns-clause-turned
returns-clause-turned g c =
    let S = g.V.Versions.seen in
    if_ok c.commit.result _ _
    (λ t is made.
    let T : List ℕ → Type 0 = λ batch. IsTurned (S c.args.versions.now) (S c.commit.new.versions) c.args.pin.now.number c.commit.new.pin.number
    (RouteAsked EditRoute batch) c.args.revision.close t in
    let base : edited (arc_value c.args.pin.now.held).built c.in_ok-next.next.batch ≡ Ok c.in_ok-next.next.built =
    ap (edited (arc_value c.args.pin.now.held).built) c.in_ok-next.ensures.batch ∙ (made ∙ ap Ok (sym c.in_ok-next.ensures.base)) in
    subst T c.in_ok-next.ensures.batch (is base))
    c.commit.ensures.turned
