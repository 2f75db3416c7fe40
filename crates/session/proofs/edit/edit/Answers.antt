-- What becomes of a batch that is refused.
use Rattle.std.proofs.Common.{◌∙◌, Err, refl, sym, ap, subst}
use Rattle.edit_laws.specs.Edits.{edited}
use Rattle.http_face.specs.declared.request.Route.TheVariants.{Edit as EditRoute}
use Rattle.session.specs.declared.turn.Turned.{Turned}
use Rattle.session.specs.Items.{Route as RouteAsked}
use Rattle.session.specs.Turns.{IsTurned}
use Rattle.session.proofs.Edits.{bad_batch_turn, bad_map_turn, if_ok}
use Rattle.session.proofs.edit.edit.Goals as goal

pub returns-in-Err-Edit-clause-turned : goal.returns-in-Err-Edit-clause-turned
returns-in-Err-Edit-clause-turned g c =
    let S = g.V.Versions.seen c.args.versions.now in
    let fault = c.in-Err-Edit.fault in
    let P : Turned → Type 0 = IsTurned S S c.args.pin.now.number c.args.pin.now.number (RouteAsked EditRoute c.args.batch.now) c.args.close in
    if_ok c.refuse_batch.result _ _
    (λ t is. subst P (sym is) (bad_batch_turn S c.args.pin.now c.args.batch.now (fault.line, fault.cause) c.args.close _ c.requires.pin
    (ap (λ v. edited v.built c.args.batch.now) (sym c.deref.ensures) ∙ c.in-Err-Edit.ensures.edit fault (ap Err c.in-Err-Edit.field-0-is)) refl))
    c.refuse_batch.ensures

pub returns-in-Err-Map-clause-turned : goal.returns-in-Err-Map-clause-turned
returns-in-Err-Map-clause-turned g c =
    let S = g.V.Versions.seen c.args.versions.now in
    let fault = c.in-Err-Map.fault in
    let shown = c.in-Err-Map.ensures.map fault (ap Err c.in-Err-Map.field-0-is) in
    let P : Turned → Type 0 = IsTurned S S c.args.pin.now.number c.args.pin.now.number (RouteAsked EditRoute c.args.batch.now) c.args.close in
    if_ok c.refuse_map.result _ _
    (λ t is. subst P (sym is) (bad_map_turn S c.args.pin.now c.args.batch.now shown.0 fault c.args.close _ c.requires.pin
    (ap (λ v. edited v.built c.args.batch.now) (sym c.deref.ensures) ∙ shown.1) shown.2 refl))
    c.refuse_map.ensures
