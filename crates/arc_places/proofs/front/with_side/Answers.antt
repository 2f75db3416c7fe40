use Rattle.std.proofs.Common.{◌≡◌, ◌∙◌, true, sym, subst}
use Rattle.std.proofs.lemmas.Bool.{false≢true}
use Rattle.tgap_model.specs.declared.geometry.Point.{Point}
use Rattle.tgap_model.specs.Base.{same_point}
use Rattle.grid_geo.proofs.PointOrder.{points}
use Rattle.ring_walk.specs.Sides.{start_of}
use Rattle.arc_places.specs.SlotTables.{spans_in}
use Rattle.arc_places.proofs.LastOf.{seen_elsewhere}
use Rattle.arc_places.proofs.front.with_side.Goals as goal

pub returns-else-eq-clause-seen : goal.returns-else-eq-clause-seen
returns-else-eq-clause-seen c = λ seen l.
    let spans = spans_in c.args.table.now in
    let node = c.start_of.result in
    seen_elsewhere spans c.requires.spans (start_of spans c.args.x) c.args.x c.args.side seen c.args.front
    (λ e. false≢true (sym c.if-eq.false ∙ c.eq.ensures ∙ subst (λ (u : Point). same_point node u ≡ true) (c.start_of.ensures ∙ e ∙ sym c.start_of-2.ensures) (points.itself node))) l
