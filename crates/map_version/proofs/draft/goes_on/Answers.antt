use Rattle.std.proofs.Common.{◌≡◌, ◌∙◌, Bool, not, List, sym, ap, subst, arith}
use Rattle.tgap_model.specs.declared.failure.Or.TheVariants.{Fault}
use Rattle.tgap_model.specs.declared.geometry.Point.{Point}
use Rattle.tgap_model.specs.declared.base.BaseArc.{BaseArc}
use Rattle.tgap_model.specs.Chains.{arc_number}
use Rattle.line_forms.specs.Json.{ensured}
use Rattle.plain_io.specs.Taking.{GivesWhole}
use Rattle.arc_places.specs.Slots.{arcs_in, number_of}
use Rattle.arc_places.proofs.SlotNumbers.{arc_there}
use Rattle.map_version.specs.Firsts.{pair_of}
use Rattle.map_version.specs.Drops.{goes_on}
use Rattle.map_version.specs.Positions.{turns_at}
use Rattle.map_version.proofs.Drafts.{gives_ensured}
use Rattle.map_version.proofs.InSlots.{there}
use Rattle.map_version.proofs.draft.goes_on.Goals as goal

pub returns : goal.returns
returns c =
    let slots = c.args.arcs.now.slots in
    let i = c.args.place.slot in
    let at = c.args.place.at in
    let after = c.requires.after in
    let same = (arc_there slots i c.requires.slot (there (arc_number slots i) (omega arith))).same in
    let turns : c.turns_back.result ≡ turns_at (arc_number (arcs_in slots) (number_of slots i)).points at =
    c.turns_back.ensures ∙ (ap (λ (points : List Point). turns_at points at) c.points.ensures ∙ ap (λ (a : BaseArc). turns_at a.points at) (sym same)) in
    subst (λ r. GivesWhole r (goes_on (arcs_in slots) (pair_of slots c.args.place))) (sym c.ensured.ensures)
    (subst (λ (b : Bool). GivesWhole (ensured (not c.turns_back.result) (Fault 7)) (ensured (not b) 7)) turns (gives_ensured (not c.turns_back.result) 7))
