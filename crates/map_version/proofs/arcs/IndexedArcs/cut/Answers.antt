use Rattle.std.proofs.Common.{◌≡◌, ◌∙◌, ◌++◌, ◌∷◌, IsTrue, List, [], Ok, length, sym, ap, subst, arith}
use Rattle.tgap_model.specs.declared.geometry.Point.{Point}
use Rattle.tgap_model.specs.declared.base.BaseArc.{BaseArc}
use Rattle.arc_places.specs.Slots.{arcs_in}
use Rattle.map_version.specs.declared.labels.SlotSide.{SlotSide}
use Rattle.map_version.specs.Indexed.{Indexed, arcs_of, cut_arcs, has_more}
use Rattle.map_version.specs.Labels.{moved_slots, passed_over}
use Rattle.map_version.proofs.Parted.{cut_made, room_over}
use Rattle.map_version.proofs.arcs.IndexedArcs.cut.Goals as goal

pub push-requires-clause-room : goal.push-requires-clause-room
push-requires-clause-room c =
    let slots = c.in_ok-arcs.arcs.slots in
    let new = c.args.new in
    let parted = c.in_ok-parted.ensures ∙ ap (λ (ms : List SlotSide). let x : Indexed = record { slots = passed_over new ms slots; faces = new } in x) c.as_slice-2.ensures in
    subst (λ (x : Indexed). IsTrue (has_more 1 (length c.args.points) (arcs_of x))) (sym parted) (room_over new (length c.args.points) c.in_ok-moved.moved slots
    (subst (λ (arcs : List BaseArc). IsTrue (has_more 1 (length c.args.points) arcs)) (sym c.in_ok-arcs.ensures.arcs) c.requires.room))

pub returns-clause-arcs : goal.returns-clause-arcs
returns-clause-arcs c =
    let slots = c.in_ok-arcs.arcs.slots in
    let face = c.args.face in
    let new = c.args.new in
    let points = c.args.points in
    let moved = c.in_ok-moved.moved in
    let arc : BaseArc = record { left = new; right = face; points = points } in
    let parted = c.in_ok-parted.ensures ∙ ap (λ (ms : List SlotSide). let x : Indexed = record { slots = passed_over new ms slots; faces = new } in x) c.as_slice-2.ensures in
    let told = subst (λ (ps : List Point). moved_slots slots face ps ≡ Ok moved) c.as_slice.ensures c.in_ok-moved.ensures in
    ap (λ (arcs : List BaseArc). cut_arcs arcs face new points) (sym c.in_ok-arcs.ensures.arcs)
    ∙ cut_made slots face new points moved (omega (arith, c.requires.line.long)) told
    ∙ ap (λ (arcs : List BaseArc). Ok arcs) (sym (ap arcs_of c.in_ok-push.ensures ∙ ap (λ (x : Indexed). arcs_in (x.slots ++ arc ∷ [])) parted))
