use Rattle.std.proofs.Common.{◌≡◌, ◌∙◌, ℕ, List, length, map, sym, ap, subst, arith}
use Rattle.tgap_model.specs.declared.base.BaseArc.{BaseArc}
use Rattle.face_cuts.specs.Fusions.{relabelled, renumbered}
use Rattle.arc_places.specs.Slots.{arcs_in}
use Rattle.arc_places.specs.Places.{listed}
use Rattle.arc_places.specs.Borders.{HaveFaces, bordering, face_count}
use Rattle.arc_places.proofs.FusedLists.{fused_covers}
use Rattle.map_version.specs.Indexed.{AreCounted, AreIndexed, Indexed, arcs_of, fused_arcs}
use Rattle.map_version.specs.Labels.{cleared, renamed}
use Rattle.map_version.proofs.Moves.{all_written}
use Rattle.map_version.proofs.Renaming.{all_came_from, cleared_in, fused_places, renamed_in, within_faces}
use Rattle.map_version.proofs.arcs.IndexedArcs.fuse.Goals as goal

pub invariant_of-result : goal.invariant_of-result
invariant_of-result c =
    let slots = c.self.inside.slots.items in
    let n = face_count c.self.inside.borders in
    let f = c.args.fusion.now.kept in
    let g = c.args.fusion.now.gone in
    let last : c.args.fusion.now.faces ≡ n = c.requires.count ∙ sym (ap (λ (x : Indexed). x.faces) c.self.view_is) in
    let label = renumbered n f g in
    let after = map (renamed label) (map (cleared f g) slots) in
    let there : c.apply.new.slots ≡ after =
    c.apply.ensures.slots ∙ (ap (λ (m : ℕ). map (renamed (renumbered m f g)) (map (cleared f g) c.deref_mut.result.now)) last ∙ ap (λ (xs : List BaseArc). map (renamed label) (map (cleared f g) xs)) c.deref_mut.ensures.value) in
    let written = all_written slots c.apply.new.slots c.self.inside.slots.len
    (omega (arith, c.self.inside.slots.ok.0, c.apply.auto.slots, ap (length {A = BaseArc}) c.deref_mut.ensures.value)) (omega (arith, c.self.inside.slots.ok.0)) in
    let faces : HaveFaces n (arcs_in slots) = subst (λ (x : Indexed). HaveFaces x.faces (arcs_of x)) (sym c.self.view_is) c.requires.faces in
    subst (λ (xs : List BaseArc). AreIndexed xs c.self.inside.places c.fuse.new.self c.apply.new.counts) (sym (written ∙ there))
    (record {
      by_point = fused_places (listed c.self.inside.places) f g label slots c.self.invariant.by_point;
      by_face = fused_covers n f g (bordering c.self.inside.borders) (bordering c.fuse.new.self) slots after c.in_ok-fuse.ensures.both c.in_ok-fuse.ensures.others
          (λ h i e. let came = all_came_from h f g label slots i e in (came.0, within_faces n slots faces came.0 i came.1, came.1, came.2))
          c.self.invariant.by_face;
      counted = subst (λ (xs : List BaseArc). AreCounted xs c.apply.new.counts) there c.apply.ensures.counted;
    })

pub returns-clause-arcs : goal.returns-clause-arcs
returns-clause-arcs c =
    let slots = c.self.inside.slots.items in
    let n = face_count c.self.inside.borders in
    let f = c.args.fusion.now.kept in
    let g = c.args.fusion.now.gone in
    let last : c.args.fusion.now.faces ≡ n = c.requires.count ∙ sym (ap (λ (x : Indexed). x.faces) c.self.view_is) in
    let label = renumbered n f g in
    let there : c.apply.new.slots ≡ map (renamed label) (map (cleared f g) slots) =
    c.apply.ensures.slots ∙ (ap (λ (m : ℕ). map (renamed (renumbered m f g)) (map (cleared f g) c.deref_mut.result.now)) last ∙ ap (λ (xs : List BaseArc). map (renamed label) (map (cleared f g) xs)) c.deref_mut.ensures.value) in
    let written = all_written slots c.apply.new.slots c.self.inside.slots.len
    (omega (arith, c.self.inside.slots.ok.0, c.apply.auto.slots, ap (length {A = BaseArc}) c.deref_mut.ensures.value)) (omega (arith, c.self.inside.slots.ok.0)) in
    ap arcs_in (written ∙ there)
    ∙ (renamed_in label (map (cleared f g) slots)
    ∙ (ap (map (relabelled label)) (cleared_in f g slots)
    ∙ ap (λ (x : Indexed). fused_arcs x.faces f g (arcs_of x)) c.self.view_is))
