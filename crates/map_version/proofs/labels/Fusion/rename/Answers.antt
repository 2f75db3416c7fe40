use Rattle.std.proofs.Common.{◌≡◌, ◌∙◌, ℕ, true, List, map, sym, ap, subst}
use Rattle.tgap_model.specs.declared.base.BaseArc.{BaseArc}
use Rattle.face_cuts.specs.Fusions.{joined}
use Rattle.arc_places.specs.Places.{arc_passes, is_among}
use Rattle.arc_places.specs.Borders.{is_beside}
use Rattle.map_version.specs.Labels.{renamed}
use Rattle.map_version.proofs.InSlots.{passes_all}
use Rattle.map_version.proofs.Renaming.{renamed_twice, still_beside}
use Rattle.map_version.proofs.labels.Fusion.rename.Goals as goal

pub rename_listed-requires-else-self-2-2-clause-listed : goal.rename_listed-requires-else-self-2-2-clause-listed
rename_listed-requires-else-self-2-2-clause-listed c = λ i e.
    let n = c.args.self.now.faces in
    let f = c.args.self.now.kept in
    let g = c.args.self.now.gone in
    let e1 = subst (λ (xs : List BaseArc). arc_passes (is_beside n) xs i ≡ true) c.rename_listed-else-self-2.ensures e in
    let before = passes_all (is_beside n) (renamed (joined f g)) (λ a h. still_beside n f g c.if-self.false a h) c.args.slots.now i e1 in
    subst (λ (xs : List ℕ). is_among i xs ≡ true) (sym c.of_face-else-self-2-2.ensures) (c.requires.borders n i before)

pub returns-else-self-2 : goal.returns-else-self-2
returns-else-self-2 c =
    let n = c.args.self.now.faces in
    let f = c.args.self.now.kept in
    let g = c.args.self.now.gone in
    c.rename_listed-else-self-2-2.ensures
    ∙ (ap (map (renamed (joined g n))) c.rename_listed-else-self-2.ensures ∙ renamed_twice (joined g n) (joined f g) c.args.slots.now)
