use Rattle.std.proofs.Common.{◌≡◌, ◌∙◌, ℕ, true, List, map, sym, ap, subst}
use Rattle.tgap_model.specs.declared.base.BaseArc.{BaseArc}
use Rattle.face_cuts.specs.Fusions.{renumbered}
use Rattle.arc_places.specs.Places.{is_among}
use Rattle.arc_places.specs.Borders.{CoversFaces, bordering, is_beside}
use Rattle.map_version.specs.Indexed.{AreCounted}
use Rattle.map_version.specs.Labels.{cleared, is_taken, renamed}
use Rattle.map_version.proofs.InSlots.{passes_all}
use Rattle.map_version.proofs.Listed.{passes_more}
use Rattle.map_version.proofs.Counting.{counted_renamed}
use Rattle.map_version.proofs.Renaming.{still_there, taken_beside}
use Rattle.map_version.proofs.labels.Fusion.apply.Goals as goal

pub clear_listed-requires-clause-listed : goal.clear_listed-requires-clause-listed
clear_listed-requires-clause-listed c = λ i e.
    let f = c.args.self.now.kept in
    let g = c.args.self.now.gone in
    subst (λ (xs : List ℕ). is_among i xs ≡ true) (sym c.of_face.ensures)
    (c.requires.borders g i (passes_more (is_taken f g) (is_beside g) (λ a h. taken_beside f g a h) c.args.slots.now i e))

pub rename-requires-clause-borders : goal.rename-requires-clause-borders
rename-requires-clause-borders c =
    let f = c.args.self.now.kept in
    let g = c.args.self.now.gone in
    subst (CoversFaces (bordering c.args.borders.now)) (sym c.clear_listed.ensures.slots)
    (λ h i e. c.requires.borders h i (passes_all (is_beside h) (cleared f g) (λ a t. still_there f g h a t) c.args.slots.now i e))

pub returns-clause-slots : goal.returns-clause-slots
returns-clause-slots c =
    c.rename.ensures ∙ ap (map (renamed (renumbered c.args.self.now.faces c.args.self.now.kept c.args.self.now.gone))) c.clear_listed.ensures.slots

pub returns-clause-counted : goal.returns-clause-counted
returns-clause-counted c =
    subst (λ (xs : List BaseArc). AreCounted xs c.clear_listed.new.counts) (sym c.rename.ensures)
    (counted_renamed (renumbered c.args.self.now.faces c.args.self.now.kept c.args.self.now.gone) c.clear_listed.new.slots c.clear_listed.new.counts c.clear_listed.ensures.counted)
