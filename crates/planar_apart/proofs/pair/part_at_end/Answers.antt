use Rattle.std.proofs.Common.{◌≡◌, true, sym, ◌∙◌, subst}
use Rattle.tgap_model.specs.declared.geometry.Shared.{Shared}
use Rattle.tgap_model.proofs.Proper.{proper_parts}
use Rattle.planar_apart.specs.Ends.{parts_at_end}
use Rattle.planar_apart.proofs.SharedEnds.{parted}
use Rattle.planar_apart.proofs.pair.part_at_end.Goals as goal

pub parts_at_end-requires-clause-s : goal.parts_at_end-requires-clause-s
parts_at_end-requires-clause-s c = let s = proper_parts c.args.s.now c.requires.first in (s.first, s.second)

pub parts_at_end-requires-clause-t : goal.parts_at_end-requires-clause-t
parts_at_end-requires-clause-t c = let t = proper_parts c.args.t.now c.requires.second in (t.first, t.second)

pub returns : goal.returns
returns c = λ h.
    let s = c.args.s.now in
    let t = c.args.t.now in
    parted s t (proper_parts s c.requires.first).apart
    (subst (λ (shared : Shared). parts_at_end s.segment t.segment shared ≡ true) c.shared_ends.ensures (sym c.parts_at_end.ensures ∙ h))
