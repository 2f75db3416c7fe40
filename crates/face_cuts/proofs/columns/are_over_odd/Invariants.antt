use Rattle.std.proofs.Common.{◌≡◌, get_or, take}
use Rattle.std.specs.Prelude.{count_by}
use Rattle.lemmas.specs.Parity.{is_odd}
use Rattle.tgap_model.specs.declared.geometry.Seg.{Seg as Segment}
use Rattle.ring_walk.specs.Areas.{is_over}
use Rattle.face_cuts.proofs.columns.are_over_odd.Given as goal

-- of the places so far
abbrev pub invariant-loop-place : goal.invariant-loop-place
invariant-loop-place l = (d : Segment) → l.odd ≡ is_odd (count_by (λ place. is_over l.probe (get_or l.segments place d)) (take l.place-index l.places))
