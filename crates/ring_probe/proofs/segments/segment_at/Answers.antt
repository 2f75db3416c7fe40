use Rattle.std.proofs.Common.{◌≡◌, ◌∙◌, ◌-◌, ℕ, length, get_or, sym, ap, arith}
use Rattle.ring_walk.specs.declared.side.Way.{Way}
use Rattle.ring_walk.specs.Sides.{origin}
use Rattle.ring_walk.specs.Areas.{points_by, segments_of}
use Rattle.ring_probe.proofs.RowSegments.{segment_of, segment_back}
use Rattle.ring_probe.proofs.segments.segment_at.Goals as goal

pub returns-in-Along : goal.returns-in-Along
returns-in-Along c = λ d. segment_of c.args.points.now c.args.place d origin c.requires ∙ ap (λ (w : Way). get_or (segments_of (points_by w c.args.points.now)) c.args.place d) (sym c.in-Along.is)

pub returns-in-Against : goal.returns-in-Against
returns-in-Against c = λ d.
    let points = c.args.points.now in
    let i = c.args.place in
    let second : length points - 1 - i - 1 ≡ length points - 2 - i = omega arith in
    ap (λ (n : ℕ). record { a = get_or points (length points - 1 - i) origin; b = get_or points n origin }) second
    ∙ segment_back points i d origin c.requires ∙ ap (λ (w : Way). get_or (segments_of (points_by w points)) i d) (sym c.in-Against.is)
