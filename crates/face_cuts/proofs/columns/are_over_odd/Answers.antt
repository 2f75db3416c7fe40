use Rattle.std.proofs.Common.{◌≡◌, ◌∙◌, List, ℕ, get_or, ap}
use Rattle.std.specs.Prelude.{count_by}
use Rattle.std.proofs.lemmas.List.{get_or_default, take_all}
use Rattle.lemmas.specs.Parity.{is_odd}
use Rattle.tgap_model.specs.declared.geometry.Seg.{Seg}
use Rattle.ring_walk.specs.Areas.{is_over}
use Rattle.ring_walk.specs.Sides.{origin}
use Rattle.ring_probe.proofs.Probes.{odd_more}
use Rattle.face_cuts.proofs.columns.are_over_odd.Goals as goal

abbrev none : Seg
none = record { a = origin; b = origin }

pub loop-place-preserved : goal.loop-place-preserved
loop-place-preserved c = λ d.
    let segments = c.args.segments.now in
    let places = c.args.places.now in
    let k = c.loop-place.place-index in
    let place = get_or places k 0 in
    let here : place ≡ get_or places k place = get_or_default places k 0 place c.loop-place-test.true in
    let same : get_or segments place none ≡ get_or segments place d = get_or_default segments place none d (c.requires.places k 0 c.loop-place-test.true) in
    c.either_alone-odd.ensures
    ∙ odd_more (λ (p : ℕ). is_over c.args.probe (get_or segments p d)) places k place c.is_over-over.result c.loop-place.odd c.loop-place-test.true here
    (c.is_over-over.ensures ∙ ap (is_over c.args.probe) same) (c.loop-place.invariant d)

pub returns : goal.returns
returns c = λ d.
    c.loop-place.invariant d
    ∙ ap (λ (ps : List ℕ). is_odd (count_by (λ (p : ℕ). is_over c.args.probe (get_or c.args.segments.now p d)) ps)) (take_all c.loop-place.place-index c.args.places.now c.loop-place-test.false)
