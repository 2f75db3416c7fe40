use Rattle.std.proofs.Common.{◌≡◌, ◌∙◌, ◌⊎◌, List, get_or, Contains, sym, subst}
use Rattle.std.proofs.Math.ListN.{length-set}
use Rattle.std.proofs.lemmas.List.{take_all}
use Rattle.ring_walk.specs.declared.side.Side.{Side}
use Rattle.ring_walk.specs.declared.side.Way.TheVariants.{Along}
use Rattle.ring_walk.specs.Rings.{next_side}
use Rattle.face_cuts.specs.NodeTables.{IsToldAt}
use Rattle.face_cuts.proofs.NextRows.{told_more}
use Rattle.face_cuts.proofs.next.write_ring.Goals as goal

abbrev none : Side
none = record { span = 0; way = Along }

pub loop-place-preserved : goal.loop-place-preserved
loop-place-preserved c =
    let spans = c.args.spans.now in
    let ring = c.args.ring.now in
    let k = c.loop-place.place in
    let s = get_or ring k none in
    let next : c.side_after.result ≡ next_side spans s = c.side_after.ensures none ∙ c.requires.ring.round k none c.loop-place-test.true in
    record {
      long = length-set {A = Side} c.loop-place.next c.number.result c.side_after.result ∙ c.loop-place.invariant.long;
      told = told_more spans c.loop-place.next c.args.next.now ring k c.number.result none c.side_after.result c.loop-place-test.true (c.requires.ring.ring.sides k none c.loop-place-test.true)
          c.number.ensures c.loop-place.invariant.long next c.loop-place.invariant.told;
    }

pub returns-clause-told : goal.returns-clause-told
returns-clause-told c = λ s given.
    c.loop-place.invariant.told s (subst (λ (row : List Side). IsToldAt c.args.spans.now c.args.next.now s ⊎ Contains row s) (sym (take_all c.loop-place.place c.args.ring.now c.loop-place-test.false)) given)
