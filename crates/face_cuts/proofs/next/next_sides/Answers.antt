use Rattle.std.proofs.Common.{◌≡◌, ◌∙◌, ◌⊎◌, List, length, Contains, sym, ap, subst, arith}
use Rattle.std.proofs.lemmas.List.{with_items_is}
use Rattle.lemmas.proofs.Members.{in_none}
use Rattle.ring_walk.specs.declared.side.Side.{Side}
use Rattle.ring_walk.specs.Rings.{rings_of}
use Rattle.face_cuts.specs.NodeTables.{IsToldAt}
use Rattle.face_cuts.specs.Spokes.{IsRow}
use Rattle.face_cuts.proofs.NextRows.{ring_is_row, rings_told, rings_told_all}
use Rattle.face_cuts.proofs.next.next_sides.Goals as goal

pub loop-ring-init : goal.loop-ring-init
loop-ring-init c = record {
  long = omega (arith, c.in_ok-next.ensures.len);
  told = λ s none. absurd (in_none s none);
}

pub write_ring-requires-clause-ring : goal.write_ring-requires-clause-ring
write_ring-requires-clause-ring c =
    let spans = c.args.spans.now in
    let all : c.as_slice-ring-items.result.now ≡ rings_of spans = c.as_slice-ring-items.ensures ∙ c.in_ok-rings.ensures.value in
    subst (IsRow spans) (sym c.as_slice.ensures) (ring_is_row spans c.as_slice-ring-items.result.now c.loop-ring.ring-index c.ring-item.result all c.loop-ring-test.true c.ring-item.is)

pub loop-ring-preserved : goal.loop-ring-preserved
loop-ring-preserved c =
    let spans = c.args.spans.now in
    let items = c.as_slice-ring-items.result.now in
    let old = c.loop-ring.next.items in
    let row = c.write_ring.new.next in
    let len : length row ≡ c.loop-ring.next.len = omega (arith, c.write_ring.auto.next) in
    let new = with_items_is c.loop-ring.next row len in
    let more : (s : Side) → IsToldAt spans old s ⊎ Contains c.ring-item.result s → IsToldAt spans row s = λ s given.
    c.write_ring.ensures.told s
    (subst (λ (before : List Side). IsToldAt spans before s ⊎ Contains c.as_slice.result.now s) (sym c.deref_mut.ensures.value)
    (subst (λ (ring : List Side). IsToldAt spans old s ⊎ Contains ring s) (sym c.as_slice.ensures) given)) in
    record {
      long = ap length new ∙ c.write_ring.ensures.long;
      told = λ s among. subst (λ (r : List Side). IsToldAt spans r s) (sym new)
          (rings_told spans items c.ring-item.result c.loop-ring.ring-index old row c.loop-ring-test.true c.ring-item.is more c.loop-ring.invariant.told s among);
    }

pub returns : goal.returns
returns c =
    rings_told_all c.args.spans.now c.as_slice-ring-items.result.now c.loop-ring.ring-index c.loop-ring.next.items (c.as_slice-ring-items.ensures ∙ c.in_ok-rings.ensures.value) c.loop-ring-test.false
    c.loop-ring.invariant.long c.loop-ring.invariant.told
