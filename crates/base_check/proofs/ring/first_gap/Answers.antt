use Rattle.std.proofs.Common.{◌≡◌, ◌+◌, ◌-◌, ◌≤◌, Bool, cond, drop, get_or, ℕ, sym, ap, ◌∙◌, arith}
use Rattle.std.proofs.lemmas.List.{drop_all}
use Rattle.base_check.specs.Spokes.{gap_from}
use Rattle.base_check.proofs.Rings.{or_gap-some, or_gap-later, follows, pass, next_inside, gap_read, no_spoke}
use Rattle.base_check.proofs.ring.first_gap.Goals as goal
use Rattle.base_check.proofs.ring.first_gap.Goals.{then-last, else-last, then-last-2, else-last-2}

pub bounds-spokes-next : goal.bounds-spokes-next
bounds-spokes-next c = elim c.if-last.branch [
  | then-last w ↦ omega (arith, w.next-is, c.loop-i.invariant.0, c.loop-i-test.true)
  | else-last w ↦
      let more = follows c.args.spokes.now c.loop-i.first c.loop-i.i no_spoke c.loop-i.invariant.0 c.loop-i-test.true (sym (c.is_last-last.ensures no_spoke) ∙ w.if-last.false) in
      omega (arith, w.next-is, more)
]

pub returns-then-is_some : goal.returns-then-is_some
returns-then-is_some c =
    let last = c.is_last-last.result in
    let next : c.if-last.next ≡ cond last c.loop-i.first (c.loop-i.i + 1) = elim c.if-last.branch [
      | then-last w ↦ w.next-is ∙ ap (λ (b : Bool). cond b c.loop-i.first (c.loop-i.i + 1)) (sym w.if-last.true)
      | else-last w ↦ w.next-is ∙ ap (λ (b : Bool). cond b c.loop-i.first (c.loop-i.i + 1)) (sym w.if-last.false)
    ] in
    let short = next_inside c.args.spokes.now c.loop-i.first c.loop-i.i no_spoke c.loop-i.invariant.0 c.loop-i-test.true last c.if-last.next (c.is_last-last.ensures no_spoke) next in
    let found = gap_read c.args.spokes.now c.loop-i.i c.if-last.next (c.loop-i.i - c.loop-i.first) (c.if-last.next - c.loop-i.first) no_spoke c.index-spokes-i.result c.index-spokes-next.result
    c.gap_between-found.result c.loop-i-test.true short c.index-spokes-i.is c.index-spokes-next.is c.gap_between-found.ensures in
    let step = pass c.args.spokes.now c.loop-i.first c.loop-i.i no_spoke c.loop-i.invariant.0 c.loop-i-test.true last c.if-last.next c.gap_between-found.result (c.is_last-last.ensures no_spoke) next found in
    sym (or_gap-some c.gap_between-found.result _ (sym c.is_some.ensures ∙ c.if-is_some.true)) ∙ sym step ∙ c.loop-i.invariant.1

pub loop-i-preserved : goal.loop-i-preserved
loop-i-preserved c =
    let last = c.is_last-last.result in
    let next : c.if-last.next ≡ cond last c.loop-i.first (c.loop-i.i + 1) = elim c.if-last.branch [
      | then-last w ↦ w.next-is ∙ ap (λ (b : Bool). cond b c.loop-i.first (c.loop-i.i + 1)) (sym w.if-last.true)
      | else-last w ↦ w.next-is ∙ ap (λ (b : Bool). cond b c.loop-i.first (c.loop-i.i + 1)) (sym w.if-last.false)
    ] in
    let new : c.if-last-2.first ≡ cond last (c.loop-i.i + 1) c.loop-i.first = elim c.if-last-2.branch [
      | then-last-2 w ↦ w.first-is ∙ ap (λ (b : Bool). cond b (c.loop-i.i + 1) c.loop-i.first) (sym w.if-last-2.true)
      | else-last-2 w ↦ w.first-is ∙ ap (λ (b : Bool). cond b (c.loop-i.i + 1) c.loop-i.first) (sym w.if-last-2.false)
    ] in
    let reached : c.if-last-2.first ≤ c.loop-i.i + 1 = elim c.if-last-2.branch [
      | then-last-2 w ↦ omega (arith, w.first-is)
      | else-last-2 w ↦ omega (arith, w.first-is, c.loop-i.invariant.0)
    ] in
    let short = next_inside c.args.spokes.now c.loop-i.first c.loop-i.i no_spoke c.loop-i.invariant.0 c.loop-i-test.true last c.if-last.next (c.is_last-last.ensures no_spoke) next in
    let found = gap_read c.args.spokes.now c.loop-i.i c.if-last.next (c.loop-i.i - c.loop-i.first) (c.if-last.next - c.loop-i.first) no_spoke c.index-spokes-i.result c.index-spokes-next.result
    c.gap_between-found.result c.loop-i-test.true short c.index-spokes-i.is c.index-spokes-next.is c.gap_between-found.ensures in
    let step = pass c.args.spokes.now c.loop-i.first c.loop-i.i no_spoke c.loop-i.invariant.0 c.loop-i-test.true last c.if-last.next c.gap_between-found.result (c.is_last-last.ensures no_spoke) next found in (
      reached,
      ap (λ (k : ℕ). gap_from (get_or c.args.spokes.now k no_spoke) (c.loop-i.i + 1 - k) (drop (c.loop-i.i + 1) c.args.spokes.now)) new
          ∙ sym (or_gap-later c.gap_between-found.result _ (sym c.is_some.ensures ∙ c.if-is_some.false)) ∙ sym step ∙ c.loop-i.invariant.1,
    )

pub returns : goal.returns
returns c =
    sym (ap (gap_from (get_or c.args.spokes.now c.loop-i.first no_spoke) (c.loop-i.i - c.loop-i.first)) (drop_all c.loop-i.i c.args.spokes.now c.loop-i-test.false))
    ∙ c.loop-i.invariant.1
