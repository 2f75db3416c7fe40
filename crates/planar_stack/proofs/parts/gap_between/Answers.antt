use Rattle.std.proofs.Common.{◌≡◌, ◌<◌, ◌≤ℤ◌, ◌+◌, ℕ, ℤ, pos, List, None, map, to_z, of_z, length, drop, get_or, All, inl, inr, sym, ap, ◌∙◌, subst, subst₂, arith}
use Rattle.std.specs.Int.{w64}
use Rattle.std.proofs.lemmas.Int.{ints}
use Rattle.std.proofs.lemmas.Bool.{cases_lt}
use Rattle.lemmas.proofs.Ascending.{ascending}
use Rattle.tgap_model.specs.Partition.{stack_fault, stack_fault_from}
use Rattle.planar_stack.specs.Sweep.{left_end, sides_at, AreTouched}
use Rattle.planar_stack.specs.Parts.{IsReached}
use Rattle.planar_stack.proofs.Slabs.{agree_from_no_fault}
use Rattle.planar_stack.proofs.Active.{active_all}
use Rattle.planar_stack.proofs.Swept.{ready_starts, starts_are_few, sorted_lines, stack_fault_at, stack_is_few, later_at_next, no_gap}
use Rattle.planar_stack.proofs.Joining.{gap_at_line}
use Rattle.planar_stack.proofs.parts.gap_between.Goals as goal

pub at-requires-clause-ready : goal.at-requires-clause-ready
at-requires-clause-ready c =
    let sw = c.requires.sweep in
    let starts = c.args.starts.now in
    ready_starts sw.0 starts sw.1.apart sw.1.near sw.1.starts_are

pub at-requires-clause-few : goal.at-requires-clause-few
at-requires-clause-few c =
    let sw = c.requires.sweep in
    let starts = c.args.starts.now in
    omega (arith, starts_are_few sw.0 starts sw.1.starts_are, sw.1.few)

pub loop-i-init : goal.loop-i-init
loop-i-init c =
    let sw = c.requires.sweep in
    let starts = c.args.starts.now in
    let lines = c.args.lines.now in
    let v = to_z w64 (of_z w64 c.line_at-first.result) in
    let same : c.line_at-first.result ≡ v = omega (arith, ints) in
    record {
      reached = subst (λ (w : ℤ). IsReached w starts c.args.ends.now c.in_ok-sweep.sweep) (sym (sym c.line_at-first.ensures ∙ same)) c.in_ok-sweep.ensures;
      sound = λ segments h k from lt. absurd (omega (arith, from, lt));
    }

pub touched_gap-gap-requires-clause-near : goal.touched_gap-gap-requires-clause-near
touched_gap-gap-requires-clause-near c =
    let sw = c.requires.sweep in
    let starts = c.args.starts.now in
    let ready = ready_starts sw.0 starts sw.1.apart sw.1.near sw.1.starts_are in
    ready.near

pub touched_gap-gap-requires-clause-ordered : goal.touched_gap-gap-requires-clause-ordered
touched_gap-gap-requires-clause-ordered c =
    let sw = c.requires.sweep in
    let starts = c.args.starts.now in
    let ends = c.args.ends.now in
    let lines = c.args.lines.now in
    let i = c.loop-i.i in
    let sweep = c.loop-i.sweep in
    let z = get_or lines i (pos 0) in
    let v = to_z w64 (of_z w64 c.line_at-line.result) in
    let same : c.line_at-line.result ≡ v = omega (arith, ints) in
    let at_line : z ≡ v = sym c.line_at-line.ensures ∙ same in
    let reached = subst (λ (w : ℤ). IsReached w starts ends sweep) at_line c.loop-i.invariant.reached in
    reached.active.ordered

pub touched_gap-gap-requires-clause-few : goal.touched_gap-gap-requires-clause-few
touched_gap-gap-requires-clause-few c =
    let sw = c.requires.sweep in
    let starts = c.args.starts.now in
    let ends = c.args.ends.now in
    let lines = c.args.lines.now in
    let i = c.loop-i.i in
    let sweep = c.loop-i.sweep in
    let z = get_or lines i (pos 0) in
    let v = to_z w64 (of_z w64 c.line_at-line.result) in
    let same : c.line_at-line.result ≡ v = omega (arith, ints) in
    let at_line : z ≡ v = sym c.line_at-line.ensures ∙ same in
    let reached = subst (λ (w : ℤ). IsReached w starts ends sweep) at_line c.loop-i.invariant.reached in
    omega (arith, stack_is_few sw.0 lines starts sw.1.apart sw.1.lines_are sw.1.starts_are sweep.begun sweep.stack reached.active reached.later, sw.1.few)

pub touched_gap-gap-requires-clause-all : goal.touched_gap-gap-requires-clause-all
touched_gap-gap-requires-clause-all c =
    let sw = c.requires.sweep in
    let starts = c.args.starts.now in
    let ends = c.args.ends.now in
    let lines = c.args.lines.now in
    let i = c.loop-i.i in
    let sweep = c.loop-i.sweep in
    let z = get_or lines i (pos 0) in
    let v = to_z w64 (of_z w64 c.line_at-line.result) in
    let same : c.line_at-line.result ≡ v = omega (arith, ints) in
    let at_line : z ≡ v = sym c.line_at-line.ensures ∙ same in
    let reached = subst (λ (w : ℤ). IsReached w starts ends sweep) at_line c.loop-i.invariant.reached in
    active_all v starts sweep.begun sweep.stack reached.active reached.later

pub touched_gap-gap-requires-clause-touched : goal.touched_gap-gap-requires-clause-touched
touched_gap-gap-requires-clause-touched c =
    let sw = c.requires.sweep in
    let starts = c.args.starts.now in
    let ends = c.args.ends.now in
    let lines = c.args.lines.now in
    let i = c.loop-i.i in
    let sweep = c.loop-i.sweep in
    let z = get_or lines i (pos 0) in
    let v = to_z w64 (of_z w64 c.line_at-line.result) in
    let same : c.line_at-line.result ≡ v = omega (arith, ints) in
    let at_line : z ≡ v = sym c.line_at-line.ensures ∙ same in
    let reached = subst (λ (w : ℤ). IsReached w starts ends sweep) at_line c.loop-i.invariant.reached in
    subst (λ (ts : List ℕ). AreTouched v starts sweep.stack ts) (sym c.deref.ensures.value) reached.touched

pub returns-then-is_some : goal.returns-then-is_some
returns-then-is_some c =
    let sw = c.requires.sweep in
    let starts = c.args.starts.now in
    let ends = c.args.ends.now in
    let lines = c.args.lines.now in
    let i = c.loop-i.i in
    let sweep = c.loop-i.sweep in
    let z = get_or lines i (pos 0) in
    let v = to_z w64 (of_z w64 c.line_at-line.result) in
    let same : c.line_at-line.result ≡ v = omega (arith, ints) in
    let at_line : z ≡ v = sym c.line_at-line.ensures ∙ same in
    let reached = subst (λ (w : ℤ). IsReached w starts ends sweep) at_line c.loop-i.invariant.reached in
    let gap = c.touched_gap-gap.result in
    let down = c.touched_gap-gap.ensures in
    λ segments h. gap_at_line segments lines c.args.from c.args.to i gap (sym c.is_some.ensures ∙ c.if-is_some.true) (down ∙ sym (stack_fault_at segments lines starts h.apart h.lines_are h.starts_are sweep.begun sweep.stack reached.active reached.later) ∙ ap (stack_fault segments) (sym at_line)) c.loop-i.auto.i c.loop-i-test.true (c.loop-i.invariant.sound segments h)

pub advance-requires-clause-ready : goal.advance-requires-clause-ready
advance-requires-clause-ready c =
    let sw = c.requires.sweep in
    let starts = c.args.starts.now in
    ready_starts sw.0 starts sw.1.apart sw.1.near sw.1.starts_are

pub advance-requires-clause-few : goal.advance-requires-clause-few
advance-requires-clause-few c =
    let sw = c.requires.sweep in
    let starts = c.args.starts.now in
    omega (arith, starts_are_few sw.0 starts sw.1.starts_are, sw.1.few)

pub advance-requires-clause-reached : goal.advance-requires-clause-reached
advance-requires-clause-reached c =
    let sw = c.requires.sweep in
    let starts = c.args.starts.now in
    let ends = c.args.ends.now in
    let lines = c.args.lines.now in
    let i = c.loop-i.i in
    let sweep = c.loop-i.sweep in
    let z = get_or lines i (pos 0) in
    let v = to_z w64 (of_z w64 c.line_at-line.result) in
    let same : c.line_at-line.result ≡ v = omega (arith, ints) in
    let at_line : z ≡ v = sym c.line_at-line.ensures ∙ same in
    let reached = subst (λ (w : ℤ). IsReached w starts ends sweep) at_line c.loop-i.invariant.reached in
    reached

pub advance-requires-clause-agree : goal.advance-requires-clause-agree
advance-requires-clause-agree c =
    let sw = c.requires.sweep in
    let starts = c.args.starts.now in
    let ends = c.args.ends.now in
    let lines = c.args.lines.now in
    let i = c.loop-i.i in
    let sweep = c.loop-i.sweep in
    let z = get_or lines i (pos 0) in
    let v = to_z w64 (of_z w64 c.line_at-line.result) in
    let same : c.line_at-line.result ≡ v = omega (arith, ints) in
    let at_line : z ≡ v = sym c.line_at-line.ensures ∙ same in
    let reached = subst (λ (w : ℤ). IsReached w starts ends sweep) at_line c.loop-i.invariant.reached in
    let gap = c.touched_gap-gap.result in
    let down = c.touched_gap-gap.ensures in
    agree_from_no_fault v 0 0 (map (sides_at starts) sweep.stack) (no_gap gap (stack_fault_from v 0 0 (map (sides_at starts) sweep.stack)) (sym c.is_some.ensures ∙ c.if-is_some.false) down)

pub advance-requires-clause-up : goal.advance-requires-clause-up
advance-requires-clause-up c =
    let sw = c.requires.sweep in
    let starts = c.args.starts.now in
    let ends = c.args.ends.now in
    let lines = c.args.lines.now in
    let i = c.loop-i.i in
    let sweep = c.loop-i.sweep in
    let z = get_or lines i (pos 0) in
    let v = to_z w64 (of_z w64 c.line_at-line.result) in
    let same : c.line_at-line.result ≡ v = omega (arith, ints) in
    let at_line : z ≡ v = sym c.line_at-line.ensures ∙ same in
    let reached = subst (λ (w : ℤ). IsReached w starts ends sweep) at_line c.loop-i.invariant.reached in
    let y = get_or lines (i + 1) (pos 0) in
    let u = to_z w64 (of_z w64 c.line_at-after.result) in
    let same_after : c.line_at-after.result ≡ u = omega (arith, ints) in
    let at_after : y ≡ u = sym c.line_at-after.ensures ∙ same_after in
    let short : i + 1 < length lines = let to_in = c.requires.within (omega arith) in omega (arith, to_in, c.loop-i-test.true) in
    subst₂ (λ (a b : ℤ). a ≤ℤ b) at_line at_after (ascending lines (sorted_lines sw.0 lines starts sw.1.apart sw.1.lines_are sw.1.starts_are) i (i + 1) (pos 0) (omega arith) short)

pub advance-requires-clause-none : goal.advance-requires-clause-none
advance-requires-clause-none c =
    let sw = c.requires.sweep in
    let starts = c.args.starts.now in
    let ends = c.args.ends.now in
    let lines = c.args.lines.now in
    let i = c.loop-i.i in
    let sweep = c.loop-i.sweep in
    let z = get_or lines i (pos 0) in
    let v = to_z w64 (of_z w64 c.line_at-line.result) in
    let same : c.line_at-line.result ≡ v = omega (arith, ints) in
    let at_line : z ≡ v = sym c.line_at-line.ensures ∙ same in
    let reached = subst (λ (w : ℤ). IsReached w starts ends sweep) at_line c.loop-i.invariant.reached in
    let y = get_or lines (i + 1) (pos 0) in
    let u = to_z w64 (of_z w64 c.line_at-after.result) in
    let same_after : c.line_at-after.result ≡ u = omega (arith, ints) in
    let at_after : y ≡ u = sym c.line_at-after.ensures ∙ same_after in
    let short : i + 1 < length lines = let to_in = c.requires.within (omega arith) in omega (arith, to_in, c.loop-i-test.true) in
    subst (λ (w : ℤ). All (λ s. w ≤ℤ left_end s) (drop sweep.begun starts)) at_after
    (later_at_next sw.0 lines starts sw.1.apart sw.1.lines_are sw.1.starts_are i sweep.begun short c.loop-i.invariant.reached.later)

pub loop-i-preserved : goal.loop-i-preserved
loop-i-preserved c =
    let sw = c.requires.sweep in
    let starts = c.args.starts.now in
    let ends = c.args.ends.now in
    let lines = c.args.lines.now in
    let i = c.loop-i.i in
    let sweep = c.loop-i.sweep in
    let z = get_or lines i (pos 0) in
    let v = to_z w64 (of_z w64 c.line_at-line.result) in
    let same : c.line_at-line.result ≡ v = omega (arith, ints) in
    let at_line : z ≡ v = sym c.line_at-line.ensures ∙ same in
    let reached = subst (λ (w : ℤ). IsReached w starts ends sweep) at_line c.loop-i.invariant.reached in
    let y = get_or lines (i + 1) (pos 0) in
    let u = to_z w64 (of_z w64 c.line_at-after.result) in
    let same_after : c.line_at-after.result ≡ u = omega (arith, ints) in
    let at_after : y ≡ u = sym c.line_at-after.ensures ∙ same_after in
    let short : i + 1 < length lines = let to_in = c.requires.within (omega arith) in omega (arith, to_in, c.loop-i-test.true) in
    let gap = c.touched_gap-gap.result in
    let down = c.touched_gap-gap.ensures in
    record {
      reached = subst (λ (w : ℤ). IsReached w starts ends c.advance.new.self) (sym at_after) c.in_ok-advance.ensures;
      sound = λ segments h k from lt. elim (cases_lt k i) [
        | inl less ↦ c.loop-i.invariant.sound segments h k from less
        | inr le ↦
            let here : i ≡ k = omega (arith, lt, le) in
            subst (λ (n : ℕ). stack_fault segments (get_or lines n (pos 0)) ≡ None) here
            (no_gap gap (stack_fault segments z) (sym c.is_some.ensures ∙ c.if-is_some.false)
            (down ∙ sym (stack_fault_at segments lines starts h.apart h.lines_are h.starts_are sweep.begun sweep.stack reached.active reached.later) ∙ ap (stack_fault segments) (sym at_line)))
      ];
    }
