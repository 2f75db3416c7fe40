use Rattle.std.proofs.Common.{◌≡◌, ◌<◌, ◌≤◌, ◌^◌, ◌-◌, ◌*◌, ℕ, ℤ, List, length, sym, ap, ◌∙◌, subst, subst₂, arith}
use Rattle.std.specs.Option.{option_map}
use Rattle.std.proofs.lemmas.Grind.{div_ceil_times}
use Rattle.std.proofs.lemmas.Result.{IfOk-weaker}
use Rattle.tgap_model.specs.declared.segment.LabelledSegment.{LabelledSegment}
use Rattle.tgap_model.specs.Partition.{abscissas, stack_fault, first_fault, all_but_last}
use Rattle.planar_stack.specs.Sweep.{disagrees, first_stack_fault, AreStarts, AreEnds}
use Rattle.planar_stack.specs.Parts.{IsSweep, IsGapIn, part_start}
use Rattle.planar_stack.proofs.Swept.{starts_are_few}
use Rattle.planar_stack.proofs.Joining.{gap_of_all}
use Rattle.planar_stack.proofs.parts.first_gap.Goals as goal

pub ends_of-requires : goal.ends_of-requires
ends_of-requires g c =
    let segments = c.args.segments.items in
    let starts = c.starts_of-starts.result.items in
    let few : length starts < 2 ^ 32 = omega (arith, starts_are_few segments starts c.starts_of-starts.ensures, c.requires.few) in
    record { few = subst (λ (ss : List LabelledSegment). length ss < 2 ^ 32) (sym c.deref-2.ensures.value) few }

pub returns : goal.returns
returns g c =
    let segments = c.args.segments.items in
    let lines = c.deref-5.result.now in
    let size = c.div_ceil-size.result in
    let parts = c.part_count-parts.result in
    let count = c.len-2.result in
    let lines_are = c.deref-5.ensures.value ∙ c.in_ok-lines.ensures ∙ ap abscissas c.deref.ensures.value in
    let at_ends = subst (λ (ss : List LabelledSegment). AreEnds ss c.in_ok-ends.ends.items) c.deref-2.ensures.value c.in_ok-ends.ensures in
    let sweep : IsSweep segments c.deref-3.result.now c.deref-4.result.now lines = record {
      apart = c.requires.apart;
      near = c.requires.near;
      few = c.requires.few;
      starts_are = subst (AreStarts segments) (sym c.deref-3.ensures.value) c.starts_of-starts.ensures;
      ends_are = subst₂ AreEnds (sym c.deref-3.ensures.value) (sym c.deref-4.ensures.value) at_ends;
      lines_are = lines_are;
    } in
    let some : 0 < parts = omega (arith, c.part_count-parts.ensures) in
    let room : count ≤ size * parts = subst (λ (n : ℕ). count ≤ n * parts) (sym c.div_ceil-size.ensures) (div_ceil_times count parts some).0 in
    let all : part_start lines size parts ≡ length lines - 1 = omega (arith, room, c.deref-5.ensures.len, c.len-2.ensures) in
    IfOk-weaker c.first_of_parts.result (IsGapIn segments lines 0 (part_start lines size parts)) (λ found. option_map disagrees found ≡ first_stack_fault segments)
    (λ gap e. gap_of_all segments lines gap (subst (λ (n : ℕ). IsGapIn segments lines 0 n gap) all e) ∙ ap (λ (xs : List ℤ). first_fault (stack_fault segments) (all_but_last xs)) lines_are)
    (c.first_of_parts.ensures segments sweep)
