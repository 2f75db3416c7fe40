use Rattle.std.proofs.Common.{◌≡◌, ◌<◌, ◌+◌, ◌-◌, ℕ, List, Option, Result, IfOk, ◌∙◌, ap, subst, arith}
use Rattle.std.specs.List.{AllZip, range_with_len}
use Rattle.tgap_model.specs.declared.segment.LabelledSegment.{LabelledSegment}
use Rattle.tgap_model.specs.declared.failure.Memory.{Memory}
use Rattle.rayon.specs.Numbers.{nat_range}
use Rattle.rayon.proofs.ListFacts.{AllZip-weaken}
use Rattle.rayon.proofs.ToStd.{nat_range-All}
use Rattle.rayon.proofs.Reducing.{Reduces-elim}
use Rattle.planar_stack.specs.declared.gap.StackGap.{StackGap}
use Rattle.planar_stack.specs.Parts.{IsSweep, IsSomeSweep, IsGapIn, part_start}
use Rattle.planar_stack.proofs.Joining.{IsFirstOfParts, none_found, more_found, both_found, from_first}
use Rattle.planar_stack.proofs.parts.first_of_parts.Goals as goal

pub reduce-requires-clause-ready : goal.reduce-requires-clause-ready
reduce-requires-clause-ready g c κs within =
    let ends = c.into_par_iter.ensures in
    let parts = c.args.parts in
    let inside = nat_range-All (λ i. (i < 18446744073709551615) × IsSomeSweep c.args.starts.now c.args.ends.now c.args.lines.now) 0 parts (λ i low high. (omega (arith, high, c.ranges.parts.fits), c.requires)) in
    rw (c.map.ensures.base, c.map.ensures.f, c.with_min_len.ensures.base, ends.0, ends.1) (λ k d lt. (inside k d lt, λ y p. tt))

pub returns : goal.returns
returns g c = λ segments h.
    let starts = c.args.starts.now in
    let edges = c.args.ends.now in
    let lines = c.args.lines.now in
    let size = c.args.size in
    let parts = c.args.parts in
    let ends = c.into_par_iter.ensures in
    let whole : parts - 0 ≡ parts = omega arith in
    let done = c.reduce.ensures in
    let found = done.0 in
    let chain = rw (c.map.ensures.base, c.map.ensures.f, c.with_min_len.ensures.base) at done.1 in
    let places = chain.1 ∙ (λ i. nat_range (ends.0 i) (ends.1 i)) ∙ ap (range_with_len 0) whole in
    let Told = λ (p : ℕ) (x : Result (Option StackGap) Memory). (ss : List LabelledSegment) → IsSweep ss starts edges lines → IfOk x (IsGapIn ss lines (part_start lines size p) (part_start lines size (p + 1))) in
    let This = λ (p : ℕ) (x : Result (Option StackGap) Memory). IfOk x (IsGapIn segments lines (part_start lines size p) (part_start lines size (p + 1))) in
    let here = AllZip-weaken Told This (λ p x told. told segments h) chain.0 found chain.2 in
    let zipped = subst (λ (ps : List ℕ). AllZip This ps found) places here in
    from_first segments lines size found c.reduce.result parts zipped
    (Reduces-elim _ _ (IsFirstOfParts segments lines size) (none_found segments lines size)
    (λ xs a x r m e. more_found segments lines size xs a x r m e)
    (λ xs ys a b r m k e. both_found segments lines size xs ys a b r m k e) found c.reduce.result done.2)
