-- The place that was looked at is fair too.
use Rattle.std.proofs.Common.{◌≡◌, true}
use borrow.Author.Count.{below_more}
use Rattle.planar_sweep.specs.Ends.{IsFair}
use Rattle.planar_sweep.proofs.Shared.{marks_known}
use Rattle.planar_sweep.proofs.marks.are_fair.Goals.{then-is_fair_to_next, else-is_fair_to_next}
use Rattle.planar_sweep.proofs.marks.are_fair.Goals as goal

pub is_fair_to_next-requires-clause-numbers : goal.is_fair_to_next-requires-clause-numbers
is_fair_to_next-requires-clause-numbers c = λ k d short. marks_known c.args.segments.now c.args.marks.now c.requires.marks k d short

pub loop-i-preserved : goal.loop-i-preserved
loop-i-preserved c =
    let here : IsFair c.args.segments.now c.args.marks.now c.loop-i.i = elim c.if-is_fair_to_next.branch [
      | then-is_fair_to_next w ↦
          let next : c.is_fair_to_next.result ≡ true = cc in
          let after : w.is_fair_after.result ≡ true = cc in
          record { next = c.is_fair_to_next.ensures next; after = w.is_fair_after.ensures after }
      | else-is_fair_to_next w ↦ absurd cc
    ] in
    below_more (IsFair c.args.segments.now c.args.marks.now) c.loop-i.i c.loop-i.invariant here
