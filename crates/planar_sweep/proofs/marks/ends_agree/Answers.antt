use Rattle.planar_sweep.proofs.Shared.{agree}
use Rattle.std.proofs.Common.{ℕ, List, ◌<◌, length, sym, subst}
use Rattle.planar_sweep.specs.declared.marks.Mark.{Mark}
use Rattle.planar_sweep.specs.Ends.{AreMarks, IsFair}
use Rattle.planar_sweep.proofs.marks.ends_agree.Goals as goal

pub are_fair-requires : goal.are_fair-requires
are_fair-requires c = record { marks = subst (AreMarks c.args.segments.now) (sym c.deref.ensures.value) c.in_ok-marks.ensures }

pub returns : goal.returns
returns c = λ e. agree c.args.segments.now c.in_ok-marks.marks.items c.in_ok-marks.ensures
    (subst (λ (ms : List Mark). (i : ℕ) → i < length ms → IsFair c.args.segments.now ms i) c.deref.ensures.value (c.are_fair.ensures e))
