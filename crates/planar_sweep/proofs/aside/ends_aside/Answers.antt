use Rattle.std.proofs.Common.{◌<◌, List, length, All, sym, subst}
use Rattle.planar_sweep.specs.declared.marks.Mark.{Mark}
use Rattle.planar_sweep.proofs.Shared.{marks_known}
use Rattle.planar_sweep.proofs.aside.ends_aside.Goals as goal

pub is_fair_to_next-requires-clause-numbers : goal.is_fair_to_next-requires-clause-numbers
is_fair_to_next-requires-clause-numbers c =
    let segments = c.args.segments.now in
    let known = subst (λ (ms : List Mark). All (λ m. m.number < length segments) ms) (sym c.deref.ensures.value) (marks_known segments c.in_ok-marks.marks.items c.in_ok-marks.ensures) in
    λ k d short. known k d short
