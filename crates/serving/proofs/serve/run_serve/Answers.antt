use Rattle.std.proofs.Common.{refl, inl, inr}
use Rattle.std.specs.Arc.{arc_value}
use Rattle.serving.proofs.Servings.{serves_on, refused_serves, stop_apart}
use Rattle.serving.proofs.serve.run_serve.Goals as goal

pub returns-in-Ok-clause-serves : goal.returns-in-Ok-clause-serves
returns-in-Ok-clause-serves g c =
    let e = c.in-Ok.ensures in
    let m = (arc_value c.in-Ok.first).built in
    serves_on _ _ _ _ _ _ _ _ _ _ _ _ _ _ _ _ (λ o is. inr (m, e.first, is)) (λ all. (m, e.first, all)) refl refl (λ doors back. back)
    c.serve_first.ensures.serves

pub returns-in-Ok-clause-sound : goal.returns-in-Ok-clause-sound
returns-in-Ok-clause-sound g c ends = ((arc_value c.in-Ok.first).built, c.in-Ok.ensures.first)

pub returns-in-Err-clause-serves : goal.returns-in-Err-clause-serves
returns-in-Err-clause-serves g c =
    refused_serves _ _ _ _ _ _ _ _ _ _ c.in-Err.outcome c.in-Err.ensures.stops (inl c.in-Err.ensures.refused) (inl (inr (inl refl))) c.put.ensures

pub returns-in-Err-clause-sound : goal.returns-in-Err-clause-sound
returns-in-Err-clause-sound g c zero = absurd (stop_apart _ _ _ _ _ c.in-Err.outcome c.in-Err.ensures.stops c.put.ensures zero)

pub returns-in-Err-clause-kinds_kept : goal.returns-in-Err-clause-kinds_kept
returns-in-Err-clause-kinds_kept g c kind leaves = elim (c.in-Err.ensures.counts kind) [
  | inl same ↦ same
  | inr failed ↦ absurd (leaves failed.0 failed.1 failed.2)
]
