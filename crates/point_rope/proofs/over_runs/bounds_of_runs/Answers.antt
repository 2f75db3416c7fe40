use Rattle.std.proofs.Common.{All, List, take, subst}
use Rattle.std.proofs.lemmas.List.{take_all}
use Rattle.std.proofs.lemmas.List.Elements.{All-weaker}
use Rattle.tgap_model.specs.declared.geometry.Point.{Point}
use Rattle.point_rope.specs.Held.{IsHeld}
use Rattle.point_rope.specs.Runs.{joined}
use Rattle.point_rope.proofs.Joined.{All-joined_more}
use Rattle.point_rope.proofs.over_runs.bounds_of_runs.Goals as goal

pub loop-run-preserved : goal.loop-run-preserved
loop-run-preserved c =
    let runs = c.args.runs.now in
    let i = c.loop-run.run-index in
    let run = c.run-item.result in
    let all = IsHeld c.hull-bounds.result in
    All-joined_more all runs i run c.loop-run-test.true
    (All-weaker (IsHeld c.loop-run.bounds) all c.hull-bounds.ensures.first (joined (take i runs)) c.loop-run.invariant)
    (subst (λ (ps : List Point). All all ps) c.run-item.is (All-weaker (IsHeld c.bounds.result) all c.hull-bounds.ensures.second run c.bounds.ensures))

pub returns : goal.returns
returns c =
    subst (λ (runs : List (List Point)). All (IsHeld c.loop-run.bounds) (joined runs)) (take_all c.loop-run.run-index c.args.runs.now c.loop-run-test.false) c.loop-run.invariant
