use Rattle.std.proofs.Common.{◌≡◌, ◌+◌, ◌-◌, ◌++◌, ◌<◌, ℕ, List, length, subst, arith}
use Rattle.tgap_model.specs.declared.geometry.Point.{Point}
use Rattle.point_rope.specs.Rows.{IsRun}
use Rattle.point_rope.specs.Runs.{joined}
use Rattle.point_rope.proofs.Rests.{run_before, run_behind}
use Rattle.point_rope.proofs.rope.Rope.run_from.Goals as goal

pub returns-then-place-count : goal.returns-then-place-count
returns-then-place-count c =
    let full = joined c.self.inside.full in
    let short : c.args.place < length full = omega (arith, c.count.ensures, c.if-place-count.true) in
    subst (λ (ps : List Point). IsRun ps c.args.place c.run_from.result) c.self.view_is (run_before full c.self.inside.last.items c.args.place c.run_from.result short c.run_from.ensures)

pub returns-else-place-count : goal.returns-else-place-count
returns-else-place-count c =
    let full = joined c.self.inside.full in
    let last = c.self.inside.last.items in
    let place = c.args.place in
    let rest = place - c.count-else-place-count.result in
    let there : length full + rest ≡ place = omega (arith, c.count.ensures, c.count-else-place-count.ensures, c.if-place-count.false) in
    let run = subst (λ (ps : List Point). IsRun ps rest c.rest_of.result) c.deref.ensures.value c.rest_of.ensures.run in
    subst (λ (ps : List Point). IsRun ps place c.rest_of.result) c.self.view_is (subst (λ (n : ℕ). IsRun (full ++ last) n c.rest_of.result) there (run_behind full last rest c.rest_of.result run))
