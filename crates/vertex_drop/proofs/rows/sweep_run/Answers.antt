-- A run of which no corner is small is kept but for its last segment.
use Rattle.std.proofs.Common.{◌≡◌, ◌+◌, ◌-◌, ◌++◌, ℕ, pos, length, take, get_or, sym, subst, arith}
use Rattle.tgap_model.specs.declared.geometry.Point.{Point}
use Rattle.tgap_model.specs.Removals.{path}
use Rattle.vertex_drop.specs.Left.{swept_by, other_segments}
use Rattle.vertex_drop.specs.Sweep.{Standing, GoesOn}
use Rattle.vertex_drop.proofs.Walked.{run_passed}
use Rattle.vertex_drop.proofs.rows.sweep_run.Goals as goal

pub returns-in_ok-lend-in-Some-clause-on : goal.returns-in_ok-lend-in-Some-clause-on
returns-in_ok-lend-in-Some-clause-on g c i d more short same ahead =
    let live = g.L.LiveTable.edges c.args.live.now in
    let at = c.args.at in
    let run = c.args.run.points.now in
    let kept = c.args.kept.now in
    let gone = c.args.gone.now.items in
    let o : Point = record { x = pos 0; y = pos 0 } in
    let points = (get_or live i d).points in
    let others = other_segments (swept_by at) i live in
    let j = length run - 1 - 1 in
    let end : j + 1 ≡ length run - 1 = omega (arith, c.requires.some) in
    let first : at.place - 1 + 1 ≡ at.place = omega (arith, c.requires.from) in
    let last : at.place - 1 + (j + 1) ≡ at.place + length run - 2 = omega (arith, c.requires.from, c.requires.some) in
    let from : ℕ → Point → Standing = λ (n : ℕ) (p : Point). record { kept = kept; gone = gone; last = p; place = n } in
    let to : ℕ → ℕ → Standing = λ (m n : ℕ). record { kept = kept ++ path (take m run); gone = gone; last = get_or run j o; place = n } in
    let passed = run_passed c.args.rule others points run more (at.place - 1) o ahead c.in-Some.ensures.large kept gone j (omega (arith, c.requires.some)) in
    rw c.in_ok-lend-in-Some.ensures
    (subst (λ (n : ℕ). GoesOn c.args.rule others points (from n c.args.a) (to (length run - 1) (at.place + length run - 2))) first
    (subst (λ (n : ℕ). GoesOn c.args.rule others points (from (at.place - 1 + 1) c.args.a) (to (length run - 1) n)) last
    (subst (λ (n : ℕ). GoesOn c.args.rule others points (from (at.place - 1 + 1) c.args.a) (to n (at.place - 1 + (j + 1)))) end
    (subst (λ (p : Point). GoesOn c.args.rule others points (from (at.place - 1 + 1) p) (to (j + 1) (at.place - 1 + (j + 1)))) (sym (c.in-Some.ensures.first o)) passed))))
