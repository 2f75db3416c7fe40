-- A run that is passed over has none of the points of the set.
use Rattle.std.proofs.Common.{◌+◌, ◌++◌, List, append_assoc, drop, length, sym, ap, ◌∙◌, arith}
use Rattle.tgap_model.specs.declared.record.Put.{Put}
use Rattle.tgap_model.specs.Records.{puts_from}
use Rattle.tgap_build.proofs.Puts.{puts_none, run_puts, run_within}
use Rattle.tgap_build.proofs.mends.puts_of.Goals.{then-may_have+in_ok-push_puts, else-may_have}
use Rattle.tgap_build.proofs.mends.puts_of.Goals as goal

pub push_puts-requires : goal.push_puts-requires
push_puts-requires c =
    let l = run_within c.args.row.now c.loop-place.place c.run_from-run.result c.run_from-run.ensures c.loop-place.invariant.inside in omega (arith, l, c.requires)

pub loop-place-preserved : goal.loop-place-preserved
loop-place-preserved c =
    let row = c.args.row.now in
    let place = c.loop-place.place in
    let run = c.run_from-run.result in
    let known = c.run_from-run.ensures in
    let next = place + length run.points.now in
    let before = c.loop-place.puts in
    record {
      inside = run_within row place run known c.loop-place.invariant.inside;
      puts = λ now same.
          let here = puts_from now place run.points.now in
          let rest = puts_from now next (drop next row) in
          elim c.if-may_have.branch [
            | then-may_have+in_ok-push_puts w ↦
                ap (λ (ps : List Put). ps ++ rest) (w.puts-is ∙ w.in_ok-push_puts.ensures now same)
                ∙ append_assoc before here rest
                ∙ ap (λ (ps : List Put). before ++ ps) (sym (run_puts now row place run known))
                ∙ c.loop-place.invariant.puts now same
            | else-may_have w ↦
                ap (λ (ps : List Put). ps ++ rest) w.puts-is
                ∙ ap (λ (ps : List Put). before ++ ps)
                (sym (run_puts now row place run known ∙ ap (λ (ps : List Put). ps ++ rest) (puts_none now c.args.gone.now same place run.points.now (c.may_have.ensures w.if-may_have.false))))
                ∙ c.loop-place.invariant.puts now same
          ];
    }
