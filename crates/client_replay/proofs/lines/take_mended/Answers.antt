use Rattle.std.proofs.Common.{◌++◌, ◌∷◌, [], ℕ, List, refl, sym, ap, take, filter, ◌∙◌}
use Rattle.std.specs.Prelude.{◌==◌, not}
use Rattle.std.proofs.lemmas.List.{take_more}
use Rattle.tgap_model.specs.declared.record.Mend.{Mend}
use Rattle.client_replay.specs.declared.lines.Line.{Line}
use Rattle.client_replay.proofs.Tables.{ascend, removed, filter_all}
use Rattle.client_replay.proofs.LineTables.{is_unnamed, taken_more}
use Rattle.client_replay.proofs.lines.take_mended.Goals as goal

pub loop-mend-init : goal.loop-mend-init
loop-mend-init c = record { ordered = c.requires; left = sym (filter_all (is_unnamed []) c.args.lines.now.entries (λ k d l. refl)) }

pub loop-mend-preserved : goal.loop-mend-preserved
loop-mend-preserved c =
    let i = c.loop-mend.mend-index in
    let m = c.mend-item.result in
    let mends = c.args.mends.now in
    let now = c.loop-mend.lines.entries in
    let old = c.args.lines.now.entries in
    record {
      ordered = c.remove.ensures.ordered;
      left = c.remove.ensures.entries ∙ removed m.key now (ascend now c.loop-mend.invariant.ordered)
          ∙ ap (filter (λ (p : ℕ × Line). not (p.0 == m.key))) c.loop-mend.invariant.left
          ∙ taken_more (take i mends) m old
          ∙ ap (λ (ms : List Mend). filter (is_unnamed ms) old) (ap (λ (n : Mend). take i mends ++ n ∷ []) c.mend-item.is ∙ sym (take_more mends i m c.loop-mend-test.true));
    }
