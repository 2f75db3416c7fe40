-- Where the ratio is 0 nothing is removed.
use Rattle.std.proofs.Common.{◌≡◌, ◌≤◌, Result, Ok, Err, OnOk, List, length, sym, subst, arith}
use Rattle.tgap_model.specs.declared.slice.Removal.{Removal}
use Rattle.tgap_model.specs.History.{history_of}
use Rattle.tgap_model.specs.Merged.{merged}
use Rattle.tgap_model.specs.Removals.{removals_to}
use Rattle.tgap_build.specs.Built.{HasRemoved}
use Rattle.tgap_build.specs.Running.{AreRunning}
use Rattle.tgap_build.proofs.NoSweep.{none_more, none_removed}
use Rattle.tgap_build.proofs.removal.mend_and_remove.Goals as goal

on_ok : {A E : Type 0} (r : Result A E) (P : Type 0) → P → OnOk r P
on_ok (Ok x) P p = p
on_ok (Err e) P p = tt

pub returns-else-ratio-gt0-clause-removed : goal.returns-else-ratio-gt0-clause-removed
returns-else-ratio-gt0-clause-removed c =
    let f = c.args.forest.now in
    let w = c.requires.running.forest in
    let last : c.args.k ≤ length (history_of f.base) = omega (arith, w.steps, c.requires.made) in
    let none : f.base.rules.ratio ≡ 0 = omega (arith, c.requires.ratio, c.if-ratio-gt0.false) in
    on_ok c.plain_mends.result (HasRemoved f c.args.k) (none_removed f w.base w.partition c.args.k c.requires.some last none c.requires.removed)

pub returns-else-ratio-gt0-clause-running : goal.returns-else-ratio-gt0-clause-running
returns-else-ratio-gt0-clause-running c =
    let f = c.args.forest.now in
    let w = c.requires.running.forest in
    let last : c.args.k ≤ length (history_of f.base) = omega (arith, w.steps, c.requires.made) in
    let none : f.base.rules.ratio ≡ 0 = omega (arith, c.requires.ratio, c.if-ratio-gt0.false) in
    on_ok c.plain_mends.result (AreRunning f c.args.k (removals_to (merged f.base) c.args.k) c.args.live.now.edges)
    (subst (λ (rs : List Removal). AreRunning f c.args.k rs c.args.live.now.edges) (sym (none_more f w.base w.partition c.args.k c.requires.some last none)) c.requires.running)
