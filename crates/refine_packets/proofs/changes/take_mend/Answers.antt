-- An edge that is known to be in the window, and stays one piece, is in it before the step too.
use Rattle.std.proofs.Common.{Result, Ok, Err, OnOk, sym, ◌∙◌}
use Rattle.tgap_model.specs.Merged.{merged}
use Rattle.tgap_model.specs.Records.{step_record}
use Rattle.removal_laws.proofs.ChainEnds.{among_contained}
use Rattle.refine_packets.proofs.StepChanges.{mend_within, whole_taken}
use Rattle.refine_packets.proofs.changes.take_mend.Goals as goal

-- what is told of a success, told in other words
told : {A E : Type 0} (P Q : Type 0) (r : Result A E) → (P → Q) → OnOk r P → OnOk r Q
told P Q (Ok x) g p = g p
told P Q (Err e) g p = tt

pub take_whole-requires-clause-key : goal.take_whole-requires-clause-key
take_whole-requires-clause-key c =
    let f = c.args.forest.now in
    let s = c.requires.sight in
    mend_within f.base s.forest.base s.forest.partition c.args.j c.requires.some c.requires.step c.args.near.now.area c.args.mend.now
    (among_contained (step_record (merged f.base) c.args.j).mends c.args.mend.now c.requires.mend)

pub returns-then-is_known : goal.returns-then-is_known
returns-then-is_known c =
    let f = c.args.forest.now in
    let s = c.requires.sight in
    told _ _ c.take_whole.result (λ e.
    e ∙ whole_taken f.base s.forest.base s.forest.partition c.args.j c.requires.some c.requires.step c.args.near.now.area c.args.mend.now
    (among_contained (step_record (merged f.base) c.args.j).mends c.args.mend.now c.requires.mend)
    (sym c.len.ensures ∙ c.if-len-eq1.true) (c.requires.known c.args.mend.now.key (sym c.is_known.ensures ∙ c.if-is_known.true)) c.args.changes.now)
    c.take_whole.ensures
