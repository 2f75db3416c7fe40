use Rattle.std.proofs.Common.{◌≡◌, ◌∙◌, ℕ, ◌+◌, List, [], ◌∷◌, ◌++◌, drop, subst, sym, ap, rules}
use Rattle.edit_journal.specs.declared.entry.Entry.{Entry}
use Rattle.edit_journal.specs.Told.{kept_of}
use Rattle.edit_journal.specs.Entries.{entry_size}
use Rattle.edit_journal.proofs.ReadSteps.{ReadSoFar, read_more}
use Rattle.edit_journal.proofs.reading.read_entries.Goals as goal

pub loop-entries-preserved : goal.loop-entries-preserved
loop-entries-preserved c =
    let more : ReadSoFar c.args.bytes.now (c.loop-entries.entries ++ c.in-Some.entry ∷ []) (drop (entry_size (kept_of c.in-Some.entry)) c.loop-entries.rest.now) = read_more c.args.bytes.now c.loop-entries.entries c.loop-entries.rest.now c.in-Some.entry c.loop-entries.invariant (search rules) in
    let behind : drop (entry_size (kept_of c.in-Some.entry)) c.loop-entries.rest.now ≡ c.split_at.result.1.now =
    ap (λ (n : ℕ). drop (13 + n) c.loop-entries.rest.now) (sym c.len.ensures) ∙ sym c.split_at.ensures.back in
    let pushed : c.loop-entries.entries ++ c.in-Some.entry ∷ [] ≡ c.push.new.self = sym (c.in_ok-push.ensures) in
    subst (λ (entries : List Entry). ReadSoFar c.args.bytes.now entries c.split_at.result.1.now) pushed (subst (λ (rest : List ℕ). ReadSoFar c.args.bytes.now (c.loop-entries.entries ++ c.in-Some.entry ∷ []) rest) behind more)
