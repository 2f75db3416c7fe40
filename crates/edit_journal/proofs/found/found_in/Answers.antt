use Rattle.std.proofs.Common.{ℕ, List, sum_by, sym, ◌∙◌, ap, arith}
use Rattle.tgap_model.specs.Keeping.{KeptEntry}
use Rattle.edit_journal.specs.Entries.{entry_size}
use Rattle.edit_journal.proofs.EntryLists.{ends_sized, ends_within}
use Rattle.edit_journal.proofs.found.found_in.Goals as goal

pub returns-clause-sized : goal.returns-clause-sized
returns-clause-sized c =
    ap (λ (p : List KeptEntry × ℕ). p.1) c.in_ok-entries.ensures ∙ ends_sized c.args.bytes.now
    ∙ ap (λ (p : List KeptEntry × ℕ). sum_by entry_size p.0) (sym c.in_ok-entries.ensures)

pub returns-clause-room : goal.returns-clause-room
returns-clause-room c = omega (arith, ap (λ (p : List KeptEntry × ℕ). p.1) c.in_ok-entries.ensures, ends_within c.args.bytes.now)
