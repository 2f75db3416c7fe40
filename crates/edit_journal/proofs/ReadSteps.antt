-- How the reading of entries goes on.
use Rattle.std.proofs.Common.{◌≡◌, ℕ, ◌+◌, ◌-◌, ◌≤◌, List, [], ◌∷◌, ◌++◌, drop, length, Some, None, sym, ◌∙◌, ap, arith, append_assoc, length-drop}
use Rattle.std.proofs.lemmas.List.{append-nil, map-append}
use Rattle.edit_journal.specs.declared.entry.Entry.{Entry}
use Rattle.tgap_model.specs.Keeping.{KeptEntry}
use Rattle.edit_journal.specs.Entries.{entry_at, entry_size, entries_of}
use Rattle.edit_journal.specs.Told.{kept_of, all_kept, read_of}
use Rattle.edit_journal.proofs.EntryLists.{next_entries, no_entries, entry_fits}

-- so far these entries were read, and this is the rest
pub record ReadSoFar (bytes : List ℕ) (entries : List Entry) (rest : List ℕ) : Type 0 where
  pub found : entries_of bytes ≡ (all_kept entries ++ (entries_of rest).0, length bytes - length rest + (entries_of rest).1)
  pub short : length rest ≤ length bytes

pub read_more : (bytes : List ℕ) (entries : List Entry) (rest : List ℕ) (entry : Entry) → ReadSoFar bytes entries rest → entry_at rest ≡ Some (kept_of entry)
    → ReadSoFar bytes (entries ++ entry ∷ []) (drop (entry_size (kept_of entry)) rest)
read_more bytes entries rest entry so_far is =
    let e : KeptEntry = kept_of entry in
    let behind : List KeptEntry × ℕ = entries_of (drop (entry_size e) rest) in
    let next : entries_of rest ≡ (e ∷ behind.0, entry_size e + behind.1) = next_entries rest e is in
    let listed : all_kept entries ++ (e ∷ behind.0) ≡ all_kept (entries ++ entry ∷ []) ++ behind.0 =
    sym (append_assoc (all_kept entries) (e ∷ []) behind.0) ∙ ap (λ (l : List KeptEntry). l ++ behind.0) (sym (map-append kept_of entries (entry ∷ []))) in
    let placed : length bytes - length rest + (entry_size e + behind.1) ≡ length bytes - length (drop (entry_size e) rest) + behind.1 =
    omega (arith, so_far.short, length-drop (entry_size e) rest, entry_fits rest e is) in
    record {
      found = so_far.found ∙ (λ i. (all_kept entries ++ (next i).0, length bytes - length rest + (next i).1)) ∙ (λ i. (listed i, placed i));
      short = omega (arith, so_far.short, length-drop (entry_size e) rest);
    }

pub read_all : (bytes : List ℕ) (entries : List Entry) (rest : List ℕ) → ReadSoFar bytes entries rest → entry_at rest ≡ None → read_of (entries, length bytes - length rest) ≡ entries_of bytes
read_all bytes entries rest so_far none =
    let listed : all_kept entries ++ [] ≡ all_kept entries = append-nil (all_kept entries) in
    let placed : length bytes - length rest + 0 ≡ length bytes - length rest = omega arith in
    sym (so_far.found ∙ (λ i. (all_kept entries ++ (no_entries rest none i).0, length bytes - length rest + (no_entries rest none i).1)) ∙ (λ i. (listed i, placed i)))

pub none_read : (bytes : List ℕ) → ReadSoFar bytes [] bytes
none_read bytes =
    let placed : (entries_of bytes).1 ≡ length bytes - length bytes + (entries_of bytes).1 = omega arith in
    record { found = λ i. ((entries_of bytes).0, placed i); short = omega arith }
