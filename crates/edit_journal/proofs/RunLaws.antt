-- Laws of runs of calls of a journal.
use Rattle.std.proofs.Common.{◌≡◌, ◌⊎◌, ℕ, List, [], ◌∷◌, ◌++◌, Ok, Err, inl, inr, refl, sym, ◌∙◌, ap, subst}
use Rattle.std.proofs.lemmas.List.{append-nil}
use Rattle.edit_journal.specs.declared.entry.AppendFail.TheVariants.{Failed, Full, Memory}
use Rattle.tgap_model.specs.Keeping.{KeptEntry, Kept, IsStart, sure_of}
use Rattle.edit_journal.specs.Entries.{entries_of}
use Rattle.edit_journal.specs.Journals.{IsOf, doubting}
use Rattle.edit_journal.specs.Runs.{Call, Append, Settle, Changes, Called, Run, acknowledged, unsettled, IsHistory, ended_by_crash}

-- what is held after a list of calls, without the disks
abbrev pub Goes : Kept → List Call → Kept → Type 0
Goes before [] now = now ≡ before
Goes before (call ∷ calls) now = (next : Kept) × Changes before call next × Goes next calls now

module _ {D : Type 0} (moment : D → ℕ) (left_since : D → ℕ → List ℕ → Type 0) (may_leave : D → List ℕ → Type 0) where
  pub goes : (before now : D × Kept) (calls : List Call) → Run moment left_since may_leave before calls now → Goes before.1 calls now.1
  goes before now [] run = ap (λ (s : D × Kept). s.1) run
  goes before now (call ∷ calls) run = (run.0.1, run.1.changes, goes run.0 now calls run.2)

  -- what a crash leaves at the end of a run
  pub left_after : (before now : D × Kept) (calls : List Call) → ((image : List ℕ) → may_leave before.0 image → IsOf before.1 image) → Run moment left_since may_leave before calls now
      → (image : List ℕ) → may_leave now.0 image → IsOf now.1 image
  left_after before now [] first run = subst (λ (s : D × Kept). (image : List ℕ) → may_leave s.0 image → IsOf s.1 image) (sym run) first
  left_after before now (call ∷ calls) first run = left_after run.0 now calls run.1.left run.2

-- what is held after calls that began with this
abbrev pub after : Kept → List Call → Kept
after held calls = record { entries = acknowledged held.entries calls; doubt = unsettled held.doubt calls }

-- what is held is what was acknowledged, and the entry that is not settled yet
pub holds_after : (before now : Kept) (calls : List Call) → Goes before calls now → now ≡ after before calls
holds_after before now [] run = run
holds_after before now (Append e (Ok x) ∷ calls) run = holds_after run.0 now calls run.2 ∙ ap (λ (k : Kept). after k calls) run.1.1
holds_after before now (Append e (Err Failed) ∷ calls) run = holds_after run.0 now calls run.2 ∙ ap (λ (k : Kept). after k calls) run.1.1
holds_after before now (Append e (Err (Full limit)) ∷ calls) run = holds_after run.0 now calls run.2 ∙ ap (λ (k : Kept). after k calls) run.1.1
holds_after before now (Append e (Err Memory) ∷ calls) run = holds_after run.0 now calls run.2 ∙ ap (λ (k : Kept). after k calls) run.1.1
holds_after before now (Settle (Ok found) ∷ calls) run = holds_after run.0 now calls run.2 ∙ ap (λ (k : Kept). after k calls) run.1.1
holds_after before now (Settle (Err cause) ∷ calls) run = holds_after run.0 now calls run.2 ∙ ap (λ (k : Kept). after k calls) run.1

-- where none is in doubt there is one list
pub sure_start : (entries found : List KeptEntry) → IsStart (sure_of entries) found → found ≡ entries
sure_start entries found (inl is) = is
sure_start entries found (inr (d, none, is)) = absurd (cc)

doubt_start : (held : Kept) (e : KeptEntry) (found : List KeptEntry) → IsStart (doubting held e) found → (found ≡ held.entries) ⊎ (found ≡ held.entries ++ e ∷ [])
doubt_start held e found (inl is) = inl is
doubt_start held e found (inr (d, is_e, is)) = let same : e ≡ d = cc in inr (is ∙ ap (λ (k : KeptEntry). held.entries ++ k ∷ []) (sym same))

-- what was held at first, of which what is found now is a history
abbrev pub Since : Kept → List Call → List KeptEntry → Type 0
Since before calls found = (start : List KeptEntry) × IsStart before start × IsHistory start calls found

from_start : (calls : List Call) (found start start' : List KeptEntry) → start ≡ start' → IsHistory start calls found → IsHistory start' calls found
from_start calls found start start' same history = subst (λ (l : List KeptEntry). IsHistory l calls found) same history

since_failed : (before : Kept) (e : KeptEntry) (calls : List Call) (found start : List KeptEntry) → IsHistory start calls found → (start ≡ before.entries) ⊎ (start ≡ before.entries ++ e ∷ []) → Since before (Append e (Err Failed) ∷ calls) found
since_failed before e calls found start history (inl is) = (before.entries, inl refl, inl (from_start calls found start before.entries is history))
since_failed before e calls found start history (inr is) = (before.entries, inl refl, inr (from_start calls found start (before.entries ++ e ∷ []) is history))

pub history : (before now : Kept) (calls : List Call) → Goes before calls now → (found : List KeptEntry) → IsStart now found → Since before calls found
history before now [] run found starts = (found, subst (λ (k : Kept). IsStart k found) run starts, refl)
history before now (Append e (Ok x) ∷ calls) run found starts =
    let later : Since run.0 calls found = history run.0 now calls run.2 found starts in
    let is : later.0 ≡ before.entries ++ e ∷ [] = sure_start (before.entries ++ e ∷ []) later.0 (subst (λ (k : Kept). IsStart k later.0) run.1.1 later.1) in
    (before.entries, inl refl, from_start calls found later.0 (before.entries ++ e ∷ []) is later.2)
history before now (Append e (Err Failed) ∷ calls) run found starts =
    let later : Since run.0 calls found = history run.0 now calls run.2 found starts in
    since_failed before e calls found later.0 later.2 (doubt_start before e later.0 (subst (λ (k : Kept). IsStart k later.0) run.1.1 later.1))
history before now (Append e (Err (Full limit)) ∷ calls) run found starts =
    let later : Since run.0 calls found = history run.0 now calls run.2 found starts in
    (later.0, subst (λ (k : Kept). IsStart k later.0) run.1.1 later.1, later.2)
history before now (Append e (Err Memory) ∷ calls) run found starts =
    let later : Since run.0 calls found = history run.0 now calls run.2 found starts in
    (later.0, subst (λ (k : Kept). IsStart k later.0) run.1.1 later.1, later.2)
history before now (Settle (Ok entries) ∷ calls) run found starts =
    let later : Since run.0 calls found = history run.0 now calls run.2 found starts in
    let is : later.0 ≡ entries = sure_start entries later.0 (subst (λ (k : Kept). IsStart k later.0) run.1.1 later.1) in
    (entries, run.1.0, from_start calls found later.0 entries is later.2)
history before now (Settle (Err cause) ∷ calls) run found starts =
    let later : Since run.0 calls found = history run.0 now calls run.2 found starts in
    (later.0, subst (λ (k : Kept). IsStart k later.0) run.1 later.1, later.2)

pub goes_more : (before now next : Kept) (calls : List Call) (call : Call) → Goes before calls now → Changes now call next → Goes before (calls ++ call ∷ []) next
goes_more before now next [] call run changes = (next, subst (λ (k : Kept). Changes k call next) run changes, refl)
goes_more before now next (first ∷ calls) call run changes = (run.0, run.1, goes_more run.0 now next calls call run.2 changes)

-- from a list in which none is in doubt
pub history_of : (entries : List KeptEntry) (now : Kept) (calls : List Call) → Goes (sure_of entries) calls now → (found : List KeptEntry) → IsStart now found → IsHistory entries calls found
history_of entries now calls run found starts =
    let h : Since (sure_of entries) calls found = history (sure_of entries) now calls run found starts in
    from_start calls found h.0 entries (sure_start entries h.0 h.1) h.2

-- and where a crash ends the next call
pub history_ended : {D : Type 0} (moment : D → ℕ) (left_since : D → ℕ → List ℕ → Type 0) (may_leave : D → List ℕ → Type 0) (entries : List KeptEntry) (calls : List Call) (now next : D × Kept) (call : Call)
    → Goes (sure_of entries) calls now.1 → Called moment left_since may_leave now next call → (image : List ℕ) → left_since next.0 (moment now.0) image → IsHistory entries (calls ++ ended_by_crash call) (entries_of image).0
history_ended moment left_since may_leave entries calls now next (Append e result) run called image left =
    history_of entries (doubting now.1 e) (calls ++ Append e (Err Failed) ∷ []) (goes_more (sure_of entries) now.1 (doubting now.1 e) calls (Append e (Err Failed)) run (called.changes.0, refl)) (entries_of image).0 (called.any_moment.each image left)
history_ended moment left_since may_leave entries calls now next (Settle result) run called image left =
    subst (λ (l : List Call). IsHistory entries l (entries_of image).0) (sym (append-nil calls)) (history_of entries now.1 calls run (entries_of image).0 (called.any_moment.each image left))
