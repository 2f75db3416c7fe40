use Rattle.std.proofs.Common.{◌≡◌, ℕ, ◌+◌, ◌++◌, ◌∷◌, [], List, length, true, sum_by, sym, ◌∙◌, ap, subst, arith}
use Rattle.edit_journal.specs.declared.entry.Entry.{Entry}
use Rattle.tgap_model.specs.Keeping.{KeptEntry}
use Rattle.edit_journal.specs.Entries.{entries_of, entry_size}
use Rattle.edit_journal.specs.Images.{IsLeft}
use Rattle.edit_journal.specs.Journals.{held_by, doubting, IsOf}
use Rattle.edit_journal.specs.Told.{kept_of, all_kept, doubted}
use Rattle.edit_journal.proofs.JournalSteps.{sure_entries, none_doubted, image_starts, more_kept, more_sized}
use Rattle.edit_journal.proofs.Moments.{weaker}
use Rattle.edit_journal.proofs.journal.Journal.append.Goals as goal

-- the entries end where the journal says
pub store-stored-requires-clause-end : goal.store-stored-requires-clause-end
store-stored-requires-clause-end g c =
    λ told.
    let seen : List ℕ = g.D.Disk.seen c.args.self.now.disk in
    let found : entries_of seen ≡ (all_kept c.args.self.now.entries, sum_by entry_size (all_kept c.args.self.now.entries)) = sure_entries 67108864 c.args.self.now.entries c.args.self.now.doubt seen c.requires (c.args.self.now.left told seen (g.met.D.Disk.seen_is_left c.args.self.now.disk told)) in
    let entries : (entries_of seen).0 ≡ all_kept c.args.self.now.entries = ap (λ (p : List KeptEntry × ℕ). p.0) found in
    c.args.self.now.sized ∙ sym (ap (λ (p : List KeptEntry × ℕ). p.1) found)

pub invariant_of-self-in-Ok-clause-sized : goal.invariant_of-self-in-Ok-clause-sized
invariant_of-self-in-Ok-clause-sized g c =
    let size : List Entry → ℕ = λ (l : List Entry). sum_by entry_size (all_kept l) in
    let sized : c.args.self.now.end ≡ size c.args.self.now.entries = c.args.self.now.sized in
    let more : size (c.in_ok-rows.rows.items ++ c.in_ok-row.row.entry ∷ []) ≡ size c.in_ok-rows.rows.items + (13 + length c.in_ok-row.row.entry.batch) = more_sized c.in_ok-rows.rows.items c.in_ok-row.row.entry in
    omega (arith, sized, more, ap size c.with_entry.ensures, ap size c.in_ok-rows.ensures.same, c.len.ensures)

pub invariant_of-self-in-Ok-clause-left : goal.invariant_of-self-in-Ok-clause-left
invariant_of-self-in-Ok-clause-left g c =
    λ told_now image left.
    let told : g.D.Disk.told c.args.self.now.disk ≡ true = sym c.store-stored.ensures.told ∙ told_now in
    let seen : List ℕ = g.D.Disk.seen c.args.self.now.disk in
    let found : entries_of seen ≡ (all_kept c.args.self.now.entries, sum_by entry_size (all_kept c.args.self.now.entries)) = sure_entries 67108864 c.args.self.now.entries c.args.self.now.doubt seen c.requires (c.args.self.now.left told seen (g.met.D.Disk.seen_is_left c.args.self.now.disk told)) in
    let entries : (entries_of seen).0 ≡ all_kept c.args.self.now.entries = ap (λ (p : List KeptEntry × ℕ). p.0) found in
    let now : List ℕ = g.D.Disk.seen c.store-stored.new.disk in
    let listed : (entries_of seen).0 ++ kept_of c.in_ok-row.row.entry ∷ [] ≡ all_kept c.with_entry.result = ap (λ (l : List KeptEntry). l ++ kept_of c.in_ok-row.row.entry ∷ []) (entries ∙ ap all_kept (sym c.in_ok-rows.ensures.same)) ∙ sym (more_kept c.in_ok-rows.rows.items c.in_ok-row.row.entry) ∙ ap all_kept (sym c.with_entry.ensures) in
    let settled : IsLeft 67108864 (all_kept c.with_entry.result) [] now = subst (λ (es : List KeptEntry). IsLeft 67108864 es [] now) listed (c.in-Ok.ensures.stored told) in
    subst (λ (l : List ℕ). IsLeft 67108864 (all_kept c.with_entry.result) (doubted c.args.self.now.doubt) l) (sym (c.in-Ok.ensures.sure told image left)) (subst (λ (ds : List KeptEntry). IsLeft 67108864 (all_kept c.with_entry.result) ds now) (sym (none_doubted c.args.self.now.doubt c.requires)) settled)

pub returns-in-Ok-clause-any_moment : goal.returns-in-Ok-clause-any_moment
returns-in-Ok-clause-any_moment g c =
    λ told.
    let seen : List ℕ = g.D.Disk.seen c.args.self.now.disk in
    let found : entries_of seen ≡ (all_kept c.args.self.now.entries, sum_by entry_size (all_kept c.args.self.now.entries)) = sure_entries 67108864 c.args.self.now.entries c.args.self.now.doubt seen c.requires (c.args.self.now.left told seen (g.met.D.Disk.seen_is_left c.args.self.now.disk told)) in
    let entries : (entries_of seen).0 ≡ all_kept c.args.self.now.entries = ap (λ (p : List KeptEntry × ℕ). p.0) found in
    let entry : KeptEntry = record { number = c.args.number; batch = c.args.batch.now } in
    weaker g.D.Disk.moment g.D.Disk.left_since c.args.self.now.disk c.store-stored.new.disk (IsLeft 67108864 (entries_of seen).0 (kept_of c.in_ok-row.row.entry ∷ [])) (IsOf (doubting (held_by c.args.self.now) entry)) (c.store-stored.ensures.any_moment told) (λ image left. image_starts 67108864 (held_by c.args.self.now) entry image (subst (λ (es : List KeptEntry). IsLeft 67108864 es (entry ∷ []) image) entries (subst (λ (e : KeptEntry). IsLeft 67108864 (entries_of seen).0 (e ∷ []) image) c.in_ok-row.ensures left)))

pub invariant_of-self-in-Err-clause-sized : goal.invariant_of-self-in-Err-clause-sized
invariant_of-self-in-Err-clause-sized g c =
    let size : List Entry → ℕ = λ (l : List Entry). sum_by entry_size (all_kept l) in
    let sized : c.args.self.now.end ≡ size c.args.self.now.entries = c.args.self.now.sized in
    sized ∙ ap size (sym c.in_ok-rows.ensures.same ∙ sym c.from.ensures)

pub invariant_of-self-in-Err-clause-left : goal.invariant_of-self-in-Err-clause-left
invariant_of-self-in-Err-clause-left g c =
    λ told_now image left.
    let told : g.D.Disk.told c.args.self.now.disk ≡ true = sym c.store-stored.ensures.told ∙ told_now in
    let seen : List ℕ = g.D.Disk.seen c.args.self.now.disk in
    let found : entries_of seen ≡ (all_kept c.args.self.now.entries, sum_by entry_size (all_kept c.args.self.now.entries)) = sure_entries 67108864 c.args.self.now.entries c.args.self.now.doubt seen c.requires (c.args.self.now.left told seen (g.met.D.Disk.seen_is_left c.args.self.now.disk told)) in
    let entries : (entries_of seen).0 ≡ all_kept c.args.self.now.entries = ap (λ (p : List KeptEntry × ℕ). p.0) found in
    let listed : (entries_of seen).0 ≡ all_kept c.from.result = entries ∙ ap all_kept (sym c.in_ok-rows.ensures.same ∙ sym c.from.ensures) in
    subst (λ (es : List KeptEntry). IsLeft 67108864 es (kept_of c.in_ok-row.row.entry ∷ []) image) listed (c.store-stored.ensures.left told image left)

pub returns-clause-any_moment : goal.returns-clause-any_moment
returns-clause-any_moment g c =
    λ told.
    let seen : List ℕ = g.D.Disk.seen c.args.self.now.disk in
    let found : entries_of seen ≡ (all_kept c.args.self.now.entries, sum_by entry_size (all_kept c.args.self.now.entries)) = sure_entries 67108864 c.args.self.now.entries c.args.self.now.doubt seen c.requires (c.args.self.now.left told seen (g.met.D.Disk.seen_is_left c.args.self.now.disk told)) in
    let entries : (entries_of seen).0 ≡ all_kept c.args.self.now.entries = ap (λ (p : List KeptEntry × ℕ). p.0) found in
    let entry : KeptEntry = record { number = c.args.number; batch = c.args.batch.now } in
    weaker g.D.Disk.moment g.D.Disk.left_since c.args.self.now.disk c.store-stored.new.disk (IsLeft 67108864 (entries_of seen).0 (kept_of c.in_ok-row.row.entry ∷ [])) (IsOf (doubting (held_by c.args.self.now) entry)) (c.store-stored.ensures.any_moment told) (λ image left. image_starts 67108864 (held_by c.args.self.now) entry image (subst (λ (es : List KeptEntry). IsLeft 67108864 es (entry ∷ []) image) entries (subst (λ (e : KeptEntry). IsLeft 67108864 (entries_of seen).0 (e ∷ []) image) c.in_ok-row.ensures left)))
