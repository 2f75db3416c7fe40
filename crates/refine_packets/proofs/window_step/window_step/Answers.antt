-- Out of what was found comes the record, and the counts are those before the step.
use Rattle.std.proofs.Common.{◌≡◌, ◌<◌, ◌-◌, ℕ, nat_lt, List, ◌∷◌, ◌++◌, map, filter, Contains, IsPermutation, sym, ap, ◌∙◌, subst, subst₂}
use Rattle.tgap_model.specs.declared.slice.Edge.{Edge}
use Rattle.tgap_model.specs.declared.record.Mend.{Mend}
use Rattle.tgap_model.specs.Merged.{merged}
use Rattle.tgap_model.specs.Slice.{meets_window}
use Rattle.tgap_model.specs.WindowRecords.{window_at}
use Rattle.face_tree.specs.Tree.{IsFace}
use Rattle.slice_read.specs.Windows.{all_sides, row_of}
use Rattle.refine_packets.specs.Counts.{AreCounted, AreOut, count_at}
use Rattle.refine_packets.specs.Walk.{changes_by}
use Rattle.refine_packets.proofs.StepWhole.{made_within, winner_within, gone_counted, kept_counted, comes_counted, room, after_is, each_face, known_before, step_is}
use Rattle.refine_packets.proofs.window_step.window_step.Goals as goal

pub recount-requires-clause-made : goal.recount-requires-clause-made
recount-requires-clause-made c =
    subst (λ (x : ℕ). c.args.whole.now.made < x) (sym c.requires.long) (made_within c.args.forest.now c.args.tree.now c.args.near.now c.requires.sight c.args.whole.now c.requires.some c.requires.step c.requires.whole c.in_ok-changes.changes
    (c.in_ok-changes.ensures ∙ ap (λ (ws : List Mend). changes_by (window_at (merged c.args.forest.now.base) c.args.near.now.area c.args.whole.now.step) (window_at (merged c.args.forest.now.base) c.args.near.now.area (c.args.whole.now.step - 1)) ws) c.as_slice-mends.ensures)
    c.in_ok-comes.comes
    (subst (λ (es : List Edge). IsPermutation (c.in_ok-changes.changes.comes ++ filter (meets_window c.args.near.now.area) es) c.in_ok-comes.comes) c.as_slice.ensures c.in_ok-comes.ensures.all)
    c.in_ok-comes.ensures.order)

pub recount-requires-clause-winner : goal.recount-requires-clause-winner
recount-requires-clause-winner c =
    subst (λ (x : ℕ). c.args.whole.now.winner < x) (sym c.requires.long) (winner_within c.args.forest.now c.args.tree.now c.args.near.now c.requires.sight c.args.whole.now c.requires.some c.requires.step c.requires.whole c.in_ok-changes.changes
    (c.in_ok-changes.ensures ∙ ap (λ (ws : List Mend). changes_by (window_at (merged c.args.forest.now.base) c.args.near.now.area c.args.whole.now.step) (window_at (merged c.args.forest.now.base) c.args.near.now.area (c.args.whole.now.step - 1)) ws) c.as_slice-mends.ensures)
    c.in_ok-comes.comes
    (subst (λ (es : List Edge). IsPermutation (c.in_ok-changes.changes.comes ++ filter (meets_window c.args.near.now.area) es) c.in_ok-comes.comes) c.as_slice.ensures c.in_ok-comes.ensures.all)
    c.in_ok-comes.ensures.order)

pub recount-requires-clause-gone : goal.recount-requires-clause-gone
recount-requires-clause-gone c =
    subst₂ (λ (x : ℕ) (es : List Edge). AreCounted x es) (sym c.requires.long) (sym c.as_slice-3.ensures) (gone_counted c.args.forest.now c.args.tree.now c.args.near.now c.requires.sight c.args.whole.now c.requires.some c.requires.step c.requires.whole c.in_ok-changes.changes
    (c.in_ok-changes.ensures ∙ ap (λ (ws : List Mend). changes_by (window_at (merged c.args.forest.now.base) c.args.near.now.area c.args.whole.now.step) (window_at (merged c.args.forest.now.base) c.args.near.now.area (c.args.whole.now.step - 1)) ws) c.as_slice-mends.ensures)
    c.in_ok-comes.comes
    (subst (λ (es : List Edge). IsPermutation (c.in_ok-changes.changes.comes ++ filter (meets_window c.args.near.now.area) es) c.in_ok-comes.comes) c.as_slice.ensures c.in_ok-comes.ensures.all)
    c.in_ok-comes.ensures.order)

pub recount-requires-clause-kept : goal.recount-requires-clause-kept
recount-requires-clause-kept c =
    subst₂ (λ (x : ℕ) (es : List Edge). AreCounted x es) (sym c.requires.long) (sym c.as_slice-4.ensures) (kept_counted c.args.forest.now c.args.tree.now c.args.near.now c.requires.sight c.args.whole.now c.requires.some c.requires.step c.requires.whole c.in_ok-changes.changes
    (c.in_ok-changes.ensures ∙ ap (λ (ws : List Mend). changes_by (window_at (merged c.args.forest.now.base) c.args.near.now.area c.args.whole.now.step) (window_at (merged c.args.forest.now.base) c.args.near.now.area (c.args.whole.now.step - 1)) ws) c.as_slice-mends.ensures)
    c.in_ok-comes.comes
    (subst (λ (es : List Edge). IsPermutation (c.in_ok-changes.changes.comes ++ filter (meets_window c.args.near.now.area) es) c.in_ok-comes.comes) c.as_slice.ensures c.in_ok-comes.ensures.all)
    c.in_ok-comes.ensures.order)

pub recount-requires-clause-comes : goal.recount-requires-clause-comes
recount-requires-clause-comes c =
    subst₂ (λ (x : ℕ) (es : List Edge). AreCounted x es) (sym c.requires.long) (sym c.as_slice-5.ensures) (comes_counted c.args.forest.now c.args.tree.now c.args.near.now c.requires.sight c.args.whole.now c.requires.some c.requires.step c.requires.whole c.in_ok-changes.changes
    (c.in_ok-changes.ensures ∙ ap (λ (ws : List Mend). changes_by (window_at (merged c.args.forest.now.base) c.args.near.now.area c.args.whole.now.step) (window_at (merged c.args.forest.now.base) c.args.near.now.area (c.args.whole.now.step - 1)) ws) c.as_slice-mends.ensures)
    c.in_ok-comes.comes
    (subst (λ (es : List Edge). IsPermutation (c.in_ok-changes.changes.comes ++ filter (meets_window c.args.near.now.area) es) c.in_ok-comes.comes) c.as_slice.ensures c.in_ok-comes.ensures.all)
    c.in_ok-comes.ensures.order)

pub recount-requires-clause-room : goal.recount-requires-clause-room
recount-requires-clause-room c = room c.args.forest.now c.args.tree.now c.args.near.now c.requires.sight c.args.whole.now c.requires.some c.requires.step c.requires.whole c.in_ok-changes.changes
    (c.in_ok-changes.ensures ∙ ap (λ (ws : List Mend). changes_by (window_at (merged c.args.forest.now.base) c.args.near.now.area c.args.whole.now.step) (window_at (merged c.args.forest.now.base) c.args.near.now.area (c.args.whole.now.step - 1)) ws) c.as_slice-mends.ensures)
    c.in_ok-comes.comes
    (subst (λ (es : List Edge). IsPermutation (c.in_ok-changes.changes.comes ++ filter (meets_window c.args.near.now.area) es) c.in_ok-comes.comes) c.as_slice.ensures c.in_ok-comes.ensures.all)
    c.in_ok-comes.ensures.order c.args.counts.now.items c.requires.counts c.as_slice-3.result.now c.as_slice-4.result.now c.as_slice-5.result.now c.as_slice-3.ensures c.as_slice-4.ensures c.as_slice-5.ensures

pub counted_rows-requires : goal.counted_rows-requires
counted_rows-requires c =
    subst₂ (λ (out after : List ℕ). (f : ℕ) → Contains out f → 0 < count_at after f → IsFace c.args.tree.now f)
    (sym c.deref-4.ensures.value) (sym c.deref-3.ensures.value)
    (each_face c.args.forest.now c.args.tree.now c.args.near.now c.requires.sight c.args.whole.now c.requires.some c.requires.step c.requires.whole c.in_ok-changes.changes
    (c.in_ok-changes.ensures ∙ ap (λ (ws : List Mend). changes_by (window_at (merged c.args.forest.now.base) c.args.near.now.area c.args.whole.now.step) (window_at (merged c.args.forest.now.base) c.args.near.now.area (c.args.whole.now.step - 1)) ws) c.as_slice-mends.ensures)
    c.in_ok-comes.comes
    (subst (λ (es : List Edge). IsPermutation (c.in_ok-changes.changes.comes ++ filter (meets_window c.args.near.now.area) es) c.in_ok-comes.comes) c.as_slice.ensures c.in_ok-comes.ensures.all)
    c.in_ok-comes.ensures.order c.args.counts.now.items c.requires.counts c.in_ok-out.out.items
    (subst₂ (λ (counts : List ℕ) (es : List Edge). AreOut counts (c.args.whole.now.loser ∷ c.args.whole.now.winner ∷ all_sides es) c.in_ok-out.out.items) c.deref-2.ensures.value c.as_slice-2.ensures c.in_ok-out.ensures)
    c.recount.new.counts.items
    (after_is c.args.forest.now c.args.tree.now c.args.near.now c.requires.sight c.args.whole.now c.requires.some c.requires.step c.requires.whole c.in_ok-changes.changes
    (c.in_ok-changes.ensures ∙ ap (λ (ws : List Mend). changes_by (window_at (merged c.args.forest.now.base) c.args.near.now.area c.args.whole.now.step) (window_at (merged c.args.forest.now.base) c.args.near.now.area (c.args.whole.now.step - 1)) ws) c.as_slice-mends.ensures)
    c.in_ok-comes.comes
    (subst (λ (es : List Edge). IsPermutation (c.in_ok-changes.changes.comes ++ filter (meets_window c.args.near.now.area) es) c.in_ok-comes.comes) c.as_slice.ensures c.in_ok-comes.ensures.all)
    c.in_ok-comes.ensures.order c.args.counts.now.items c.requires.counts c.as_slice-3.result.now c.as_slice-4.result.now c.as_slice-5.result.now c.as_slice-3.ensures c.as_slice-4.ensures c.as_slice-5.ensures c.recount.new.counts.items c.recount.ensures.each))

pub returns-clause-exact : goal.returns-clause-exact
returns-clause-exact c =
    step_is c.args.forest.now c.args.tree.now c.args.near.now c.requires.sight c.args.whole.now c.requires.some c.requires.step c.requires.whole c.in_ok-changes.changes
    (c.in_ok-changes.ensures ∙ ap (λ (ws : List Mend). changes_by (window_at (merged c.args.forest.now.base) c.args.near.now.area c.args.whole.now.step) (window_at (merged c.args.forest.now.base) c.args.near.now.area (c.args.whole.now.step - 1)) ws) c.as_slice-mends.ensures)
    c.in_ok-comes.comes
    (subst (λ (es : List Edge). IsPermutation (c.in_ok-changes.changes.comes ++ filter (meets_window c.args.near.now.area) es) c.in_ok-comes.comes) c.as_slice.ensures c.in_ok-comes.ensures.all)
    c.in_ok-comes.ensures.order c.args.counts.now.items c.requires.counts c.in_ok-out.out.items
    (subst₂ (λ (counts : List ℕ) (es : List Edge). AreOut counts (c.args.whole.now.loser ∷ c.args.whole.now.winner ∷ all_sides es) c.in_ok-out.out.items) c.deref-2.ensures.value c.as_slice-2.ensures c.in_ok-out.ensures)
    c.recount.new.counts.items
    (after_is c.args.forest.now c.args.tree.now c.args.near.now c.requires.sight c.args.whole.now c.requires.some c.requires.step c.requires.whole c.in_ok-changes.changes
    (c.in_ok-changes.ensures ∙ ap (λ (ws : List Mend). changes_by (window_at (merged c.args.forest.now.base) c.args.near.now.area c.args.whole.now.step) (window_at (merged c.args.forest.now.base) c.args.near.now.area (c.args.whole.now.step - 1)) ws) c.as_slice-mends.ensures)
    c.in_ok-comes.comes
    (subst (λ (es : List Edge). IsPermutation (c.in_ok-changes.changes.comes ++ filter (meets_window c.args.near.now.area) es) c.in_ok-comes.comes) c.as_slice.ensures c.in_ok-comes.ensures.all)
    c.in_ok-comes.ensures.order c.args.counts.now.items c.requires.counts c.as_slice-3.result.now c.as_slice-4.result.now c.as_slice-5.result.now c.as_slice-3.ensures c.as_slice-4.ensures c.as_slice-5.ensures c.recount.new.counts.items c.recount.ensures.each)
    c.in_ok-faces.faces
    (subst₂ (λ (out after : List ℕ). c.in_ok-faces.faces ≡ map (row_of c.args.tree.now) (filter (λ f. nat_lt 0 (count_at after f)) out)) c.deref-4.ensures.value c.deref-3.ensures.value c.in_ok-faces.ensures)

pub returns-clause-counts : goal.returns-clause-counts
returns-clause-counts c = after_is c.args.forest.now c.args.tree.now c.args.near.now c.requires.sight c.args.whole.now c.requires.some c.requires.step c.requires.whole c.in_ok-changes.changes
    (c.in_ok-changes.ensures ∙ ap (λ (ws : List Mend). changes_by (window_at (merged c.args.forest.now.base) c.args.near.now.area c.args.whole.now.step) (window_at (merged c.args.forest.now.base) c.args.near.now.area (c.args.whole.now.step - 1)) ws) c.as_slice-mends.ensures)
    c.in_ok-comes.comes
    (subst (λ (es : List Edge). IsPermutation (c.in_ok-changes.changes.comes ++ filter (meets_window c.args.near.now.area) es) c.in_ok-comes.comes) c.as_slice.ensures c.in_ok-comes.ensures.all)
    c.in_ok-comes.ensures.order c.args.counts.now.items c.requires.counts c.as_slice-3.result.now c.as_slice-4.result.now c.as_slice-5.result.now c.as_slice-3.ensures c.as_slice-4.ensures c.as_slice-5.ensures c.recount.new.counts.items c.recount.ensures.each

pub returns-clause-known : goal.returns-clause-known
returns-clause-known c =
    known_before c.args.forest.now c.args.tree.now c.args.near.now c.requires.sight c.args.whole.now c.requires.some c.requires.step c.requires.whole c.in_ok-changes.changes
    (c.in_ok-changes.ensures ∙ ap (λ (ws : List Mend). changes_by (window_at (merged c.args.forest.now.base) c.args.near.now.area c.args.whole.now.step) (window_at (merged c.args.forest.now.base) c.args.near.now.area (c.args.whole.now.step - 1)) ws) c.as_slice-mends.ensures)
    c.in_ok-comes.comes
    (subst (λ (es : List Edge). IsPermutation (c.in_ok-changes.changes.comes ++ filter (meets_window c.args.near.now.area) es) c.in_ok-comes.comes) c.as_slice.ensures c.in_ok-comes.ensures.all)
    c.in_ok-comes.ensures.order c.args.known.now.items c.renote.new.known.items c.requires.known
    c.as_slice-6.result.now c.as_slice-7.result.now c.as_slice-8.result.now c.as_slice-6.ensures c.as_slice-7.ensures c.as_slice-8.ensures c.renote.ensures
