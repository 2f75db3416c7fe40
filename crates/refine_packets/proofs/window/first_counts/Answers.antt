-- The counts of the edges of the window, of none at first.
use Rattle.std.proofs.Common.{ℕ, List, length, sym, ap, ◌∙◌, subst₂, arith}
use Rattle.std.proofs.lemmas.List.{length-replicate}
use Rattle.tgap_model.specs.declared.slice.Edge.{Edge}
use Rattle.tgap_model.specs.declared.slice.Slice.{Slice}
use Rattle.tgap_model.specs.Merged.{merged}
use Rattle.tgap_model.specs.WindowRecords.{window_at}
use Rattle.refine_packets.specs.Counts.{AreCounted, count_at, sides_at}
use Rattle.refine_packets.proofs.CountLists.{none_counted}
use Rattle.refine_packets.proofs.StepCounts.{counts_small, sides_counted}
use Rattle.refine_packets.proofs.window.first_counts.Goals as goal

pub add_sides-requires-clause-there : goal.add_sides-requires-clause-there
add_sides-requires-clause-there c =
    let m = c.args.built.now in
    let w = window_at (merged m) c.args.area c.args.k in
    subst₂ (λ (n : ℕ) (es : List Edge). AreCounted n es)
    (sym (ap length c.in_ok-counts.ensures ∙ length-replicate c.all_faces.result 0 ∙ c.all_faces.ensures))
    (sym (c.as_slice.ensures ∙ ap (λ (s : Slice). s.edges) c.in_ok-window.ensures))
    (sides_counted m c.base.ensures.base c.args.k c.requires c.args.area w.edges (λ e o. o))

pub add_sides-requires-clause-room : goal.add_sides-requires-clause-room
add_sides-requires-clause-room c f =
    let none = ap (λ (counts : List ℕ). count_at counts f) c.in_ok-counts.ensures ∙ none_counted c.all_faces.result f in
    let same = ap (sides_at f) (c.as_slice.ensures ∙ ap (λ (s : Slice). s.edges) c.in_ok-window.ensures) in
    omega (arith, none, same, counts_small c.args.built.now c.base.ensures.base c.args.k c.requires c.args.area c.base.ensures.partition f)

pub returns-clause-counts : goal.returns-clause-counts
returns-clause-counts c f =
    let none = ap (λ (counts : List ℕ). count_at counts f) c.in_ok-counts.ensures ∙ none_counted c.all_faces.result f in
    let same = ap (sides_at f) (c.as_slice.ensures ∙ ap (λ (s : Slice). s.edges) c.in_ok-window.ensures) in
    omega (arith, none, same, c.add_sides.ensures.each f)
