-- The record of a step for a window, and the counts before the step, out of what was found.
use Rattle.std.proofs.Common.{◌≡◌, ◌≢◌, ◌⊎◌, inl, inr, ℕ, ◌+◌, ◌-◌, ◌^◌, ◌<◌, ◌≤◌, ◌==◌, ◌||◌, Bool, true, false, nat_lt, List, [], ◌∷◌, ◌++◌, map, filter, length, get_or, AllPairs, Contains, IsPermutation, refl, sym, ap, ap₂, ◌∙◌, subst, arith}
use Rattle.std.specs.List.Sorted.{IsNonDecreasingBy}
use Rattle.std.proofs.lemmas.List.Kept.{AllPairs-filter}
use Rattle.std.proofs.lemmas.List.Sorted.{IsPermutation-sym, IsPermutation-trans}
use Rattle.lemmas.proofs.Sorting.{AllPairs-permutation}
use Rattle.tgap_model.specs.declared.geometry.Window.{Window}
use Rattle.tgap_model.specs.declared.slice.Edge.{Edge}
use Rattle.tgap_model.specs.declared.slice.FaceRow.{FaceRow}
use Rattle.tgap_model.specs.declared.slice.Slice.{Slice}
use Rattle.tgap_model.specs.declared.record.Mend.{Mend}
use Rattle.tgap_model.specs.declared.record.StepRecord.{StepRecord}
use Rattle.tgap_model.specs.Base.{BaseMap, is_base}
use Rattle.tgap_model.specs.Partition.{IsPartition, base_segments}
use Rattle.tgap_model.specs.History.{history_of}
use Rattle.tgap_model.specs.Merged.{MergedMap, merged, step_number}
use Rattle.tgap_model.specs.Chains.{chains_at}
use Rattle.tgap_model.specs.Removals.{edges_of, removals_to}
use Rattle.tgap_model.specs.Slice.{meets_window, window_of}
use Rattle.tgap_model.specs.Records.{step_record}
use Rattle.tgap_model.specs.WindowRecords.{window_at, is_coming, window_step, has_key}
use Rattle.map_laws.proofs.ChainMembers.{Among, any_among}
use Rattle.map_laws.proofs.Lists.{any_from, kept_among}
use Rattle.record_laws.proofs.StepFacts.{step_numbered}
use Rattle.face_tree.specs.Tree.{FaceHistory, IsFace}
use Rattle.edge_forest.specs.Forest.{EdgeForest, last_step}
use Rattle.tgap_build.proofs.EachLive.{after_live}
use Rattle.tgap_build.proofs.KeyedEdges.{Ascend, ascending_same}
use Rattle.slice_read.specs.Windows.{all_sides, row_of}
use Rattle.refine_packets.specs.declared.changes.Changes.{Changes}
use Rattle.refine_packets.specs.declared.near.NearEdges.{NearEdges}
use Rattle.refine_packets.specs.Counts.{AreCounted, AreCounts, AreOut, count_at, read_for, sides_at}
use Rattle.refine_packets.specs.Near.{IsSight}
use Rattle.refine_packets.specs.Walk.{AreKnown, bare, changes_by, is_known}
use Rattle.refine_packets.proofs.StepChanges.{mends_of, gone_of, kept_of, come_of, changes_are, mends_there, comes_permuted, stays_there, gone_among, kept_among_before}
use Rattle.refine_packets.proofs.StepCounts.{bare_sides, bare_counted, sides_counted, counts_small, counts_before}
use Rattle.refine_packets.proofs.StepRows.{counted_face, out_face, rows_are}

-- edges that were put in order of key are those of another list in that order, if they are the same
put_in_order : (raw sorted whole : List Edge) → IsPermutation raw sorted → IsNonDecreasingBy (λ e. e.key) sorted → IsPermutation raw whole → Ascend whole → sorted ≡ whole
put_in_order raw sorted whole moved order same ascend =
    ascending_same sorted whole strictly ascend (IsPermutation-trans sorted raw whole (IsPermutation-sym raw sorted moved) same)
  where
    apart : AllPairs (λ (e f : Edge). e.key ≢ f.key) sorted
    apart =
        AllPairs-permutation (λ (e f : Edge). e.key ≢ f.key) (λ e f ne s. ne (sym s)) whole sorted
        (IsPermutation-trans whole raw sorted (IsPermutation-sym raw whole same) moved) (λ i j d less short. let a = ascend i j d less short in omega arith)

    strictly : Ascend sorted
    strictly i j d less short =
        let le : (get_or sorted i d).key ≤ (get_or sorted j d).key = order i j d (omega arith) short in
        let ne : (get_or sorted i d).key ≢ (get_or sorted j d).key = apart i j d less short in
        omega arith

module _ (f : EdgeForest) (t : FaceHistory) (n : NearEdges) (sight : IsSight f t n) (whole : StepRecord) (some : 1 ≤ whole.step) (last : whole.step ≤ last_step f)
    (is : whole ≡ step_record (merged f.base) whole.step) (changes : Changes)
    (changed : changes ≡ changes_by (window_at (merged f.base) n.area whole.step) (window_at (merged f.base) n.area (whole.step - 1)) whole.mends)
    (comes : List Edge) (all : IsPermutation (changes.comes ++ filter (meets_window n.area) whole.ended) comes) (order : IsNonDecreasingBy (λ e. e.key) comes) where
  abbrev m : BaseMap
  m = f.base

  abbrev h : MergedMap
  h = merged m

  abbrev j : ℕ
  j = whole.step

  abbrev area : Window
  area = n.area

  abbrev there : Slice
  there = window_at h area j

  abbrev before : Slice
  before = window_at h area (j - 1)

  abbrev mends : List Mend
  mends = (step_record h j).mends

  abbrev base : is_base m ≡ true
  base = sight.forest.base

  abbrev planar : IsPartition (base_segments m)
  planar = sight.forest.partition

  low : j - 1 ≤ length (history_of m)
  low = omega (arith, last)

  changes_is : changes ≡ record { mends = mends_of there before mends; gone = map bare (gone_of there before mends); kept = map bare (kept_of there before mends); comes = come_of there before mends }
  changes_is = changed ∙ ap (λ (w : StepRecord). changes_by there before w.mends) is ∙ changes_are there before mends

  pub mends_are : changes.mends ≡ (window_step (merged f.base) n.area whole.step).mends
  mends_are = ap (λ (c : Changes). c.mends) changes_is ∙ mends_there there before mends

  gone_are : changes.gone ≡ map bare (gone_of there before mends)
  gone_are = ap (λ (c : Changes). c.gone) changes_is

  kept_are : changes.kept ≡ map bare (kept_of there before mends)
  kept_are = ap (λ (c : Changes). c.kept) changes_is

  step_ascends : Ascend (window_step h area j).comes
  unfolding window_of
  step_ascends =
      AllPairs-filter (λ (e f : Edge). e.key < f.key) (is_coming h j (window_at h area j).edges) (filter (meets_window area) slice_before)
      (AllPairs-filter (λ (e f : Edge). e.key < f.key) (meets_window area) slice_before (after_live m base planar (j - 1) low).ascending)
    where
      slice_before : List Edge
      slice_before = edges_of h (j - 1) (removals_to h (j - 1)) (chains_at h (j - 1))

  pub comes_are : comes ≡ (window_step (merged f.base) n.area whole.step).comes
  comes_are =
      put_in_order (come_of there before mends ++ filter (meets_window area) (step_record h j).ended) comes (window_step h area j).comes
      (subst (λ (es : List Edge). IsPermutation es comes)
      (ap₂ (λ (xs ys : List Edge). xs ++ filter (meets_window area) ys) (ap (λ (c : Changes). c.comes) changes_is) (ap (λ (w : StepRecord). w.ended) is)) all)
      order (comes_permuted m base planar j some last area) step_ascends

  coming_there : (e : Edge) → Among e (window_step h area j).comes → Among e (window_at h area (j - 1)).edges
  coming_there e o = kept_among (is_coming h j (window_at h area j).edges) (window_at h area (j - 1)).edges e o

  -- ---- what is known to be in the window

  bare_keys : (i : ℕ) (es : List Edge) → has_key (map bare es) i ≡ has_key es i
  bare_keys i [] = refl
  bare_keys i (e ∷ es) = ap (λ (b : Bool). (e.key == i) || b) (bare_keys i es)

  -- an edge that was known and has no mend stays, and pieces and edges that come are in the window before the step
  pub known_before : (known after : List Bool) → AreKnown known (window_at (merged f.base) n.area whole.step).edges
      → (gone kept come : List Edge) → gone ≡ changes.gone → kept ≡ changes.kept → come ≡ comes
      → ((i : ℕ) → is_known after i ≡ true → ((is_known known i ≡ true) × (has_key gone i ≡ false)) ⊎ (has_key kept i ≡ true) ⊎ (has_key come i ≡ true))
      → AreKnown after (window_at (merged f.base) n.area (whole.step - 1)).edges
  known_before known after are gone kept come same_gone same_kept same_come each i t = elim (each i t) [
    | inl stays ↦ stays_there m base planar j some last area i (are i stays.0)
        (sym (bare_keys i (gone_of there before mends)) ∙ ap (λ (es : List Edge). has_key es i) (sym (same_gone ∙ gone_are)) ∙ stays.1)
    | inr new ↦ elim new [
      | inl here ↦ within (kept_of there before mends) (λ e o. kept_among_before h area j there mends e o)
          (sym (bare_keys i (kept_of there before mends)) ∙ ap (λ (es : List Edge). has_key es i) (sym (same_kept ∙ kept_are)) ∙ here)
      | inr here ↦ within (window_step h area j).comes coming_there (ap (λ (es : List Edge). has_key es i) (sym (same_come ∙ comes_are)) ∙ here)
    ]
  ]
    where
      within : (es : List Edge) → ((e : Edge) → Among e es → Among e before.edges) → has_key es i ≡ true → has_key before.edges i ≡ true
      within es some found = let e = any_among (λ (e : Edge). e.key == i) es found in any_from (λ e. e.key == i) before.edges e.0 (some e.0 e.1) e.2

  -- ---- the counts

  pub made_within : whole.made < length f.base.classes + last_step f + 1
  made_within = omega (arith, ap (λ (w : StepRecord). w.made) is, (step_numbered m base planar j some last).made, some, last)

  pub winner_within : whole.winner < length f.base.classes + last_step f + 1
  winner_within = omega (arith, ap (λ (w : StepRecord). w.winner) is, (step_numbered m base planar j some last).winner.1, last)

  pub gone_counted : AreCounted (length f.base.classes + last_step f + 1) changes.gone
  gone_counted = subst (AreCounted (length m.classes + length (history_of m) + 1)) (sym gone_are)
      (bare_counted (length m.classes + length (history_of m) + 1) (gone_of there before mends)
      (sides_counted m base j last area (gone_of there before mends) (λ e o. gone_among there before mends e o)))

  pub kept_counted : AreCounted (length f.base.classes + last_step f + 1) changes.kept
  kept_counted = subst (AreCounted (length m.classes + length (history_of m) + 1)) (sym kept_are)
      (bare_counted (length m.classes + length (history_of m) + 1) (kept_of there before mends)
      (sides_counted m base (j - 1) low area (kept_of there before mends) (λ e o. kept_among_before h area j there mends e o)))

  pub comes_counted : AreCounted (length f.base.classes + last_step f + 1) comes
  comes_counted = subst (AreCounted (length m.classes + length (history_of m) + 1)) (sym comes_are)
      (sides_counted m base (j - 1) low area (window_step h area j).comes coming_there)

  module _ (counts : List ℕ) (are : AreCounts counts (window_at (merged f.base) n.area whole.step).edges) where
    pub recounted : (g : ℕ) → count_at counts (read_for whole.made whole.winner g) - sides_at (read_for whole.made whole.winner g) changes.gone
        + sides_at g changes.kept + sides_at g comes ≡ sides_at g (window_at (merged f.base) n.area (whole.step - 1)).edges
    recounted g =
        let read : read_for whole.made whole.winner g ≡ read_for (step_number h j).made (step_number h j).winner g
        = ap (λ (w : StepRecord). read_for w.made w.winner g) is in
        let r = read_for (step_number h j).made (step_number h j).winner g in
        let first : count_at counts (read_for whole.made whole.winner g) ≡ sides_at r there.edges = ap (count_at counts) read ∙ are r in
        let second : sides_at (read_for whole.made whole.winner g) changes.gone ≡ sides_at r (gone_of there before mends)
        = ap₂ (λ (x : ℕ) (es : List Edge). sides_at x es) read gone_are ∙ bare_sides r (gone_of there before mends) in
        let third : sides_at g changes.kept ≡ sides_at g (kept_of there before mends) = ap (sides_at g) kept_are ∙ bare_sides g (kept_of there before mends) in
        let fourth : sides_at g comes ≡ sides_at g (window_step h area j).comes = ap (sides_at g) comes_are in
        omega (arith, first, second, third, fourth, counts_before m base planar j some last area g)

    -- the same by the lists as they are lent
    module _ (gone kept come : List Edge) (same_gone : gone ≡ changes.gone) (same_kept : kept ≡ changes.kept) (same_come : come ≡ comes) where
      lent : (g : ℕ) → count_at counts (read_for whole.made whole.winner g) - sides_at (read_for whole.made whole.winner g) gone
          + sides_at g kept + sides_at g come ≡ sides_at g (window_at (merged f.base) n.area (whole.step - 1)).edges
      lent g =
          let one = ap (sides_at (read_for whole.made whole.winner g)) same_gone in
          let two = ap (sides_at g) same_kept in
          let three = ap (sides_at g) same_come in
          omega (arith, one, two, three, recounted g)

      pub room : (g : ℕ) → count_at counts (read_for whole.made whole.winner g) - sides_at (read_for whole.made whole.winner g) gone
          + sides_at g kept + sides_at g come < 2 ^ 32
      room g = omega (arith, lent g, counts_small m base (j - 1) low area planar g)

      pub after_is : (after : List ℕ) → ((g : ℕ) → count_at after g ≡ count_at counts (read_for whole.made whole.winner g)
          - sides_at (read_for whole.made whole.winner g) gone + sides_at g kept + sides_at g come)
          → AreCounts after (window_at (merged f.base) n.area (whole.step - 1)).edges
      after_is after each g = each g ∙ lent g

    -- ---- the rows

    module _ (out : List ℕ) (found : AreOut counts (whole.loser ∷ whole.winner ∷ all_sides comes) out) (after : List ℕ)
        (left : AreCounts after (window_at (merged f.base) n.area (whole.step - 1)).edges) where
      pub each_face : (g : ℕ) → Contains out g → 0 < count_at after g → IsFace t g
      each_face g c some = counted_face m base planar (j - 1) low area t sight.tree after left g (out_face counts (whole.loser ∷ whole.winner ∷ all_sides comes) out found g c) some

      found_for : AreOut counts ((step_number h j).loser ∷ (step_number h j).winner ∷ all_sides (window_step h area j).comes) out
      found_for = subst (λ (es : List Edge). AreOut counts ((step_number h j).loser ∷ (step_number h j).winner ∷ all_sides es) out) comes_are
          (subst (λ (w : StepRecord). AreOut counts (w.loser ∷ w.winner ∷ all_sides comes) out) is found)

      pub step_is : (rows : List FaceRow) → rows ≡ map (row_of t) (filter (λ g. nat_lt 0 (count_at after g)) out)
          → record { step = whole.step; loser = whole.loser; winner = whole.winner; made = whole.made; faces = rows; mends = changes.mends; comes = comes }
          ≡ window_step (merged f.base) n.area whole.step
      step_is rows rows_of =
          ap₂ (λ (w : StepRecord) (rs : List FaceRow). record { step = j; loser = w.loser; winner = w.winner; made = w.made; faces = rs; mends = changes.mends; comes = comes })
          is (rows_of ∙ rows_are m base planar j some last area counts after out are left found_for t sight.tree)
          ∙ ap₂ (λ (ms : List Mend) (es : List Edge). record {
            step = j;
            loser = (step_number h j).loser;
            winner = (step_number h j).winner;
            made = (step_number h j).made;
            faces = (window_step h area j).faces;
            mends = ms;
            comes = es;
          }) mends_are comes_are
