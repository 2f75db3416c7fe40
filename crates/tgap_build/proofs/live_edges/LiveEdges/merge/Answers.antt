-- The table after the merge of the faces, with the new edges joined, is that of the step; and what changed is told.
use Rattle.std.proofs.Common.{rules, ◌∙◌, ℕ, ◌-◌, ◌<◌, ◌==◌, not, List, ◌++◌, map, filter, length, All, IsPermutation, sym, ap, ap₂, subst}
use Rattle.std.specs.Prelude.{flat_map}
use Rattle.std.specs.List.{list_any}
use Rattle.std.specs.List.Sorted.{IsNonDecreasing}
use Rattle.std.proofs.lemmas.List.Sorted.{IsNonDecreasingBy-from_sort, IsNonDecreasingBy-from_sort_by_key}
use Rattle.tgap_model.specs.declared.merge.MergeStep.{MergeStep}
use Rattle.tgap_model.specs.Merged.{merged}
use Rattle.tgap_model.specs.Removals.{removals_to}
use Rattle.grid_index.specs.Live.{keys}
use Rattle.edge_forest.specs.declared.face_labels.FaceLabels.{FaceLabels}
use Rattle.edge_forest.specs.FaceLabels.{HasLabel}
use Rattle.tgap_build.specs.declared.live_edges.Made.{Made}
use Rattle.tgap_build.specs.Sought.{IsSought, HasRoom}
use Rattle.tgap_build.specs.Table.{labelled_edges}
use Rattle.tgap_build.specs.Queues.{IsCornered, AreKeptBut}
use Rattle.tgap_build.specs.Changes.{born_chains, part_keys, whole_of, made_of}
use Rattle.tgap_build.proofs.BoxedTables.{sought_room, same_places}
use Rattle.tgap_build.proofs.Born.{within}
use Rattle.tgap_build.proofs.ChangedChains.{losing_order}
use Rattle.tgap_build.proofs.KeptEdges.{kept_exchange}
use Rattle.tgap_build.proofs.StepMerge.{losing_are, first_joined, edges_now, few_now, losing_room, made_are, exchange}
use Rattle.tgap_build.proofs.StepTable.{merge_loser, merge_winner, merge_apart, merge_made, merge_fresh, running_next}
use Rattle.tgap_build.proofs.live_edges.LiveEdges.merge.Goals as goal

pub merge-requires-clause-loser : goal.merge-requires-clause-loser
merge-requires-clause-loser c =
    let f = c.args.forest.now in
    let k = c.args.k in
    let old = c.args.old in
    let some = c.requires.some in
    let grown = c.requires.grown in
    let t0 = c.args.self.now.edges in
    let r = c.requires.running in
    let s = c.args.step.now in
    let is = c.requires.step in
    merge_loser f grown.forest k some (within f k old some grown) (removals_to (merged f.base) (k - 1)) t0 r s is

pub merge-requires-clause-winner : goal.merge-requires-clause-winner
merge-requires-clause-winner c =
    let f = c.args.forest.now in
    let k = c.args.k in
    let old = c.args.old in
    let some = c.requires.some in
    let grown = c.requires.grown in
    let t0 = c.args.self.now.edges in
    let r = c.requires.running in
    let s = c.args.step.now in
    let is = c.requires.step in
    merge_winner f grown.forest k some (within f k old some grown) (removals_to (merged f.base) (k - 1)) t0 r s is

pub merge-requires-clause-apart : goal.merge-requires-clause-apart
merge-requires-clause-apart c =
    let f = c.args.forest.now in
    let k = c.args.k in
    let old = c.args.old in
    let some = c.requires.some in
    let grown = c.requires.grown in
    let t0 = c.args.self.now.edges in
    let r = c.requires.running in
    let s = c.args.step.now in
    let is = c.requires.step in
    merge_apart f grown.forest k some (within f k old some grown) (removals_to (merged f.base) (k - 1)) t0 r s is

pub merge-requires-clause-made : goal.merge-requires-clause-made
merge-requires-clause-made c =
    let f = c.args.forest.now in
    let k = c.args.k in
    let old = c.args.old in
    let some = c.requires.some in
    let grown = c.requires.grown in
    let t0 = c.args.self.now.edges in
    let r = c.requires.running in
    let s = c.args.step.now in
    let is = c.requires.step in
    merge_made f grown.forest k some (within f k old some grown) (removals_to (merged f.base) (k - 1)) t0 r s is

pub merge-requires-clause-fresh : goal.merge-requires-clause-fresh
merge-requires-clause-fresh c =
    let f = c.args.forest.now in
    let k = c.args.k in
    let old = c.args.old in
    let some = c.requires.some in
    let grown = c.requires.grown in
    let t0 = c.args.self.now.edges in
    let r = c.requires.running in
    let s = c.args.step.now in
    let is = c.requires.step in
    merge_fresh f grown.forest k some (within f k old some grown) (removals_to (merged f.base) (k - 1)) t0 r s is

pub join_new-requires-clause-table : goal.join_new-requires-clause-table
join_new-requires-clause-table c =
    let f = c.args.forest.now in
    let k = c.args.k in
    let old = c.args.old in
    let some = c.requires.some in
    let grown = c.requires.grown in
    let t0 = c.args.self.now.edges in
    let r = c.requires.running in
    let s = c.args.step.now in
    let is = c.requires.step in
    let t1 = c.merge.new.self in
    let m = c.in_ok-ended.ensures in
    let losing = c.in_ok-ended.field-0.losing.items in
    let losing_told = m.losing in
    let ended = c.in_ok-ended.field-0.ended in
    let ended_told = m.ended in
    (labelled_edges t1, first_joined f k old some grown t0 t1 r s is m.table m.edges m.labelled losing losing_told ended ended_told)

pub push_whole-requires-clause-room : goal.push_whole-requires-clause-room
push_whole-requires-clause-room c =
    let f = c.args.forest.now in
    let k = c.args.k in
    let old = c.args.old in
    let some = c.requires.some in
    let grown = c.requires.grown in
    let t0 = c.args.self.now.edges in
    let r = c.requires.running in
    let s = c.args.step.now in
    let is = c.requires.step in
    let t1 = c.merge.new.self in
    let m = c.in_ok-ended.ensures in
    let losing = c.in_ok-ended.field-0.losing.items in
    let losing_told = m.losing in
    let ended = c.in_ok-ended.field-0.ended in
    let ended_told = m.ended in
    let t = c.join_new.new.self.edges in
    let state = c.in_ok-made.ensures.table (labelled_edges t1) (first_joined f k old some grown t0 t1 r s is m.table m.edges m.labelled losing losing_told ended ended_told) in
    let places = c.in_ok-made.ensures.room.places ∙ m.room.places ∙ r.places in
    subst (All (λ i. i < length t.places.items)) (sym c.deref-3.ensures.value) (losing_room f k old some grown t0 t1 r s is m.table m.edges m.labelled losing losing_told ended ended_told t state places)

pub push_whole-requires-clause-few : goal.push_whole-requires-clause-few
push_whole-requires-clause-few c =
    let f = c.args.forest.now in
    let k = c.args.k in
    let old = c.args.old in
    let some = c.requires.some in
    let grown = c.requires.grown in
    let t0 = c.args.self.now.edges in
    let r = c.requires.running in
    let s = c.args.step.now in
    let is = c.requires.step in
    let t1 = c.merge.new.self in
    let m = c.in_ok-ended.ensures in
    let losing = c.in_ok-ended.field-0.losing.items in
    let losing_told = m.losing in
    let ended = c.in_ok-ended.field-0.ended in
    let ended_told = m.ended in
    let t = c.join_new.new.self.edges in
    let state = c.in_ok-made.ensures.table (labelled_edges t1) (first_joined f k old some grown t0 t1 r s is m.table m.edges m.labelled losing losing_told ended ended_told) in
    let places = c.in_ok-made.ensures.room.places ∙ m.room.places ∙ r.places in
    few_now f k old some grown t0 t1 r s is m.table m.edges m.labelled losing losing_told ended ended_told t state

pub push_whole-requires-clause-losing : goal.push_whole-requires-clause-losing
push_whole-requires-clause-losing c =
    let f = c.args.forest.now in
    let k = c.args.k in
    let old = c.args.old in
    let some = c.requires.some in
    let grown = c.requires.grown in
    let t0 = c.args.self.now.edges in
    let r = c.requires.running in
    let s = c.args.step.now in
    let is = c.requires.step in
    let t1 = c.merge.new.self in
    let m = c.in_ok-ended.ensures in
    let losing = c.in_ok-ended.field-0.losing.items in
    let losing_told = m.losing in
    let ended = c.in_ok-ended.field-0.ended in
    let ended_told = m.ended in
    subst IsNonDecreasing (sym (c.deref-2.ensures.value ∙ losing_are f k old some grown t0 t1 r s is m.table m.edges m.labelled losing losing_told ended ended_told)) (losing_order f k old some grown)

pub push_whole-requires-clause-others : goal.push_whole-requires-clause-others
push_whole-requires-clause-others c =
    subst IsNonDecreasing (sym c.deref-4.ensures.value) (IsNonDecreasingBy-from_sort (λ (n : ℕ). n) c.sort_unstable.new.self.items c.sort_unstable.ensures.sorted)

pub sought_after-requires : goal.sought_after-requires
sought_after-requires c =
    let t0 = c.args.self.now.edges in
    let m = c.in_ok-ended.ensures in
    let places = c.in_ok-made.ensures.room.places ∙ m.room.places in
    subst (HasRoom (length c.join_new.new.self.edges.places.items)) (sym c.in_ok-made.ensures.sought)
    (subst (λ (n : ℕ). HasRoom n c.args.self.now.sought) (sym places) (sought_room t0.places.items c.args.self.now.sought c.requires.sought))

pub returns-clause-sought : goal.returns-clause-sought
returns-clause-sought c =
    let f = c.args.forest.now in
    let k = c.args.k in
    let old = c.args.old in
    let some = c.requires.some in
    let grown = c.requires.grown in
    let t0 = c.args.self.now.edges in
    let r = c.requires.running in
    let s = c.args.step.now in
    let is = c.requires.step in
    let t1 = c.merge.new.self in
    let m = c.in_ok-ended.ensures in
    let losing = c.in_ok-ended.field-0.losing.items in
    let losing_told = m.losing in
    let ended = c.in_ok-ended.field-0.ended in
    let ended_told = m.ended in
    let t = c.join_new.new.self.edges in
    let state = c.in_ok-made.ensures.table (labelled_edges t1) (first_joined f k old some grown t0 t1 r s is m.table m.edges m.labelled losing losing_told ended ended_told) in
    let places = c.in_ok-made.ensures.room.places ∙ m.room.places ∙ r.places in
    let joined = c.sort_unstable.new.self.items in
    let told = c.in_ok-made.ensures.joined ∙ ap (λ (ks : List ℕ). ks ++ flat_map (part_keys (merged f.base) k) (born_chains f k old (length f.edges))) c.new-joined.ensures.items in
    let joined_told = subst (λ (ks : List ℕ). IsPermutation ks joined) told c.sort_unstable.ensures.permutation in
    let raw = c.push_whole.new.made.items in
    let sorted = c.sort_unstable_by_key.new.self.items in
    let others = λ (losing_side keys but : List ℕ). map (whole_of t.places.items s losing_side) (filter (λ i. not (list_any (λ j. j == i) but)) keys) in
    let made_told = c.in_ok-push_whole.ensures
    ∙ ap (λ (os : List Made). os ++ others c.deref-2.result.now c.deref-3.result.now c.deref-4.result.now) c.in_ok-made.ensures.made
    ∙ ap₂ (λ (a b : List ℕ). map (made_of (merged f.base) k) (born_chains f k old (length f.edges)) ++ others a b c.deref-4.result.now) c.deref-2.ensures.value c.deref-3.ensures.value
    ∙ ap (λ (ks : List ℕ). map (made_of (merged f.base) k) (born_chains f k old (length f.edges)) ++ others losing losing ks) c.deref-4.ensures.value in
    let order = IsNonDecreasingBy-from_sort_by_key (λ (o : Made). o.key) sorted c.sort_unstable_by_key.ensures.sorted (λ a r q k. search rules) in
    let ex = exchange f k old some grown t0 t1 r s is m.table m.edges m.labelled losing losing_told ended ended_told t state places joined joined_told raw sorted made_told c.sort_unstable_by_key.ensures.permutation order in
    let keys_told = c.deref-7.ensures.value ∙ c.in_ok-keys.ensures ∙ ap (map (λ (o : Made). o.key)) c.deref-5.ensures.value in
    let kept = kept_exchange t.places.items state.table.keyed (labelled_edges t0) (labelled_edges t) (joined ++ losing ++ keys ended) (map (λ (o : Made). o.key) sorted) ex in
    c.sought_after.ensures t0.places.items (subst (IsSought t0.places.items) (sym c.in_ok-made.ensures.sought) c.requires.sought)
    (same_places t0.places.items t.places.items r.table.keyed state.table.keyed c.deref-7.result.now (subst (λ (ks : List ℕ). AreKeptBut ks (labelled_edges t0) (labelled_edges t)) (sym keys_told) kept))

pub returns-clause-made : goal.returns-clause-made
returns-clause-made c =
    let f = c.args.forest.now in
    let k = c.args.k in
    let old = c.args.old in
    let some = c.requires.some in
    let grown = c.requires.grown in
    let t0 = c.args.self.now.edges in
    let r = c.requires.running in
    let s = c.args.step.now in
    let is = c.requires.step in
    let t1 = c.merge.new.self in
    let m = c.in_ok-ended.ensures in
    let losing = c.in_ok-ended.field-0.losing.items in
    let losing_told = m.losing in
    let ended = c.in_ok-ended.field-0.ended in
    let ended_told = m.ended in
    let t = c.join_new.new.self.edges in
    let state = c.in_ok-made.ensures.table (labelled_edges t1) (first_joined f k old some grown t0 t1 r s is m.table m.edges m.labelled losing losing_told ended ended_told) in
    let places = c.in_ok-made.ensures.room.places ∙ m.room.places ∙ r.places in
    let joined = c.sort_unstable.new.self.items in
    let told = c.in_ok-made.ensures.joined ∙ ap (λ (ks : List ℕ). ks ++ flat_map (part_keys (merged f.base) k) (born_chains f k old (length f.edges))) c.new-joined.ensures.items in
    let joined_told = subst (λ (ks : List ℕ). IsPermutation ks joined) told c.sort_unstable.ensures.permutation in
    let raw = c.push_whole.new.made.items in
    let sorted = c.sort_unstable_by_key.new.self.items in
    let others = λ (losing_side keys but : List ℕ). map (whole_of t.places.items s losing_side) (filter (λ i. not (list_any (λ j. j == i) but)) keys) in
    let made_told = c.in_ok-push_whole.ensures
    ∙ ap (λ (os : List Made). os ++ others c.deref-2.result.now c.deref-3.result.now c.deref-4.result.now) c.in_ok-made.ensures.made
    ∙ ap₂ (λ (a b : List ℕ). map (made_of (merged f.base) k) (born_chains f k old (length f.edges)) ++ others a b c.deref-4.result.now) c.deref-2.ensures.value c.deref-3.ensures.value
    ∙ ap (λ (ks : List ℕ). map (made_of (merged f.base) k) (born_chains f k old (length f.edges)) ++ others losing losing ks) c.deref-4.ensures.value in
    let order = IsNonDecreasingBy-from_sort_by_key (λ (o : Made). o.key) sorted c.sort_unstable_by_key.ensures.sorted (λ a r q k. search rules) in
    made_are f k old some grown t0 t1 r s is m.table m.edges m.labelled losing losing_told ended ended_told t state places joined joined_told raw sorted made_told c.sort_unstable_by_key.ensures.permutation order

pub returns-clause-running : goal.returns-clause-running
returns-clause-running c =
    let f = c.args.forest.now in
    let k = c.args.k in
    let old = c.args.old in
    let some = c.requires.some in
    let grown = c.requires.grown in
    let t0 = c.args.self.now.edges in
    let r = c.requires.running in
    let s = c.args.step.now in
    let is = c.requires.step in
    let t1 = c.merge.new.self in
    let m = c.in_ok-ended.ensures in
    let losing = c.in_ok-ended.field-0.losing.items in
    let losing_told = m.losing in
    let ended = c.in_ok-ended.field-0.ended in
    let ended_told = m.ended in
    let t = c.join_new.new.self.edges in
    let state = c.in_ok-made.ensures.table (labelled_edges t1) (first_joined f k old some grown t0 t1 r s is m.table m.edges m.labelled losing losing_told ended ended_told) in
    let places = c.in_ok-made.ensures.room.places ∙ m.room.places ∙ r.places in
    let labels = c.in_ok-made.ensures.labels in
    let has = λ (face : ℕ) (h : HasLabel t1.labels face). subst (λ (l : FaceLabels). HasLabel l face) (sym labels) h in
    running_next f grown.forest k some (within f k old some grown) (removals_to (merged f.base) (k - 1)) (removals_to (merged f.base) (k - 1)) t0 t r state.table
    (edges_now f k old some grown t0 t1 r s is m.table m.edges m.labelled losing losing_told ended ended_told t state) (c.in_ok-made.ensures.room.places ∙ m.room.places) (c.in_ok-made.ensures.room.lists ∙ m.room.lists)
    (subst (λ (x : MergeStep). HasLabel t.labels x.made) is (has s.made m.made))
    (λ face p q n known. has face (m.others face (λ e. p (e ∙ ap (λ (x : MergeStep). x.loser) is)) (λ e. q (e ∙ ap (λ (x : MergeStep). x.winner) is)) (λ e. n (e ∙ ap (λ (x : MergeStep). x.made) is)) known))

pub requeue-requires-clause-table : goal.requeue-requires-clause-table
requeue-requires-clause-table c =
    let f = c.args.forest.now in
    let k = c.args.k in
    let old = c.args.old in
    let some = c.requires.some in
    let grown = c.requires.grown in
    let t0 = c.args.self.now.edges in
    let r = c.requires.running in
    let s = c.args.step.now in
    let is = c.requires.step in
    let t1 = c.merge.new.self in
    let m = c.in_ok-ended.ensures in
    let losing = c.in_ok-ended.field-0.losing.items in
    let losing_told = m.losing in
    let ended = c.in_ok-ended.field-0.ended in
    let ended_told = m.ended in
    let t = c.join_new.new.self.edges in
    let state = c.in_ok-made.ensures.table (labelled_edges t1) (first_joined f k old some grown t0 t1 r s is m.table m.edges m.labelled losing losing_told ended ended_told) in
    state.table

pub requeue-requires-clause-corners : goal.requeue-requires-clause-corners
requeue-requires-clause-corners c =
    let t0 = c.args.self.now.edges in
    let m = c.in_ok-ended.ensures in
    let lists = c.in_ok-made.ensures.room.lists ∙ m.room.lists in (
      labelled_edges t0,
      subst (λ (n : ℕ). IsCornered n (labelled_edges t0) c.join_new.new.self.corners) (sym lists)
          (subst (IsCornered (length t0.beside.items) (labelled_edges t0)) (sym c.in_ok-made.ensures.corners) c.requires.corners),
    )

pub returns-clause-corners : goal.returns-clause-corners
returns-clause-corners c =
    let f = c.args.forest.now in
    let k = c.args.k in
    let old = c.args.old in
    let some = c.requires.some in
    let grown = c.requires.grown in
    let t0 = c.args.self.now.edges in
    let r = c.requires.running in
    let s = c.args.step.now in
    let is = c.requires.step in
    let t1 = c.merge.new.self in
    let m = c.in_ok-ended.ensures in
    let losing = c.in_ok-ended.field-0.losing.items in
    let losing_told = m.losing in
    let ended = c.in_ok-ended.field-0.ended in
    let ended_told = m.ended in
    let t = c.join_new.new.self.edges in
    let state = c.in_ok-made.ensures.table (labelled_edges t1) (first_joined f k old some grown t0 t1 r s is m.table m.edges m.labelled losing losing_told ended ended_told) in
    let places = c.in_ok-made.ensures.room.places ∙ m.room.places ∙ r.places in
    let joined = c.sort_unstable.new.self.items in
    let told = c.in_ok-made.ensures.joined ∙ ap (λ (ks : List ℕ). ks ++ flat_map (part_keys (merged f.base) k) (born_chains f k old (length f.edges))) c.new-joined.ensures.items in
    let joined_told = subst (λ (ks : List ℕ). IsPermutation ks joined) told c.sort_unstable.ensures.permutation in
    let raw = c.push_whole.new.made.items in
    let sorted = c.sort_unstable_by_key.new.self.items in
    let others = λ (losing_side keys but : List ℕ). map (whole_of t.places.items s losing_side) (filter (λ i. not (list_any (λ j. j == i) but)) keys) in
    let made_told = c.in_ok-push_whole.ensures
    ∙ ap (λ (os : List Made). os ++ others c.deref-2.result.now c.deref-3.result.now c.deref-4.result.now) c.in_ok-made.ensures.made
    ∙ ap₂ (λ (a b : List ℕ). map (made_of (merged f.base) k) (born_chains f k old (length f.edges)) ++ others a b c.deref-4.result.now) c.deref-2.ensures.value c.deref-3.ensures.value
    ∙ ap (λ (ks : List ℕ). map (made_of (merged f.base) k) (born_chains f k old (length f.edges)) ++ others losing losing ks) c.deref-4.ensures.value in
    let order = IsNonDecreasingBy-from_sort_by_key (λ (o : Made). o.key) sorted c.sort_unstable_by_key.ensures.sorted (λ a r q k. search rules) in
    let ex = exchange f k old some grown t0 t1 r s is m.table m.edges m.labelled losing losing_told ended ended_told t state places joined joined_told raw sorted made_told c.sort_unstable_by_key.ensures.permutation order in
    let lists = c.in_ok-made.ensures.room.lists ∙ m.room.lists in
    let kept = subst (λ (n : ℕ). IsCornered n (labelled_edges t0) c.join_new.new.self.corners) (sym lists)
    (subst (IsCornered (length t0.beside.items) (labelled_edges t0)) (sym c.in_ok-made.ensures.corners) c.requires.corners) in
    let keys_told = c.deref-8.ensures.value ∙ c.in_ok-keys.ensures ∙ ap (map (λ (o : Made). o.key)) c.deref-5.ensures.value in
    c.in_ok-requeue.ensures (labelled_edges t0) kept
    (subst (λ (ks : List ℕ). AreKeptBut ks (labelled_edges t0) (labelled_edges t)) (sym keys_told)
    (kept_exchange t.places.items state.table.keyed (labelled_edges t0) (labelled_edges t) (joined ++ losing ++ keys ended) (map (λ (o : Made). o.key) sorted) ex))
