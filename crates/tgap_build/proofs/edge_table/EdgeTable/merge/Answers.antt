-- The edges with the loser's label are visited, in order of key, and then the label of the winner stands for the new face.
use Rattle.std.proofs.Common.{◌≡◌, ◌≢◌, ◌++◌, [], ℕ, ◌<◌, List, map, filter, length, get_or, set, take, All, AllPairs, Contains, Option, refl, sym, ap, ap₂, ◌∙◌, subst, arith}
use Rattle.std.specs.Prelude.{option_to_list}
use Rattle.std.specs.List.{flat_map}
use Rattle.std.proofs.lemmas.List.{take_all, length-set}
use Rattle.std.proofs.lemmas.List.Elements.{Contains-get_or}
use Rattle.tgap_model.specs.declared.slice.Edge.{Edge}
use Rattle.tgap_model.specs.History.{relabel}
use Rattle.grid_index.specs.Keyed.{edge_in, edges_in}
use Rattle.edge_forest.specs.declared.face_labels.FaceLabels.{FaceLabels}
use Rattle.edge_forest.specs.FaceLabels.{face_of, label_of, HasLabel, IsCurrent, moved}
use Rattle.tgap_build.specs.Table.{faced, listed_at, IsTableOf, has_both, has_first}
use Rattle.tgap_build.proofs.Merging.{to_visit, visits_listed, held_sides, label_made, labels_room, has_made, has_other, labels_within}
use Rattle.tgap_build.proofs.Tables.{merged_labelled, merged_ended, merged_losing, merged_faced, merged_table}
use Rattle.tgap_build.proofs.Visits.{visited, visited_length, listing, listing_length}
use Rattle.tgap_build.proofs.VisitSteps.{at_next, visited_more, listing_more, ended_more, losing_more}
use Rattle.tgap_build.proofs.edge_table.EdgeTable.merge.Goals as goal

-- ---- one key

ascending_in : (c : goal.After-merging-1) → AllPairs (λ (j k : ℕ). j < k) c.deref-key-items.result.now
ascending_in c = subst (AllPairs (λ (j k : ℕ). j < k)) (sym c.deref-key-items.ensures.value) c.in_order-keys.ensures.ascending

pub merge_edge-requires-clause-key : goal.merge_edge-requires-clause-key
merge_edge-requires-clause-key c =
    let w = c.requires.table in
    let s = c.args.step.now in
    let lists = c.args.self.now.beside.items in
    let items = c.deref-key-items.result.now in
    let i = c.loop-key.key-index in
    let inside = w.label_room s.loser c.requires.loser.0 in
    let l = w.listed (label_of c.args.self.now.labels s.loser) (get_or items i 0)
    (visits_listed lists (label_of c.args.self.now.labels s.loser) c.label-loser.result c.label-loser.ensures inside c.index_mut.result.now c.replace-listed.result
    c.index_mut.ensures.value c.replace-listed.ensures.value c.in_order-keys.result.items items c.in_order-keys.ensures.same c.deref-key-items.ensures.value
    (get_or items i 0) (Contains-get_or items i 0 c.loop-key-test.true)) in
    let count = ap length c.loop-key.invariant.places in
    let same = visited_length c.label-loser.result c.label-winner.result c.args.self.now.places.items (take i items) in
    omega (arith, l, count, same)

pub merge_edge-requires-clause-winner : goal.merge_edge-requires-clause-winner
merge_edge-requires-clause-winner c =
    let lists = c.args.self.now.beside.items in
    let l = c.requires.table.label_room c.args.step.now.winner c.requires.winner.0 in
    let count = ap length c.loop-key.invariant.lists in
    let same = listing_length c.label-loser.result c.label-winner.result c.args.self.now.places.items (set lists c.label-loser.result c.replace-listed.new.dest) (take c.loop-key.key-index c.deref-key-items.result.now) in
    let set_same = length-set lists c.label-loser.result c.replace-listed.new.dest in
    omega (arith, l, count, same, set_same, c.label-winner.ensures)

pub merge_edge-requires-clause-labels : goal.merge_edge-requires-clause-labels
merge_edge-requires-clause-labels c =
    let t = c.args.self.now.labels in
    let places = c.args.self.now.places.items in
    let items = c.deref-key-items.result.now in
    let i = c.loop-key.key-index in
    let now = c.loop-key.self.places.items in
    let here = at_next items i c.loop-key-test.true (ascending_in c) c.label-loser.result c.label-winner.result places now c.loop-key.invariant.places in
    subst (λ (u : FaceLabels). All (λ (e : Edge). (e.left < length u.faces.items) × (e.right < length u.faces.items)) (option_to_list (edge_in now (get_or items i 0)))) (sym c.loop-key.invariant.labels)
    (subst (λ (o : Option Edge). All (λ (e : Edge). (e.left < length t.faces.items) × (e.right < length t.faces.items)) (option_to_list o)) (sym here)
    (held_sides t c.args.self.now.beside.items places c.requires.table (get_or items i 0)))

pub loop-key-init : goal.loop-key-init
loop-key-init c = record { places = refl; lists = refl; labels = refl; ended = c.new-2.ensures; losing = c.new-3.ensures.items }

pub loop-key-preserved : goal.loop-key-preserved
loop-key-preserved c =
    let t = c.args.self.now.labels in
    let places = c.args.self.now.places.items in
    let items = c.deref-key-items.result.now in
    let i = c.loop-key.key-index in
    let within = c.loop-key-test.true in
    let before = c.loop-key.invariant in
    let from = c.label-loser.result in
    let to = c.label-winner.result in
    let now = c.loop-key.self.places.items in
    let up = subst (AllPairs (λ (j k : ℕ). j < k)) (sym c.deref-key-items.ensures.value) c.in_order-keys.ensures.ascending in
    record {
      places = visited_more items i within up from to places now before.places c.merge_edge.new.self.places.items c.in_ok-merge_edge.ensures.places;
      lists = listing_more items i within up from to places now before.places (set c.args.self.now.beside.items from c.replace-listed.new.dest)
          c.loop-key.self.beside.items c.merge_edge.new.self.beside.items before.lists c.in_ok-merge_edge.ensures.lists;
      labels = c.merge_edge.ensures.labels ∙ before.labels;
      ended = ended_more items i within up from to places now before.places t c.loop-key.merging.ended c.merge_edge.new.merging.ended before.ended
          (c.in_ok-merge_edge.ensures.ended
          ∙ ap (λ (u : FaceLabels). c.loop-key.merging.ended ++ map (faced u) (filter (has_both from to) (option_to_list (edge_in now (get_or items i 0))))) before.labels);
      losing = losing_more items i within up from to places now before.places c.loop-key.merging.losing.items c.merge_edge.new.merging.losing.items before.losing c.in_ok-merge_edge.ensures.losing;
    }

-- ---- the labels

pub merge-requires-clause-winner : goal.merge-requires-clause-winner
merge-requires-clause-winner c = subst (λ (u : FaceLabels). HasLabel u c.args.step.now.winner) (sym c.loop-key.invariant.labels) c.requires.winner.1

pub merge-requires-clause-made : goal.merge-requires-clause-made
merge-requires-clause-made c =
    subst (λ (u : FaceLabels). c.args.step.now.made < length u.labels.items) (sym c.loop-key.invariant.labels) (c.requires.table.face_room c.args.step.now.made c.requires.made)

-- ---- the end

up : (c : goal.After-drop-keys-2) → AllPairs (λ (j k : ℕ). j < k) c.deref-key-items.result.now
up c = subst (AllPairs (λ (j k : ℕ). j < k)) (sym c.deref-key-items.ensures.value) c.in_order-keys.ensures.ascending

visits : (c : goal.After-drop-keys-2) (k : ℕ) → Contains (listed_at c.args.self.now.beside.items (label_of c.args.self.now.labels c.args.step.now.loser)) k → Contains c.deref-key-items.result.now k
visits c =
    to_visit c.args.self.now.beside.items (label_of c.args.self.now.labels c.args.step.now.loser) c.label-loser.result c.label-loser.ensures
    (c.requires.table.label_room c.args.step.now.loser c.requires.loser.0) c.index_mut.result.now c.replace-listed.result
    c.index_mut.ensures.value c.replace-listed.ensures.value c.in_order-keys.result.items c.deref-key-items.result.now c.in_order-keys.ensures.same c.deref-key-items.ensures.value

within : (c : goal.After-drop-keys-2) (k : ℕ) → Contains c.deref-key-items.result.now k → k < length c.args.self.now.places.items
within c k m =
    c.requires.table.listed (label_of c.args.self.now.labels c.args.step.now.loser) k
    (visits_listed c.args.self.now.beside.items (label_of c.args.self.now.labels c.args.step.now.loser) c.label-loser.result c.label-loser.ensures
    (c.requires.table.label_room c.args.step.now.loser c.requires.loser.0) c.index_mut.result.now c.replace-listed.result
    c.index_mut.ensures.value c.replace-listed.ensures.value c.in_order-keys.result.items c.deref-key-items.result.now c.in_order-keys.ensures.same c.deref-key-items.ensures.value k m)

all_items : (c : goal.After-drop-keys-2) → take c.loop-key.key-index c.deref-key-items.result.now ≡ c.deref-key-items.result.now
all_items c = take_all c.loop-key.key-index c.deref-key-items.result.now c.loop-key-test.false

places_are : (c : goal.After-drop-keys-2) → c.loop-key.self.places.items
    ≡ visited (label_of c.args.self.now.labels c.args.step.now.loser) (label_of c.args.self.now.labels c.args.step.now.winner) c.args.self.now.places.items c.deref-key-items.result.now
places_are c =
    c.loop-key.invariant.places
    ∙ ap (visited c.label-loser.result c.label-winner.result c.args.self.now.places.items) (all_items c)
    ∙ ap₂ (λ (a b : ℕ). visited a b c.args.self.now.places.items c.deref-key-items.result.now) c.label-loser.ensures c.label-winner.ensures

lists_are : (c : goal.After-drop-keys-2) → c.loop-key.self.beside.items
    ≡ listing (label_of c.args.self.now.labels c.args.step.now.loser) (label_of c.args.self.now.labels c.args.step.now.winner) c.args.self.now.places.items
    (set c.args.self.now.beside.items (label_of c.args.self.now.labels c.args.step.now.loser) []) c.deref-key-items.result.now
lists_are c =
    let places = c.args.self.now.places.items in
    let lists = c.args.self.now.beside.items in
    let ks = c.deref-key-items.result.now in
    c.loop-key.invariant.lists
    ∙ ap (listing c.label-loser.result c.label-winner.result places (set lists c.label-loser.result c.replace-listed.new.dest)) (all_items c)
    ∙ ap (λ (ns : List ℕ). listing c.label-loser.result c.label-winner.result places (set lists c.label-loser.result ns) ks) (c.replace-listed.ensures.after ∙ c.new.ensures)
    ∙ ap₂ (λ (a b : ℕ). listing a b places (set lists a []) ks) c.label-loser.ensures c.label-winner.ensures

new_labels : (c : goal.After-drop-keys-2) → c.merge.new.self.labels.items ≡ set c.args.self.now.labels.labels.items c.args.step.now.made (label_of c.args.self.now.labels c.args.step.now.winner)
new_labels c =
    subst (λ (u : FaceLabels). c.merge.new.self.labels.items ≡ set u.labels.items c.args.step.now.made (label_of u c.args.step.now.winner)) c.loop-key.invariant.labels c.merge.ensures.labels

new_faces : (c : goal.After-drop-keys-2) → c.merge.new.self.faces.items ≡ set c.args.self.now.labels.faces.items (label_of c.args.self.now.labels c.args.step.now.winner) c.args.step.now.made
new_faces c =
    subst (λ (u : FaceLabels). c.merge.new.self.faces.items ≡ set u.faces.items (label_of u c.args.step.now.winner) c.args.step.now.made) c.loop-key.invariant.labels c.merge.ensures.faces

follow : (c : goal.After-drop-keys-2) (l : ℕ) → IsCurrent c.args.self.now.labels l → face_of c.args.self.now.labels l ≢ c.args.step.now.made
    → IsCurrent c.merge.new.self (moved c.args.self.now.labels c.args.step.now l)
    × (face_of c.merge.new.self (moved c.args.self.now.labels c.args.step.now l) ≡ relabel c.args.step.now (face_of c.args.self.now.labels l))
follow c =
    let s = c.args.step.now in
    subst (λ (u : FaceLabels). (l : ℕ) → IsCurrent u l → face_of u l ≢ s.made → IsCurrent c.merge.new.self (moved u s l) × (face_of c.merge.new.self (moved u s l) ≡ relabel s (face_of u l)))
    c.loop-key.invariant.labels
    (c.merge.ensures.follow (subst (λ (u : FaceLabels). HasLabel u s.loser) (sym c.loop-key.invariant.labels) c.requires.loser.1) c.requires.apart)

made_in : (c : goal.After-drop-keys-2) → c.args.step.now.made < length c.args.self.now.labels.labels.items
made_in c = c.requires.table.face_room c.args.step.now.made c.requires.made

pub returns-clause-table : goal.returns-clause-table
returns-clause-table c =
    let t = c.args.self.now.labels in
    let s = c.args.step.now in
    let lists = c.args.self.now.beside.items in
    let places = c.args.self.now.places.items in
    let t' = c.merge.new.self in
    let w = c.requires.table in
    subst (λ (ls : List (List ℕ)). IsTableOf t' ls c.loop-key.self.places.items) (sym (lists_are c))
    (subst (IsTableOf t' (listing (label_of t s.loser) (label_of t s.winner) places (set lists (label_of t s.loser) []) c.deref-key-items.result.now)) (sym (places_are c))
    (merged_table t lists places w s c.requires.loser.1 c.requires.winner.1 c.requires.apart c.deref-key-items.result.now (up c) (visits c) (within c) t' (follow c) c.requires.fresh
    (labels_room t t' s c.requires.winner.1 (made_in c) (new_faces c) (new_labels c))
    (labels_within t t' s c.requires.winner.1 (made_in c) (new_faces c) (new_labels c) (length lists) w.label_room c.requires.winner.0)
    (w.label_room s.winner c.requires.winner.0)))

pub returns-clause-edges : goal.returns-clause-edges
returns-clause-edges c =
    ap (λ (ps : List (Option Edge)). map (faced c.merge.new.self) (edges_in ps)) (places_are c)
    ∙ merged_faced c.args.self.now.labels c.args.self.now.beside.items c.args.self.now.places.items c.requires.table c.args.step.now c.requires.loser.1 c.requires.winner.1 c.requires.apart
    c.deref-key-items.result.now (up c) (visits c) (within c) c.merge.new.self (follow c) c.requires.fresh

pub returns-clause-labelled : goal.returns-clause-labelled
returns-clause-labelled c =
    ap edges_in (places_are c)
    ∙ merged_labelled c.args.self.now.labels c.args.self.now.beside.items c.args.self.now.places.items c.requires.table c.args.step.now c.requires.loser.1 c.requires.winner.1 c.requires.apart
    c.deref-key-items.result.now (up c) (visits c) (within c)

pub returns-clause-ended : goal.returns-clause-ended
returns-clause-ended c =
    let t = c.args.self.now.labels in
    let places = c.args.self.now.places.items in
    c.trimmed.ensures ∙ c.loop-key.invariant.ended
    ∙ ap (λ (ks : List ℕ). map (faced t) (flat_map (λ k. filter (has_both c.label-loser.result c.label-winner.result) (option_to_list (edge_in places k))) ks)) (all_items c)
    ∙ ap₂ (λ (a b : ℕ). map (faced t) (flat_map (λ k. filter (has_both a b) (option_to_list (edge_in places k))) c.deref-key-items.result.now)) c.label-loser.ensures c.label-winner.ensures
    ∙ merged_ended t c.args.self.now.beside.items places c.requires.table c.args.step.now c.requires.loser.1 c.requires.winner.1 c.requires.apart
    c.deref-key-items.result.now (up c) (visits c) (within c)

pub returns-clause-losing : goal.returns-clause-losing
returns-clause-losing c =
    let places = c.args.self.now.places.items in
    c.loop-key.invariant.losing
    ∙ ap (λ (ks : List ℕ). flat_map (λ k. map (λ (e : Edge). k) (filter (has_first c.label-loser.result c.label-winner.result) (option_to_list (edge_in places k)))) ks) (all_items c)
    ∙ ap₂ (λ (a b : ℕ). flat_map (λ k. map (λ (e : Edge). k) (filter (has_first a b) (option_to_list (edge_in places k)))) c.deref-key-items.result.now) c.label-loser.ensures c.label-winner.ensures
    ∙ merged_losing c.args.self.now.labels c.args.self.now.beside.items places c.requires.table c.args.step.now c.requires.loser.1 c.requires.winner.1 c.requires.apart
    c.deref-key-items.result.now (up c) (visits c) (within c)

pub returns-clause-label : goal.returns-clause-label
returns-clause-label c = label_made c.args.self.now.labels c.merge.new.self c.args.step.now c.requires.winner.1 (made_in c) (new_faces c) (new_labels c)

pub returns-clause-made : goal.returns-clause-made
returns-clause-made c = has_made c.args.self.now.labels c.merge.new.self c.args.step.now c.requires.winner.1 (made_in c) (new_faces c) (new_labels c)

pub returns-clause-others : goal.returns-clause-others
returns-clause-others c = λ f not_loser not_winner not_made h.
    has_other c.args.self.now.labels c.merge.new.self c.args.step.now c.requires.winner.1 (made_in c) (new_faces c) (new_labels c) f not_winner not_made h

pub returns-clause-room : goal.returns-clause-room
returns-clause-room c =
    let t = c.args.self.now.labels in
    let s = c.args.step.now in
    record {
      places = ap length (places_are c) ∙ visited_length (label_of t s.loser) (label_of t s.winner) c.args.self.now.places.items c.deref-key-items.result.now;
      lists = ap length (lists_are c)
          ∙ listing_length (label_of t s.loser) (label_of t s.winner) c.args.self.now.places.items (set c.args.self.now.beside.items (label_of t s.loser) []) c.deref-key-items.result.now
          ∙ length-set c.args.self.now.beside.items (label_of t s.loser) [];
    }
