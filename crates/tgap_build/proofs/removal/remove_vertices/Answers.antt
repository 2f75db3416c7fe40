-- What goes is what the step removes, so it can be noted, and the edges less that are those after it; the mends are those of its record.
use Rattle.std.proofs.Common.{◌≡◌, ◌∙◌, ℕ, ◌-◌, ◌<◌, ◌≤◌, ◌==◌, ◌&&◌, ◌||◌, not, nat_le, false, List, [], ◌++◌, map, filter, length, All, AllPairs, Contains, IsPermutation, refl, sym, ap, ap₂, subst, arith}
use Rattle.std.specs.Prelude.{flat_map, option_to_list}
use Rattle.std.specs.List.{list_any}
use Rattle.std.specs.List.Sorted.{IsNonDecreasing}
use Rattle.std.specs.Int.{w128}
use Rattle.std.proofs.lemmas.Int.{to_z-of_z}
use Rattle.std.proofs.lemmas.List.Elements.{All-map}
use Rattle.tgap_model.specs.declared.geometry.Point.{Point}
use Rattle.tgap_model.specs.declared.merge.MergeStep.{MergeStep}
use Rattle.tgap_model.specs.declared.slice.Edge.{Edge}
use Rattle.tgap_model.specs.declared.slice.Removal.{Removal}
use Rattle.tgap_model.specs.Base.{same_point}
use Rattle.tgap_model.specs.History.{history_of}
use Rattle.tgap_model.specs.Merged.{merged}
use Rattle.tgap_model.specs.Chains.{chains_at}
use Rattle.tgap_model.specs.Removals.{has_side, is_removed, removals_to}
use Rattle.tgap_model.specs.Records.{mend_of}
use Rattle.tgap_model.proofs.BaseFacts.{base_facts}
use Rattle.map_laws.proofs.Lists.{all_members, kept_among, map_among}
use Rattle.grid_index.specs.Keyed.{edge_in}
use Rattle.grid_index.specs.Live.{keys}
use Rattle.edge_forest.specs.declared.face_labels.FaceLabels.{FaceLabels}
use Rattle.edge_forest.specs.FaceLabels.{label_of}
use Rattle.edge_forest.specs.Forest.{is_gone}
use Rattle.tgap_build.specs.declared.live_edges.Made.{Made}
use Rattle.tgap_build.specs.Queues.{IsBeside}
use Rattle.tgap_build.specs.Table.{faced, labelled_edges, table_edges}
use Rattle.tgap_build.specs.Running.{has_any, has_point}
use Rattle.tgap_build.specs.Changes.{whole_of, made_of, may_need, made_mends, less_at}
use Rattle.tgap_build.proofs.Alive.{key_within}
use Rattle.tgap_build.proofs.EdgeTables.{ascending}
use Rattle.tgap_build.proofs.Filters.{filter_both}
use Rattle.tgap_build.proofs.KeyedEdges.{gone_there}
use Rattle.tgap_build.proofs.LessEdges.{less_at_is}
use Rattle.tgap_build.proofs.LosingEdges.{losing_border}
use Rattle.tgap_build.proofs.LostEdges.{table_points}
use Rattle.tgap_build.proofs.NeededEdges.{changed_order, losing_keys_are, needed_all}
use Rattle.tgap_build.proofs.Removed.{step_removed}
use Rattle.tgap_build.proofs.Run.{running_less}
use Rattle.tgap_build.proofs.StepMends.{mends_all}
use Rattle.tgap_build.proofs.StepSweep.{made_sides, labelled_live, told_faces, swept_list, less_faces}
use Rattle.tgap_build.proofs.StepTable.{made_small}
use Rattle.tgap_build.proofs.Swept.{list_steps, list_apart, list_there, list_left}
use Rattle.tgap_build.proofs.TableLive.{counts_few}
use Rattle.tgap_build.proofs.Tables.{key_placed}
use Rattle.tgap_build.proofs.Taken.{now_is}
use Rattle.tgap_build.proofs.removal.remove_vertices.Goals as goal

pub label-made_label-requires : goal.label-made_label-requires
label-made_label-requires c =
    let f = c.args.forest.now in
    let k = c.args.k in
    let some = c.requires.some in
    let t = c.args.live.now.edges in
    let r = c.requires.running in
    let w = r.forest in
    let last : k ≤ length (history_of f.base) = omega (arith, w.steps, c.requires.made) in
    let s = c.args.step.now in
    let is = c.requires.step in
    let before = removals_to (merged f.base) (k - 1) in
    let room : s.made < length t.beside.items = omega (arith, made_small f.base w.base w.partition k some last, ap (λ (x : MergeStep). x.made) is, r.lists) in
    r.table.face_room s.made room

pub candidates-requires-clause-label : goal.candidates-requires-clause-label
candidates-requires-clause-label c =
    let f = c.args.forest.now in
    let k = c.args.k in
    let some = c.requires.some in
    let t = c.args.live.now.edges in
    let r = c.requires.running in
    let w = r.forest in
    let last : k ≤ length (history_of f.base) = omega (arith, w.steps, c.requires.made) in
    let s = c.args.step.now in
    let is = c.requires.step in
    let before = removals_to (merged f.base) (k - 1) in
    let room : s.made < length t.beside.items = omega (arith, made_small f.base w.base w.partition k some last, ap (λ (x : MergeStep). x.made) is, r.lists) in
    subst (λ (l : ℕ). l < length t.beside.items) (sym c.label-made_label.ensures) (r.table.label_room s.made room)

pub swept-requires-clause-live : goal.swept-requires-clause-live
swept-requires-clause-live c =
    let f = c.args.forest.now in
    let k = c.args.k in
    let some = c.requires.some in
    let t = c.args.live.now.edges in
    let r = c.requires.running in
    let w = r.forest in
    let last : k ≤ length (history_of f.base) = omega (arith, w.steps, c.requires.made) in
    let s = c.args.step.now in
    let is = c.requires.step in
    let before = removals_to (merged f.base) (k - 1) in
    labelled_live f k some c.requires.made t r

pub swept-requires-clause-few : goal.swept-requires-clause-few
swept-requires-clause-few c =
    let f = c.args.forest.now in
    let r = c.requires.running in
    omega (arith, r.places, (base_facts f.base r.forest.base).few_arcs)

pub swept-requires-clause-ascending : goal.swept-requires-clause-ascending
swept-requires-clause-ascending c = subst (AllPairs (λ (i j : ℕ). i < j)) (sym c.deref.ensures.value) c.in_ok-keys.ensures.ascending

pub swept-requires-clause-there : goal.swept-requires-clause-there
swept-requires-clause-there c =
    subst (All (IsBeside (labelled_edges c.args.live.now.edges) c.label-made_label.result)) (sym c.deref.ensures.value) c.in_ok-keys.ensures.there

pub swept-requires-clause-small : goal.swept-requires-clause-small
swept-requires-clause-small c = λ e there side small. subst (λ (ks : List ℕ). Contains ks e.key) (sym c.deref.ensures.value) (c.in_ok-keys.ensures.small e there side small)

pub with_losing-requires-clause-room : goal.with_losing-requires-clause-room
with_losing-requires-clause-room c =
    let f = c.args.forest.now in
    let k = c.args.k in
    let some = c.requires.some in
    let t = c.args.live.now.edges in
    let r = c.requires.running in
    let w = r.forest in
    let last : k ≤ length (history_of f.base) = omega (arith, w.steps, c.requires.made) in
    let s = c.args.step.now in
    let is = c.requires.step in
    let before = removals_to (merged f.base) (k - 1) in
    let label = c.label-made_label.result in
    let label_is = c.label-made_label.ensures ∙ ap (λ (x : MergeStep). label_of t.labels x.made) is in
    let removals = c.in_ok-removals.removals in
    let area = to_z-of_z w128 c.args.loser_area c.ranges.loser_area ∙ c.requires.area in
    let told = c.in_ok-removals.ensures.removals in
    let gone = c.in_ok-gone.gone in
    let found : (p : Point) → has_point gone p ≡ is_removed removals p = λ p. c.in_ok-gone.ensures p ∙ ap (λ (rs : List Removal). is_removed rs p) c.as_slice.ensures in
    let losing = c.in_ok-losing.ensures ∙ ap (flat_map (λ j. keys (filter (has_any gone) (option_to_list (edge_in t.places.items j))))) c.deref-2.ensures.value
    ∙ losing_border f k some c.requires.made t r c.requires.removed _ label _ removals c.requires.ratio label_is area told gone found c.in_ok-keys.keys.items c.in_ok-keys.ensures.ascending c.in_ok-keys.ensures.small in
    let border = filter (has_any gone) (filter (has_side label) (labelled_edges t)) in
    subst (All (λ i. i < length t.places.items)) (sym (c.deref-3.ensures.value ∙ losing))
    (All-map (λ i. i < length t.places.items) (λ (e : Edge). e.key) border
    (all_members (λ (e : Edge). e.key < length t.places.items) border (λ e m.
    key_placed t.places.items r.table.keyed e (kept_among (has_side label) (labelled_edges t) e (kept_among (has_any gone) (filter (has_side label) (labelled_edges t)) e m)))))

pub with_losing-requires-clause-few : goal.with_losing-requires-clause-few
with_losing-requires-clause-few c =
    let f = c.args.forest.now in
    let k = c.args.k in
    let some = c.requires.some in
    let t = c.args.live.now.edges in
    let r = c.requires.running in
    let w = r.forest in
    let last : k ≤ length (history_of f.base) = omega (arith, w.steps, c.requires.made) in
    let s = c.args.step.now in
    let is = c.requires.step in
    let before = removals_to (merged f.base) (k - 1) in
    counts_few t.places.items (labelled_live f k some c.requires.made t r)

pub with_losing-requires-clause-order : goal.with_losing-requires-clause-order
with_losing-requires-clause-order c =
    let f = c.args.forest.now in
    let k = c.args.k in
    let some = c.requires.some in
    let t = c.args.live.now.edges in
    let r = c.requires.running in
    let w = r.forest in
    let last : k ≤ length (history_of f.base) = omega (arith, w.steps, c.requires.made) in
    let s = c.args.step.now in
    let is = c.requires.step in
    let before = removals_to (merged f.base) (k - 1) in
    subst (λ (os : List Made). IsNonDecreasing (map (λ (o : Made). o.key) os)) (sym c.requires.changed) (changed_order f.base w.base w.partition k some last c.in_ok-gone.gone)

pub mends_of-requires-clause-room : goal.mends_of-requires-clause-room
mends_of-requires-clause-room c =
    let f = c.args.forest.now in
    let k = c.args.k in
    let some = c.requires.some in
    let t = c.args.live.now.edges in
    let r = c.requires.running in
    let w = r.forest in
    let last : k ≤ length (history_of f.base) = omega (arith, w.steps, c.requires.made) in
    let s = c.args.step.now in
    let is = c.requires.step in
    let before = removals_to (merged f.base) (k - 1) in
    let label = c.label-made_label.result in
    let label_is = c.label-made_label.ensures ∙ ap (λ (x : MergeStep). label_of t.labels x.made) is in
    let removals = c.in_ok-removals.removals in
    let area = to_z-of_z w128 c.args.loser_area c.ranges.loser_area ∙ c.requires.area in
    let told = c.in_ok-removals.ensures.removals in
    let gone = c.in_ok-gone.gone in
    let found : (p : Point) → has_point gone p ≡ is_removed removals p = λ p. c.in_ok-gone.ensures p ∙ ap (λ (rs : List Removal). is_removed rs p) c.as_slice.ensures in
    let losing = c.in_ok-losing.ensures ∙ ap (flat_map (λ j. keys (filter (has_any gone) (option_to_list (edge_in t.places.items j))))) c.deref-2.ensures.value
    ∙ losing_border f k some c.requires.made t r c.requires.removed _ label _ removals c.requires.ratio label_is area told gone found c.in_ok-keys.keys.items c.in_ok-keys.ensures.ascending c.in_ok-keys.ensures.small in
    let points = table_points (merged f.base) k before t r.table r.edges in
    let losing_keys = c.deref-3.ensures.value ∙ losing
    ∙ losing_keys_are f.base w.base w.partition k some last gone t.labels label (labelled_edges t) r.edges (λ e m. ap (λ (l : ℕ). has_side l e) label_is ∙ made_sides f k some c.requires.made t r e m) in
    let moved = subst (λ (x : MergeStep). IsPermutation (c.args.made.items ++ map (whole_of t.places.items x []) (filter (λ i. not (list_any (λ j. j == i) (map (λ (o : Made). o.key) c.args.made.items))) c.deref-3.result.now))
    c.in_ok-made.made.items) is c.in_ok-made.ensures.moved in
    let all = needed_all f.base w.base w.partition k some last gone t.places.items points c.deref-3.result.now losing_keys c.args.made.items c.in_ok-made.made.items c.requires.changed moved c.in_ok-made.ensures.order in
    subst (All (λ (o : Made). o.key < length t.places.items)) (sym all)
    (all_members (λ (o : Made). o.key < length t.places.items) (map (made_of (merged f.base) k) (filter (may_need (merged f.base) k gone) (chains_at (merged f.base) k))) (λ o m.
    let d = map_among (made_of (merged f.base) k) (filter (may_need (merged f.base) k gone) (chains_at (merged f.base) k)) o m in
    omega (arith, key_within (merged f.base) k d.0 (kept_among (may_need (merged f.base) k gone) (chains_at (merged f.base) k) d.0 d.1), ap (λ (o : Made). o.key) d.2, r.places)))

pub mends_of-requires-clause-few : goal.mends_of-requires-clause-few
mends_of-requires-clause-few c =
    let f = c.args.forest.now in
    let k = c.args.k in
    let some = c.requires.some in
    let t = c.args.live.now.edges in
    let r = c.requires.running in
    let w = r.forest in
    let last : k ≤ length (history_of f.base) = omega (arith, w.steps, c.requires.made) in
    let s = c.args.step.now in
    let is = c.requires.step in
    let before = removals_to (merged f.base) (k - 1) in
    counts_few t.places.items (labelled_live f k some c.requires.made t r)

pub remove-requires-clause-steps : goal.remove-requires-clause-steps
remove-requires-clause-steps c =
    let f = c.args.forest.now in
    let k = c.args.k in
    let some = c.requires.some in
    let t = c.args.live.now.edges in
    let r = c.requires.running in
    let w = r.forest in
    let last : k ≤ length (history_of f.base) = omega (arith, w.steps, c.requires.made) in
    let s = c.args.step.now in
    let is = c.requires.step in
    let before = removals_to (merged f.base) (k - 1) in
    let label = c.label-made_label.result in
    let label_is = c.label-made_label.ensures ∙ ap (λ (x : MergeStep). label_of t.labels x.made) is in
    let removals = c.in_ok-removals.removals in
    let area = to_z-of_z w128 c.args.loser_area c.ranges.loser_area ∙ c.requires.area in
    let told = c.in_ok-removals.ensures.removals in
    subst (λ (n : ℕ). All (λ (x : Removal). x.step ≡ n) removals) (sym c.requires.made) (list_steps f k w.base w.partition some last c.requires.removed (table_edges t) r.edges _ _ _ removals c.requires.ratio refl area (told_faces f k some c.requires.made t r c.requires.removed _ label _ removals c.requires.ratio label_is area told))

pub remove-requires-clause-apart : goal.remove-requires-clause-apart
remove-requires-clause-apart c =
    let f = c.args.forest.now in
    let k = c.args.k in
    let some = c.requires.some in
    let t = c.args.live.now.edges in
    let r = c.requires.running in
    let w = r.forest in
    let last : k ≤ length (history_of f.base) = omega (arith, w.steps, c.requires.made) in
    let s = c.args.step.now in
    let is = c.requires.step in
    let before = removals_to (merged f.base) (k - 1) in
    let label = c.label-made_label.result in
    let label_is = c.label-made_label.ensures ∙ ap (λ (x : MergeStep). label_of t.labels x.made) is in
    let removals = c.in_ok-removals.removals in
    let area = to_z-of_z w128 c.args.loser_area c.ranges.loser_area ∙ c.requires.area in
    let told = c.in_ok-removals.ensures.removals in
    list_apart f k w.base w.partition some last c.requires.removed (table_edges t) r.edges _ _ _ removals c.requires.ratio refl area (told_faces f k some c.requires.made t r c.requires.removed _ label _ removals c.requires.ratio label_is area told)

pub remove-requires-clause-there : goal.remove-requires-clause-there
remove-requires-clause-there c =
    let f = c.args.forest.now in
    let k = c.args.k in
    let some = c.requires.some in
    let t = c.args.live.now.edges in
    let r = c.requires.running in
    let w = r.forest in
    let last : k ≤ length (history_of f.base) = omega (arith, w.steps, c.requires.made) in
    let s = c.args.step.now in
    let is = c.requires.step in
    let before = removals_to (merged f.base) (k - 1) in
    let label = c.label-made_label.result in
    let label_is = c.label-made_label.ensures ∙ ap (λ (x : MergeStep). label_of t.labels x.made) is in
    let removals = c.in_ok-removals.removals in
    let area = to_z-of_z w128 c.args.loser_area c.ranges.loser_area ∙ c.requires.area in
    let told = c.in_ok-removals.ensures.removals in
    list_there f k w.base w.partition some last c.requires.removed (table_edges t) r.edges _ _ _ removals c.requires.ratio refl area (told_faces f k some c.requires.made t r c.requires.removed _ label _ removals c.requires.ratio label_is area told)

pub remove-requires-clause-left : goal.remove-requires-clause-left
remove-requires-clause-left c =
    let f = c.args.forest.now in
    let k = c.args.k in
    let some = c.requires.some in
    let t = c.args.live.now.edges in
    let r = c.requires.running in
    let w = r.forest in
    let last : k ≤ length (history_of f.base) = omega (arith, w.steps, c.requires.made) in
    let s = c.args.step.now in
    let is = c.requires.step in
    let before = removals_to (merged f.base) (k - 1) in
    let label = c.label-made_label.result in
    let label_is = c.label-made_label.ensures ∙ ap (λ (x : MergeStep). label_of t.labels x.made) is in
    let removals = c.in_ok-removals.removals in
    let area = to_z-of_z w128 c.args.loser_area c.ranges.loser_area ∙ c.requires.area in
    let told = c.in_ok-removals.ensures.removals in
    subst (λ (n : ℕ). All (λ (x : Removal). is_gone f n x.point ≡ false) removals) (sym c.requires.made) (list_left f k w.base w.partition some last c.requires.removed (table_edges t) r.edges _ _ _ removals c.requires.ratio refl area (told_faces f k some c.requires.made t r c.requires.removed _ label _ removals c.requires.ratio label_is area told))

pub remove-requires-2-clause-there : goal.remove-requires-2-clause-there
remove-requires-2-clause-there c =
    let f = c.args.forest.now in
    let k = c.args.k in
    let some = c.requires.some in
    let t = c.args.live.now.edges in
    let r = c.requires.running in
    let w = r.forest in
    let last : k ≤ length (history_of f.base) = omega (arith, w.steps, c.requires.made) in
    let s = c.args.step.now in
    let is = c.requires.step in
    let before = removals_to (merged f.base) (k - 1) in
    let label = c.label-made_label.result in
    let label_is = c.label-made_label.ensures ∙ ap (λ (x : MergeStep). label_of t.labels x.made) is in
    let removals = c.in_ok-removals.removals in
    let area = to_z-of_z w128 c.args.loser_area c.ranges.loser_area ∙ c.requires.area in
    let told = c.in_ok-removals.ensures.removals in
    let gone = c.in_ok-gone.gone in
    let found : (p : Point) → has_point gone p ≡ is_removed removals p = λ p. c.in_ok-gone.ensures p ∙ ap (λ (rs : List Removal). is_removed rs p) c.as_slice.ensures in
    let losing = c.in_ok-losing.ensures ∙ ap (flat_map (λ j. keys (filter (has_any gone) (option_to_list (edge_in t.places.items j))))) c.deref-2.ensures.value
    ∙ losing_border f k some c.requires.made t r c.requires.removed _ label _ removals c.requires.ratio label_is area told gone found c.in_ok-keys.keys.items c.in_ok-keys.ensures.ascending c.in_ok-keys.ensures.small in
    let q = (λ (e : Edge). has_any gone e && has_side label e) in
    let here = c.deref-4.ensures.value ∙ losing ∙ ap keys (filter_both (has_any gone) (has_side label) (labelled_edges t)) in
    let ascend = ascending t.places.items r.table.keyed in
    subst (All (Contains (keys (labelled_edges t)))) (sym here) (gone_there (labelled_edges t) ascend q)

pub returns-clause-removed : goal.returns-clause-removed
returns-clause-removed c =
    let f = c.args.forest.now in
    let k = c.args.k in
    let some = c.requires.some in
    let t = c.args.live.now.edges in
    let r = c.requires.running in
    let w = r.forest in
    let last : k ≤ length (history_of f.base) = omega (arith, w.steps, c.requires.made) in
    let s = c.args.step.now in
    let is = c.requires.step in
    let before = removals_to (merged f.base) (k - 1) in
    let label = c.label-made_label.result in
    let label_is = c.label-made_label.ensures ∙ ap (λ (x : MergeStep). label_of t.labels x.made) is in
    let removals = c.in_ok-removals.removals in
    let area = to_z-of_z w128 c.args.loser_area c.ranges.loser_area ∙ c.requires.area in
    let told = c.in_ok-removals.ensures.removals in
    let list = swept_list f k some c.requires.made t r c.requires.removed _ label _ removals c.requires.ratio label_is area told in
    step_removed f c.remove.new.self k w.base w.partition some last c.remove.ensures.base c.requires.removed (λ i p.
    c.remove.ensures.gone i p
    ∙ ap₂ (λ (n : ℕ) (rs : List Removal). is_gone f i p || (nat_le n i && list_any (λ (x : Removal). same_point x.point p) rs)) c.requires.made list)

pub returns-clause-running : goal.returns-clause-running
returns-clause-running c =
    let f = c.args.forest.now in
    let k = c.args.k in
    let some = c.requires.some in
    let t = c.args.live.now.edges in
    let r = c.requires.running in
    let w = r.forest in
    let last : k ≤ length (history_of f.base) = omega (arith, w.steps, c.requires.made) in
    let s = c.args.step.now in
    let is = c.requires.step in
    let before = removals_to (merged f.base) (k - 1) in
    let label = c.label-made_label.result in
    let label_is = c.label-made_label.ensures ∙ ap (λ (x : MergeStep). label_of t.labels x.made) is in
    let removals = c.in_ok-removals.removals in
    let area = to_z-of_z w128 c.args.loser_area c.ranges.loser_area ∙ c.requires.area in
    let told = c.in_ok-removals.ensures.removals in
    let gone = c.in_ok-gone.gone in
    let found : (p : Point) → has_point gone p ≡ is_removed removals p = λ p. c.in_ok-gone.ensures p ∙ ap (λ (rs : List Removal). is_removed rs p) c.as_slice.ensures in
    let losing = c.in_ok-losing.ensures ∙ ap (flat_map (λ j. keys (filter (has_any gone) (option_to_list (edge_in t.places.items j))))) c.deref-2.ensures.value
    ∙ losing_border f k some c.requires.made t r c.requires.removed _ label _ removals c.requires.ratio label_is area told gone found c.in_ok-keys.keys.items c.in_ok-keys.ensures.ascending c.in_ok-keys.ensures.small in
    let v = c.remove-2.new.self.edges in
    let q = (λ (e : Edge). has_any gone e && has_side label e) in
    let here = c.deref-4.ensures.value ∙ losing ∙ ap keys (filter_both (has_any gone) (has_side label) (labelled_edges t)) in
    let lesser = c.in_ok-remove.ensures.edges ∙ ap (λ (ks : List ℕ). map (less_at gone ks) (labelled_edges t)) here ∙ less_at_is gone (labelled_edges t) (ascending t.places.items r.table.keyed) q in
    let edges = ap₂ (λ (l : FaceLabels) (es : List Edge). map (faced l) es) c.in_ok-remove.ensures.labels lesser ∙ less_faces f k some c.requires.made t r c.requires.removed _ label _ removals c.requires.ratio label_is area told gone found in
    running_less f c.remove.new.self k before (removals_to (merged f.base) k) t v w c.remove.ensures.base c.remove.ensures.made c.remove.ensures.closed c.remove.ensures.edges
    c.in_ok-remove.ensures.table c.in_ok-remove.ensures.labels c.in_ok-remove.ensures.room edges r

pub returns-clause-mends : goal.returns-clause-mends
returns-clause-mends c =
    let f = c.args.forest.now in
    let k = c.args.k in
    let some = c.requires.some in
    let t = c.args.live.now.edges in
    let r = c.requires.running in
    let w = r.forest in
    let last : k ≤ length (history_of f.base) = omega (arith, w.steps, c.requires.made) in
    let s = c.args.step.now in
    let is = c.requires.step in
    let before = removals_to (merged f.base) (k - 1) in
    let label = c.label-made_label.result in
    let label_is = c.label-made_label.ensures ∙ ap (λ (x : MergeStep). label_of t.labels x.made) is in
    let removals = c.in_ok-removals.removals in
    let area = to_z-of_z w128 c.args.loser_area c.ranges.loser_area ∙ c.requires.area in
    let told = c.in_ok-removals.ensures.removals in
    let gone = c.in_ok-gone.gone in
    let found : (p : Point) → has_point gone p ≡ is_removed removals p = λ p. c.in_ok-gone.ensures p ∙ ap (λ (rs : List Removal). is_removed rs p) c.as_slice.ensures in
    let losing = c.in_ok-losing.ensures ∙ ap (flat_map (λ j. keys (filter (has_any gone) (option_to_list (edge_in t.places.items j))))) c.deref-2.ensures.value
    ∙ losing_border f k some c.requires.made t r c.requires.removed _ label _ removals c.requires.ratio label_is area told gone found c.in_ok-keys.keys.items c.in_ok-keys.ensures.ascending c.in_ok-keys.ensures.small in
    let points = table_points (merged f.base) k before t r.table r.edges in
    let losing_keys = c.deref-3.ensures.value ∙ losing
    ∙ losing_keys_are f.base w.base w.partition k some last gone t.labels label (labelled_edges t) r.edges (λ e m. ap (λ (l : ℕ). has_side l e) label_is ∙ made_sides f k some c.requires.made t r e m) in
    let moved = subst (λ (x : MergeStep). IsPermutation (c.args.made.items ++ map (whole_of t.places.items x []) (filter (λ i. not (list_any (λ j. j == i) (map (λ (o : Made). o.key) c.args.made.items))) c.deref-3.result.now))
    c.in_ok-made.made.items) is c.in_ok-made.ensures.moved in
    let all = needed_all f.base w.base w.partition k some last gone t.places.items points c.deref-3.result.now losing_keys c.args.made.items c.in_ok-made.made.items c.requires.changed moved c.in_ok-made.ensures.order in
    let list = swept_list f k some c.requires.made t r c.requires.removed _ label _ removals c.requires.ratio label_is area told ∙ now_is f.base w.base w.partition k some last in
    c.in_ok-mends.ensures removals found
    ∙ ap₂ (λ (x : MergeStep) (os : List Made). flat_map (made_mends t.places.items x.loser removals) os) is all
    ∙ mends_all f.base w.base w.partition k some last t.places.items points gone removals found
    ∙ ap (λ (rs : List Removal). flat_map (mend_of (merged f.base) k (chains_at (merged f.base) (k - 1)) before rs) (chains_at (merged f.base) k)) list
