-- The edges that the step changed are all that may need a mend where nothing goes.
use Rattle.std.proofs.Common.{◌≡◌, ◌∙◌, ◌-◌, ◌<◌, ◌≤◌, ◌==◌, List, [], map, filter, length, All, sym, ap, ap₂, subst, arith}
use Rattle.std.specs.Prelude.{flat_map, Result, Ok, Err, IfOk}
use Rattle.tgap_model.specs.declared.geometry.Point.{Point}
use Rattle.tgap_model.specs.declared.merge.MergeStep.{MergeStep}
use Rattle.tgap_model.specs.declared.slice.Removal.{Removal}
use Rattle.tgap_model.specs.declared.record.Mend.{Mend}
use Rattle.tgap_model.specs.History.{history_of}
use Rattle.tgap_model.specs.Merged.{merged}
use Rattle.tgap_model.specs.Chains.{chains_at}
use Rattle.tgap_model.specs.Removals.{is_removed, removals_to}
use Rattle.tgap_model.specs.Records.{mend_of}
use Rattle.map_laws.proofs.Lists.{all_members, kept_among, map_among}
use Rattle.tgap_build.specs.declared.live_edges.Made.{Made}
use Rattle.tgap_build.specs.Running.{has_point}
use Rattle.tgap_build.specs.Changes.{made_of, is_changed, made_mends}
use Rattle.tgap_build.proofs.Alive.{key_within}
use Rattle.tgap_build.proofs.LostEdges.{table_points}
use Rattle.tgap_build.proofs.NeededEdges.{none_needed}
use Rattle.tgap_build.proofs.NoSweep.{none_now}
use Rattle.tgap_build.proofs.StepMends.{mends_all}
use Rattle.tgap_build.proofs.StepSweep.{labelled_live}
use Rattle.tgap_build.proofs.TableLive.{counts_few}
use Rattle.tgap_build.proofs.removal.plain_mends.Goals as goal

ok_same : {E : Type 0} (r : Result (List Mend) E) (a b : List Mend) → IfOk r (λ ms. ms ≡ a) → a ≡ b → IfOk r (λ ms. ms ≡ b)
ok_same (Ok ms) a b h e = h ∙ e
ok_same (Err x) a b h e = tt

pub mends_of-requires-clause-room : goal.mends_of-requires-clause-room
mends_of-requires-clause-room c =
    let h = merged c.args.forest.now.base in
    let k = c.args.k in
    let places = c.args.live.now.edges.places.items in
    subst (All (λ (o : Made). o.key < length places)) (sym c.requires.changed)
    (all_members (λ (o : Made). o.key < length places) (map (made_of h k) (filter (is_changed h k) (chains_at h k))) (λ o m.
    let d = map_among (made_of h k) (filter (is_changed h k) (chains_at h k)) o m in
    omega (arith, key_within h k d.0 (kept_among (is_changed h k) (chains_at h k) d.0 d.1), ap (λ (o : Made). o.key) d.2, c.requires.running.places)))

pub mends_of-requires-clause-few : goal.mends_of-requires-clause-few
mends_of-requires-clause-few c =
    counts_few c.args.live.now.edges.places.items (labelled_live c.args.forest.now c.args.k c.requires.some c.requires.made c.args.live.now.edges c.requires.running)

pub returns : goal.returns
returns c =
    let f = c.args.forest.now in
    let k = c.args.k in
    let h = merged f.base in
    let t = c.args.live.now.edges in
    let r = c.requires.running in
    let w = r.forest in
    let last : k ≤ length (history_of f.base) = omega (arith, w.steps, c.requires.made) in
    let gone = c.in_ok-gone.gone in
    let found : (p : Point) → has_point gone p ≡ is_removed [] p = λ p. c.in_ok-gone.ensures p in
    let points = table_points h k (removals_to h (k - 1)) t r.table r.edges in
    let mends = λ (now : List Removal). flat_map (mend_of h k (chains_at h (k - 1)) (removals_to h (k - 1)) now) (chains_at h k) in
    ok_same c.mends_of.result (flat_map (made_mends t.places.items c.args.step.now.loser []) c.args.made.items)
    (mends (filter (λ (r : Removal). r.step == k) (removals_to h k))) (c.mends_of.ensures [] found)
    (ap₂ (λ (s : MergeStep) (os : List Made). flat_map (made_mends t.places.items s.loser []) os) c.requires.step
    (c.requires.changed ∙ ap (map (made_of h k)) (none_needed h k gone found (chains_at h k)))
    ∙ mends_all f.base w.base w.partition k c.requires.some last t.places.items points gone [] found
    ∙ ap mends (sym (none_now f w.base w.partition k c.requires.some last c.requires.ratio)))
