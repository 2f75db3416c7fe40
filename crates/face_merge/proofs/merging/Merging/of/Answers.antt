-- What a base map keeps to is what is known of a map as its merging begins.
use Rattle.std.proofs.Common.{arith, ◌≡◌, ◌+◌, ◌∙◌, ap, sym, subst, ℕ, List, map, length}
use Rattle.std.specs.List.{All}
use Rattle.tgap_model.specs.declared.base.BaseArc.{BaseArc}
use Rattle.tgap_model.specs.declared.merge.LabelledArc.{LabelledArc}
use Rattle.tgap_model.specs.History.{labelled}
use Rattle.tgap_model.proofs.BaseFacts.{base_facts}
use Rattle.face_merge.specs.Linking.{link_of}
use Rattle.face_merge.specs.Links.{length_at}
use Rattle.face_merge.specs.Measures.{IsMeasured, measure_of, total_length}
use Rattle.face_merge.specs.Merging.{AreAreas, IsLabelled, MergeState, after_steps, begin}
use Rattle.face_merge.specs.Running.{AreInSlots, IsQueueOf}
use Rattle.face_merge.proofs.Start.{base_measured, merging_start}
use Rattle.face_merge.proofs.Begun.{first_slots, first_queue}
use Rattle.face_merge.proofs.merging.Merging.of.Goals as goal

pub classes_with_room-requires : goal.classes_with_room-requires
classes_with_room-requires c =
    let few = (base_facts c.args.base.now c.classes.ensures.base).few_faces in
    omega (arith, few, ap length (c.as_slice.ensures ∙ c.classes.ensures.value))

pub labelled_arcs-requires-clause-measures : goal.labelled_arcs-requires-clause-measures
labelled_arcs-requires-clause-measures c = c.requires ∙ ap (map measure_of) (sym (c.as_slice-2.ensures ∙ c.arcs.ensures.value))

pub labelled_arcs-requires-clause-sizes : goal.labelled_arcs-requires-clause-sizes
labelled_arcs-requires-clause-sizes c =
    subst (λ (arcs : List BaseArc). All IsMeasured (map labelled arcs)) (sym (c.as_slice-2.ensures ∙ c.arcs.ensures.value)) (base_measured c.args.base.now c.arcs.ensures.base)

pub areas_of-requires-clause-faces : goal.areas_of-requires-clause-faces
areas_of-requires-clause-faces c =
    let n : c.len-faces.result ≡ length c.args.base.now.classes = omega (arith, c.len-faces.ensures, c.in_ok-classes.classes.ok.0, ap length (c.in_ok-classes.ensures ∙ (c.as_slice.ensures ∙ c.classes.ensures.value))) in
    omega (arith, n, (base_facts c.args.base.now c.arcs.ensures.base).few_faces)

pub areas_of-requires-clause-labelled : goal.areas_of-requires-clause-labelled
areas_of-requires-clause-labelled c =
    let e = c.as_slice-labelled.ensures.value ∙ (c.in_ok-arcs.ensures ∙ ap (map labelled) (c.as_slice-2.ensures ∙ c.arcs.ensures.value)) in
    let n : c.len-faces.result ≡ length c.args.base.now.classes = omega (arith, c.len-faces.ensures, c.in_ok-classes.classes.ok.0, ap length (c.in_ok-classes.ensures ∙ (c.as_slice.ensures ∙ c.classes.ensures.value))) in
    subst (λ (k : ℕ). All (IsLabelled k) c.as_slice-labelled.result.now) (sym n)
    (subst (All (IsLabelled (length c.args.base.now.classes))) (sym e) (merging_start c.args.base.now c.arcs.ensures.base).labelled)

pub areas_of-requires-clause-measured : goal.areas_of-requires-clause-measured
areas_of-requires-clause-measured c =
    let e = c.as_slice-labelled.ensures.value ∙ (c.in_ok-arcs.ensures ∙ ap (map labelled) (c.as_slice-2.ensures ∙ c.arcs.ensures.value)) in
    subst (All IsMeasured) (sym e) (base_measured c.args.base.now c.arcs.ensures.base)

pub areas_of-requires-clause-few : goal.areas_of-requires-clause-few
areas_of-requires-clause-few c =
    let e = c.as_slice-labelled.ensures.value ∙ (c.in_ok-arcs.ensures ∙ ap (map labelled) (c.as_slice-2.ensures ∙ c.arcs.ensures.value)) in
    omega (arith, ap length e, (merging_start c.args.base.now c.arcs.ensures.base).few_arcs)

pub overflow_cast-faces : goal.overflow_cast-faces
overflow_cast-faces c =
    let n : c.len-faces.result ≡ length c.args.base.now.classes = omega (arith, c.len-faces.ensures, c.in_ok-classes.classes.ok.0, ap length (c.in_ok-classes.ensures ∙ (c.as_slice.ensures ∙ c.classes.ensures.value))) in
    omega (arith, n, (base_facts c.args.base.now c.arcs.ensures.base).few_faces)

pub overflow_add-faces : goal.overflow_add-faces
overflow_add-faces c =
    let n : c.len-faces.result ≡ length c.args.base.now.classes = omega (arith, c.len-faces.ensures, c.in_ok-classes.classes.ok.0, ap length (c.in_ok-classes.ensures ∙ (c.as_slice.ensures ∙ c.classes.ensures.value))) in
    omega (arith, n, (base_facts c.args.base.now c.arcs.ensures.base).few_faces)

pub between-requires : goal.between-requires
between-requires c =
    let e = c.as_slice-labelled.ensures.value ∙ (c.in_ok-arcs.ensures ∙ ap (map labelled) (c.as_slice-2.ensures ∙ c.arcs.ensures.value)) in
    omega (arith, ap total_length e, (merging_start c.args.base.now c.arcs.ensures.base).short)

pub queue_of-requires-clause-areas : goal.queue_of-requires-clause-areas
queue_of-requires-clause-areas c =
    let e = c.as_slice-labelled.ensures.value ∙ (c.in_ok-arcs.ensures ∙ ap (map labelled) (c.as_slice-2.ensures ∙ c.arcs.ensures.value)) in
    let n : c.len-faces.result ≡ length c.args.base.now.classes = omega (arith, c.len-faces.ensures, c.in_ok-classes.classes.ok.0, ap length (c.in_ok-classes.ensures ∙ (c.as_slice.ensures ∙ c.classes.ensures.value))) in
    subst (AreAreas (length c.args.base.now.classes) (map labelled c.args.base.now.arcs)) (sym c.as_slice-3.ensures.value)
    (subst (λ (k : ℕ). AreAreas k (map labelled c.args.base.now.arcs) c.in_ok-areas.areas.items) n (subst (λ (xs : List LabelledArc). AreAreas c.len-faces.result xs c.in_ok-areas.areas.items) e c.in_ok-areas.ensures))

pub queue_of-requires-clause-measured : goal.queue_of-requires-clause-measured
queue_of-requires-clause-measured c = base_measured c.args.base.now c.arcs.ensures.base

pub queue_of-requires-clause-links : goal.queue_of-requires-clause-links
queue_of-requires-clause-links c = λ s t.
    let e = c.as_slice-labelled.ensures.value ∙ (c.in_ok-arcs.ensures ∙ ap (map labelled) (c.as_slice-2.ensures ∙ c.arcs.ensures.value)) in
    c.in_ok-links.ensures s t ∙ ap (λ (xs : List LabelledArc). link_of xs s t) e

pub returns-clause-running : goal.returns-clause-running
returns-clause-running c =
    let e = c.as_slice-labelled.ensures.value ∙ (c.in_ok-arcs.ensures ∙ ap (map labelled) (c.as_slice-2.ensures ∙ c.arcs.ensures.value)) in
    let n : c.len-faces.result ≡ length c.args.base.now.classes = omega (arith, c.len-faces.ensures, c.in_ok-classes.classes.ok.0, ap length (c.in_ok-classes.ensures ∙ (c.as_slice.ensures ∙ c.classes.ensures.value))) in
    let m = c.args.base.now in
    let areas = subst (λ (k : ℕ). AreAreas k (map labelled m.arcs) c.in_ok-areas.areas.items) n (subst (λ (xs : List LabelledArc). AreAreas c.len-faces.result xs c.in_ok-areas.areas.items) e c.in_ok-areas.ensures) in
    let count : length c.in_ok-numbers.numbers.items ≡ length m.classes + 1 = omega (arith, c.in_ok-numbers.ensures.count, n) in
    let links : (s t : ℕ) → length_at c.in_ok-links.links s t ≡ link_of (map labelled m.arcs) s t = λ s t. c.in_ok-links.ensures s t ∙ ap (λ (xs : List LabelledArc). link_of xs s t) e in
    let known = merging_start m c.arcs.ensures.base in
    let slots = first_slots m known c.in_ok-numbers.numbers.items c.in_ok-areas.areas.items (length_at c.in_ok-links.links) c.in_ok-queue.queue count
    (λ k p. c.in_ok-numbers.ensures.numbers k (omega (arith, p, n))) areas links c.in_ok-queue.ensures in
    let queue = first_queue m known c.in_ok-numbers.numbers.items c.in_ok-areas.areas.items (length_at c.in_ok-links.links) c.in_ok-queue.queue count
    (λ k p. c.in_ok-numbers.ensures.numbers k (omega (arith, p, n))) areas links c.in_ok-queue.ensures in
    let state : after_steps m c.new.result ≡ begin m = ap (after_steps m) c.new.ensures in
    record {
      classes = c.in_ok-classes.ensures ∙ (c.as_slice.ensures ∙ c.classes.ensures.value) ∙ sym (ap (λ (x : MergeState). x.classes) state);
      slots = subst (λ (x : MergeState). AreInSlots x c.in_ok-numbers.numbers.items c.in_ok-areas.areas.items (length_at c.in_ok-links.links)) (sym state) slots;
      queue = subst (λ (x : MergeState). IsQueueOf x c.in_ok-numbers.numbers.items c.in_ok-queue.queue) (sym state) queue;
    }
