-- One more face, with its importance, where it has a link.
use Rattle.std.proofs.Common.{◌≡◌, ◌<◌, ◌≤◌, ◌+◌, ◌-◌, ◌*ℤ◌, ◌∙◌, refl, true, ap, sym, subst, arith, ℕ, ℤ, pos, unsigned_abs, List, length, map, get_or, replicate, slice_index, to_z, of_z}
use Rattle.std.specs.Int.{w128}
use Rattle.std.specs.Prelude.{count_by}
use Rattle.std.specs.List.{All}
use Rattle.std.proofs.lemmas.List.Elements.{All-get_or}
use Rattle.tgap_model.specs.declared.base.Rules.{Rules}
use Rattle.tgap_model.specs.Base.{is_rules}
use Rattle.tgap_model.specs.Bounds.{max_area}
use Rattle.tgap_model.specs.History.{area_of, class_of, labelled}
use Rattle.tgap_model.proofs.BaseFacts.{base_facts}
use Rattle.face_merge.specs.declared.links.Link.{Link}
use Rattle.face_merge.specs.Links.{length_at}
use Rattle.face_merge.specs.Merging.{begin, importance_of, permits_in, permitted_count}
use Rattle.face_merge.specs.Running.{IsQueueBelow}
use Rattle.face_merge.proofs.Start.{merging_start}
use Rattle.face_merge.proofs.Sums.{area_small, face_area_is}
use Rattle.face_merge.proofs.Held.{importance_back}
use Rattle.face_merge.proofs.Begun.{no_queue, own_count, own_links, queue_more}
use Rattle.face_merge.proofs.merging.start.queue_of.Goals as goal

-- the area of the face, as it is handed over
area_is : (c : goal.After-importance-arg-1) → (c.loop-slot.slot ≤ length c.args.base.now.classes)
    × (to_z w128 (of_z w128 (get_or c.args.areas.now c.loop-slot.slot (pos 0))) ≡ area_of (map labelled c.args.base.now.arcs) c.loop-slot.slot)
area_is c =
    let m = c.args.base.now in
    let known = merging_start m c.classes.ensures.base in
    let below : c.loop-slot.slot ≤ length m.classes = omega (arith, c.loop-slot-test.true, c.requires.areas.count) in (
      below,
      face_area_is (area_of (map labelled m.arcs) c.loop-slot.slot) (get_or c.args.areas.now c.loop-slot.slot (pos 0))
          (area_small c.loop-slot.slot (map labelled m.arcs) known.measured known.few_arcs) (c.requires.areas.value c.loop-slot.slot below),
    )

-- its class
class_is : (c : goal.After-importance-arg-1) → get_or c.as_slice-classes.result.now (c.loop-slot.slot - 1) 0 ≡ class_of c.args.base.now.classes c.loop-slot.slot
class_is c = ap (λ (ks : List ℕ). get_or ks (c.loop-slot.slot - 1) 0) (c.as_slice-classes.ensures ∙ c.classes.ensures.value)

pub importance-importance-requires-clause-rules : goal.importance-importance-requires-clause-rules
importance-importance-requires-clause-rules c = subst (λ (x : Rules). is_rules x ≡ true) (sym c.rules.ensures.value) (base_facts c.args.base.now c.rules.ensures.base).rules

pub importance-importance-requires-clause-class : goal.importance-importance-requires-clause-class
importance-importance-requires-clause-class c =
    let m = c.args.base.now in
    let known = merging_start m c.classes.ensures.base in
    let inside : c.loop-slot.slot - 1 < length m.classes = omega (arith, (area_is c).0, c.loop-slot.auto.slot) in
    let below : class_of m.classes c.loop-slot.slot < length m.rules.weights = All-get_or (λ (k : ℕ). k < length m.rules.weights) m.classes (c.loop-slot.slot - 1) 0 inside known.classed in
    omega (arith, below, class_is c, ap (λ (r : Rules). length r.weights) c.rules.ensures.value)

pub importance-importance-requires-clause-area : goal.importance-importance-requires-clause-area
importance-importance-requires-clause-area c =
    let m = c.args.base.now in
    let known = merging_start m c.classes.ensures.base in
    subst (λ (z : ℤ). unsigned_abs z ≤ max_area) (sym (area_is c).1) (area_small c.loop-slot.slot (map labelled m.arcs) known.measured known.few_arcs)

pub overflow_cast-face : goal.overflow_cast-face
overflow_cast-face c = omega (arith, c.loop-slot-test.true, c.requires.areas.count, (base_facts c.args.base.now c.classes.ensures.base).few_faces)

pub of-requires : goal.of-requires
of-requires c = omega (arith, c.loop-slot-test.true, c.requires.areas.count, (base_facts c.args.base.now c.classes.ensures.base).few_faces)

pub permitted_of-requires-clause-links : goal.permitted_of-requires-clause-links
permitted_of-requires-clause-links c =
    let m = c.args.base.now in
    subst (All (λ (link : Link). (0 < link.slot) × (link.slot ≤ length m.classes))) (sym c.deref.ensures.value)
    (own_links m (merging_start m c.classes.ensures.base) (length_at c.args.links.now) c.requires.links c.loop-slot.slot c.in_ok-own.own.items c.in_ok-own.ensures.links)

pub loop-slot-init : goal.loop-slot-init
loop-slot-init c =
    no_queue (begin c.args.base.now) (length c.args.base.now.classes + 1) c.in_ok-queue.queue c.in_ok-queue.ensures.none
    (c.in_ok-queue.ensures.counts ∙ ap (λ (n : ℕ). replicate n 0) c.requires.areas.count)

pub loop-slot-preserved : goal.loop-slot-preserved
loop-slot-preserved c =
    let m = c.args.base.now in
    let known = merging_start m c.classes.ensures.base in
    let k = c.loop-slot.slot in
    let below : k ≤ length m.classes = omega (arith, c.loop-slot-test.true, c.requires.areas.count) in
    let area = face_area_is (area_of (map labelled m.arcs) k) (get_or c.args.areas.now k (pos 0)) (area_small k (map labelled m.arcs) known.measured known.few_arcs) (c.requires.areas.value k below) in
    let class = ap (λ (ks : List ℕ). get_or ks (k - 1) 0) (c.as_slice-classes.ensures ∙ c.classes.ensures.value) in
    let value : c.importance-importance.result ≡ importance_of (begin m) k =
    c.importance-importance.ensures ∙ importance_same _ _ c.rules.result.now m.rules _ _ area c.rules.ensures.value class in
    let count : c.permitted_of.result ≡ permitted_count (begin m) k =
    c.permitted_of.ensures ∙ (ap (count_by (λ (link : Link). permits_in (begin m) k link.slot)) c.deref.ensures.value
    ∙ own_count m known (length_at c.args.links.now) c.requires.links k c.in_ok-own.own.items c.in_ok-own.ensures.links c.in_ok-own.ensures.once) in
    queue_more (begin m) (length m.classes + 1) k c.permitted_of.result c.loop-slot.queue c.set.new.self (to_z w128 (of_z w128 c.importance-importance.result))
    (omega (arith, below)) c.loop-slot.invariant (importance_back (begin m) k c.importance-importance.result known value) count
    c.in_ok-set.ensures.waits c.in_ok-set.ensures.counts
  where
    importance_same : (a b : ℤ) (r s : Rules) (j k : ℕ) → a ≡ b → r ≡ s → j ≡ k → a *ℤ pos (slice_index r.weights j) ≡ b *ℤ pos (slice_index s.weights k)
    importance_same a b r s j k p q e = rw (p, q, e) refl

pub returns : goal.returns
returns c =
    let end : c.loop-slot.slot ≡ length c.args.base.now.classes + 1 = omega (arith, c.loop-slot-test.false, c.loop-slot.auto.slot-end, c.requires.areas.count) in
    subst (λ (k : ℕ). IsQueueBelow (begin c.args.base.now) (length c.args.base.now.classes + 1) k c.loop-slot.queue) end c.loop-slot.invariant
