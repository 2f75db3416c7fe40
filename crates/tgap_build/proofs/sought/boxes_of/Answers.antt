-- One box more.
use Rattle.std.proofs.Common.{◌+◌, ℕ, ◌<◌, List, length, None, ap, ◌∙◌, subst, sym, arith}
use Rattle.std.proofs.lemmas.List.{length_push, get_or_default}
use Rattle.tgap_model.specs.declared.geometry.Window.{Window}
use Rattle.tgap_build.specs.Sought.{IsBoxedAt}
use Rattle.tgap_build.proofs.BoxedEdges.{boxed_more}
use Rattle.tgap_build.proofs.sought.boxes_of.Goals as goal

pub loop-place-preserved : goal.loop-place-preserved
loop-place-preserved c =
    let i = c.loop-place.place-index in
    let now = c.in_ok-push.ensures in
    record {
      long = ap length now ∙ omega (arith, length_push c.loop-place.boxes c.box_of.result, c.loop-place.invariant.long);
      each = subst (λ (bs : List Window). (k : ℕ) → k < i + 1 → IsBoxedAt c.args.places.now bs k) (sym now)
          (boxed_more c.args.places.now c.loop-place.boxes i c.box_of.result c.loop-place.invariant.long c.loop-place.invariant.each
          (λ e is. c.box_of.ensures e (c.place-item.is ∙ get_or_default c.args.places.now i c.place-item.result None (omega (arith, c.loop-place-test.true)) ∙ is)));
    }
