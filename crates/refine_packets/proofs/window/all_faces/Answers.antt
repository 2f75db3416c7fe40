-- There are few faces and steps.
use Rattle.std.proofs.Common.{length, ap, arith}
use Rattle.tgap_model.specs.Base.{BaseMap}
use Rattle.tgap_model.proofs.BaseFacts.{base_facts}
use Rattle.refine_packets.proofs.window.all_faces.Goals as goal

pub overflow_add-result : goal.overflow_add-result
overflow_add-result c =
    omega (arith, c.len.ensures, ap length c.classes.ensures.value, ap (λ (m : BaseMap). length m.classes) c.base.ensures.value, c.steps.type_inv, (base_facts c.args.built.now c.base.ensures.base).few_faces)

pub overflow_add-result-2 : goal.overflow_add-result-2
overflow_add-result-2 c =
    omega (arith, c.len.ensures, ap length c.classes.ensures.value, ap (λ (m : BaseMap). length m.classes) c.base.ensures.value, c.steps.type_inv, (base_facts c.args.built.now c.base.ensures.base).few_faces)
