use Rattle.tgap_model.proofs.BaseFacts.{base_facts}
use Rattle.wire_text.proofs.answer.ok_text.Goals as goal

pub count_points-requires : goal.count_points-requires
count_points-requires c = rw (c.as_slice.ensures, c.arcs-2.ensures.value) (base_facts c.args.base.now c.arcs.ensures.base).few_points
