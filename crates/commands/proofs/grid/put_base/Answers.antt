-- A base map has few points.
use Rattle.tgap_model.proofs.BaseFacts.{base_facts}
use Rattle.commands.proofs.grid.put_base.Goals as goal

pub count_points-requires : goal.count_points-requires
count_points-requires c = rw (c.as_slice.ensures, c.arcs-2.ensures.value) (base_facts c.args.base.now c.arcs-2.ensures.base).few_points
