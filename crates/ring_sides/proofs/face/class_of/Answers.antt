use Rattle.ring_sides.proofs.Read.{few_names}
use Rattle.ring_sides.proofs.face.class_of.Goals as goal

pub class_by_name-requires : goal.class_by_name-requires
class_by_name-requires c = few_names c.args.named.now c.requires
