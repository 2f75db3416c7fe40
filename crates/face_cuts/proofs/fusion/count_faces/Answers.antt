use Rattle.std.proofs.Common.{length, ap, arith}
use Rattle.tgap_model.proofs.BaseFacts.{base_facts}
use Rattle.face_cuts.proofs.fusion.count_faces.Goals as goal

pub overflow_cast-result : goal.overflow_cast-result
overflow_cast-result c = let b = (base_facts c.args.base.now c.classes.ensures.base).few_faces in let e = ap length c.classes.ensures.value in omega arith
