use Rattle.std.proofs.Common.{◌∙◌}
use Rattle.face_merge.proofs.Beside.{near_is}
use Rattle.face_merge.proofs.merging.Merging.near.Goals as goal

pub returns : goal.returns
returns c = c.has.ensures ∙ near_is c.args.self.now c.args.slot c.args.other c.requires
