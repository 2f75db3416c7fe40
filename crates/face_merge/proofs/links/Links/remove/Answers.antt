use Rattle.std.proofs.Common.{◌∙◌, None, cond, ap, Bool}
use Rattle.face_merge.specs.Links.{length_at}
use Rattle.face_merge.proofs.Linked.{pair_at}
use Rattle.face_merge.proofs.links.Links.remove.Goals as goal

pub returns-clause-others : goal.returns-clause-others
returns-clause-others c = λ s t. c.remove.ensures.updates.0 (s, t) ∙ ap (λ (b : Bool). cond b None (length_at c.args.self.now s t)) (pair_at c.args.slot c.args.other s t)
