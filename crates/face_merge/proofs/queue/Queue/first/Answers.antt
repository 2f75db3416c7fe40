use Rattle.face_merge.proofs.queue.Queue.first.Goals as goal

pub returns : goal.returns
returns c = (c.in-Some.face.now.0, c.in-Some.face.now.1, c.in-Some.ensures.member, λ j m t e. c.in-Some.ensures.least (j, m, t) e)
