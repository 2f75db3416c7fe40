use Rattle.std.proofs.Common.{is_ok}
use Rattle.vertex_drop.proofs.Outside.{held_more}
use Rattle.vertex_drop.proofs.chunk.Segments.push.Goals as goal

pub invariant_of-self : goal.invariant_of-self
invariant_of-self c =
    let first = c.extended.ensures in
    let both = c.extended-self-inside.ensures in
    held_more c.self.inside.bounds c.extended-self-inside.result c.args.s c.self.inside.items c.push.new.self (is_ok c.push.result) c.push.ensures
    (λ p h. both.others p (first.others p h)) (record { near = c.requires; held_a = both.others c.args.s.a first.point; held_b = both.point })
    c.self.invariant
