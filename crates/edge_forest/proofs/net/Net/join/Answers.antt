use Rattle.std.proofs.Common.{arith}
use Rattle.edge_forest.proofs.Nets.{freed, joined_ends, joined_apart}
use Rattle.edge_forest.proofs.net.Net.join.Goals as goal

pub put-requires-clause-first : goal.put-requires-clause-first
put-requires-clause-first c =
    freed c.args.nodes.now c.args.self.now c.requires.net c.args.meeting.key c.args.meeting.other_key c.args.meeting.one c.args.meeting.other
    (λ e. absurd (omega (arith, e, c.requires.less))) c.requires.one c.requires.other _ _ c.take_out.ensures.ends c.take_out-2.ensures.ends _
    (joined_ends c.args.meeting.one_ends c.args.meeting.other_ends c.args.id c.args.meeting.one c.args.meeting.other c.joined.result c.joined.ensures).0

pub put-requires-clause-last : goal.put-requires-clause-last
put-requires-clause-last c =
    freed c.args.nodes.now c.args.self.now c.requires.net c.args.meeting.key c.args.meeting.other_key c.args.meeting.one c.args.meeting.other
    (λ e. absurd (omega (arith, e, c.requires.less))) c.requires.one c.requires.other _ _ c.take_out.ensures.ends c.take_out-2.ensures.ends _
    (joined_ends c.args.meeting.one_ends c.args.meeting.other_ends c.args.id c.args.meeting.one c.args.meeting.other c.joined.result c.joined.ensures).1

pub put-requires-clause-apart : goal.put-requires-clause-apart
put-requires-clause-apart c =
    joined_apart c.args.nodes.now c.args.self.now c.requires.net c.args.meeting.key c.args.meeting.other_key c.args.meeting.one c.args.meeting.other
    (λ e. absurd (omega (arith, e, c.requires.less))) c.requires.one c.requires.other c.args.meeting.one_ends c.args.meeting.other_ends c.args.id _ c.joined.ensures
