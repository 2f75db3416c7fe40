-- One more link is counted.
use Rattle.std.proofs.Common.{arith}
use Rattle.face_merge.specs.declared.links.Link.{Link}
use Rattle.face_merge.specs.Merging.{is_gained}
use Rattle.face_merge.specs.Running.{number_in, state_of}
use Rattle.face_merge.proofs.Below.{bool_small, count_more}
use Rattle.face_merge.proofs.merging.Merging.gained.Goals as goal

pub loop-link-preserved : goal.loop-link-preserved
loop-link-preserved c =
    let d : Link = record { slot = 0; length = 0 } in
    let r = c.args.self.now in
    record {
      count = count_more (λ (link : Link). is_gained (state_of r) (number_in r c.args.pair.now.winner) (number_in r link.slot)) c.args.links.now c.loop-link.link-index d
          c.loop-link.gained c.from-gained.result c.gains.result c.loop-link-test.true c.loop-link.invariant.count c.gains.ensures c.from-gained.ensures;
      few = omega (arith, c.loop-link.invariant.few, c.from-gained.ensures, bool_small c.gains.result);
    }
