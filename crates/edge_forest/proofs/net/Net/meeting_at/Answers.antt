use Rattle.std.proofs.Common.{arith}
use Rattle.edge_forest.proofs.Nets.{row_of_end, meeting_of, keys_less}
use Rattle.edge_forest.proofs.net.Net.meeting_at.Goals as goal

pub index-requires : goal.index-requires
index-requires c =
    omega (
      arith,
      row_of_end c.requires.net.0 c.args.self.now c.requires.net.1 _ c.as_slice.ensures.value c.in_ok-x.x c.in_ok-x.i c.in_ok-x.ensures.key,
      c.args.self.now.rows.ok.0,
    )

pub index-requires-2 : goal.index-requires-2
index-requires-2 c =
    omega (
      arith,
      row_of_end c.requires.net.0 c.args.self.now c.requires.net.1 _ c.as_slice-2.ensures.value c.in_ok-y.y c.in_ok-y.j c.in_ok-y.ensures.key,
      c.args.self.now.rows.ok.0,
    )

pub returns-then-i-j : goal.returns-then-i-j
returns-then-i-j c =
    meeting_of c.requires.net.0 c.args.self.now c.args.places.now c.requires.net.1 _ _ c.as_slice.ensures.value c.as_slice-2.ensures.value
    c.in_ok-x.x c.in_ok-x.i c.in_ok-y.y c.in_ok-y.j _ _ c.in_ok-x.ensures c.in_ok-y.ensures c.in_ok-one.one c.in_ok-other.other
    _ _ c.index.ensures c.in_ok-one.was c.index-2.ensures c.in_ok-other.was c.if-i-j.true

pub returns-else-i-j : goal.returns-else-i-j
returns-else-i-j c =
    rw c.exchanged.ensures (meeting_of c.requires.net.0 c.args.self.now c.args.places.now c.requires.net.1 _ _ c.as_slice-2.ensures.value c.as_slice.ensures.value
    c.in_ok-y.y c.in_ok-y.j c.in_ok-x.x c.in_ok-x.i _ _ c.in_ok-y.ensures c.in_ok-x.ensures c.in_ok-other.other c.in_ok-one.one
    _ _ c.index-2.ensures c.in_ok-other.was c.index.ensures c.in_ok-one.was
    (keys_less c.in_ok-x.i c.in_ok-y.j c.if-i-j.false c.in_ok-y.ensures.other))
