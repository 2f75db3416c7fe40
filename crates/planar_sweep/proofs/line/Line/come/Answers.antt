-- The row has one number more, which is that of a segment.
use Rattle.std.proofs.Common.{◌<◌, ℕ, List, length, All, sym, ◌∙◌, subst, arith}
use Rattle.planar_sweep.proofs.Nodes.{known_more}
use Rattle.planar_sweep.proofs.line.Line.come.Goals as goal

pub returns-clause-line : goal.returns-clause-line
returns-clause-line c =
    let count = length c.args.segs.now in
    let line = c.requires.line in
    let put = c.insert_below.ensures.placed in
    record {
      count = c.insert_below.ensures.count ∙ line.count;
      known = subst (λ (row : List ℕ). All (λ n. n < count) row) (sym put.3) (known_more count c.args.self.now.row.row put.0 c.args.number put.1 line.known c.requires.number);
      sample = c.in_ok-come.ensures;
      last = omega (arith, c.requires.number);
    }
