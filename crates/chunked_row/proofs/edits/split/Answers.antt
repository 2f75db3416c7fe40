use Rattle.std.proofs.Common.{◌/◌, is_ok, ap, arith, length}
use Rattle.chunked_row.proofs.Joined.{joined_cut_if, full_cut_if}
use Rattle.chunked_row.proofs.edits.split.Goals as goal

pub returns-clause-same : goal.returns-clause-same
returns-clause-same c = joined_cut_if (is_ok c.cut.result) c.args.chunks.now c.args.chunk (c.len-half.result / 2) c.cut.new.self c.requires.within c.cut.ensures

pub returns-clause-full : goal.returns-clause-full
returns-clause-full c =
    let long = ap length c.get.ensures in
    full_cut_if (is_ok c.cut.result) c.args.chunks.now c.args.chunk (c.len-half.result / 2) c.cut.new.self c.requires.within
    (omega (arith, long, c.len-half.ensures, c.requires.long)) (omega (arith, long, c.len-half.ensures, c.requires.long)) c.cut.ensures c.requires.full
