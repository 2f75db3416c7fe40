use Rattle.std.proofs.Common.{◌≡◌, ◌+◌, ◌-◌, ◌<◌, take, length, ap, ◌∙◌, arith}
use Rattle.std.specs.List.{concat, remove}
use Rattle.chunked_row.proofs.Joined.{joined_remove}
use Rattle.chunked_row.proofs.edits.remove_at.Goals as goal

pub returns-clause-removed : goal.returns-clause-removed
returns-clause-removed c =
    let xss = c.args.chunks.now in
    let s = c.spot_of-spot.result in
    let e = c.spot_of-spot.ensures in
    let behind : 0 < s.index = e.behind (omega arith) in
    let there : length (concat (take s.chunk xss)) + (s.index - 1) ≡ c.args.place = omega (arith, e.before, behind) in
    c.remove_empty.ensures.same
    ∙ ap concat c.remove_in.ensures
    ∙ joined_remove xss s.chunk (s.index - 1) e.chunk (omega (arith, e.index, behind))
    ∙ ap (remove (concat xss)) there
