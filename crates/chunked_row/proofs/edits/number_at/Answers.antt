use Rattle.std.proofs.Common.{◌≡◌, ◌+◌, ◌-◌, ◌<◌, take, length, get_or, sym, ap, ◌∙◌, arith}
use Rattle.std.specs.List.{concat}
use Rattle.chunked_row.proofs.Joined.{joined_get}
use Rattle.chunked_row.proofs.edits.number_at.Goals as goal

pub returns : goal.returns
returns c =
    let xss = c.args.chunks.now in
    let s = c.spot_of-spot.result in
    let e = c.spot_of-spot.ensures in
    let behind : 0 < s.index = e.behind (omega arith) in
    let there : length (concat (take s.chunk xss)) + (s.index - 1) ≡ c.args.place = omega (arith, e.before, behind) in
    c.at.ensures ∙ ap (λ zs. get_or zs (s.index - 1) 0) c.get.ensures
    ∙ sym (joined_get xss s.chunk (s.index - 1) 0 e.chunk (omega (arith, e.index, behind)))
    ∙ ap (λ j. get_or (concat xss) j 0) there
