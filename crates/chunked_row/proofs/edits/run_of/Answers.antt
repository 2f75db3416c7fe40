use Rattle.std.proofs.Common.{◌≡◌, ◌+◌, ◌-◌, ◌<◌, [], take, length, get_or, sym, ap, ◌∙◌, arith}
use Rattle.std.specs.List.{concat}
use Rattle.std.proofs.lemmas.List.{take_rest, length-drop, get_or-drop}
use Rattle.chunked_row.proofs.Joined.{joined_within, joined_get}
use Rattle.chunked_row.proofs.edits.run_of.Goals as goal

pub returns-clause-within : goal.returns-clause-within
returns-clause-within c =
    let xss = c.args.chunks.now in
    let s = c.spot_of-spot.result in
    let e = c.spot_of-spot.ensures in
    let read = c.as_slice.result.now in
    let here = ap length (c.as_slice.ensures ∙ c.get.ensures) in
    let behind : 0 < s.index = e.behind (omega arith) in
    let rest = ap length (take_rest read (s.index - 1)) in
    omega (arith, rest, length-drop (s.index - 1) read, here, behind, e.before, e.index, joined_within xss s.chunk e.chunk)

pub returns-clause-numbers : goal.returns-clause-numbers
returns-clause-numbers c = λ k d l.
    let xss = c.args.chunks.now in
    let s = c.spot_of-spot.result in
    let e = c.spot_of-spot.ensures in
    let read = c.as_slice.result.now in
    let here = c.as_slice.ensures ∙ c.get.ensures in
    let i = s.index - 1 in
    let behind : 0 < s.index = e.behind (omega arith) in
    let rest = ap length (take_rest read i) in
    let short : i + k < length (get_or xss s.chunk []) = omega (arith, l, rest, length-drop i read, ap length here) in
    let there : length (concat (take s.chunk xss)) + (i + k) ≡ c.args.place + k = omega (arith, e.before, behind) in
    ap (λ zs. get_or zs k d) (take_rest read i) ∙ get_or-drop i read k d ∙ ap (λ zs. get_or zs (i + k) d) here
    ∙ sym (joined_get xss s.chunk (i + k) d e.chunk short) ∙ ap (λ j. get_or (concat xss) j d) there
