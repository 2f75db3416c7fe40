use Rattle.std.proofs.Common.{◌≡◌, ◌+◌, ◌<◌, [], length, get_or, sym, ap, ◌∙◌, subst, arith}
use Rattle.std.proofs.lemmas.List.Edits.{length-remove}
use Rattle.chunked_row.proofs.Joined.{chunk_at}
use Rattle.chunked_row.proofs.Places.{starts_size, starts_some, starts_lowered}
use Rattle.chunked_row.proofs.chunks.Chunks.remove_in.Goals as goal

pub move_down-requires-clause-within : goal.move_down-requires-clause-within
move_down-requires-clause-within c = omega (arith, starts_size c.self.inside.starts.items c.self.inside.chunks.items c.self.invariant, ap length c.self.view_is, c.requires.chunk)

pub move_down-requires-clause-some : goal.move_down-requires-clause-some
move_down-requires-clause-some c =
    let k = c.args.chunk in
    let short = subst (λ zss. k < length zss) (sym c.self.view_is) c.requires.chunk in
    let some = subst (λ zss. c.args.index < length (get_or zss k [])) (sym c.self.view_is) c.requires.index in
    starts_some c.self.inside.starts.items c.self.inside.chunks.items k c.self.invariant short (omega (arith, some))

pub invariant_of-self : goal.invariant_of-self
invariant_of-self c =
    let xss = c.self.inside.chunks.items in
    let k = c.args.chunk in
    let read = c.index_mut.result.now in
    let short = subst (λ zss. k < length zss) (sym c.self.view_is) c.requires.chunk in
    let some = subst (λ zss. c.args.index < length (get_or zss k [])) (sym c.self.view_is) c.requires.index in
    let here = ap length (chunk_at xss k read short c.index_mut.ensures.value) in
    let less : length (get_or xss k []) ≡ length c.remove.new.self + 1 = omega (arith, here, ap length c.remove.ensures, length-remove read c.args.index (omega (arith, here, some)), some) in
    c.move_down.ensures ∙ starts_lowered c.self.inside.starts.items xss k c.remove.new.self c.self.invariant short less
