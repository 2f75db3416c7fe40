use Rattle.std.proofs.Common.{◌≡◌, ◌+◌, ◌<◌, ◌≤◌, ◌^◌, [], length, get_or, sym, ap, ◌∙◌, subst, arith}
use Rattle.std.specs.List.{concat}
use Rattle.std.proofs.lemmas.List.Edits.{length-insert}
use Rattle.chunked_row.proofs.Joined.{chunk_at}
use Rattle.chunked_row.proofs.Places.{starts_size, starts_few, starts_raised}
use Rattle.chunked_row.proofs.chunks.Chunks.insert_in.Goals as goal

pub move_up-requires-clause-within : goal.move_up-requires-clause-within
move_up-requires-clause-within c = omega (arith, starts_size c.self.inside.starts.items c.self.inside.chunks.items c.self.invariant, ap length c.self.view_is, c.requires.chunk)

pub move_up-requires-clause-few : goal.move_up-requires-clause-few
move_up-requires-clause-few c =
    let k = c.args.chunk in
    let short = subst (λ zss. k < length zss) (sym c.self.view_is) c.requires.chunk in
    let few = subst (λ zss. length (concat zss) + 1 < 2 ^ 64) (sym c.self.view_is) c.requires.few in
    starts_few c.self.inside.starts.items c.self.inside.chunks.items k c.self.invariant few

pub invariant_of-self-2 : goal.invariant_of-self-2
invariant_of-self-2 c =
    let xss = c.self.inside.chunks.items in
    let k = c.args.chunk in
    let read = c.index_mut.result.now in
    let short = subst (λ zss. k < length zss) (sym c.self.view_is) c.requires.chunk in
    let within = subst (λ zss. c.args.index ≤ length (get_or zss k [])) (sym c.self.view_is) c.requires.index in
    let here = ap length (chunk_at xss k read short c.index_mut.ensures.value) in
    let more : length c.insert.new.self ≡ length (get_or xss k []) + 1
    = omega (arith, here, ap length c.in_ok-insert.ensures, length-insert read c.args.index c.args.number (omega (arith, here, within))) in
    c.move_up.ensures ∙ starts_raised c.self.inside.starts.items xss k c.insert.new.self c.self.invariant short more
