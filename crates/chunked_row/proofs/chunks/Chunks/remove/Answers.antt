use Rattle.std.proofs.Common.{◌≡◌, ◌<◌, [], length, get_or, sym, ap, ◌∙◌, subst, arith}
use Rattle.chunked_row.specs.Chunks.{starts_from}
use Rattle.chunked_row.proofs.Places.{starts_size, starts_without}
use Rattle.chunked_row.proofs.chunks.Chunks.remove.Goals as goal

pub remove-requires-2 : goal.remove-requires-2
remove-requires-2 c = omega (arith, c.self.inside.starts.ok.0, starts_size c.self.inside.starts.items c.self.inside.chunks.items c.self.invariant, ap length c.self.view_is, c.requires.chunk)

pub invariant_of-self : goal.invariant_of-self
invariant_of-self c =
    let k = c.args.chunk in
    let short = subst (λ zss. k < length zss) (sym c.self.view_is) c.requires.chunk in
    let empty = subst (λ zss. get_or zss k [] ≡ []) (sym c.self.view_is) c.requires.empty in
    c.remove-2.ensures.items ∙ starts_without c.self.inside.starts.items c.self.inside.chunks.items k c.self.invariant short empty ∙ sym (ap (starts_from 0) c.remove.ensures.items)
