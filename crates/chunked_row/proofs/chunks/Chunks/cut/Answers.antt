use Rattle.std.proofs.Common.{add-one, ◌≡◌, ◌+◌, ◌<◌, ◌≤◌, [], length, get_or, take, drop, set, sym, ap, ◌∙◌, subst, arith}
use Rattle.std.specs.List.{concat, insert}
use Rattle.std.proofs.lemmas.List.{get_or_default, length-drop, length-take-le}
use Rattle.chunked_row.specs.Chunks.{starts_from}
use Rattle.chunked_row.proofs.Joined.{chunk_at, chunk_before, joined_within}
use Rattle.chunked_row.proofs.Places.{starts_size, start_at, starts_cut}
use Rattle.chunked_row.proofs.chunks.Chunks.cut.Goals as goal

pub index-requires-2 : goal.index-requires-2
index-requires-2 c = omega (arith, c.reserve.ensures.len, c.self.inside.starts.ok.0, starts_size c.self.inside.starts.items c.self.inside.chunks.items c.self.invariant, ap length c.self.view_is, c.requires.chunk)

pub insert-requires-2 : goal.insert-requires-2
insert-requires-2 c = omega (arith, c.reserve.ensures.len, c.self.inside.starts.ok.0, starts_size c.self.inside.starts.items c.self.inside.chunks.items c.self.invariant, ap length c.self.view_is, c.requires.chunk)

pub overflow_add-index : goal.overflow_add-index
overflow_add-index c =
    let xss = c.args.self.now in
    let k = c.args.chunk in
    let are = c.reserve.ensures.items ∙ c.self.invariant ∙ ap (starts_from 0) c.self.view_is in
    let at = c.index-2.ensures ∙ start_at c.reserve.new.self.items xss k c.index-2.result.now are c.requires.chunk in
    omega (arith, at, c.requires.index, c.requires.few, joined_within xss k c.requires.chunk)

pub invariant_of-self-2 : goal.invariant_of-self-2
invariant_of-self-2 c =
    let xss = c.self.inside.chunks.items in
    let k = c.args.chunk in
    let i = c.args.index in
    let yss = c.insert.new.self.items in
    let starts = c.reserve.new.self.items in
    let are = c.reserve.ensures.items ∙ c.self.invariant in
    let short = subst (λ zss. k < length zss) (sym c.self.view_is) c.requires.chunk in
    let within = subst (λ zss. i ≤ length (get_or zss k [])) (sym c.self.view_is) c.requires.index in
    let here = get_or xss k [] in
    let upper = drop i here in
    let read = c.index_mut.result.now in
    let more : yss ≡ insert xss (k + 1) upper = c.in_ok-insert.ensures.items ∙ ap (λ zs. insert xss (k + 1) zs) (c.in_ok-upper.ensures ∙ ap (drop i) (chunk_at xss k c.index.result.now short c.index.ensures)) in
    let same : read ≡ here = c.index_mut.ensures.value ∙ ap (λ zss. get_or zss k read) (more ∙ ap (λ j. insert xss j upper) (add-one k)) ∙ chunk_before xss k upper read short ∙ get_or_default xss k read [] short in
    let kept = c.truncate.ensures ∙ ap (take i) same in
    let parts : length here ≡ length c.truncate.new.self + length upper = omega (arith, ap length kept, length-take-le i here within, length-drop i here, within) in
    let at = c.index-2.ensures ∙ start_at starts xss k c.index-2.result.now are short in
    let start : c.index-2.result.now + i ≡ length (concat (take k xss)) + length c.truncate.new.self = omega (arith, at, ap length kept, length-take-le i here within) in
    c.in_ok-insert-2.ensures.items
    ∙ starts_cut starts xss k (c.index-2.result.now + i) c.truncate.new.self upper are short parts start
    ∙ ap (λ zss. starts_from 0 (set zss k c.truncate.new.self)) (sym more)
