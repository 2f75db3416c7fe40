use Rattle.std.proofs.Common.{◌≡◌, ℕ, ◌+◌, ◌-◌, ◌<◌, ◌≤◌, true, false, [], List, All, length, get_or, sym, ap, ◌∙◌, subst, arith}
use Rattle.std.specs.List.{concat}
use Rattle.chunked_row.proofs.Joined.{joined_within}
use Rattle.chunked_row.proofs.Turns.{All-chunks, before_turn, at_turn}
use Rattle.chunked_row.proofs.search.place_in.Goals as goal

pub chunks_before-before-requires-clause-callable : goal.chunks_before-before-requires-clause-callable
chunks_before-before-requires-clause-callable g c = All-chunks (goal.P-pre g c.args.passes.now) c.args.chunks.now c.requires.callable

pub index_of-index-requires-clause-callable : goal.index_of-index-requires-clause-callable
index_of-index-requires-clause-callable g c =
    let xss = c.args.chunks.now in
    let short : c.chunks_before-before.result - 1 < length xss = omega (arith, c.chunks_before-before.ensures.within, c.if-before-eq0.false) in
    let P = goal.P-pre g c.args.passes.now in
    subst (All P) (sym (c.as_slice.ensures ∙ c.get.ensures)) (All-chunks P xss c.requires.callable (c.chunks_before-before.result - 1) [] short)

pub overflow_add-result : goal.overflow_add-result
overflow_add-result g c =
    let xss = c.args.chunks.now in
    let k = c.chunks_before-before.result - 1 in
    let short : k < length xss = omega (arith, c.chunks_before-before.ensures.within, c.if-before-eq0.false) in
    let here = ap length (c.as_slice.ensures ∙ c.get.ensures) in
    omega (arith, here, c.start.ensures, c.index_of-index.ensures.within, joined_within xss k short, c.requires.few)

pub returns-clause-within : goal.returns-clause-within
returns-clause-within g c =
    let xss = c.args.chunks.now in
    let k = c.chunks_before-before.result - 1 in
    let short : k < length xss = omega (arith, c.chunks_before-before.ensures.within, c.if-before-eq0.false) in
    let here = ap length (c.as_slice.ensures ∙ c.get.ensures) in
    omega (arith, here, c.start.ensures, c.index_of-index.ensures.within, joined_within xss k short)

pub returns-clause-passed : goal.returns-clause-passed
returns-clause-passed g c = λ some.
    let xss = c.args.chunks.now in
    let b = c.chunks_before-before.result in
    let k = b - 1 in
    let i = c.index_of-index.result in
    let short : k < length xss = omega (arith, c.chunks_before-before.ensures.within, c.if-before-eq0.false) in
    let here = c.as_slice.ensures ∙ c.get.ensures in
    let within : i ≤ length (get_or xss k []) = omega (arith, ap length here, c.index_of-index.ensures.within) in
    let P : ℕ → Type 0 = λ n. goal.P-post g c.args.passes.now n true in
    subst (λ n. P (get_or (concat xss) ((n + i) - 1) 0)) (sym c.start.ensures)
    (before_turn xss k i c.requires.full short c.index_of-index.ensures.from within P
    (c.chunks_before-before.ensures.passed (omega (arith, c.if-before-eq0.false)))
    (λ l. subst (λ (zs : List ℕ). P (get_or zs (i - 1) 0)) here (c.index_of-index.ensures.passed l)))

pub returns-clause-failed : goal.returns-clause-failed
returns-clause-failed g c = λ less.
    let xss = c.args.chunks.now in
    let b = c.chunks_before-before.result in
    let k = b - 1 in
    let i = c.index_of-index.result in
    let short : k < length xss = omega (arith, c.chunks_before-before.ensures.within, c.if-before-eq0.false) in
    let here = c.as_slice.ensures ∙ c.get.ensures in
    let within : i ≤ length (get_or xss k []) = omega (arith, ap length here, c.index_of-index.ensures.within) in
    let next : b ≡ k + 1 = omega (arith, c.if-before-eq0.false) in
    let P : ℕ → Type 0 = λ n. goal.P-post g c.args.passes.now n false in
    let failed = subst (λ n. n < length xss → P (get_or (get_or xss n []) 0 0)) next c.chunks_before-before.ensures.failed in
    subst (λ n. P (get_or (concat xss) (n + i) 0)) (sym c.start.ensures)
    (at_turn xss k i c.requires.full short c.index_of-index.ensures.from within P
    (λ l. subst (λ (zs : List ℕ). P (get_or zs i 0)) here (c.index_of-index.ensures.failed (omega (arith, l, ap length here))))
    failed (omega (arith, less, c.start.ensures)))
