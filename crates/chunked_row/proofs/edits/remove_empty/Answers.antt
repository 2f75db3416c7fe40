use Rattle.std.proofs.Common.{All, length, sym, ap, ◌∙◌, subst, arith}
use Rattle.std.specs.List.{concat}
use Rattle.std.proofs.lemmas.List.{nil_from_length}
use Rattle.chunked_row.specs.Chunks.{HasSome}
use Rattle.chunked_row.proofs.Joined.{joined_without, full_remove, full_with}
use Rattle.chunked_row.proofs.edits.remove_empty.Goals as goal

pub returns-then-len-eq0-clause-same : goal.returns-then-len-eq0-clause-same
returns-then-len-eq0-clause-same c =
    let xss = c.args.chunks.now in
    let none = nil_from_length c.get.result.now (sym c.len.ensures ∙ c.if-len-eq0.true) in
    ap concat c.remove.ensures ∙ joined_without xss c.args.chunk c.requires.within (sym c.get.ensures ∙ none)

pub returns-then-len-eq0-clause-full : goal.returns-then-len-eq0-clause-full
returns-then-len-eq0-clause-full c =
    subst (λ zss. All HasSome zss) (sym c.remove.ensures) (full_remove c.args.chunks.now c.args.chunk c.requires.before c.requires.behind)

pub returns-else-len-eq0-clause-full : goal.returns-else-len-eq0-clause-full
returns-else-len-eq0-clause-full c =
    let here = ap length c.get.ensures in
    full_with c.args.chunks.now c.args.chunk c.requires.within c.requires.before c.requires.behind (omega (arith, here, c.len.ensures, c.if-len-eq0.false))
