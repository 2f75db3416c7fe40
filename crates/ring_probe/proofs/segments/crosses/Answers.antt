use Rattle.std.proofs.Common.{◌≡◌, ◌∙◌, ◌||◌, ◌&&◌, int_le, int_lt, Bool, sym, ap, arith}
use Rattle.std.proofs.lemmas.Int.{to_z-of_z}
use Rattle.ring_probe.proofs.RowSegments.{crosses_after}
use Rattle.ring_probe.proofs.segments.crosses.Goals as goal

pub returns-then-forth : goal.returns-then-forth
returns-then-forth c =
    let s = c.args.s in
    let v = c.args.line in
    let forth : c.passes-forth.result ≡ (int_le s.a.x v && int_lt v s.b.x) = grind (arith, to_z-of_z, c.passes-forth.ensures) in
    let back : c.passes-back.result ≡ (int_le s.b.x v && int_lt v s.a.x) = grind (arith, to_z-of_z, c.passes-back.ensures) in
    c.if-forth.true ∙ ap (λ (b : Bool). b || c.passes-back.result) (sym c.if-forth.true) ∙ crosses_after v s c.passes-forth.result c.passes-back.result forth back

pub returns-else-forth : goal.returns-else-forth
returns-else-forth c =
    let s = c.args.s in
    let v = c.args.line in
    let forth : c.passes-forth.result ≡ (int_le s.a.x v && int_lt v s.b.x) = grind (arith, to_z-of_z, c.passes-forth.ensures) in
    let back : c.passes-back.result ≡ (int_le s.b.x v && int_lt v s.a.x) = grind (arith, to_z-of_z, c.passes-back.ensures) in
    sym (ap (λ (b : Bool). b || c.passes-back.result) c.if-forth.false) ∙ crosses_after v s c.passes-forth.result c.passes-back.result forth back
