use Rattle.std.proofs.Common.{sym, ◌∙◌, codes}
use Rattle.httparse.specs.Spans.{header_bytes}
use Rattle.http_face.specs.Heads.{is_named}
use Rattle.http_face.proofs.Chains.{second_length}
use Rattle.http_face.proofs.framing.body_of_lengths.Goals as goal

pub returns-then-is_some : goal.returns-then-is_some
returns-then-is_some c =
    sym (second_length (is_named (codes "content-length")) (header_bytes c.args.bytes.now) (λ v. v.now) c.args.headers.now c.loop-header.header-index _
    c.loop-header.found c.loop-header-test.true c.loop-header.invariant (sym c.is_some.ensures ∙ c.if-is_some.true) (sym c.is_named.ensures ∙ c.if-is_named.true))
