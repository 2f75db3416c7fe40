use Rattle.std.proofs.Common.{sym, ◌∙◌}
use Rattle.httparse.specs.Spans.{header_bytes}
use Rattle.http_face.proofs.Chains.{encoded, not_encoded}
use Rattle.http_face.proofs.framing.body_of.Goals as goal

pub returns-then-has_encoding : goal.returns-then-has_encoding
returns-then-has_encoding c =
    sym (encoded (header_bytes c.args.bytes.now) c.args.headers.now c.requires (sym c.has_encoding.ensures ∙ c.if-has_encoding.true))

pub returns : goal.returns
returns c =
    c.body_of_lengths.ensures
    ∙ sym (not_encoded (header_bytes c.args.bytes.now) c.args.headers.now c.requires (sym c.has_encoding.ensures ∙ c.if-has_encoding.false))
