use Rattle.std.proofs.Common.{ap, length, arith}
use Rattle.http_face.proofs.ReplyLines.{head_text}
use Rattle.http_face.proofs.reply.reply_head.Goals as goal

pub returns-clause-text : goal.returns-clause-text
returns-clause-text c =
    rw (
      c.push-9.ensures.text,
      c.push_number-3.ensures.text,
      c.push-8.ensures.text,
      c.push-7.ensures.text,
      c.push-6.ensures.text,
      c.push-5.ensures.text,
      c.push_number-2.ensures.text,
      c.push-4.ensures.text,
      c.push-3.ensures.text,
      c.push-2.ensures.text,
      c.push_number.ensures.text,
      c.push.ensures.text,
      c.new-head.ensures,
      c.from.ensures,
      c.as_bytes.ensures.value,
      c.reason_of.ensures.text,
      c.as_bytes-2.ensures.value,
      c.allow_line.ensures.text,
      c.as_bytes-3.ensures.value,
      c.close_line.ensures.text,
    )
    (head_text _ _ _ _ _ _)

pub returns-clause-short : goal.returns-clause-short
returns-clause-short c =
    omega (arith, ap length c.new-head.ensures)
