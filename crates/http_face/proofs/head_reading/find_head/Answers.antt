use Rattle.std.proofs.Common.{◌≤◌, Err, inr, drop, length, refl, ap, subst, arith}
use Rattle.httparse.specs.Grammar.{ReadsRequest, print_request}
use Rattle.http_face.proofs.HeadLaws.{starts_front, found_whole, refused}
use Rattle.http_face.proofs.head_reading.find_head.Goals as goal

pub returns-in-Ok-Complete : goal.returns-in-Ok-Complete
returns-in-Ok-Complete c =
    let at = rw c.in-Ok-Complete.field-0-is at c.in-Ok-Complete.ensures.complete in
    let within = rw c.in-Ok-Complete.field-0-is at c.in-Ok-Complete.ensures.within in
    let front = c.front_of-front.ensures.front in
    let reads = at.1.reads in
    let short : length (print_request at.0) ≤ 8192 = omega (arith, at.1.len, within.section.len_fits, c.front_of-front.ensures.short) in
    let after = drop c.in-Ok-Complete.spans.len c.front_of-front.result.now in
    let starts = starts_front 8192 c.args.bytes.now after at.0 (subst (λ b. ReadsRequest b at.0 after) front reads) short in
    found_whole c.args.bytes.now at.0 c.whole_head.result starts (c.whole_head.ensures at.0 at.1)

pub returns-in-Err : goal.returns-in-Err
returns-in-Err c =
    let front = c.front_of-front.ensures.front in
    let never = rw front at c.in-Err.ensures.invalid in
    let many = rw front at c.in-Err.ensures.too_many in
    let over = rw front at c.in-Err.ensures.no_room in
    inr (refl, refused c.args.bytes.now c.in-Err.field-0 never (λ e. many (ap (λ x. Err x) e)) over)
