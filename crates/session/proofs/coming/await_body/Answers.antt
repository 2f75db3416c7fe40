-- The head stays, and behind it stands the body, or less of it.
use Rattle.std.proofs.Common.{◌+◌, ◌<◌, ◌≤◌, inr, sym, ap, subst, refl, length, arith}
use Rattle.session.specs.Items.{IsPart}
use Rattle.session.proofs.Fronts.{head_received, received_more, received_nothing, whole_begins, whole_lacks}
use Rattle.session.proofs.coming.await_body.Goals as goal

pub awaiting-init : goal.awaiting-init
awaiting-init g c = record {
  head = c.requires.head;
  bytes = received_nothing (g.L.Link.taken c.args.link.now) c.args.room.now;
  end = c.requires.open;
  faults = refl;
  told = refl;
  put_faults = refl;
}

pub returns-in-Ok-eq0-clause-bytes : goal.returns-in-Ok-eq0-clause-bytes
returns-in-Ok-eq0-clause-bytes g c =
    received_more (g.L.Link.taken c.args.link.now) (g.L.Link.taken c.awaiting.link) (g.L.Link.taken c.fill.new.link)
    c.args.room.now c.awaiting.room c.fill.new.self c.awaiting.invariant.bytes c.in-Ok-eq0.ensures.bytes

pub returns-in-Ok-eq0-clause-exact : goal.returns-in-Ok-eq0-clause-exact
returns-in-Ok-eq0-clause-exact g c =
    let next = c.args.request in
    let head = head_received (g.L.Link.taken c.awaiting.link) (g.L.Link.taken c.fill.new.link) c.awaiting.room c.fill.new.self next c.in-Ok-eq0.ensures.bytes c.awaiting.invariant.head in
    let few : length c.fill.new.self < next.head + next.body = omega (arith, c.in-Ok-eq0.ensures.count, c.awaiting-test.true, ap length c.bytes.ensures) in
    inr (whole_lacks c.fill.new.self next.head next.body next.close next.asked head few)

pub returns-in-Err-clause-exact : goal.returns-in-Err-clause-exact
returns-in-Err-clause-exact g c =
    let next = c.args.request in
    let few : length c.awaiting.room < next.head + next.body = omega (arith, c.awaiting-test.true, ap length c.bytes.ensures) in
    subst IsPart (sym c.in-Err.ensures.failed.1) (inr (whole_lacks c.awaiting.room next.head next.body next.close next.asked c.awaiting.invariant.head few))

pub returns-clause-exact : goal.returns-clause-exact
returns-clause-exact g c =
    let next = c.args.request in
    let fits : next.head + next.body ≤ length c.awaiting.room = omega (arith, c.awaiting-test.false, ap length c.bytes.ensures) in
    whole_begins c.awaiting.room next.head next.body next.close next.asked c.awaiting.invariant.head fits
