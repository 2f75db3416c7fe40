-- A connection from its first request to its end.
use Rattle.std.proofs.Common.{◌∙◌, ◌+◌, ◌++◌, ◌||◌, ◌==◌, ℕ, suc, true, false, add-one, List, Option, take, refl, sym, ap, subst, arith}
use Rattle.session.specs.declared.serve.TheConstants.{MAX_REQUESTS}
use Rattle.session.specs.Progress.{Progress, items_of}
use Rattle.session.proofs.Last.{last_conversation, front_of, front_any, front_more, at_fault, at_spent, at_closed, len_more, or_first, not_full}
use Rattle.session.specs.Reading.{Received}
use Rattle.session.proofs.Endings.{spent}
use Rattle.plain_io.specs.declared.connection.EndKind.TheVariants.{ReadFault, WriteFault, BadHead, Spent, Closed}
use Rattle.session.proofs.Served.{begun, goes_on, ends_open, fails_open}
use Rattle.session.proofs.serve.serve.Goals as goal

pub loop-count-init : goal.loop-count-init
loop-count-init g c = record {
  progress = begun (g.V.Versions.seen c.args.versions.now) (g.L.Link.taken c.args.link.now) (g.L.Link.told c.args.link.now) c.args.talk.now.pin c.args.fittings.now.room c.args.talk.now.log
      c.requires.pin c.requires.room c.requires.numbers c.requires.rows;
  unended = c.requires.«open»;
  take_faults = refl;
  texts = c.requires.texts;
  put_faults = refl;
}

pub serve_request-requires-clause-request : goal.serve_request-requires-clause-request
serve_request-requires-clause-request g c κs within = c.in-Request.ensures.exact

pub returns-in-End-clause-conversation : goal.returns-in-End-clause-conversation
returns-in-End-clause-conversation g c =
    ends_open c.args.talk.now.pin.number c.loop-count.count (g.V.Versions.seen c.args.versions.now) (g.V.Versions.seen c.loop-count.versions)
    (g.L.Link.taken c.args.link.now) (g.L.Link.taken c.loop-count.link) (g.L.Link.taken c.next_item.new.link)
    (g.L.Link.told c.args.link.now) (g.L.Link.told c.loop-count.link) (g.L.Link.told c.next_item.new.link)
    c.loop-count.talk.pin c.loop-count.fittings.room c.next_item.new.room c.loop-count.talk.log c.loop-count.invariant.progress c.in-End.ensures.bytes c.in-End.ensures.told
    _ _ c.loop-count-test.true (g.met.V.Versions.room c.loop-count.versions) c.in-End.ensures.exact c.in-End.ensures.end c.ended.ensures

pub returns-in-Failed-clause-conversation : goal.returns-in-Failed-clause-conversation
returns-in-Failed-clause-conversation g c =
    fails_open c.args.talk.now.pin.number c.loop-count.count (g.V.Versions.seen c.args.versions.now) (g.V.Versions.seen c.loop-count.versions)
    (g.L.Link.taken c.args.link.now) (g.L.Link.taken c.loop-count.link) (g.L.Link.taken c.next_item.new.link)
    (g.L.Link.told c.args.link.now) (g.L.Link.told c.loop-count.link) (g.L.Link.told c.next_item.new.link)
    c.loop-count.talk.pin c.loop-count.fittings.room c.next_item.new.room c.loop-count.talk.log c.loop-count.invariant.progress c.in-Failed.ensures.bytes c.in-Failed.ensures.told
    _ ReadFault c.loop-count-test.true (g.met.V.Versions.room c.loop-count.versions) c.in-Failed.ensures.exact c.in-Failed.ensures.end

pub returns-in-Ok-clause-conversation : goal.returns-in-Ok-clause-conversation
returns-in-Ok-clause-conversation g c =
    let S = g.V.Versions.seen in
    let taken = g.L.Link.taken in
    let told = g.L.Link.told in
    let noted = c.loop-count.talk.log in
    let R : Option (List ℕ) → Type 0 = λ o. Received (taken c.loop-count.link) o c.loop-count.fittings.room c.next_item.new.room in
    let more = subst R (sym c.in-Ok.ensures.taken) c.in-Fault.ensures.bytes in
    let P : Option (List ℕ) → Type 0 = λ o. Progress c.args.talk.now.pin.number (S c.args.versions.now) (S c.loop-count.versions) (taken c.args.link.now) (taken c.loop-count.link)
    (told c.args.link.now) o c.loop-count.talk.pin c.loop-count.fittings.room noted c.loop-count.count in
    let p = subst P (sym c.in-Fault.ensures.told) c.loop-count.invariant.progress in
    let e = c.in-Ok.ensures.exchange (S c.loop-count.versions) c.next_item.new.room p.holds c.in-Fault.ensures.exact in
    last_conversation c.args.talk.now.pin.number (S c.args.versions.now) (S c.loop-count.versions) (S c.loop-count.versions)
    (taken c.args.link.now) (taken c.loop-count.link) (taken c.serve_fault.new.link) (told c.args.link.now) (told c.next_item.new.link) (told c.serve_fault.new.link)
    c.loop-count.talk.pin c.serve_fault.new.talk.pin c.loop-count.fittings.room c.next_item.new.room c.next_item.new.room noted c.serve_fault.new.talk.log c.loop-count.count true true true _
    p more e (ap (λ b. b || (suc c.loop-count.count == MAX_REQUESTS)) e.closing_is) c.loop-count-test.true (g.met.V.Versions.room c.loop-count.versions) e.turned.reply e.put_is BadHead _
    (at_fault (items_of p.turns) e.item _ (p.written ++ e.turned.reply) _ (sym e.faulty_is) (sym e.closing_is))

pub returns-in-Err-clause-conversation : goal.returns-in-Err-clause-conversation
returns-in-Err-clause-conversation g c =
    let S = g.V.Versions.seen in
    let taken = g.L.Link.taken in
    let told = g.L.Link.told in
    let noted = c.loop-count.talk.log in
    let R : Option (List ℕ) → Type 0 = λ o. Received (taken c.loop-count.link) o c.loop-count.fittings.room c.next_item.new.room in
    let more = subst R (sym c.in-Err.ensures.taken) c.in-Fault.ensures.bytes in
    let P : Option (List ℕ) → Type 0 = λ o. Progress c.args.talk.now.pin.number (S c.args.versions.now) (S c.loop-count.versions) (taken c.args.link.now) (taken c.loop-count.link)
    (told c.args.link.now) o c.loop-count.talk.pin c.loop-count.fittings.room noted c.loop-count.count in
    let p = subst P (sym c.in-Fault.ensures.told) c.loop-count.invariant.progress in
    let e = c.in-Err.ensures.exchange (S c.loop-count.versions) c.next_item.new.room p.holds c.in-Fault.ensures.exact in
    let front = front_of (told c.next_item.new.link) (told c.serve_fault.new.link) e.turned.reply e.put_is in
    last_conversation c.args.talk.now.pin.number (S c.args.versions.now) (S c.loop-count.versions) (S c.loop-count.versions)
    (taken c.args.link.now) (taken c.loop-count.link) (taken c.serve_fault.new.link) (told c.args.link.now) (told c.next_item.new.link) (told c.serve_fault.new.link)
    c.loop-count.talk.pin c.serve_fault.new.talk.pin c.loop-count.fittings.room c.next_item.new.room c.next_item.new.room noted c.serve_fault.new.talk.log c.loop-count.count true true true _
    p more e (ap (λ b. b || (suc c.loop-count.count == MAX_REQUESTS)) e.closing_is) c.loop-count-test.true (g.met.V.Versions.room c.loop-count.versions) (take front.0 e.turned.reply) front.1 WriteFault _
    (front_more p.written e.turned.reply front.0)

pub returns-in_default-clause-conversation : goal.returns-in_default-clause-conversation
returns-in_default-clause-conversation g c =
    let S = g.V.Versions.seen in
    let taken = g.L.Link.taken in
    let told = g.L.Link.told in
    let noted = c.loop-count.talk.log in
    let R : Option (List ℕ) → Type 0 = λ o. Received (taken c.loop-count.link) o c.loop-count.fittings.room c.next_item.new.room in
    let more = subst R (sym c.serve_request.ensures.taken) c.in-Request.ensures.bytes in
    let P : Option (List ℕ) → Type 0 = λ o. Progress c.args.talk.now.pin.number (S c.args.versions.now) (S c.loop-count.versions) (taken c.args.link.now) (taken c.loop-count.link)
    (told c.args.link.now) o c.loop-count.talk.pin c.loop-count.fittings.room noted c.loop-count.count in
    let p = subst P (sym c.in-Request.ensures.told) c.loop-count.invariant.progress in
    let e = c.serve_request.ensures.exchange in
    let front = front_any (told c.next_item.new.link) (told c.serve_request.new.link) e.turned.reply c.serve_request.result e.put_is in
    last_conversation c.args.talk.now.pin.number (S c.args.versions.now) (S c.loop-count.versions) (S c.serve_request.new.versions)
    (taken c.args.link.now) (taken c.loop-count.link) (taken c.serve_request.new.link) (told c.args.link.now) (told c.next_item.new.link) (told c.serve_request.new.link)
    c.loop-count.talk.pin c.serve_request.new.talk.pin c.loop-count.fittings.room c.next_item.new.room c.serve_request.new.fittings.room noted c.serve_request.new.talk.log c.loop-count.count
    false c.in-Request.request.close c.is_final-ends.result c.serve_request.result p more e
    (c.is_final-ends.ensures ∙ ap (λ n. c.in-Request.request.close || (n == MAX_REQUESTS)) (add-one c.loop-count.count) ∙ ap (λ b. b || (suc c.loop-count.count == MAX_REQUESTS)) e.closing_is)
    c.loop-count-test.true (g.met.V.Versions.room c.serve_request.new.versions) (take front.0 e.turned.reply) front.1 WriteFault _ (front_more p.written e.turned.reply front.0)

pub returns-then-count-eq-MAX_REQUESTS-clause-conversation : goal.returns-then-count-eq-MAX_REQUESTS-clause-conversation
returns-then-count-eq-MAX_REQUESTS-clause-conversation g c =
    let S = g.V.Versions.seen in
    let taken = g.L.Link.taken in
    let told = g.L.Link.told in
    let noted = c.loop-count.talk.log in
    let R : Option (List ℕ) → Type 0 = λ o. Received (taken c.loop-count.link) o c.loop-count.fittings.room c.next_item.new.room in
    let more = subst R (sym c.in-Ok-serve_request.ensures.taken) c.in-Request.ensures.bytes in
    let P : Option (List ℕ) → Type 0 = λ o. Progress c.args.talk.now.pin.number (S c.args.versions.now) (S c.loop-count.versions) (taken c.args.link.now) (taken c.loop-count.link)
    (told c.args.link.now) o c.loop-count.talk.pin c.loop-count.fittings.room noted c.loop-count.count in
    let p = subst P (sym c.in-Request.ensures.told) c.loop-count.invariant.progress in
    let e = c.in-Ok-serve_request.ensures.exchange in
    last_conversation c.args.talk.now.pin.number (S c.args.versions.now) (S c.loop-count.versions) (S c.serve_request.new.versions)
    (taken c.args.link.now) (taken c.loop-count.link) (taken c.serve_request.new.link) (told c.args.link.now) (told c.next_item.new.link) (told c.serve_request.new.link)
    c.loop-count.talk.pin c.serve_request.new.talk.pin c.loop-count.fittings.room c.next_item.new.room c.serve_request.new.fittings.room noted c.serve_request.new.talk.log c.loop-count.count
    false c.in-Request.request.close c.is_final-ends.result _ p more e
    (c.is_final-ends.ensures ∙ ap (λ n. c.in-Request.request.close || (n == MAX_REQUESTS)) (add-one c.loop-count.count) ∙ ap (λ b. b || (suc c.loop-count.count == MAX_REQUESTS)) e.closing_is)
    c.loop-count-test.true (g.met.V.Versions.room c.serve_request.new.versions) e.turned.reply e.put_is Spent _
    (at_spent (items_of p.turns) e.item _ (p.written ++ e.turned.reply) _ p.going e.faulty_is (len_more p.turns e.item c.loop-count.count p.counted ∙ c.if-count-eq-MAX_REQUESTS.true))

pub returns-else-count-eq-MAX_REQUESTS-clause-conversation : goal.returns-else-count-eq-MAX_REQUESTS-clause-conversation
returns-else-count-eq-MAX_REQUESTS-clause-conversation g c =
    let S = g.V.Versions.seen in
    let taken = g.L.Link.taken in
    let told = g.L.Link.told in
    let noted = c.loop-count.talk.log in
    let R : Option (List ℕ) → Type 0 = λ o. Received (taken c.loop-count.link) o c.loop-count.fittings.room c.next_item.new.room in
    let more = subst R (sym c.in-Ok-serve_request.ensures.taken) c.in-Request.ensures.bytes in
    let P : Option (List ℕ) → Type 0 = λ o. Progress c.args.talk.now.pin.number (S c.args.versions.now) (S c.loop-count.versions) (taken c.args.link.now) (taken c.loop-count.link)
    (told c.args.link.now) o c.loop-count.talk.pin c.loop-count.fittings.room noted c.loop-count.count in
    let p = subst P (sym c.in-Request.ensures.told) c.loop-count.invariant.progress in
    let e = c.in-Ok-serve_request.ensures.exchange in
    last_conversation c.args.talk.now.pin.number (S c.args.versions.now) (S c.loop-count.versions) (S c.serve_request.new.versions)
    (taken c.args.link.now) (taken c.loop-count.link) (taken c.serve_request.new.link) (told c.args.link.now) (told c.next_item.new.link) (told c.serve_request.new.link)
    c.loop-count.talk.pin c.serve_request.new.talk.pin c.loop-count.fittings.room c.next_item.new.room c.serve_request.new.fittings.room noted c.serve_request.new.talk.log c.loop-count.count
    false c.in-Request.request.close c.is_final-ends.result _ p more e
    (c.is_final-ends.ensures ∙ ap (λ n. c.in-Request.request.close || (n == MAX_REQUESTS)) (add-one c.loop-count.count) ∙ ap (λ b. b || (suc c.loop-count.count == MAX_REQUESTS)) e.closing_is)
    c.loop-count-test.true (g.met.V.Versions.room c.serve_request.new.versions) e.turned.reply e.put_is Closed _
    (at_closed (items_of p.turns) e.item _ (p.written ++ e.turned.reply) _ p.going e.faulty_is
    (sym e.closing_is ∙ or_first c.in-Request.request.close ((c.loop-count.count + 1) == MAX_REQUESTS) (sym c.is_final-ends.ensures ∙ c.if-ends.true) (not_full (c.loop-count.count + 1) c.if-count-eq-MAX_REQUESTS.false))
    (ap (λ n. n == MAX_REQUESTS) (len_more p.turns e.item c.loop-count.count p.counted) ∙ (not_full (c.loop-count.count + 1) c.if-count-eq-MAX_REQUESTS.false)))

pub loop-count-preserved : goal.loop-count-preserved
loop-count-preserved g c =
    let S = g.V.Versions.seen in
    let taken = g.L.Link.taken in
    let told = g.L.Link.told in
    let R : Option (List ℕ) → Type 0 = λ o. Received (taken c.loop-count.link) o c.loop-count.fittings.room c.next_item.new.room in
    let more = subst R (sym c.in-Ok-serve_request.ensures.taken) c.in-Request.ensures.bytes in
    record {
      progress = goes_on c.args.talk.now.pin.number (S c.args.versions.now) (S c.loop-count.versions) (S c.serve_request.new.versions)
          (taken c.args.link.now) (taken c.loop-count.link) (taken c.serve_request.new.link)
          (told c.args.link.now) (told c.loop-count.link) (told c.next_item.new.link) (told c.serve_request.new.link)
          c.loop-count.talk.pin c.serve_request.new.talk.pin c.loop-count.fittings.room c.next_item.new.room c.serve_request.new.fittings.room c.loop-count.talk.log c.serve_request.new.talk.log
          c.loop-count.count c.in-Request.request.close c.is_final-ends.result _
          c.loop-count.invariant.progress more c.in-Request.ensures.told
          (c.in-Ok-serve_request.ensures.exchange) c.is_final-ends.ensures c.if-ends.false;
      unended = c.in-Ok-serve_request.ensures.end ∙ c.in-Request.ensures.end;
      take_faults = c.in-Ok-serve_request.ensures.take_faults ∙ c.in-Request.ensures.faults ∙ c.loop-count.invariant.take_faults;
      texts = c.in-Ok-serve_request.ensures.texts;
      put_faults = c.in-Ok-serve_request.ensures.put_faults ∙ c.in-Request.ensures.put_faults ∙ c.loop-count.invariant.put_faults;
    }

pub returns-clause-conversation : goal.returns-clause-conversation
returns-clause-conversation g c =
    let S = g.V.Versions.seen in
    spent c.args.talk.now.pin.number c.loop-count.count (S c.args.versions.now) (S c.loop-count.versions) (g.L.Link.taken c.args.link.now) (g.L.Link.taken c.loop-count.link)
    (g.L.Link.told c.args.link.now) (g.L.Link.told c.loop-count.link) c.loop-count.talk.pin c.loop-count.fittings.room c.loop-count.talk.log (g.L.Link.ended c.loop-count.link)
    c.loop-count.invariant.progress (g.met.V.Versions.room c.loop-count.versions) (omega arith)
