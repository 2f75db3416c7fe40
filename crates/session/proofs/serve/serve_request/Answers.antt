-- A request is answered.
use Rattle.std.proofs.Common.{◌≡◌, ◌∙◌, ◌++◌, ℕ, Bool, false, List, sym, ap, subst, take, drop, append_assoc}
use Rattle.httparse.specs.Grammar.{print_request}
use Rattle.http_face.specs.declared.request.Route.{Route}
use Rattle.http_face.specs.Routes.{route_of}
use Rattle.session.specs.Items.{Request, Route as RouteAsked}
use Rattle.session.specs.Turns.{IsTurned}
use Rattle.session.specs.Progress.{Exchange}
use Rattle.session.proofs.Ranges.{take_front, drop_front}
use Rattle.session.proofs.Edits.{if_ok}
use Rattle.session.proofs.Exchanges.{exchange_of, kept_number}
use Rattle.session.proofs.serve.serve_request.Goals as goal

pub returns-clause-exchange : goal.returns-clause-exchange
returns-clause-exchange g c =
    let S = g.V.Versions.seen in
    let b = c.requires.request in
    let size = c.args.due.request.head in
    let body = c.args.due.request.body in
    let held = c.args.fittings.now.room in
    let behind : drop size held ≡ b.body ++ b.rest =
    ap (λ xs. drop size xs) b.bytes_are ∙ ap (λ n. drop n (print_request b.head ++ (b.body ++ b.rest))) b.head_size
    ∙ drop_front (print_request b.head) (b.body ++ b.rest) in
    let middle : take body (drop size held) ≡ b.body =
    ap (take body) behind ∙ ap (λ n. take n (b.body ++ b.rest)) b.body_size_is ∙ take_front b.body b.rest in
    let left : c.pass-2.new.self ≡ b.rest =
    c.pass-2.ensures ∙ ap (drop body) (c.pass.ensures ∙ ap (drop size) c.answer-turned.ensures.room ∙ behind)
    ∙ ap (λ n. drop n (b.body ++ b.rest)) b.body_size_is ∙ drop_front b.body b.rest in
    let P : Bool → Type 0 = λ closing. Exchange (S c.args.versions.now) (S c.answer-turned.new.versions) c.args.talk.now.pin c.answer-turned.new.pin held c.pass-2.new.self
    c.args.talk.now.log c.respond.new.log (g.L.Link.told c.args.link.now) (g.L.Link.told c.respond.new.link) false closing c.args.due.ends c.respond.result in
    subst P (sym b.closing) (exchange_of (S c.args.versions.now) (S c.answer-turned.new.versions) c.args.talk.now.pin c.answer-turned.new.pin held c.pass-2.new.self
    c.args.talk.now.log c.respond.new.log (g.L.Link.told c.args.link.now) (g.L.Link.told c.respond.new.link)
    (Request b.head b.body) c.args.due.ends c.answer-turned.result c.respond.result
    (b.bytes_are ∙ sym (append_assoc (print_request b.head) b.body b.rest) ∙ ap (λ xs. (print_request b.head ++ b.body) ++ xs) (sym left))
    b.request
    (if_ok c.answer-turned.result _ _
    (λ t is.
    let Q : Route → List ℕ → Type 0 = λ asked content. IsTurned (S c.args.versions.now) (S c.answer-turned.new.versions)
    c.args.talk.now.pin.number c.answer-turned.new.pin.number (RouteAsked asked content) c.args.due.ends t in
    let route = route_of b.head.method b.head.target in
    subst (Q route) middle (subst (λ asked. Q asked (take body (drop size held))) b.asks is))
    c.answer-turned.ensures.turned)
    (kept_number c.args.talk.now.pin c.answer-turned.new.pin c.answer-turned.result c.answer-turned.ensures.kept)
    c.respond.ensures.put c.respond.ensures.numbers c.respond.ensures.rows
    c.answer-turned.ensures.pin c.answer-turned.ensures.continues c.answer-turned.ensures.counts c.answer-turned.ensures.told)
