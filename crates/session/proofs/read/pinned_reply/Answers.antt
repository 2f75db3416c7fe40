-- What is kept is the reply with the answer of the version that is pinned, and what is made of it may be kept.
use Rattle.std.proofs.Common.{rules, ◌≡◌, ap, ◌∙◌}
use Rattle.std.specs.Arc.{arc_value}
use Rattle.map_version.specs.declared.version.Version.{Version}
use Rattle.session.specs.Answers.{route_answer}
use Rattle.session.specs.Keeping.{IsKept}
use Rattle.session.proofs.Edits.{if_ok}
use Rattle.session.proofs.Known.{found_reply, reply_kept}
use Rattle.session.proofs.KeptLists.{all_left, all_left_and}
use Rattle.session.proofs.read.pinned_reply.Goals as goal

pub returns-in-Some-clause-exact : goal.returns-in-Some-clause-exact
returns-in-Some-clause-exact c history p all =
    found_reply history c.args.pin.now c.args.asked c.args.close c.args.kept.now c.in-Some.reply p all c.in-Some.ensures.found

pub returns-in-Some-clause-texts : goal.returns-in-Some-clause-texts
returns-in-Some-clause-texts c history p all = all_left (IsKept history) c.args.kept.now c.find_reply.new.kept c.find_reply.ensures.texts all

pub returns-clause-exact : goal.returns-clause-exact
returns-clause-exact c =
    let held : arc_value c.args.pin.now.held ≡ c.deref.result.now = search rules in
    let exact = ap (λ (v : Version). route_answer c.args.pin.now.number v.built c.args.asked) held ∙ c.in_ok-answer.ensures.exact in
    if_ok c.keep_reply.result _ _ (λ reply is history p all. (c.in_ok-answer.answer, exact, is ∙ c.reply_of.ensures.text)) c.keep_reply.ensures.reply

pub returns-clause-texts : goal.returns-clause-texts
returns-clause-texts c history p all =
    let held : arc_value c.args.pin.now.held ≡ c.deref.result.now = search rules in
    let exact = ap (λ (v : Version). route_answer c.args.pin.now.number v.built c.args.asked) held ∙ c.in_ok-answer.ensures.exact in
    all_left_and (IsKept history) c.find_reply.new.kept c.keep_reply.new.kept _ c.keep_reply.ensures.texts
    (all_left (IsKept history) c.args.kept.now c.find_reply.new.kept c.find_reply.ensures.texts all)
    (reply_kept history c.args.pin.now c.args.asked c.args.close c.in_ok-answer.answer _ p exact c.reply_of.ensures.text)

pub returns-in_err-answer-clause-texts : goal.returns-in_err-answer-clause-texts
returns-in_err-answer-clause-texts c history p all =
    all_left (IsKept history) c.args.kept.now c.find_reply.new.kept c.find_reply.ensures.texts all
