-- Each edge has the box that it had, or one of its own.
use Rattle.std.proofs.Common.{length, sym, ◌∙◌, subst}
use Rattle.tgap_build.specs.Sought.{IsSought, HasRoom}
use Rattle.tgap_build.proofs.BoxedEdges.{boxed_after}
use Rattle.tgap_build.proofs.sought.sought_after.Goals as goal

pub returns : goal.returns
returns c = λ before h same.
    let places = c.args.edges.now.places.items in
    let told = sym c.take.ensures.value ∙ c.in-Some.is in
    let room = subst (HasRoom (length places)) told c.requires in
    boxed_after before places c.in-Some.boxes c.renew_keys.new.boxes c.args.come.now (subst (IsSought before) told h) same
    (c.renew_keys.ensures.room ∙ c.forget_ended.ensures.room ∙ c.forget_keys.ensures.room ∙ room)
    (λ k at. c.renew_keys.ensures.kept k (c.forget_ended.ensures.kept k (c.forget_keys.ensures.kept k at))) c.renew_keys.ensures.here
