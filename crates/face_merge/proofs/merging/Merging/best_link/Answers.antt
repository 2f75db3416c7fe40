-- One more link is compared with the best one so far, where it leads to a permitted neighbour.
use Rattle.std.proofs.Common.{◌∙◌, ap, sym, subst, ℕ, Option, IfSome, get_or, take, ◌+◌}
use Rattle.std.proofs.lemmas.List.Elements.{All-get_or}
use Rattle.tgap_model.specs.History.{class_of}
use Rattle.face_merge.specs.declared.links.Link.{Link}
use Rattle.face_merge.specs.Running.{IsBetterLink, IsLinkOf, number_in, state_of}
use Rattle.face_merge.proofs.Best.{IsBestOf, best_begin, best_is, best_more, best_of_all, best_same, link_live}
use Rattle.face_merge.proofs.merging.Merging.best_link.Goals.{then-permits, else-permits}
use Rattle.face_merge.proofs.merging.Merging.best_link.Goals as goal

pub face-neighbour-requires-clause-live : goal.face-neighbour-requires-clause-live
face-neighbour-requires-clause-live c =
    let d : Link = record { slot = 0; length = 0 } in
    link_live c.args.self.now (number_in c.args.self.now c.args.loser) (get_or c.args.links.now c.loop-link.link-index d)
    (All-get_or (IsLinkOf c.args.self.now (number_in c.args.self.now c.args.loser)) c.args.links.now c.loop-link.link-index d c.loop-link-test.true c.requires.links)

pub better-requires-clause-loser : goal.better-requires-clause-loser
better-requires-clause-loser c = c.face-face.ensures.class ∙ ap (class_of (state_of c.args.self.now).classes) (sym c.face-face.ensures.number)

pub better-requires-clause-link : goal.better-requires-clause-link
better-requires-clause-link c =
    let d : Link = record { slot = 0; length = 0 } in
    let at : IsLinkOf c.args.self.now (number_in c.args.self.now c.args.loser) (get_or c.args.links.now c.loop-link.link-index d) =
    All-get_or (IsLinkOf c.args.self.now (number_in c.args.self.now c.args.loser)) c.args.links.now c.loop-link.link-index d c.loop-link-test.true c.requires.links in
    subst (λ (f : ℕ). IsLinkOf c.args.self.now f (get_or c.args.links.now c.loop-link.link-index d)) (sym c.face-face.ensures.number) at

pub better-requires-clause-best : goal.better-requires-clause-best
better-requires-clause-best c =
    subst (λ (f : ℕ). IfSome c.loop-link.best (IsLinkOf c.args.self.now f)) (sym c.face-face.ensures.number)
    (best_is c.args.self.now (number_in c.args.self.now c.args.loser) c.loop-link.best (take c.loop-link.link-index c.args.links.now) c.loop-link.invariant)

pub loop-link-init : goal.loop-link-init
loop-link-init c = best_begin c.args.self.now (number_in c.args.self.now c.args.loser) c.args.links.now

pub loop-link-preserved : goal.loop-link-preserved
loop-link-preserved c =
    let r = c.args.self.now in
    let loser = number_in r c.args.loser in
    let d : Link = record { slot = 0; length = 0 } in
    let i = c.loop-link.link-index in
    let links = c.args.links.now in
    elim c.if-permits.branch [
      | then-permits w ↦
          let better = subst (λ (f : ℕ). IsBetterLink r f c.loop-link.best (get_or links i d) w.better.result) c.face-face.ensures.number w.better.ensures in
          let more = best_more r loser c.loop-link.best links i d w.better.result c.loop-link-test.true c.requires.links (sym c.permits.ensures ∙ w.if-permits.true) c.loop-link.invariant better in
          subst (λ (o : Option Link). IsBestOf r loser o (take (i + 1) links)) (sym w.best-is) more
      | else-permits w ↦
          subst (λ (o : Option Link). IsBestOf r loser o (take (i + 1) links)) (sym w.best-is)
          (best_same r loser c.loop-link.best links i d c.loop-link-test.true (sym c.permits.ensures ∙ w.if-permits.false) c.loop-link.invariant)
    ]

pub returns : goal.returns
returns c = best_of_all c.args.self.now (number_in c.args.self.now c.args.loser) c.loop-link.best c.args.links.now c.loop-link.link-index c.loop-link-test.false c.loop-link.invariant
