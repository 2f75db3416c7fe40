-- What becomes of the version that is to be published.
use Rattle.std.proofs.Common.{◌≡◌, ◌∙◌, ◌+◌, sym, ap, Some}
use Rattle.std.specs.Arc.{arc_value}
use Rattle.session.proofs.Kept.{pin_kept}
use Rattle.session.proofs.Counting.{counts_of_press}
use Rattle.session.proofs.Edits.{published_turn, refused_commit, if_ok}
use Rattle.session.proofs.edit.commit.Goals as goal

pub returns-in-Ok-clause-turned : goal.returns-in-Ok-clause-turned
returns-in-Ok-clause-turned g c =
    let S = g.V.Versions.seen in
    λ made. published_turn (S c.args.versions.now) (S c.publish.new.self) c.args.pin.now c.args.next.built c.args.next.batch c.args.close _
    c.requires.pin c.in-Ok.ensures.continues made c.requires.sound
    (c.in-Ok.ensures.last ∙ ap (λ v. Some v.built) c.in_ok-next.ensures.ok) (c.in-Ok.ensures.batch ∙ ap (λ v. Some v.batch) c.in_ok-next.ensures.ok)
    c.in-Ok.ensures.newest c.in-Ok.ensures.room c.in_ok-replies.ensures.published

pub returns-in-Ok-clause-pin : goal.returns-in-Ok-clause-pin
returns-in-Ok-clause-pin g c =
    let held : arc_value c.in_ok-held.held ≡ c.args.next = c.in_ok-held.ensures ∙ c.in_ok-next.ensures.ok in
    record {
      there = c.in-Ok.ensures.last ∙ ap (λ v. Some v.built) (c.in_ok-next.ensures.ok ∙ sym held);
      number = ap (λ v. v.number) held ∙ c.requires.number;
      small = c.in-Ok.ensures.small;
    }

pub returns-in-Err-clause-turned : goal.returns-in-Err-clause-turned
returns-in-Err-clause-turned g c =
    let S = g.V.Versions.seen in
    if_ok c.refuse_publish.result _ _
    (λ t is made. refused_commit (S c.args.versions.now) (S c.publish.new.self) c.args.pin.now c.args.next.built c.args.next.batch c.args.close c.in-Err.fail t
    c.requires.pin c.in-Err.ensures.continues made c.requires.sound c.in-Err.ensures.stale c.in-Err.ensures.full is)
    c.refuse_publish.ensures.refused

pub returns-in-Err-clause-pin : goal.returns-in-Err-clause-pin
returns-in-Err-clause-pin g c = pin_kept _ _ _ c.in-Err.ensures.continues c.requires.pin

pub returns-in-Err-clause-counts : goal.returns-in-Err-clause-counts
returns-in-Err-clause-counts g c =
    let S = g.V.Versions.seen in
    counts_of_press (S c.args.versions.now) (S c.publish.new.self) (c.args.pin.now.number + 1) c.args.pin.now.number c.args.close c.in-Err.fail
    c.refuse_publish.result c.refuse_publish.ensures.refused c.refuse_publish.ensures.never_lost c.in-Err.ensures.counts
