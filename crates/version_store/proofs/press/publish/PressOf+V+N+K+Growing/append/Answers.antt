-- The version has the next number, and what is kept comes to the batches with its own.
use Rattle.std.proofs.Common.{rules, arith, ◌≡◌, ◌≤◌, ◌+◌, ◌++◌, ℕ, [], ◌∷◌, List, length, sym, ap, ◌∙◌, subst}
use Rattle.std.proofs.lemmas.List.{length_push}
use Rattle.version_store.specs.Growth.{AreNumbered}
use Rattle.version_store.specs.Publishers.{IsOneOf, ArePublishers}
use Rattle.version_store.proofs.Publishers.{publishers_push}
use Rattle.version_store.specs.Folds.{batches_of, FitsTold}
use Rattle.version_store.proofs.RuleKept.{numbered_push}
use Rattle.version_store.proofs.press.publish.PressOf+V+N+K+Growing.append.Goals as goal

pub invariant_of-self-clause-kept : goal.invariant_of-self-clause-kept
invariant_of-self-clause-kept g c =
    let list : c.publish_by.new.place.me.0.list ≡ c.args.self.now.place.me.0.list ++ c.args.version.now ∷ [] = search rules in
    subst (λ (l : List g.row.V.Denot). FitsTold (batches_of g.V.Holds.batched l) (g.K.Keep.told c.args.self.now.keeper)) (sym list) c.requires.kept

pub invariant_of-self-clause-numbered : goal.invariant_of-self-clause-numbered
invariant_of-self-clause-numbered g c =
    let list : c.publish_by.new.place.me.0.list ≡ c.args.self.now.place.me.0.list ++ c.args.version.now ∷ [] = search rules in
    subst (AreNumbered g.V.Holds.numbered) (sym list)
    (numbered_push g.V.Holds.numbered c.args.self.now.limit c.args.self.now.place.me.0.list c.args.version.now c.args.self.now.numbered c.requires.number)

pub invariant_of-self-clause-published_by : goal.invariant_of-self-clause-published_by
invariant_of-self-clause-published_by g c =
    let press = c.args.self.now in
    let list : c.publish_by.new.place.me.0.publishers ≡ press.place.me.0.publishers ++ (c.args.seat.now.index + 1) ∷ [] = search rules in
    let one : IsOneOf press.seats (c.args.seat.now.index + 1) =
    (omega arith, subst (λ (k : ℕ). c.args.seat.now.index + 1 ≤ k) press.seated.2 c.publish_by.ensures.one) in (
      subst (ArePublishers press.seats) (sym list)
          (publishers_push press.seats (c.args.seat.now.index + 1) press.place.me.0.publishers
          (let n = press.counted.2 in let e = press.published_by.1 in omega arith) one press.published_by.0),
      ap (λ (l : List ℕ). length l) list ∙ length_push press.place.me.0.publishers (c.args.seat.now.index + 1) ∙ ap (λ (k : ℕ). k + 1) press.published_by.1,
    )
