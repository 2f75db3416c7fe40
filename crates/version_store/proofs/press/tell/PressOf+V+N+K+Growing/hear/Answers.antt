use Rattle.std.proofs.Common.{rules, ◌≡◌, List, sym, ap, ◌∙◌, subst}
use Rattle.version_store.specs.Folds.{batches_of, FitsTold}
use Rattle.version_store.specs.Growth.{IsPrefix}
use Rattle.version_store.specs.Steps.{Holder}
use Rattle.version_store.proofs.RuleKept.{hears, compares_kept}
use Rattle.version_store.proofs.press.tell.PressOf+V+N+K+Growing.hear.Goals as goal

pub join_seat-requires : goal.join_seat-requires
join_seat-requires g c = (search rules, search rules, search rules, search rules, hears _ _ _ _ _ _ c.requires.1)

pub load-requires : goal.load-requires
load-requires g c = (search rules, search rules, compares_kept _ _ _ _ _ (ap (λ m. m.0.role) c.join_seat.ensures.2 ∙ c.args.self.now.seated.0))

pub returns-clause-front : goal.returns-clause-front
returns-clause-front g c = subst (λ (m : Holder g.row.V.Denot). IsPrefix m.0.told m.0.list) c.join_seat.ensures.2 c.load.ensures.2.1

pub invariant_of-self : goal.invariant_of-self
invariant_of-self g c = record {
  of_store = search rules;
  sized = search rules;
  seated = search rules;
  manned = search rules;
  published_by = search rules;
  resting = search rules;
  counted = search rules;
  numbered = search rules;
  kept =
      (let list : c.load.new.seat.me.0.list ≡ c.args.self.now.place.me.0.list = search rules in
      subst (λ (l : List g.row.V.Denot). FitsTold (batches_of g.V.Holds.batched l) (g.K.Keep.told c.args.self.now.keeper)) (sym list) c.args.self.now.kept);
}
