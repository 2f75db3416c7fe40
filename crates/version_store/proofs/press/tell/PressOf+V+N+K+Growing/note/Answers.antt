use Rattle.std.proofs.Common.{rules, ◌≡◌, List, sym, subst}
use Rattle.version_store.specs.Folds.{batches_of, FitsTold}
use Rattle.version_store.proofs.RuleKept.{notes}
use Rattle.version_store.proofs.press.tell.PressOf+V+N+K+Growing.note.Goals as goal

pub split_seat-requires : goal.split_seat-requires
split_seat-requires g c = (search rules, search rules, notes _ _ _ _)

pub invariant_of-self : goal.invariant_of-self
invariant_of-self g c = record {
  of_store = search rules;
  sized = search rules;
  seated = search rules;
  manned = search rules;
  published_by = search rules;
  resting = search rules;
  counted = search rules;
  numbered = search rules;
  kept =
      (let list : c.split_seat.new.seat.me.0.list ≡ c.args.self.now.place.me.0.list = search rules in
      subst (λ (l : List g.row.V.Denot). FitsTold (batches_of g.V.Holds.batched l) (g.K.Keep.told c.args.self.now.keeper)) (sym list) c.args.self.now.kept);
}
