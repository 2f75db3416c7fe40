-- One seat more is a new one.
use Rattle.std.proofs.Common.{rules, arith, ◌≡◌, ◌++◌, [], ◌∷◌, All, sym, subst}
use Rattle.std.specs.Arc.{arc_value}
use Rattle.std.proofs.lemmas.List.Elements.{All-push}
use Rattle.version_store.specs.Store.{IsNewSeat, AreSeatsFrom}
use Rattle.version_store.proofs.Lists.{seats_push}
use Rattle.version_store.proofs.fresh.open.FreshOf+V+Growing.open.Goals as goal

pub loop-index-preserved : goal.loop-index-preserved
loop-index-preserved g c =
    let i = c.loop-index.invariant in
    let more : c.push_reserved.new.self.items ≡ c.loop-index.seats.items ++ c.in_ok-made.field-0 ∷ [] = search rules in (
      search rules,
      search rules,
      subst (All (IsNewSeat (arc_value c.args.self.first) c.args.self.limit)) (sym more)
          (All-push (IsNewSeat (arc_value c.args.self.first) c.args.self.limit) c.loop-index.seats.items c.in_ok-made.field-0 i.2 c.in_ok-made.ensures.new),
      subst (AreSeatsFrom 1) (sym more)
          (seats_push 1 c.loop-index.seats.items c.in_ok-made.field-0 i.3 (let n = i.4 in let e = c.in_ok-made.ensures.number in omega arith)),
      search rules,
      search rules,
      search rules,
    )
