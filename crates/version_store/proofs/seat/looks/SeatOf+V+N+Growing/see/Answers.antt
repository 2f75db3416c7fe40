use Rattle.std.proofs.Common.{rules, arith, ◌≡◌, ◌-◌, List, length, Some, sym, ap, ◌∙◌, subst}
use Rattle.std.specs.Arc.{arc_value}
use Rattle.std.specs.declared.alloc.Global.{Global}
use Rattle.std.specs.declared.sync.Arc.{Arc}
use Rattle.std.specs.Prelude.{slice_get, IsSome}
use Rattle.version_store.specs.declared.known.Known.{Known}
use Rattle.version_store.specs.Growth.{AreNumbered}
use Rattle.version_store.specs.Steps.{Holder}
use Rattle.version_store.proofs.Prefixes.{taken, one_value, some_same}
use Rattle.version_store.proofs.RuleKept.{sees_kept}
use Rattle.version_store.proofs.seat.looks.SeatOf+V+N+Growing.see.Goals as goal

pub load-found-requires : goal.load-found-requires
load-found-requires g c = (search rules, search rules, sees_kept _ _ _ _ _ _ c.args.self.now.seated.0)

pub exchange-requires : goal.exchange-requires
exchange-requires g c =
    let s = c.args.self.now in
    let t = c.load-found.ensures.2.takes (let l = c.if-found-self.true in let n = s.counted.0 in omega arith) in
    (search rules, (Some t.0, taken _ _ _ _ _ t.2 (let r = s.seated.0 in omega arith)))

pub unwrap-requires : goal.unwrap-requires
unwrap-requires g c =
    let s = c.args.self.now in
    let t = c.load-found.ensures.2.takes (let l = c.if-found-self.true in let n = s.counted.0 in omega arith) in
    let same : Some t.0 ≡ c.exchange.result = one_value _ _ _ _ _ _ _ t.2 c.exchange.ensures.2 in
    subst IsSome same (search rules)

pub invariant_of-self : goal.invariant_of-self
invariant_of-self g c =
    let s = c.args.self.now in
    let l = c.if-found-self.true in
    let n = s.counted.0 in
    let sees = c.load-found.ensures.2 in
    let t = sees.takes (omega arith) in
    let same : Some t.0 ≡ c.exchange.result = one_value _ _ _ _ _ _ _ t.2 c.exchange.ensures.2 in
    let owner : t.0 ≡ c.unwrap.result = some_same _ _ (same ∙ c.unwrap.ensures) in
    let now : c.exchange.new.seat.me.0 ≡ c.load-found.new.seat.me.0 = ap (λ (m : Holder g.row.V.Denot). m.0) c.exchange.ensures.3 in
    let list : c.exchange.new.seat.me.0.list ≡ c.load-found.new.seat.me.0.list = ap (λ (d : Known g.row.V.Denot). d.list) now in
    record {
      of_store = search rules;
      sized = search rules;
      seated = (
        ap (λ (d : Known g.row.V.Denot). d.role) now ∙ ap (λ (d : Known g.row.V.Denot). d.role) sees.same ∙ s.seated.0,
        ap (λ (d : Known g.row.V.Denot). d.limit) now ∙ ap (λ (d : Known g.row.V.Denot). d.limit) sees.same ∙ s.seated.1,
        s.seated.2,
      );
      called = ap (λ (d : Known g.row.V.Denot). d.publisher) now ∙ ap (λ (d : Known g.row.V.Denot). d.publisher) sees.same ∙ s.called;
      counted = (
        ap (λ (l : List g.row.V.Denot). length l) list ∙ sees.count,
        (let r = sees.room in let b = s.seated.1 in omega arith),
        (let p = s.counted.2 in omega arith),
      );
      newest_is = ap (λ (l : List g.row.V.Denot). slice_get l (c.load-found.result - 1)) list ∙ t.1 ∙ ap (λ (o : Arc g.row.V.Denot Global). Some (arc_value o)) owner;
      numbered = subst (AreNumbered g.V.Holds.numbered) (sym list) sees.numbered;
    }
