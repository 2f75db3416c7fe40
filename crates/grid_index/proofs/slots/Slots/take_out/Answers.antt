use Rattle.std.proofs.Common.{◌<◌, ◌+◌, ℕ, List, Option, None, length, sym, ap, ◌∙◌, subst, subst₂, arith}
use Rattle.std.specs.Prelude.{IfSome}
use Rattle.std.proofs.lemmas.List.{length-set}
use Rattle.grid_index.specs.declared.segments.Entry.{Entry}
use Rattle.grid_index.specs.Slots.{IsBounded}
use Rattle.grid_index.proofs.Emptied.{IsEmptied, IsEmptied-start, IsEmptied-pass, IsEmptied-clear, IsEmptied-leave, IsEmptied-end}
use Rattle.grid_index.proofs.slots.Slots.take_out.Goals.{then-has_key, else-has_key}
use Rattle.grid_index.proofs.slots.Slots.take_out.Goals as goal

pub walk-init : goal.walk-init
walk-init c =
    let old = c.args.self.now in
    let sought = c.args.sought.now in
    let row = c.self.inside.bounds in
    let bounded = subst (λ (xs : List (Option Entry)). IsBounded xs row) c.self.view_is c.self.invariant in
    record { emptied = IsEmptied-pass sought.area sought.key old old row 0 c.next-at.result bounded c.requires c.next-at.ensures (IsEmptied-start sought.key old); within = tt }

pub walk-preserved : goal.walk-preserved
walk-preserved c =
    let old = c.args.self.now in
    let sought = c.args.sought.now in
    let now = c.walk.self in
    let at = c.walk.at in
    let new = c.if-has_key.self in
    let row = c.self-in-walk-2.inside.bounds in
    let bounded = subst (λ (xs : List (Option Entry)). IsBounded xs row) c.self-in-walk-2.view_is c.self-in-walk-2.invariant in
    let all = ap length c.self-in-walk.view_is in
    let inside : at < length now = omega (arith, all, c.len.ensures, c.walk-test.true, c.self-in-walk.inside.slots.ok.0) in
    let pass = λ (h : IsEmptied sought.key old new (at + 1)). IsEmptied-pass sought.area sought.key old new row (at + 1) c.next-at-in-walk.result bounded c.requires c.next-at-in-walk.ensures h in
    elim c.if-has_key.branch [
      | then-has_key w ↦
          let cleared = w.self-is ∙ w.clear.ensures in
          record {
            emptied = pass (subst (λ (xs : List (Option Entry)). IsEmptied sought.key old xs (at + 1)) (sym cleared)
                (IsEmptied-clear sought.key old now at inside (sym c.has_key.ensures ∙ w.if-has_key.true) c.walk.invariant.emptied));
            within = subst₂ (λ (f : Option ℕ) (xs : List (Option Entry)). IfSome f (λ i. i < length xs)) (sym w.found-is) (sym cleared) (omega (arith, inside, length-set now at None));
          }
      | else-has_key w ↦
          record {
            emptied = pass (subst (λ (xs : List (Option Entry)). IsEmptied sought.key old xs (at + 1)) (sym w.self-is)
                (IsEmptied-leave sought.key old now at (sym c.has_key.ensures ∙ w.if-has_key.false) c.walk.invariant.emptied));
            within = subst₂ (λ (f : Option ℕ) (xs : List (Option Entry)). IfSome f (λ i. i < length xs)) (sym w.found-is) (sym w.self-is) c.walk.invariant.within;
          }
    ]

pub returns-clause-held : goal.returns-clause-held
returns-clause-held c =
    let all = ap length c.self-in-walk.view_is in
    IsEmptied-end c.args.sought.now.key c.args.self.now c.walk.self c.walk.at (omega (arith, all, c.len.ensures, c.walk-test.false, c.self-in-walk.inside.slots.ok.0)) c.walk.invariant.emptied
