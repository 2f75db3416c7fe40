use Rattle.std.proofs.Common.{◌≡◌, ◌<◌, List, length, Option, None, sym, ap, ◌∙◌, arith}
use Rattle.std.proofs.lemmas.List.{get_or_default}
use Rattle.grid_index.specs.declared.segments.Entry.{Entry}
use Rattle.grid_index.specs.Slots.{slot_at}
use Rattle.grid_index.proofs.Holding.{IsFilled-start, IsFilled-kept, IsFilled-put, IsFilled-same, IsFilled-end, IsFilled-all, none_from_test, some_from_test, none_left}
use Rattle.grid_index.proofs.slots.Slots.fill.Goals.{then-is_none-2, else-is_none-2}
use Rattle.grid_index.proofs.slots.Slots.fill.Goals as goal

pub loop-place-init : goal.loop-place-init
loop-place-init c =
    let left = c.pop_entry-next.new.come.items in
    IsFilled-start c.args.self.now c.args.come.items c.pop_entry-next.result left c.pop_entry-next.ensures.moved (none_left c.pop_entry-next.result left c.pop_entry-next.ensures.none)

pub loop-place-preserved : goal.loop-place-preserved
loop-place-preserved c =
    let old = c.args.self.now in
    let come = c.args.come.items in
    let i = c.loop-place.place in
    let new = c.loop-place.self in
    let next = c.loop-place.next in
    let left = c.loop-place.come.items in
    let long = c.loop-place.invariant.long in
    let all = ap length c.self.view_is in
    let within : i < length new = omega (arith, long, all, c.len-place-end.ensures, c.loop-place-test.true) in
    let some = some_from_test next c.is_none.result c.is_none.ensures c.if-is_none.false in
    let slots = c.self-in-loop-place.inside.slots.items in
    let inside : i < length slots = omega (arith, within, ap length c.self-in-loop-place.view_is) in
    let slot : c.index.result.now ≡ slot_at new i = c.index.ensures ∙ get_or_default slots i c.index.result.now None inside ∙ ap (λ (xs : List (Option Entry)). slot_at xs i) c.self-in-loop-place.view_is in
    elim c.if-is_none-2.branch [
      | then-is_none-2 w ↦
          let after = w.pop_entry-next-then-is_none-2.result in
          let rest = w.pop_entry-next-then-is_none-2.new.come.items in
          let empty = sym slot ∙ none_from_test c.index.result.now c.is_none-in-loop-place.result c.is_none-in-loop-place.ensures w.if-is_none-2.true in
          IsFilled-same (w.self-is ∙ w.put.ensures) w.next-is (ap (λ v. v.items) w.come-is)
          (IsFilled-put old come i new next left after rest within empty some w.pop_entry-next-then-is_none-2.ensures.moved (none_left after rest w.pop_entry-next-then-is_none-2.ensures.none) c.loop-place.invariant)
      | else-is_none-2 w ↦
          let taken = some_from_test c.index.result.now c.is_none-in-loop-place.result c.is_none-in-loop-place.ensures w.if-is_none-2.false in
          IsFilled-same w.self-is w.next-is (ap (λ v. v.items) w.come-is)
          (IsFilled-kept old come i new next left within (λ (e : slot_at new i ≡ None). taken (slot ∙ e)) c.loop-place.invariant)
    ]

pub returns-then-is_none : goal.returns-then-is_none
returns-then-is_none c =
    let next = c.loop-place.next in
    IsFilled-end c.args.self.now c.args.come.items c.loop-place.place c.loop-place.self next c.loop-place.come.items (none_from_test next c.is_none.result c.is_none.ensures c.if-is_none.true) c.loop-place.invariant

pub returns : goal.returns
returns c =
    let long = c.loop-place.invariant.long in
    let all = ap length c.self.view_is in
    IsFilled-all c.args.self.now c.args.come.items c.loop-place.place c.loop-place.self c.loop-place.next c.loop-place.come.items (omega (arith, long, all, c.len-place-end.ensures, c.loop-place-test.false)) c.requires
    c.loop-place.invariant
