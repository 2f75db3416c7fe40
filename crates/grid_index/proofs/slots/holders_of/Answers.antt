use Rattle.std.proofs.Common.{◌≡◌, ◌+◌, List, get_or, map, take, None, All, sym, ap, ◌∙◌, subst}
use Rattle.std.proofs.lemmas.List.{get_or_default}
use Rattle.grid_index.specs.declared.slots.Holder.{Holder}
use Rattle.grid_index.specs.Slots.{taken, IsHolder}
use Rattle.grid_index.proofs.Finding.{AreHolders, AreHolders-some, AreHolders-none}
use Rattle.grid_index.proofs.slots.holders_of.Goals.{in-Some+in_ok-push, in_default}
use Rattle.grid_index.proofs.slots.holders_of.Goals as goal

pub loop-place-preserved : goal.loop-place-preserved
loop-place-preserved c =
    let slots = c.args.slots.now in
    let places = c.args.places.now in
    let i = c.loop-place.place-index in
    let holders = c.loop-place.holders.items in
    let more = c.loop-place-test.true in
    let so_far : AreHolders slots (take i places) holders = record { each = c.loop-place.invariant.each; taken = c.loop-place.invariant.taken } in
    let slot = sym (c.index-slots-place.is ∙ get_or_default slots (get_or places i 0) c.index-slots-place.result None (c.requires i 0 more)) in
    elim c.match-slots-place.branch [
      | in-Some+in_ok-push w ↦
          let h = AreHolders-some slots places i holders w.in-Some.entry more (slot ∙ w.in-Some.is) so_far in
          let e = ap (λ v. v.items) w.holders-is ∙ w.in_ok-push.ensures.items in
          record {
            each = subst (λ (hs : List Holder). All (IsHolder slots) hs) (sym e) h.each;
            taken = subst (λ (hs : List Holder). taken slots (map (λ h. h.slot) hs) ≡ taken slots (take (i + 1) places)) (sym e) h.taken;
          }
      | in_default w ↦
          let h = AreHolders-none slots places i holders more (slot ∙ w.in_default.is) so_far in
          let e = ap (λ v. v.items) w.holders-is in
          record {
            each = subst (λ (hs : List Holder). All (IsHolder slots) hs) (sym e) h.each;
            taken = subst (λ (hs : List Holder). taken slots (map (λ h. h.slot) hs) ≡ taken slots (take (i + 1) places)) (sym e) h.taken;
          }
    ]
