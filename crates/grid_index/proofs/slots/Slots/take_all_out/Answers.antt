use Rattle.std.proofs.Common.{◌<◌, [], List, length, map, take, All, refl, sym, ap, ◌∙◌, subst, arith}
use Rattle.std.proofs.lemmas.List.Elements.{All-append, All-cons, All-nil}
use Rattle.grid_index.specs.declared.slots.Holder.{Holder}
use Rattle.grid_index.specs.Slots.{held}
use Rattle.grid_index.proofs.Emptied.{emptied_more, still_near, stays_all}
use Rattle.grid_index.proofs.slots.Slots.take_all_out.Goals.{in-Some, in_default}
use Rattle.grid_index.proofs.slots.Slots.take_all_out.Goals as goal

pub loop-one-init : goal.loop-one-init
loop-one-init c = record { emptied = sym (stays_all (held c.args.self.now)); long = refl; room = omega arith; capacity = refl; within = c.requires.within }

pub take_out-requires : goal.take_out-requires
take_out-requires c =
    still_near (map (λ s. s.key) (take c.loop-one.one-index c.args.sought.now)) _ _ (held c.args.self.now) (held c.loop-one.self) c.loop-one.invariant.emptied
    (c.requires.near c.loop-one.one-index _ c.loop-one-test.true)

pub loop-one-preserved : goal.loop-one-preserved
loop-one-preserved c =
    let i = c.loop-one.one-index in
    let before = c.loop-one.invariant in
    let n = length c.args.self.now in
    let emptied = emptied_more c.args.sought.now i (held c.args.self.now) (held c.loop-one.self) (held c.take_out.new.self) c.loop-one-test.true before.emptied c.take_out.ensures.held in
    let long = c.take_out.ensures.len ∙ before.long in
    elim c.match-take_out.branch [
      | in-Some w ↦ record {
        emptied = emptied;
        long = long;
        room = omega (arith, ap (λ v. v.len) w.freed-is, w.push_reserved.ensures.len, before.room);
        capacity = ap (λ v. v.cap) w.freed-is ∙ w.push_reserved.ensures.capacity ∙ before.capacity;
        within = subst (λ (hs : List Holder). All (λ h. h.slot < n) hs) (sym (ap (λ v. v.items) w.freed-is ∙ w.push_reserved.ensures.items))
            (All-append (λ (h : Holder). h.slot < n) c.loop-one.freed.items _ before.within
            (All-cons (λ (h : Holder). h.slot < n) _ [] (subst (λ k. w.in-Some.slot < k) long w.in-Some.ensures.within) (All-nil (λ (h : Holder). h.slot < n))));
      }
      | in_default w ↦ record {
        emptied = emptied;
        long = long;
        room = omega (arith, ap (λ v. v.len) w.freed-is, before.room);
        capacity = ap (λ v. v.cap) w.freed-is ∙ before.capacity;
        within = subst (λ (hs : List Holder). All (λ h. h.slot < n) hs) (sym (ap (λ v. v.items) w.freed-is)) before.within;
      }
    ]
