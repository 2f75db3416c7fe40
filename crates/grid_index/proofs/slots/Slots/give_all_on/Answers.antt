use Rattle.std.proofs.Common.{◌++◌, ◌∙◌}
use Rattle.std.proofs.lemmas.List.Sorted.{IsPermutation-trans}
use Rattle.grid_index.specs.Slots.{held}
use Rattle.grid_index.proofs.slots.Slots.give_all_on.Goals as goal

pub loop-holder-preserved : goal.loop-holder-preserved
loop-holder-preserved c =
    let before = held c.loop-holder.self ++ held c.loop-holder.come.items in
    let after = held c.give_on.new.self ++ held c.give_on.new.come.items in
    record {
      moved = IsPermutation-trans (held c.args.self.now ++ held c.args.come.now.items) before after c.loop-holder.invariant.moved c.give_on.ensures.moved;
      long = c.give_on.ensures.len ∙ c.loop-holder.invariant.long;
    }
