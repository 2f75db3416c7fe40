use Rattle.std.proofs.Common.{◌≤◌, List, All, sym, subst, arith}
use Rattle.tgap_model.specs.declared.slice.Edge.{Edge}
use Rattle.grid_index.specs.Merged.{IsFront}
use Rattle.grid_index.proofs.Merging.{IsBelow, IsBelow-next, all_above}
use Rattle.grid_index.proofs.edges.push_below.Goals as goal

pub returns-then-key-edge-clause-above : goal.returns-then-key-edge-clause-above
returns-then-key-edge-clause-above c =
    let come0 = c.args.come.now.items in
    let left = c.pop.new.self.items in
    subst (λ (l : List Edge). All (λ e. c.args.key ≤ e.key) l) (sym c.push_reserved.ensures.items)
    (all_above c.args.key come0 left c.in-Some.edge c.requires.descending (subst (λ (l : List Edge). IsFront l come0) c.in-Some.ensures.items c.loop-edge.invariant.below.front) c.if-key-edge.true)

pub loop-edge-preserved : goal.loop-edge-preserved
loop-edge-preserved c =
    let key = c.args.key in
    let changed0 = c.args.changed.now.items in
    let come0 = c.args.come.now.items in
    let changed = c.loop-edge.changed.items in
    let left = c.pop.new.self.items in
    record {
      below = subst (λ (l : List Edge). IsBelow key changed0 come0 l left) (sym c.push_reserved-in-Some.ensures.items)
          (IsBelow-next key changed0 come0 changed left c.in-Some.edge c.requires.descending c.if-key-edge.false
          (subst (λ (l : List Edge). IsBelow key changed0 come0 changed l) c.in-Some.ensures.items c.loop-edge.invariant.below));
      len = omega (arith, c.loop-edge.invariant.len, c.push_reserved-in-Some.ensures.len, c.in-Some.ensures.len);
      capacity = omega (arith, c.loop-edge.invariant.capacity, c.push_reserved-in-Some.ensures.capacity);
    }
