use Rattle.std.proofs.Common.{◌++◌, List, sym, ap, ◌∙◌, subst, arith}
use Rattle.tgap_model.specs.declared.slice.Edge.{Edge}
use Rattle.grid_index.specs.Merged.{in_order, IsFront}
use Rattle.grid_index.proofs.Merging.{push_last, front_rest}
use Rattle.grid_index.proofs.edges.push_all.Goals as goal

pub loop-edge-preserved : goal.loop-edge-preserved
loop-edge-preserved c =
    let come0 = c.args.come.items in
    let changed = c.loop-edge.changed.items in
    let left = c.pop.new.self.items in
    let front = subst (λ (l : List Edge). IsFront l come0) c.in-Some.ensures.items c.loop-edge.invariant.front in
    record {
      sum = ap (λ (l : List Edge). l ++ in_order left) c.push_reserved.ensures.items ∙ push_last changed left c.in-Some.edge come0 c.requires.descending front
          ∙ ap (λ (l : List Edge). changed ++ in_order l) (sym c.in-Some.ensures.items) ∙ c.loop-edge.invariant.sum;
      front = front_rest left come0 c.in-Some.edge front;
      len = omega (arith, c.loop-edge.invariant.len, c.push_reserved.ensures.len, c.in-Some.ensures.len);
      capacity = omega (arith, c.loop-edge.invariant.capacity, c.push_reserved.ensures.capacity);
    }
