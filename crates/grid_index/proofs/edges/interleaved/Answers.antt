use Rattle.std.proofs.Common.{◌≡◌, ◌<◌, false, true, List, sym, ◌∙◌, subst, arith, rules}
use Rattle.tgap_model.specs.declared.slice.Edge.{Edge}
use Rattle.grid_index.proofs.Merging.{IsMerging, IsMerging-kept, IsMerging-gone, AllPairs-front}
use Rattle.grid_index.proofs.edges.interleaved.Goals as goal

pub loop-edge-preserved-then-not-is_among : goal.loop-edge-preserved-then-not-is_among
loop-edge-preserved-then-not-is_among c =
    let gone = c.args.gone.now in
    let rest0 = c.args.rest.items in
    let come0 = c.args.come.items in
    let rest = c.pop.new.self.items in
    let changed = c.loop-edge.changed.items in
    let come = c.loop-edge.come.items in
    let changed1 = c.push_below.new.changed.items in
    let come1 = c.push_below.new.come.items in
    let x = c.in-Some.edge in
    let h = subst (λ (l : List Edge). IsMerging gone rest0 come0 l changed come) c.in-Some.ensures.items c.loop-edge.invariant.merging in
    let below = c.push_below.ensures in
    let out : c.is_among.result ≡ false = search rules in
    record {
      merging = subst (λ (l : List Edge). IsMerging gone rest0 come0 rest l come1) (sym c.push_reserved.ensures.items)
          (IsMerging-kept gone rest0 come0 rest changed come changed1 come1 x c.requires.rest c.requires.fresh h below.least below.front below.above (sym c.is_among.ensures ∙ out));
      room = omega (arith, c.loop-edge.invariant.room, c.in-Some.ensures.len, below.len, below.capacity, c.push_reserved.ensures.len, c.push_reserved.ensures.capacity);
    }

pub loop-edge-preserved : goal.loop-edge-preserved
loop-edge-preserved c =
    let gone = c.args.gone.now in
    let rest0 = c.args.rest.items in
    let come0 = c.args.come.items in
    let rest = c.pop.new.self.items in
    let changed = c.loop-edge.changed.items in
    let come = c.loop-edge.come.items in
    let changed1 = c.push_below.new.changed.items in
    let come1 = c.push_below.new.come.items in
    let x = c.in-Some.edge in
    let h = subst (λ (l : List Edge). IsMerging gone rest0 come0 l changed come) c.in-Some.ensures.items c.loop-edge.invariant.merging in
    let below = c.push_below.ensures in
    let out : c.is_among.result ≡ true = search rules in
    record {
      merging = IsMerging-gone gone rest0 come0 rest changed come changed1 come1 x c.requires.rest c.requires.fresh h below.least below.front below.above (sym c.is_among.ensures ∙ out);
      room = omega (arith, c.loop-edge.invariant.room, c.in-Some.ensures.len, below.len, below.capacity);
    }

pub push_all-requires-clause-descending : goal.push_all-requires-clause-descending
push_all-requires-clause-descending c = AllPairs-front (λ e f. f.key < e.key) c.loop-edge.come.items c.args.come.items c.loop-edge.invariant.merging.comes c.requires.come
