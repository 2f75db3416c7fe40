-- Going back over one step gives its two faces their parent.
use Rattle.std.proofs.Common.{arith}
use Rattle.std.proofs.lemmas.List.{length-set}
use Rattle.face_tree.proofs.Backwards.{step_before, parents_before}
use Rattle.face_tree.proofs.build.parents_of.Goals as goal

pub index_mut-requires : goal.index_mut-requires
index_mut-requires c =
    let s = step_before c.args.faces c.args.steps.now c.loop-i.i _ c.requires.numbered (omega arith) (omega arith) c.loop-i.invariant.count in
    omega (arith, s.0, c.loop-i.found.ok.0)

pub index_mut-requires-in-loop-i : goal.index_mut-requires-in-loop-i
index_mut-requires-in-loop-i c =
    let s = step_before c.args.faces c.args.steps.now c.loop-i.i _ c.requires.numbered (omega arith) (omega arith) c.loop-i.invariant.count in
    omega (arith, s.1, c.loop-i.found.ok.0)

pub loop-i-preserved : goal.loop-i-preserved
loop-i-preserved c = record {
  count = simp (length-set, length-set) c.loop-i.invariant.count;
  value = parents_before c.args.faces c.args.steps.now c.loop-i.i c.loop-i.found.items c.requires.numbered (omega arith) (omega arith) c.loop-i.invariant.count c.loop-i.invariant.value;
}
