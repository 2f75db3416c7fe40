use Rattle.std.proofs.Common.{true≢false, sym}
use Rattle.plain_io.proofs.JsonTrees.{tree_read, tree_none}
use Rattle.plain_io.proofs.json.read_tree.Goals as goal

-- src/json.rt:12:1
pub returns-in-Ok : goal.returns-in-Ok
returns-in-Ok c = rw (sym (c.in-Ok.ensures.ok.1)) (tree_read c.args.bytes.now (c.in-Ok.ensures.ok.0))

-- src/json.rt:12:1
pub returns-else-is_memory : goal.returns-else-is_memory
returns-else-is_memory c = sym (tree_none c.args.bytes.now (c.in-Err.ensures.err (λ is_memory. true≢false (sym (c.if-is_memory.ensures.1 is_memory)))))
