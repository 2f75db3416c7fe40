use Rattle.std.proofs.Common.{ℕ, List, Contains, sym, subst, arith}
use Rattle.tgap_model.specs.declared.slice.Edge.{Edge}
use Rattle.grid_index.proofs.Placing.{ArePut, ArePut-start, ArePut-next, ArePut-end, ascend_alike, last_there, none_left}
use Rattle.grid_index.proofs.changes.put_edges.Goals as goal

pub loop-edge-init : goal.loop-edge-init
loop-edge-init c = ArePut-start c.args.edges.now.items c.args.come.items

pub put_edge-requires-clause-ascending : goal.put_edge-requires-clause-ascending
put_edge-requires-clause-ascending c = ascend_alike c.args.edges.now.items c.loop-edge.edges.items c.loop-edge.invariant.keys_stay c.requires.ascending

pub put_edge-requires-clause-there : goal.put_edge-requires-clause-there
put_edge-requires-clause-there c =
    subst (λ (ks : List ℕ). Contains ks c.in-Some.edge.key) (sym c.loop-edge.invariant.keys_stay)
    (last_there c.args.edges.now.items c.args.come.items c.loop-edge.come.items c.pop.new.self.items c.in-Some.edge c.in-Some.ensures.items c.loop-edge.invariant.front c.requires.there)

pub loop-edge-preserved : goal.loop-edge-preserved
loop-edge-preserved c =
    ArePut-next c.args.edges.now.items c.args.come.items c.loop-edge.edges.items c.pop.new.self.items c.put_edge.new.edges.items c.in-Some.edge c.requires.distinct
    (subst (λ (l : List Edge). ArePut c.args.edges.now.items c.args.come.items c.loop-edge.edges.items l) c.in-Some.ensures.items c.loop-edge.invariant) c.put_edge.ensures.keys c.put_edge.ensures.moved

pub returns-clause-moved : goal.returns-clause-moved
returns-clause-moved c = ArePut-end c.args.edges.now.items c.args.come.items c.loop-edge.edges.items c.loop-edge.come.items
    (none_left c.loop-edge.come.items (omega (arith, c.in_default.ensures.cases.0, c.loop-edge.come.ok.0))) c.loop-edge.invariant
