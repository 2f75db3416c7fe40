use Rattle.std.proofs.Common.{◌≡◌, Contains, All, true, subst, rules}
use Rattle.std.specs.Prelude.{is_some}
use Rattle.std.proofs.lemmas.List.{take_all}
use Rattle.std.proofs.lemmas.List.Elements.{All-more}
use Rattle.grid_index.specs.Live.{keys}
use Rattle.grid_index.proofs.Placing.{found_there}
use Rattle.grid_index.proofs.changes.are_all_there.Goals as goal

pub loop-key-preserved : goal.loop-key-preserved
loop-key-preserved c =
    let some : is_some c.place_of.result ≡ true = search rules in
    All-more (Contains (keys c.args.edges.now)) c.args.sought.now c.loop-key.key-index 0 c.loop-key-test.true c.loop-key.invariant (found_there c.args.edges.now _ c.place_of.result some c.place_of.ensures.some)

pub returns : goal.returns
returns c = subst (All (Contains (keys c.args.edges.now))) (take_all c.loop-key.key-index c.args.sought.now c.loop-key-test.false) c.loop-key.invariant
