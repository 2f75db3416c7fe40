use Rattle.std.proofs.Common.{nat_cmp, arith}
use Rattle.std.specs.BTreeMap.{get}
use Rattle.client_replay.specs.Labels.{label_of}
use Rattle.client_replay.proofs.Tables.{at_other}
use Rattle.client_replay.proofs.Labelling.{passed-exact, passed-changes}
use Rattle.client_replay.proofs.labels.Labels.pass_on.Goals as goal

pub index_mut-requires : goal.index_mut-requires
index_mut-requires c = let within = (c.requires.exact c.args.made c.args.label c.requires.made).0 in search (arith, within)

pub returns-clause-exact : goal.returns-clause-exact
returns-clause-exact c =
    passed-exact c.args.self.now.faces.items (label_of c.args.self.now) (get nat_cmp c.insert.new.self) (get nat_cmp c.remove.new.self) c.args.label c.args.made c.args.winner
    c.requires.exact c.requires.made c.requires.winner
    c.in_ok-insert.ensures.updates.1 (λ q ne. c.in_ok-insert.ensures.updates.2 q (at_other c.args.winner q ne))
    c.remove.ensures.updates.1 (λ q ne. c.remove.ensures.updates.2 q (at_other c.args.made q ne))

pub returns-clause-passed : goal.returns-clause-passed
returns-clause-passed c =
    passed-changes c.args.self.now.faces.items (label_of c.args.self.now) (get nat_cmp c.insert.new.self) (get nat_cmp c.remove.new.self) c.args.label c.args.made c.args.winner
    c.requires.exact c.requires.made c.requires.winner
    c.in_ok-insert.ensures.updates.1 (λ q ne. c.in_ok-insert.ensures.updates.2 q (at_other c.args.winner q ne))
    c.remove.ensures.updates.1 (λ q ne. c.remove.ensures.updates.2 q (at_other c.args.made q ne))
