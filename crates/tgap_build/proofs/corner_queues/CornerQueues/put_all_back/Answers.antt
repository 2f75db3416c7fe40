-- One entry more is put back.
use Rattle.std.proofs.Common.{◌∙◌, ◌++◌, ◌∷◌, [], ℕ, List, get_or, filter, take, sym, ap}
use Rattle.std.proofs.lemmas.List.{take_all, take_more}
use Rattle.std.proofs.lemmas.List.Elements.{filter-append}
use Rattle.tgap_build.specs.Queues.{IsQueuedBeside, is_candidate}
use Rattle.tgap_build.proofs.CornerLists.{tell_more, all_below, one_below}
use Rattle.tgap_build.proofs.corner_queues.CornerQueues.put_all_back.Goals as goal

pub loop-key-preserved : goal.loop-key-preserved
loop-key-preserved c =
    let places = c.args.edges.now.places.items in
    let keys = c.args.keys.now in
    let label = c.args.label in
    let i = c.loop-key.key-index in
    let p = is_candidate places label c.args.limit in
    let before = c.loop-key.self.queues.items in
    let after = c.put_back.new.self.queues.items in
    let inv = c.loop-key.invariant in
    let one = c.in_ok-put_back.ensures in
    record {
      edges = one_below (IsQueuedBeside places after label) keys i (λ j l s n is. one.others label (get_or keys j 0) n (inv.edges j l s n is)) one.edge;
      others = tell_more c.args.self.now.queues.items before after inv.others one.others;
      room = one.room ∙ inv.room;
      found = one.found ∙ ap (λ (ks : List ℕ). ks ++ filter p (get_or keys i 0 ∷ [])) inv.found
          ∙ sym (ap (filter p) (take_more keys i 0 c.loop-key-test.true) ∙ filter-append p (take i keys) (get_or keys i 0 ∷ []));
    }

pub returns-clause-edges : goal.returns-clause-edges
returns-clause-edges c =
    all_below (IsQueuedBeside c.args.edges.now.places.items c.loop-key.self.queues.items c.args.label) c.args.keys.now c.loop-key.key-index c.loop-key-test.false c.loop-key.invariant.edges

pub returns-clause-found : goal.returns-clause-found
returns-clause-found c =
    c.loop-key.invariant.found ∙ ap (filter (is_candidate c.args.edges.now.places.items c.args.label c.args.limit)) (take_all c.loop-key.key-index c.args.keys.now c.loop-key-test.false)
