-- One key more.
use Rattle.std.proofs.Common.{filter, ap, ◌∙◌}
use Rattle.std.specs.Prelude.{option_to_list}
use Rattle.std.specs.List.{flat_map}
use Rattle.std.proofs.lemmas.List.{take_all}
use Rattle.grid_index.specs.Keyed.{edge_in}
use Rattle.grid_index.specs.Live.{keys}
use Rattle.tgap_build.specs.Running.{has_any}
use Rattle.tgap_build.proofs.VisitSteps.{flat_more}
use Rattle.tgap_build.proofs.removal.losing.Goals as goal

pub loop-key-preserved : goal.loop-key-preserved
loop-key-preserved c =
    flat_more c.args.among.now c.loop-key.key-index c.loop-key-test.true (λ k. keys (filter (has_any c.args.gone.now) (option_to_list (edge_in c.args.edges.now.places.items k))))
    c.loop-key.losing.items c.push_losing.new.losing.items c.loop-key.invariant c.in_ok-push_losing.ensures

pub returns : goal.returns
returns c =
    c.loop-key.invariant
    ∙ ap (flat_map (λ k. keys (filter (has_any c.args.gone.now) (option_to_list (edge_in c.args.edges.now.places.items k))))) (take_all c.loop-key.key-index c.args.among.now c.loop-key-test.false)
