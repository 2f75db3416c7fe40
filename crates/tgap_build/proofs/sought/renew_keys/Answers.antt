-- One key more.
use Rattle.std.proofs.Common.{◌∙◌}
use Rattle.tgap_build.specs.Sought.{IsBoxedAt}
use Rattle.tgap_build.proofs.CornerLists.{all_below, one_below}
use Rattle.tgap_build.proofs.sought.renew_keys.Goals as goal

pub loop-key-preserved : goal.loop-key-preserved
loop-key-preserved c =
    let places = c.args.edges.now.places.items in
    let keys = c.args.keys.now in
    let inv = c.loop-key.invariant in
    let one = c.renew.ensures in
    record {
      here = one_below (IsBoxedAt places c.renew.new.boxes) keys c.loop-key.key-index (λ j l s. one.kept _ (inv.here j l s)) one.here;
      kept = λ k h. one.kept k (inv.kept k h);
      room = one.room ∙ inv.room;
    }

pub returns-clause-here : goal.returns-clause-here
returns-clause-here c = all_below (IsBoxedAt c.args.edges.now.places.items c.loop-key.boxes) c.args.keys.now c.loop-key.key-index c.loop-key-test.false c.loop-key.invariant.here
