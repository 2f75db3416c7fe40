-- The segments are ready for the sweep.
use Rattle.std.proofs.Common.{List, All, sym, ◌∙◌, subst}
use Rattle.tgap_model.specs.declared.geometry.Seg.{Seg}
use Rattle.planar_sweep.specs.Ends.{IsReady}
use Rattle.planar_sweep.proofs.Forward.{all_ready}
use Rattle.planar_sweep.proofs.swept.Goals as goal

pub sweep_over-requires-clause-ready : goal.sweep_over-requires-clause-ready
sweep_over-requires-clause-ready c =
    subst (λ (ss : List Seg). All (λ s. IsReady s) ss) (sym (c.deref.ensures.value ∙ c.in_ok-segs.ensures)) (all_ready c.args.segments.now c.requires.proper)
