use Rattle.std.proofs.Common.{◌≡◌, ◌/◌, ◌<◌, false, List, length, get_or, sym, ap, ◌∙◌, subst, arith}
use Rattle.std.proofs.lemmas.List.{get_or_default}
use Rattle.tgap_model.specs.declared.geometry.Window.{Window}
use Rattle.grid_index.specs.declared.tree.TheConstants.{FANOUT}
use Rattle.grid_index.specs.Tower.{AreLevels}
use Rattle.grid_index.specs.Picked.{no_box}
use Rattle.grid_index.proofs.Skipping.{levels_last, clear_below, clear_more}
use Rattle.grid_index.proofs.tree.+skipped.Goals as goal

pub returns-clause-clear : goal.returns-clause-clear
returns-clause-clear g t c = λ row levels k d after lt within.
    let hits = g.P.Probe.hits c.args.probe.now in
    let at = c.args.at in
    let level = c.in-Some.level.now in
    let above = c.in-Some.above.now in
    let parent = at / FANOUT in
    let held = levels_last above level row (subst (λ (ls : List (List Window)). AreLevels ls row) c.in-Some.ensures.cases.0 levels) in
    let hull = c.if-is_hit.ensures in
    let here : (e : Window) → parent < length level → hits (get_or level parent e) ≡ false = λ e lt.
    ap hits (get_or_default level parent e no_box lt ∙ ap (λ (ws : List Window). get_or ws parent no_box) (sym c.as_slice-hulls.ensures)) ∙ sym hull in
    let clear = clear_more hits level parent c.skipped.result c.max-end.result (c.skipped.ensures.clear level held.0) here c.max-end.ensures in
    clear_below hits (g.met.P.Probe.wider c.args.probe.now) level row parent c.max-end.result at held.1 clear (omega arith) k d after (omega (arith, lt, c.saturating_mul.ensures)) within
