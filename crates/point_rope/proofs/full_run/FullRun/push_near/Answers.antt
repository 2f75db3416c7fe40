-- What is apart from the box of the run is apart from its segments.
use Rattle.std.proofs.Common.{◌++◌, ℕ, List, map, All, sym, ap, ◌∙◌, subst}
use Rattle.std.proofs.lemmas.List.{append-nil}
use Rattle.tgap_model.specs.declared.geometry.Point.{Point}
use Rattle.point_rope.specs.Held.{IsHeld}
use Rattle.point_rope.proofs.NearRuns.{segment_of, apart_near}
use Rattle.point_rope.proofs.full_run.FullRun.push_near.Goals as goal

pub returns-else-meets : goal.returns-else-meets
returns-else-meets c =
    let bounds = c.self.inside.bounds in
    let held = subst (λ (ps : List Point). All (IsHeld bounds) ps) c.self.view_is c.self.invariant.held in
    let none = apart_near c.args.area.now bounds c.args.place c.args.self.now held (sym c.meets.ensures ∙ c.if-meets.false) in
    sym (ap (λ (l : List ℕ). c.args.found.now ++ map (segment_of c.args.key) l) none ∙ append-nil c.args.found.now)
