use Rattle.std.proofs.Common.{◌≡◌, ◌-◌, ◌++◌, List, length, take, ap, ap₂, ◌∙◌, arith}
use Rattle.std.proofs.lemmas.Result.{IfOk-weaker}
use Rattle.tgap_model.specs.declared.geometry.Point.{Point}
use Rattle.point_rope.specs.Rows.{glued, oriented}
use Rattle.point_rope.specs.Runs.{joined}
use Rattle.point_rope.proofs.Joined.{without_last}
use Rattle.point_rope.proofs.rope.Rope.followed_by.Goals as goal

pub returns : goal.returns
returns c =
    let full = joined c.self.inside.full in
    let last = c.self.inside.last in
    let front : full ++ c.pop.new.self.items ≡ take (length (full ++ last.items) - 1) (full ++ last.items) =
    without_last _ _ full last.items c.pop.new.self.items c.pop.result last.len c.pop.ensures.items c.pop.ensures.cases (omega (arith, last.ok.0)) c.self.invariant.end in
    let behind = ap (λ (rs : List (List Point)). oriented c.args.turned (joined rs ++ c.more.inside.last.items)) c.into_vec-runs.ensures ∙ ap (oriented c.args.turned) c.more.view_is in
    let row = c.in_ok-put_row.ensures.row ∙ ap₂ (λ (a b : List Point). a ++ b) (front ∙ ap (λ (ps : List Point). take (length ps - 1) ps) c.self.view_is) behind in
    IfOk-weaker c.of_parts.result (λ r. r ≡ joined c.put_row.new.full ++ c.put_row.new.last.items) (λ r. r ≡ glued c.args.self (oriented c.args.turned c.args.more)) (λ r h. h ∙ row) c.of_parts.ensures
