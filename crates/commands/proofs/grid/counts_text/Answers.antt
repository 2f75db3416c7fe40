-- The bytes are put one after the other.
use Rattle.std.proofs.Common.{◌∙◌, ◌++◌, ◌∷◌, [], List, ℕ, ap, codes, decimal, length}
use Rattle.tgap_model.specs.Base.{count_points}
use Rattle.commands.specs.Grid.{with_base}
use Rattle.commands.proofs.GridLine.{line_bytes}
use Rattle.commands.proofs.grid.counts_text.Goals as goal

pub returns : goal.returns
returns c =
    let m = c.args.base.now in
    let n = c.args.counted.now in
    let rows = c.in_ok-put_count.ensures ∙ ap (λ (text : List ℕ). text ++ 32 ∷ decimal c.args.rows) c.in_ok-text.ensures in
    let base = c.in_ok-put_base.ensures ∙ ap (λ (text : List ℕ). with_base text m) rows in
    let steps = c.in_ok-put_named.ensures ∙ ap (λ (text : List ℕ). text ++ 32 ∷ codes "steps" ++ 32 ∷ decimal n.steps) base in
    let removed = c.in_ok-put_named-2.ensures ∙ ap (λ (text : List ℕ). text ++ 32 ∷ codes "removed" ++ 32 ∷ decimal n.removed) steps in
    let edges = c.in_ok-put_named-3.ensures ∙ ap (λ (text : List ℕ). text ++ 32 ∷ codes "edges" ++ 32 ∷ decimal n.last.edges) removed in
    let kept = c.in_ok-put_named-4.ensures ∙ ap (λ (text : List ℕ). text ++ 32 ∷ codes "kept" ++ 32 ∷ decimal n.last.points) edges in
    let reached = c.in_ok-put_named-5.ensures ∙ ap (λ (text : List ℕ). text ++ 32 ∷ codes "replayed" ++ 32 ∷ decimal n.reached.edges) kept in
    let again = c.in_ok-put_size.ensures ∙ ap (λ (text : List ℕ). text ++ 32 ∷ decimal n.reached.points) reached in
    c.in_ok-push_slice.ensures
    ∙ ap (λ (text : List ℕ). text ++ 10 ∷ []) again
    ∙ line_bytes (decimal c.args.rows) (decimal (length m.classes)) (decimal (length m.arcs)) (decimal (count_points m.arcs)) (decimal n.steps) (decimal n.removed)
    (decimal n.last.edges) (decimal n.last.points) (decimal n.reached.edges) (decimal n.reached.points)
