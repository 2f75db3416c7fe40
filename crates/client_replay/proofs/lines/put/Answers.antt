use Rattle.std.proofs.Common.{◌∙◌, ℕ, sym, ap, ap₂, subst}
use Rattle.std.specs.Prelude.{◌==◌}
use Rattle.std.specs.List.{list_any}
use Rattle.lemmas.specs.Sorting.{insert_by}
use Rattle.tgap_model.specs.declared.slice.Edge.{Edge}
use Rattle.tgap_model.specs.Records.{edge_before}
use Rattle.client_replay.specs.declared.lines.Line.{Line}
use Rattle.client_replay.specs.Working.{edges_of, AreLabelled}
use Rattle.client_replay.proofs.Relabelled.{IsLabelled, kept_faces, kept_twice}
use Rattle.client_replay.proofs.LineTables.{All-insert_entry, line_put}
use Rattle.client_replay.proofs.lines.put.Goals as goal

pub returns-clause-labelled : goal.returns-clause-labelled
returns-clause-labelled c =
    let t = c.args.labels.now in
    let u = c.label_for.new.self in
    let v = c.label_for-2.new.self in
    let es = c.args.lines.now.entries in
    let left = c.in_ok-left.left in
    let kept = kept_faces t v (kept_twice t u v c.in_ok-left.ensures.kept c.in_ok-right.ensures.kept) es c.requires.labelled in
    let line : Line = record { left = left; right = c.in_ok-right.right; points = c.args.edge.points } in
    subst (AreLabelled v) (sym c.in_ok-insert.ensures.entries)
    (All-insert_entry (IsLabelled v) c.args.edge.key line es kept.1 ((c.in_ok-right.ensures.kept left c.in_ok-left.ensures.label).0, c.in_ok-right.ensures.label))

pub returns-clause-put : goal.returns-clause-put
returns-clause-put c =
    let t = c.args.labels.now in
    let u = c.label_for.new.self in
    let v = c.label_for-2.new.self in
    let es = c.args.lines.now.entries in
    let edge = c.args.edge in
    let left = c.in_ok-left.left in
    let kept = kept_faces t v (kept_twice t u v c.in_ok-left.ensures.kept c.in_ok-right.ensures.kept) es c.requires.labelled in
    let line : Line = record { left = left; right = c.in_ok-right.right; points = edge.points } in
    let left_face = (c.in_ok-right.ensures.kept left c.in_ok-left.ensures.label).1 ∙ c.in_ok-left.ensures.face in
    ap (edges_of v) c.in_ok-insert.ensures.entries
    ∙ line_put v edge.key line es (ap (list_any (λ (e : Edge). e.key == edge.key)) kept.0 ∙ c.requires.new)
    ∙ ap₂ (λ (a b : ℕ). insert_by edge_before (record { key = edge.key; left = a; right = b; points = edge.points }) (edges_of v es)) left_face c.in_ok-right.ensures.face
    ∙ ap (insert_by edge_before edge) kept.0
