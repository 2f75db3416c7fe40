use Rattle.std.proofs.Common.{◌+◌, ◌++◌, List, IsPermutation, drop, get_or, subst, append-nil, ◌∙◌, ap}
use Rattle.std.proofs.lemmas.List.{drop_all}
use Rattle.std.proofs.lemmas.List.Sorted.{IsPermutation-refl}
use Rattle.tgap_model.specs.declared.slice.FaceRow.{FaceRow}
use Rattle.client_replay.specs.Working.{rows_of}
use Rattle.client_replay.proofs.FaceRows.{not_found, rows_put}
use Rattle.client_replay.proofs.PutOnce.{IsPutting, next_new, put_next}
use Rattle.client_replay.proofs.Tables.{ascend}
use Rattle.client_replay.proofs.Walks.{drop_next}
use Rattle.client_replay.proofs.faces.put_rows.Goals as goal

pub loop-row-init : goal.loop-row-init
loop-row-init c =
    let all = rows_of c.args.faces.now.entries ++ c.args.rows.now in
    record { ordered = c.requires.ordered; putting = record { moved = IsPermutation-refl all; apart = c.requires.apart } }

pub put-requires : goal.put-requires
put-requires c =
    let all = rows_of c.args.faces.now.entries ++ c.args.rows.now in
    let now = rows_of c.loop-row.faces.entries in
    let rows = c.args.rows.now in
    let i = c.loop-row.row-index in
    let d : FaceRow = record { face = 0; class = 0 } in
    let next = drop_next rows i d c.loop-row-test.true in
    not_found (get_or rows i d).face c.loop-row.faces.entries
    (next_new (λ (f : FaceRow). f.face) all now (drop (i + 1) rows) (get_or rows i d) (subst (IsPutting (λ (f : FaceRow). f.face) all now) next c.loop-row.invariant.putting))

pub loop-row-preserved : goal.loop-row-preserved
loop-row-preserved c =
    let all = rows_of c.args.faces.now.entries ++ c.args.rows.now in
    let now = rows_of c.loop-row.faces.entries in
    let rows = c.args.rows.now in
    let i = c.loop-row.row-index in
    let d : FaceRow = record { face = 0; class = 0 } in
    let next = drop_next rows i d c.loop-row-test.true in
    record {
      ordered = c.put.ensures.ordered;
      putting = put_next (λ (f : FaceRow). f.face) all now (drop (i + 1) rows) (rows_of c.put.new.faces.entries) (get_or rows i d)
          (subst (IsPutting (λ (f : FaceRow). f.face) all now) next c.loop-row.invariant.putting) c.in_ok-put.ensures.put;
    }

pub returns-clause-put : goal.returns-clause-put
returns-clause-put c =
    let all = rows_of c.args.faces.now.entries ++ c.args.rows.now in
    let now = rows_of c.loop-row.faces.entries in
    let none = drop_all c.loop-row.row-index c.args.rows.now c.loop-row-test.false in
    rows_put all c.loop-row.faces.entries (ascend c.loop-row.faces.entries c.loop-row.invariant.ordered)
    (subst (IsPermutation all) (ap (λ (left : List FaceRow). now ++ left) none ∙ append-nil now) c.loop-row.invariant.putting.moved)
