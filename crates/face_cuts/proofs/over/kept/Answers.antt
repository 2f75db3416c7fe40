use Rattle.std.proofs.Common.{◌∙◌, ◌++◌, [], ◌∷◌, List, filter, get_or, take, sym, ap}
use Rattle.std.specs.Prelude.{cond}
use Rattle.std.proofs.lemmas.List.{append-nil}
use Rattle.std.proofs.lemmas.List.Elements.{filter_more}
use Rattle.ring_walk.specs.declared.side.Side.{Side}
use Rattle.ring_walk.specs.declared.side.Way.TheVariants.{Along}
use Rattle.face_cuts.specs.SideSets.{has}
use Rattle.face_cuts.proofs.over.kept.Goals as goal
use Rattle.face_cuts.proofs.over.kept.Goals.{then-has+in_ok-push, else-has}

abbrev none : Side
none = record { span = 0; way = Along }

pub loop-side-preserved : goal.loop-side-preserved
loop-side-preserved c =
    let row = c.args.row.now in
    let p = has c.args.set.now in
    let i = c.loop-side.side-index in
    let s = get_or row i none in
    let more = filter_more p row i none c.loop-side-test.true in
    elim c.if-has.branch [
      | then-has+in_ok-push w ↦
          w.found-is ∙ w.in_ok-push.ensures ∙ ap (λ (found : List Side). found ++ s ∷ []) c.loop-side.invariant
          ∙ sym (more ∙ ap (λ b. filter p (take i row) ++ cond b (s ∷ []) []) (sym c.has.ensures ∙ w.if-has.true))
      | else-has w ↦
          w.found-is ∙ c.loop-side.invariant
          ∙ sym (more ∙ ap (λ b. filter p (take i row) ++ cond b (s ∷ []) []) (sym c.has.ensures ∙ w.if-has.false) ∙ append-nil (filter p (take i row)))
    ]
