use Rattle.std.proofs.Common.{◌∙◌, ◌+◌, ◌∷◌, ℕ, List, [], drop, set, sym, ap, subst, arith}
use Rattle.std.proofs.lemmas.List.{drop_more, drop_all, get_or_default}
use Rattle.tgap_model.specs.declared.base.BaseArc.{BaseArc}
use Rattle.face_cuts.specs.Nodes.{passes}
use Rattle.map_version.proofs.Changing.{IsChanging, changing_on, changing_past, changing_done}
use Rattle.map_version.proofs.Moves.{moved_arc, moving}
use Rattle.map_version.proofs.arcs.move_listed.Goals as goal
use Rattle.map_version.proofs.arcs.move_listed.Goals.{then-slot-arcs, else-slot-arcs}

pub loop-at-preserved : goal.loop-at-preserved
loop-at-preserved c =
    let old = c.args.old.now in
    let new = c.args.new in
    let from = c.args.arcs.now in
    let arcs = c.loop-at.arcs in
    let k = c.loop-at.at in
    let j = c.slot-slot.result in
    let left = drop (k + 1) c.args.listed in
    let changing = subst (IsChanging (moved_arc old new) (passes old) from arcs)
    (drop_more c.args.listed k 0 (omega (arith, c.count-at-end.ensures, c.loop-at-test.true)) ∙ ap (λ (i : ℕ). i ∷ left) (sym c.slot-slot.ensures)) c.loop-at.invariant in
    elim c.if-slot-arcs.branch [
      | then-slot-arcs w ↦
          let here = ap (moved_arc old new) (get_or_default arcs j w.index-arcs-slot.result (record { left = 0; right = 0; points = [] }) w.if-slot-arcs.true) in
          let set_there = w.arcs-is ∙ ap (set arcs j) (w.move_in.ensures ∙ here) in
          subst (λ (xs : List BaseArc). IsChanging (moved_arc old new) (passes old) from xs left) (sym set_there)
          (changing_on (moving old new c.requires.apart) from arcs j left w.if-slot-arcs.true changing)
      | else-slot-arcs w ↦
          subst (λ (xs : List BaseArc). IsChanging (moved_arc old new) (passes old) from xs left) (sym w.arcs-is) (changing_past from arcs j left w.if-slot-arcs.false changing)
    ]

pub returns : goal.returns
returns c =
    let old = c.args.old.now in
    let new = c.args.new in
    changing_done (moving old new c.requires.apart) c.args.arcs.now c.loop-at.arcs
    (subst (IsChanging (moved_arc old new) (passes old) c.args.arcs.now c.loop-at.arcs) (drop_all c.loop-at.at c.args.listed (omega (arith, c.count-at-end.ensures, c.loop-at-test.false))) c.loop-at.invariant)
