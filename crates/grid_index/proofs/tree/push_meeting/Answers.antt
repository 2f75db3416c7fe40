use Rattle.std.proofs.Common.{◌≡◌, ◌++◌, ◌∷◌, [], ◌+◌, ◌-◌, ◌*◌, ◌≤◌, Bool, cond, filter, sym, ap, ◌∙◌, append_assoc, arith}
use Rattle.std.specs.List.{range_with_len}
use Rattle.std.proofs.lemmas.List.{append-nil}
use Rattle.grid_index.specs.declared.tree.TheConstants.{FANOUT}
use Rattle.grid_index.specs.Tower.{meets_at}
use Rattle.grid_index.specs.Picked.{no_box}
use Rattle.grid_index.proofs.Meeting.{filter_push}
use Rattle.grid_index.proofs.Towers.{children_within}
use Rattle.grid_index.proofs.tree.push_meeting.Goals.{then-meets+in_ok-push, else-meets}
use Rattle.grid_index.proofs.tree.push_meeting.Goals as goal

pub loop-i-preserved : goal.loop-i-preserved
loop-i-preserved c =
    let area = c.args.area.now in
    let level = c.args.level.now in
    let start = FANOUT * c.args.parent in
    let i = c.loop-i.i in
    let n = i - start in
    let first : start ≤ i = c.loop-i.auto.i in
    let e : start + n ≡ i = omega arith in
    let f : n + 1 ≡ i + 1 - start = omega arith in
    let old = c.args.kept.now.items in
    let kept = c.loop-i.kept.items in
    let so_far = filter (meets_at area level) (range_with_len start n) in
    let tail = λ (b : Bool). cond b (i ∷ []) [] in
    let more =
    ap (λ xs. xs ++ tail c.meets.result) c.loop-i.invariant ∙ append_assoc old so_far (tail c.meets.result)
    ∙ ap (λ b. old ++ (so_far ++ tail b)) c.meets.ensures
    ∙ ap (λ xs. old ++ xs) (sym (filter_push area level start n i no_box e (omega (arith, c.min.ensures, c.loop-i-test.true))))
    ∙ ap (λ m. old ++ filter (meets_at area level) (range_with_len start m)) f in
    elim c.if-meets.branch [
      | then-meets+in_ok-push w ↦ ap (λ v. v.items) w.kept-is ∙ w.in_ok-push.ensures.items ∙ ap (λ b. kept ++ tail b) (sym w.if-meets.true) ∙ more
      | else-meets w ↦ ap (λ v. v.items) w.kept-is ∙ sym (append-nil kept) ∙ ap (λ b. kept ++ tail b) (sym w.if-meets.false) ∙ more
    ]

pub returns : goal.returns
returns c =
    c.loop-i.invariant ∙ ap (λ xs. c.args.kept.now.items ++ xs)
    (children_within c.args.area.now c.args.level.now c.args.parent c.loop-i.i c.requires (omega (arith, c.min.ensures, c.loop-i.auto.i-end, c.loop-i-test.false)))
