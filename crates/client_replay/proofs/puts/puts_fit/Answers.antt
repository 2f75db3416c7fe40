use Rattle.std.proofs.Common.{◌+◌, [], List, pos, drop, get_or, refl, sym, subst, ap, ◌∙◌}
use Rattle.tgap_model.specs.declared.record.Put.{Put}
use Rattle.client_replay.specs.Between.{is_between}
use Rattle.client_replay.proofs.Walks.{drop_next}
use Rattle.client_replay.proofs.Putting.{IsWalked, walked_none, turn_on, turn_off}
use Rattle.client_replay.proofs.puts.puts_fit.Goals as goal

pub loop-put-init : goal.loop-put-init
loop-put-init c = ([], walked_none c.args.points.now c.args.puts.now c.requires, refl)

pub returns-then-not-is_between : goal.returns-then-not-is_between
returns-then-not-is_between c =
    let puts = c.args.puts.now in
    let i = c.loop-put.put-index in
    let p : Put = get_or puts i (record { at = 0; point = record { x = pos 0; y = pos 0 } }) in
    let passed = c.loop-put.invariant.0 in
    let rest = c.loop-put.rest.now in
    let walked = subst (λ (left : List Put). IsWalked c.args.points.now puts passed rest c.loop-put.place left)
    (drop_next puts i (record { at = 0; point = record { x = pos 0; y = pos 0 } }) c.loop-put-test.true) c.loop-put.invariant.1 in
    turn_off c.args.points.now puts passed rest c.loop-put.place p (drop (i + 1) puts) c.split.result.0.now c.split.result.1.now
    c.loop-put.before c.copied.result c.copied-in-loop-put.result
    walked c.loop-put.invariant.2 c.split.ensures.passed c.split.ensures.later
    (c.copied.ensures ∙ c.last.ensures.value) (c.copied-in-loop-put.ensures ∙ c.first.ensures.value)
    (ap (λ o. is_between o c.copied-in-loop-put.result p.point) (sym c.or-last.ensures) ∙ sym c.is_between.ensures ∙ c.if-not-is_between.true)

pub loop-put-preserved : goal.loop-put-preserved
loop-put-preserved c =
    let puts = c.args.puts.now in
    let i = c.loop-put.put-index in
    let p : Put = get_or puts i (record { at = 0; point = record { x = pos 0; y = pos 0 } }) in
    let passed = c.loop-put.invariant.0 in
    let rest = c.loop-put.rest.now in
    let walked = subst (λ (left : List Put). IsWalked c.args.points.now puts passed rest c.loop-put.place left)
    (drop_next puts i (record { at = 0; point = record { x = pos 0; y = pos 0 } }) c.loop-put-test.true) c.loop-put.invariant.1 in
    turn_on c.args.points.now puts passed rest c.loop-put.place p (drop (i + 1) puts) c.split.result.0.now c.split.result.1.now
    c.loop-put.before c.copied.result c.copied-in-loop-put.result
    walked c.loop-put.invariant.2 c.split.ensures.passed c.split.ensures.later
    (c.copied.ensures ∙ c.last.ensures.value) (c.copied-in-loop-put.ensures ∙ c.first.ensures.value)
    (ap (λ o. is_between o c.copied-in-loop-put.result p.point) (sym c.or-last.ensures) ∙ sym c.is_between.ensures ∙ c.if-not-is_between.false)
