use Rattle.std.proofs.Common.{◌<◌, List, length, refl, sym, ap, ◌∙◌, arith}
use Rattle.std.proofs.lemmas.List.{length-take-le, length-set}
use Rattle.tgap_model.specs.declared.geometry.Point.{Point}
use Rattle.point_rope.proofs.Joined.{count_more, count_within}
use Rattle.point_rope.proofs.Places.{no_starts, starts_more}
use Rattle.point_rope.proofs.starts.renew.Goals as goal

pub loop-i-init : goal.loop-i-init
loop-i-init c = record {
  room = ap length c.truncate.ensures.items ∙ length-take-le (length c.args.runs.now) c.args.starts.now.items c.requires.room;
  begin = sym no_starts;
  counted = refl;
}

pub overflow_add-start : goal.overflow_add-start
overflow_add-start c =
    let runs = c.args.runs.now in
    let here = ap (λ (ps : List Point). length ps) c.index-runs-i.is in
    omega (arith, c.requires.few, c.loop-i.invariant.counted, here, c.len-start.ensures, count_within runs c.loop-i.i c.index-runs-i.result c.loop-i-test.true)

pub loop-i-preserved : goal.loop-i-preserved
loop-i-preserved c =
    let runs = c.args.runs.now in
    let starts = c.loop-i.starts.items in
    let i = c.loop-i.i in
    let run = c.index-runs-i.result in
    let here = ap (λ (ps : List Point). length ps) c.index-runs-i.is in
    let h = c.loop-i.invariant in
    let short : i < length starts = omega (arith, h.room, c.loop-i-test.true) in
    record {
      room = length-set starts i c.loop-i.start ∙ h.room;
      begin = starts_more runs starts i c.loop-i.start run c.loop-i-test.true short h.begin h.counted;
      counted = omega (arith, h.counted, here, c.len-start.ensures, count_more runs i run c.loop-i-test.true);
    }
