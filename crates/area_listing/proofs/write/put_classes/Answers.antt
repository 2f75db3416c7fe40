use Rattle.std.proofs.Common.{◌∙◌, ap, length, length-drop}
use Rattle.area_listing.proofs.Writing.{classes_put, table_left}
use Rattle.area_listing.proofs.write.put_classes.Goals as goal

pub loop-class-preserved : goal.loop-class-preserved
loop-class-preserved c =
    let l = c.loop-class in
    let weights = c.args.weights.now in
    let text = classes_put (length weights) l.class weights l.rest.now c.split_at.result.0.now c.split_at.result.1.now l.out c.put_class.new.out c.loop-class-test.true c.split_at.ensures.front c.split_at.ensures.back c.in_ok-put_class.ensures in
    let table = table_left (length weights) l.class (length weights) (length l.rest.now) c.loop-class-test.true l.invariant.table in
    record { text = text ∙ l.invariant.text; table = ap length c.split_at.ensures.back ∙ length-drop (length weights) l.rest.now ∙ table }
